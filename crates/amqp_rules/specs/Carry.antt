-- Carry: a further transfer of the unfinished delivery (part 2, 2.6.14 and 2.7.5).
use Rattle.std.specs.Prelude.{ℕ, ◌+◌, ◌==◌, Bool, Option, Some, None, Result, List, [], ◌∷◌, length, is_none}
use Rattle.amqp_performatives.specs.declared.bodies.Role.TheVariants.{Sender}
use Rattle.amqp_performatives.specs.declared.performative.Performative.{Performative}
use Rattle.amqp_performatives.specs.declared.performative.Performative.TheVariants.{Transfer}
use Rattle.amqp_flow.specs.Windows.{windows_sent}
use Rattle.amqp_rules.specs.declared.reply.Reply.{Reply}
use Rattle.amqp_rules.specs.declared.reply.Given.TheVariants.{Nothing}
use Rattle.amqp_rules.specs.declared.refusal.Refusal.{Refusal}
use Rattle.amqp_rules.specs.declared.refusal.Refusal.TheVariants.{NotInDelivery, NoWindow, MessageTooLong}
use Rattle.amqp_rules.specs.View.{View, LinkView, SendingView, has_number, handle_of, max_of, is_too_long, change_first}
use Rattle.amqp_rules.specs.OnLink.{on_link, attached_as}
use Rattle.amqp_rules.specs.Sending.{sends}
use Rattle.amqp_rules.specs.Start.{sending_after}
use Rattle.amqp_rules.specs.Telling.{flag}

-- the transfer on the link with this handle
abbrev pub later_body : ℕ → Option Bool → Option Bool → Option Performative
later_body handle more aborted =
    Some (Transfer (record {
      handle = handle;
      delivery_id = None;
      delivery_tag = None;
      message_format = None;
      settled = None;
      more = more;
      rcv_settle_mode = None;
      state = None;
      resume = None;
      aborted = aborted;
      batchable = None;
    }))

-- how long the payloads of the unfinished delivery are
abbrev pub size_so_far : Option SendingView → ℕ
size_so_far None = 0
size_so_far (Some d) = d.size

abbrev pub carry_refusals : View → LinkView → List ℕ → List (Bool × Refusal)
carry_refusals v l payload =
    attached_as Sender l (
    (is_none l.sending, NotInDelivery)
    ∷ (v.windows.remote_incoming == 0, NoWindow)
    ∷ (is_too_long (max_of l.theirs) (size_so_far l.sending + length payload), MessageTooLong)
    ∷ [])

abbrev pub carry_answer : View → ℕ → List ℕ → Bool → Result Reply Refusal
carry_answer v link payload more =
    on_link v link (λ l. sends v.max_frame (carry_refusals v l payload) (later_body (handle_of l.ours) (flag more) None) payload Nothing)

abbrev pub carried : ℕ → Bool → Option SendingView → Option SendingView
carried size more None = None
carried size more (Some d) = sending_after more d.id (d.size + size)

abbrev pub carry_on : ℕ → Bool → LinkView → LinkView
carry_on size more l = record l { sending = carried size more l.sending }

abbrev pub next_carry : View → ℕ → List ℕ → Bool → View
next_carry v link payload more =
    record v { steps = v.steps + 1; windows = windows_sent v.windows; links = change_first (has_number link) (carry_on (length payload) more) v.links }
