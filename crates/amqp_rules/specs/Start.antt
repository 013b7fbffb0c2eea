-- Start: a delivery begins, with its first transfer (part 2, 2.6.12 and 2.7.5).
use Rattle.std.specs.Prelude.{ℕ, ◌+◌, ◌==◌, ◌&&◌, ◌||◌, not, Bool, cond, Option, Some, None, Result, List, [], ◌∷◌, length, is_some}
use Rattle.std.specs.List.{list_any}
use Rattle.amqp_performatives.specs.declared.bodies.Role.TheVariants.{Sender}
use Rattle.amqp_performatives.specs.declared.performative.Performative.{Performative}
use Rattle.amqp_performatives.specs.declared.performative.Performative.TheVariants.{Transfer}
use Rattle.amqp_flow.specs.Windows.{windows_sent}
use Rattle.amqp_flow.specs.Credit.{delivery_begun}
use Rattle.amqp_events.specs.Told.{next_sent_held}
use Rattle.amqp_waiting.specs.Waiting.{waits}
use Rattle.amqp_rules.specs.declared.op.Op.TheVariants as own
use Rattle.amqp_rules.specs.declared.reply.Reply.{Reply}
use Rattle.amqp_rules.specs.declared.reply.Given.TheVariants.{Delivery}
use Rattle.amqp_rules.specs.declared.refusal.Refusal.{Refusal}
use Rattle.amqp_rules.specs.declared.refusal.Refusal.TheVariants.{InDelivery, TagHeld, SettleMode, NoCredit, NoWindow, MessageTooLong}
use Rattle.amqp_rules.specs.View.{View, LinkView, SendingView, next_delivery, has_number, handle_of, max_of, snd_mode, is_too_long, change_first}
use Rattle.amqp_events.specs.Tags.{is_tagged}
use Rattle.amqp_rules.specs.Deliveries.{sent_by_own}
use Rattle.amqp_rules.specs.OnLink.{on_link, attached_as}
use Rattle.amqp_rules.specs.Sending.{sends}
use Rattle.amqp_rules.specs.Telling.{flag}

-- the transfer on the link with this handle, for the delivery with this id
abbrev pub start_body : ℕ → ℕ → List ℕ → ℕ → Bool → Bool → Option Performative
start_body handle id tag format settled more =
    Some (Transfer (record {
      handle = handle;
      delivery_id = Some id;
      delivery_tag = Some tag;
      message_format = Some format;
      settled = flag settled;
      more = flag more;
      rcv_settle_mode = None;
      state = None;
      resume = None;
      aborted = None;
      batchable = None;
    }))

-- an unsettled delivery that we sent on the link has the tag, or one that waits on it
abbrev pub tag_is_held : View → LinkView → List ℕ → Bool
tag_is_held v l tag = list_any (λ s. is_tagged l.number tag s.item) v.sent || waits tag l.waiting

-- the mode settled (1) takes settled deliveries alone, unsettled (0) none
abbrev pub mode_forbids : ℕ → Bool → Bool
mode_forbids mode settled = mode == 1 && not settled || mode == 0 && settled

-- the refusals, in the order of their numbers
abbrev pub start_refusals : View → LinkView → List ℕ → Bool → List ℕ → List (Bool × Refusal)
start_refusals v l tag settled payload =
    attached_as Sender l (
    (is_some l.sending, InDelivery)
    ∷ (tag_is_held v l tag, TagHeld)
    ∷ (mode_forbids (snd_mode l) settled, SettleMode)
    ∷ (l.credit.credit == 0, NoCredit)
    ∷ (v.windows.remote_incoming == 0, NoWindow)
    ∷ (is_too_long (max_of l.theirs) (length payload), MessageTooLong)
    ∷ [])

abbrev pub start_answer : View → ℕ → List ℕ → ℕ → Bool → List ℕ → Bool → Result Reply Refusal
start_answer v link tag format settled payload more =
    on_link v link (λ l.
    sends v.max_frame (start_refusals v l tag settled payload) (start_body (handle_of l.ours) (next_delivery v) tag format settled more) payload (Delivery (next_delivery v)))

-- unfinished while more is to come
abbrev pub sending_after : Bool → ℕ → ℕ → Option SendingView
sending_after more id size = cond more (Some (record { id = id; size = size })) None

-- a delivery begins: it counts, and uses one of the link's credit (part 2, 2.6.7)
abbrev pub begin_delivery : ℕ → ℕ → Bool → LinkView → LinkView
begin_delivery id size more l = record l { credit = delivery_begun l.credit; sending = sending_after more id size }

-- a transfer is sent that begins a delivery on the link (part 2, 2.5.6)
abbrev pub next_start : View → ℕ → List ℕ → ℕ → Bool → List ℕ → Bool → View
next_start v link tag format settled payload more =
    record v {
      steps = v.steps + 1;
      windows = windows_sent v.windows;
      deliveries = v.deliveries + 1;
      links = change_first (has_number link) (begin_delivery (next_delivery v) (length payload) more) v.links;
      sent = next_sent_held (sent_by_own v (own.Start link tag format settled payload more)) v.sent;
    }
