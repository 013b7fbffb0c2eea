-- Abort: the unfinished delivery is given up, and ended (part 2, 2.7.5).
use Rattle.std.specs.Prelude.{ℕ, ◌+◌, ◌==◌, Bool, true, Some, None, Result, List, [], ◌∷◌, is_none}
use Rattle.amqp_performatives.specs.declared.bodies.Role.TheVariants.{Sender}
use Rattle.amqp_flow.specs.Windows.{windows_sent}
use Rattle.amqp_events.specs.Event.{Nothing as No_event}
use Rattle.amqp_events.specs.Told.{next_sent_held}
use Rattle.amqp_rules.specs.declared.op.Op.TheVariants as own
use Rattle.amqp_rules.specs.declared.reply.Reply.{Reply}
use Rattle.amqp_rules.specs.declared.reply.Given.TheVariants.{Nothing}
use Rattle.amqp_rules.specs.declared.refusal.Refusal.{Refusal}
use Rattle.amqp_rules.specs.declared.refusal.Refusal.TheVariants.{NotInDelivery, NoWindow}
use Rattle.amqp_rules.specs.View.{View, LinkView, has_number, handle_of, change_first}
use Rattle.amqp_rules.specs.Deliveries.{sent_by_own, ended_by}
use Rattle.amqp_rules.specs.OnLink.{on_link, attached_as}
use Rattle.amqp_rules.specs.Sending.{sends_ending}
use Rattle.amqp_rules.specs.Carry.{later_body}

abbrev pub abort_refusals : View → LinkView → List (Bool × Refusal)
abort_refusals v l = attached_as Sender l ((is_none l.sending, NotInDelivery) ∷ (v.windows.remote_incoming == 0, NoWindow) ∷ [])

abbrev pub abort_answer : View → ℕ → Result Reply Refusal
abort_answer v link =
    on_link v link (λ l.
    sends_ending v.max_frame (abort_refusals v l) (later_body (handle_of l.ours) None (Some true)) (ended_by (sent_by_own v (own.Abort link)) No_event v) Nothing)

abbrev pub aborted : LinkView → LinkView
aborted l = record l { sending = None }

abbrev pub next_abort : View → ℕ → View
next_abort v link =
    record v {
      steps = v.steps + 1;
      windows = windows_sent v.windows;
      links = change_first (has_number link) aborted v.links;
      sent = next_sent_held (sent_by_own v (own.Abort link)) v.sent;
    }
