-- Detach: we leave a link for good (part 2, 2.6.6 and 2.7.7).
use Rattle.std.specs.Prelude.{ℕ, ◌+◌, not, Bool, true, Option, None, Some, Result, List, [], ◌∷◌}
use Rattle.amqp_performatives.specs.declared.error.AmqpError.{AmqpError}
use Rattle.amqp_performatives.specs.declared.performative.Performative.{Performative}
use Rattle.amqp_performatives.specs.declared.performative.Performative.TheVariants.{Detach}
use Rattle.amqp_rules.specs.declared.reply.Reply.{Reply}
use Rattle.amqp_rules.specs.declared.reply.Given.TheVariants.{Nothing}
use Rattle.amqp_rules.specs.declared.refusal.Refusal.{Refusal}
use Rattle.amqp_rules.specs.declared.refusal.Refusal.TheVariants.{NotAttached}
use Rattle.amqp_rules.specs.View.{View, LinkView, is_attached, has_number, handle_of, change_first}
use Rattle.amqp_rules.specs.OnLink.{on_link}
use Rattle.amqp_events.specs.Event.{Leaves}
use Rattle.amqp_events.specs.Unsettled.{next_held}
use Rattle.amqp_events.specs.Told.{next_sent_held}
use Rattle.amqp_rules.specs.Deliveries.{ended_by}
use Rattle.amqp_rules.specs.Sending.{sends_ending}

abbrev pub detach_body : ℕ → Option Bool → Option AmqpError → Option Performative
detach_body handle closed error = Some (Detach (record { handle = handle; closed = closed; error = error }))

abbrev pub detach_refusals : LinkView → List (Bool × Refusal)
detach_refusals l = (not (is_attached l), NotAttached) ∷ []

abbrev pub detach_answer : View → ℕ → Option AmqpError → Result Reply Refusal
detach_answer v link error =
    on_link v link (λ l.
    sends_ending v.max_frame (detach_refusals l) (detach_body (handle_of l.ours) (Some true) error) (ended_by (Leaves link) (Leaves link) v) Nothing)

-- we are leaving the link, and drop its unfinished delivery
abbrev pub left_by_us : LinkView → LinkView
left_by_us l = record l { left = true; sending = None; receiving = None }

abbrev pub next_detach : View → ℕ → View
next_detach v link =
    record v {
      steps = v.steps + 1;
      links = change_first (has_number link) left_by_us v.links;
      sent = next_sent_held (Leaves link) v.sent;
      received = next_held (Leaves link) v.received;
    }
