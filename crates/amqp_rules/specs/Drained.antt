-- Drained: the credit that is left is given up, as the peer's drain wishes (part 2, 2.6.7).
use Rattle.std.specs.Prelude.{ℕ, true, not, Bool, Option, Some, Result, List, [], ◌∷◌}
use Rattle.amqp_performatives.specs.declared.bodies.Role.TheVariants.{Sender}
use Rattle.amqp_performatives.specs.declared.performative.Performative.{Performative}
use Rattle.amqp_performatives.specs.declared.performative.Performative.TheVariants.{Flow}
use Rattle.amqp_flow.specs.Windows.{WindowsView}
use Rattle.amqp_flow.specs.Sender.{sender_drained}
use Rattle.amqp_rules.specs.declared.reply.Reply.{Reply}
use Rattle.amqp_rules.specs.declared.reply.Given.TheVariants.{Nothing}
use Rattle.amqp_rules.specs.declared.refusal.Refusal.{Refusal}
use Rattle.amqp_rules.specs.declared.refusal.Refusal.TheVariants.{NotDraining}
use Rattle.amqp_rules.specs.View.{View, LinkView, has_number, change_first}
use Rattle.amqp_rules.specs.OnLink.{on_link, attached_as}
use Rattle.amqp_rules.specs.Sending.{sends}
use Rattle.amqp_rules.specs.Telling.{sender_flow, flow_sent}

-- the delivery-count goes up by the credit, which becomes 0; the wish to drain is met
abbrev pub drained : LinkView → LinkView
drained l = record l { credit = sender_drained l.credit }

-- the flow that tells of it
abbrev pub drained_body : WindowsView → LinkView → Option Performative
drained_body w l = Some (Flow (sender_flow w l (Some true)))

abbrev pub drained_refusals : LinkView → List (Bool × Refusal)
drained_refusals l = attached_as Sender l ((not l.credit.drain, NotDraining) ∷ [])

abbrev pub drained_answer : View → ℕ → Result Reply Refusal
drained_answer v link =
    on_link v link (λ l. sends v.max_frame (drained_refusals l) (drained_body v.windows (drained l)) [] Nothing)

abbrev pub next_drained : View → ℕ → View
next_drained v link = flow_sent v (change_first (has_number link) drained v.links)
