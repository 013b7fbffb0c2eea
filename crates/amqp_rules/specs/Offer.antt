-- Offer: the peer is told how many messages are available (part 2, 2.6.7).
use Rattle.std.specs.Prelude.{ℕ, Option, Some, Result, []}
use Rattle.amqp_performatives.specs.declared.bodies.Role.TheVariants.{Sender}
use Rattle.amqp_performatives.specs.declared.performative.Performative.{Performative}
use Rattle.amqp_performatives.specs.declared.performative.Performative.TheVariants.{Flow}
use Rattle.amqp_flow.specs.Windows.{WindowsView}
use Rattle.amqp_rules.specs.declared.reply.Reply.{Reply}
use Rattle.amqp_rules.specs.declared.reply.Given.TheVariants.{Nothing}
use Rattle.amqp_rules.specs.declared.refusal.Refusal.{Refusal}
use Rattle.amqp_rules.specs.View.{View, LinkView, has_number, change_first}
use Rattle.amqp_rules.specs.OnLink.{on_link, attached_as}
use Rattle.amqp_rules.specs.Sending.{sends}
use Rattle.amqp_rules.specs.Telling.{flag, sender_flow, flow_sent}

-- so many messages are available on the link
abbrev pub offered : ℕ → LinkView → LinkView
offered available l = record l { available = available }

-- the flow of a link as it stands: with drain where the peer wishes to drain
abbrev pub offer_body : WindowsView → LinkView → Option Performative
offer_body w l = Some (Flow (sender_flow w l (flag l.credit.drain)))

abbrev pub offer_answer : View → ℕ → ℕ → Result Reply Refusal
offer_answer v link available =
    on_link v link (λ l. sends v.max_frame (attached_as Sender l []) (offer_body v.windows (offered available l)) [] Nothing)

abbrev pub next_offer : View → ℕ → ℕ → View
next_offer v link available = flow_sent v (change_first (has_number link) (offered available) v.links)
