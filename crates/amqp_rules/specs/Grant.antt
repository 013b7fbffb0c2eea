-- Grant: the peer may begin so many deliveries, or is asked to use them up (part 2, 2.6.7).
use Rattle.std.specs.Prelude.{ℕ, nat_lt, Bool, Option, Some, Result, List, [], ◌∷◌}
use Rattle.amqp_performatives.specs.declared.bodies.FlowBody.{FlowBody}
use Rattle.amqp_performatives.specs.declared.bodies.Role.TheVariants.{Receiver}
use Rattle.amqp_performatives.specs.declared.performative.Performative.{Performative}
use Rattle.amqp_performatives.specs.declared.performative.Performative.TheVariants.{Flow}
use Rattle.amqp_flow.specs.Windows.{WindowsView}
use Rattle.amqp_flow.specs.Receiver.{granted, has_open_drain}
use Rattle.amqp_rules.specs.declared.reply.Reply.{Reply}
use Rattle.amqp_rules.specs.declared.reply.Given.TheVariants.{Nothing}
use Rattle.amqp_rules.specs.declared.refusal.Refusal.{Refusal}
use Rattle.amqp_rules.specs.declared.refusal.Refusal.TheVariants.{BadCredit, CreditRecedes, Draining}
use Rattle.amqp_rules.specs.View.{View, LinkView, has_number, change_first}
use Rattle.amqp_rules.specs.OnLink.{on_link, attached_as}
use Rattle.amqp_rules.specs.Sending.{sends}
use Rattle.amqp_rules.specs.Telling.{flag, link_flow, flow_sent}

-- so much credit is on the link
abbrev pub granted_on : ℕ → Bool → LinkView → LinkView
granted_on credit drain l = record l { credit = granted credit drain l.credit }

abbrev pub grant_flow : WindowsView → LinkView → Bool → Bool → FlowBody
grant_flow w l drain echo = record (link_flow w l) { drain = flag drain; echo = flag echo }

abbrev pub grant_body : WindowsView → LinkView → Bool → Bool → Option Performative
grant_body w l drain echo = Some (Flow (grant_flow w l drain echo))

abbrev pub grant_refusals : LinkView → ℕ → List (Bool × Refusal)
grant_refusals l credit =
    attached_as Receiver l (
    (nat_lt 2147483647 credit, BadCredit)
    ∷ (nat_lt credit l.credit.credit, CreditRecedes)
    ∷ (has_open_drain l.credit, Draining)
    ∷ []
    )

abbrev pub grant_answer : View → ℕ → ℕ → Bool → Bool → Result Reply Refusal
grant_answer v link credit drain echo =
    on_link v link (λ l. sends v.max_frame (grant_refusals l credit) (grant_body v.windows (granted_on credit drain l) drain echo) [] Nothing)

abbrev pub next_grant : View → ℕ → ℕ → Bool → View
next_grant v link credit drain = flow_sent v (change_first (has_number link) (granted_on credit drain) v.links)
