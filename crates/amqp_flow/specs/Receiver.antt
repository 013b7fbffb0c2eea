-- The credit of a receiving link (OASIS AMQP 1.0, part 2, 2.6.7).
use Rattle.std.specs.Prelude.{ℕ, ◌^◌, nat_lt, nat_le, ◌&&◌, Bool, false, Option, None, Some, List, [], ◌∷◌, cond}
use Rattle.amqp_flow.specs.declared.flow.LinkFlow.{LinkFlow}
use Rattle.amqp_flow.specs.declared.refusal.GrantRefusal.{GrantRefusal}
use Rattle.amqp_flow.specs.declared.refusal.GrantRefusal.TheVariants.{BadCredit, CreditRecedes, Draining}
use Rattle.amqp_flow.specs.Serial.{distance}
use Rattle.amqp_flow.specs.Credit.{CreditView, delivery_count, given_up}

-- the last grant asked to drain, and its credit is not used up
abbrev pub has_open_drain : CreditView → Bool
has_open_drain c = c.drain && nat_lt 0 c.credit

-- the first refusal whose condition holds
abbrev pub first_refusal : List (Bool × GrantRefusal) → Option GrantRefusal
first_refusal [] = None
first_refusal (row ∷ rows) = cond row.0 (Some row.1) (first_refusal rows)

-- the refusals of a grant, in their order
abbrev pub grant_refusals : ℕ → CreditView → List (Bool × GrantRefusal)
grant_refusals credit c =
    (nat_lt 2147483647 credit, BadCredit)
    ∷ (nat_lt credit c.credit, CreditRecedes)
    ∷ (has_open_drain c, Draining)
    ∷ []

abbrev pub grant_refusal : ℕ → CreditView → Option GrantRefusal
grant_refusal credit c = first_refusal (grant_refusals credit c)

abbrev pub granted : ℕ → Bool → CreditView → CreditView
granted credit drain c = record c { credit = credit; drain = drain }

-- how far the peer's count is past ours
abbrev pub count_lead : ℕ → CreditView → ℕ
count_lead count c = distance (delivery_count c) count

-- a count that is past ours, and by more than the credit
abbrev pub count_is_ahead : Option ℕ → CreditView → Bool
count_is_ahead None c = false
count_is_ahead (Some count) c = nat_lt c.credit (count_lead count c) && nat_lt (count_lead count c) (2 ^ 31)

-- how many deliveries the sender gives up by telling its count: at most the credit; an older count tells nothing
abbrev pub jump : Option ℕ → CreditView → ℕ
jump None c = 0
jump (Some count) c = cond (nat_le (count_lead count c) c.credit) (count_lead count c) 0

-- a flow of the sender is heard
abbrev pub receiver_heard : LinkFlow → CreditView → CreditView
receiver_heard f c = given_up (jump f.delivery_count c) c
