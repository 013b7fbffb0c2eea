-- The credit of a sending link (OASIS AMQP 1.0, part 2, 2.6.7).
use Rattle.std.specs.Prelude.{ℕ, ◌-◌, ◌^◌, nat_le, Bool, false, Option, None, Some, unwrap_or}
use Rattle.amqp_flow.specs.declared.flow.LinkFlow.{LinkFlow}
use Rattle.amqp_flow.specs.Serial.{distance}
use Rattle.amqp_flow.specs.Credit.{CreditView, delivery_count, given_up}

-- how far our count is past the peer's; our initial count stands for an absent one
abbrev pub link_lag : LinkFlow → CreditView → ℕ
link_lag f c = distance (unwrap_or f.delivery_count c.first_count) (delivery_count c)

-- the peer's count is past ours
abbrev pub link_is_ahead : LinkFlow → CreditView → Bool
link_is_ahead f c = nat_le (2 ^ 31) (link_lag f c)

-- the credit after a flow: link-credit, counted from the peer's count, or the old one
abbrev pub credit_after : Option ℕ → ℕ → ℕ → ℕ
credit_after None lag credit = credit
credit_after (Some link_credit) lag credit = link_credit - lag

-- the receiver tells a credit, and whether it wishes to drain
abbrev pub credit_told : LinkFlow → ℕ → CreditView → CreditView
credit_told f lag c = record c { credit = credit_after f.link_credit lag c.credit; drain = f.drain }

-- a flow of the receiver is heard
abbrev pub sender_heard : LinkFlow → CreditView → CreditView
sender_heard f c = credit_told f (link_lag f c) c

-- a flow of the receiver is heard before our attach is sent: there is no count of ours to lag behind
abbrev pub sender_heard_early : LinkFlow → CreditView → CreditView
sender_heard_early f c = credit_told f 0 c

-- the credit that is left is given up, and with it the wish to drain
abbrev pub sender_drained : CreditView → CreditView
sender_drained c = record (given_up c.credit c) { credit = 0; drain = false }
