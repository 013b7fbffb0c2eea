-- A link on which we receive (part 2, 2.6.7), over the link's own past. Deliveries pass on it that begin, and that the sender gives up.
use Rattle.std.specs.Prelude.{ℕ, ◌+◌, ◌-◌, nat_le, Bool, false, Option, None, Some, List, [], ◌∷◌, option_map, is_some, cond}
use Rattle.amqp_flow.specs.Serial.{wire, distance}
use Rattle.amqp_flow.specs.Credit.{CreditView}
use Rattle.amqp_performatives.specs.declared.bodies.FlowBody.{FlowBody}
use Rattle.amqp_laws.specs.declared.entry.Entry.{Entry}
use Rattle.amqp_laws.specs.Past.{more, last_said, last_or}
use Rattle.amqp_laws.specs.Said.{flow_heard, grant}
use Rattle.amqp_laws.specs.Attaches.{our_attach, peer_attach, count_in}
use Rattle.amqp_laws.specs.Transfers.{begins_delivery}

-- the delivery-count at which the link began
abbrev pub first_count : List Entry → ℕ
first_count past = count_in (peer_attach past)

abbrev pub last_grant : List Entry → Option ((ℕ × Bool) × List Entry)
last_grant past = last_said grant past

-- how many deliveries may begin in all, by a grant that was made when so many had passed
abbrev pub limit_by : Option ((ℕ × Bool) × List Entry) → ℕ → ℕ
limit_by None then' = 0
limit_by (Some said) then' = then' + said.0.0

-- how far a delivery-count is past ours, where n have passed: at most the credit, or else it tells nothing
abbrev pub jump_by : Option ℕ → ℕ → ℕ → ℕ
jump_by None count credit = 0
jump_by (Some told) count credit = cond (nat_le (distance count told) credit) (distance count told) 0

-- how many deliveries the sender gives up by a flow; counts are compared once our attach was sent
abbrev pub jumps : Option FlowBody → List Entry → ℕ → ℕ → ℕ
jumps None before n credit = 0
jumps (Some b) before n credit = cond (is_some (our_attach before)) (jump_by b.delivery_count (wire (first_count before + n)) credit) 0

-- how many deliveries pass at the entry, if n passed before it: one that begins, or those that are given up
abbrev pub passes : Entry → List Entry → ℕ → ℕ → ℕ
passes e before n credit = more (cond (begins_delivery e before) 1 0) (jumps (flow_heard e) before n credit)

abbrev mutual
  -- how many deliveries passed on the link
  pub passed : List Entry → ℕ
  passed [] = 0
  passed (e ∷ before) = more (passes e before (passed before) (limit_by (last_grant before) (passed_then before) - passed before)) (passed before)

  -- how many had passed at the last grant
  pub passed_then : List Entry → ℕ
  passed_then [] = 0
  passed_then (e ∷ before) = cond (is_some (grant e)) (passed before) (passed_then before)

-- how many deliveries may begin in all
abbrev pub limit : List Entry → ℕ
limit past = limit_by (last_grant past) (passed_then past)

abbrev pub credit : List Entry → ℕ
credit past = limit past - passed past

-- the last grant asked to drain
abbrev pub asks_drain : List Entry → Bool
asks_drain past = last_or false (last_said (λ e. option_map (λ g. g.1) (grant e)) past)

abbrev pub receiver_credit : List Entry → CreditView
receiver_credit past =
    record { first_count = wire (first_count past); passed = wire (passed past); credit = credit past; drain = asks_drain past }
