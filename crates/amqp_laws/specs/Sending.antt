-- A link on which we send (part 2, 2.6.7), over the link's own past. Deliveries pass on it that begin, and that are given up.
use Rattle.std.specs.Prelude.{ℕ, ◌+◌, ◌-◌, Bool, false, Option, None, Some, List, [], ◌∷◌, unwrap_or, option_map, is_some, cond}
use Rattle.amqp_flow.specs.Serial.{wire, distance}
use Rattle.amqp_flow.specs.Credit.{CreditView}
use Rattle.amqp_performatives.specs.declared.bodies.FlowBody.{FlowBody}
use Rattle.amqp_laws.specs.declared.entry.Entry.{Entry}
use Rattle.amqp_laws.specs.Past.{more, last_said, last_or}
use Rattle.amqp_laws.specs.Said.{drains, flow_heard, said_available, starts}
use Rattle.amqp_laws.specs.Attaches.{our_attach, count_in}

-- the delivery-count at which the link began
abbrev pub first_count : List Entry → ℕ
first_count past = count_in (our_attach past)

abbrev pub credit_in : Option FlowBody → Option (FlowBody × ℕ)
credit_in None = None
credit_in (Some b) = option_map (λ credit. (b, credit)) b.link_credit

-- a flow that says a credit, and the credit
abbrev pub credit_flow : Entry → Option (FlowBody × ℕ)
credit_flow e = credit_in (flow_heard e)

-- the last flow that says a credit
abbrev pub last_credit : List Entry → Option ((FlowBody × ℕ) × List Entry)
last_credit past = last_said credit_flow past

-- how many deliveries the peer had not counted when it sent the flow, if n had passed by then; none before our attach
abbrev pub lag : ℕ → FlowBody → List Entry → ℕ
lag n b before =
    cond (is_some (our_attach before)) (distance (unwrap_or b.delivery_count (wire (first_count before))) (wire (first_count before + n))) 0

-- how many deliveries may begin in all, by a flow that was heard when so many had passed
abbrev pub limit_by : Option ((FlowBody × ℕ) × List Entry) → ℕ → ℕ
limit_by None then' = 0
limit_by (Some said) then' = (then' + said.0.1) - lag then' said.0.0 said.1

-- how many deliveries pass at the entry: one that begins, or all that are given up of the credit just before it
abbrev pub passes : Entry → ℕ → ℕ
passes e credit = cond (starts e) 1 (cond (drains e) credit 0)

abbrev mutual
  -- how many deliveries passed on the link
  pub passed : List Entry → ℕ
  passed [] = 0
  passed (e ∷ before) = more (passes e (limit_by (last_credit before) (passed_then before) - passed before)) (passed before)

  -- how many had passed when the last flow was heard that says a credit
  pub passed_then : List Entry → ℕ
  passed_then [] = 0
  passed_then (e ∷ before) = cond (is_some (credit_flow e)) (passed before) (passed_then before)

-- how many deliveries may begin in all
abbrev pub limit : List Entry → ℕ
limit past = limit_by (last_credit past) (passed_then past)

abbrev pub credit : List Entry → ℕ
credit past = limit past - passed past

-- whether the entry says that the peer wishes to drain: a flow does, by its flag; where we gave up the credit, the wish is met
abbrev pub drain_said : Entry → Option Bool
drain_said e = cond (drains e) (Some false) (option_map (λ b. unwrap_or b.drain false) (flow_heard e))

-- the peer wishes that we drain the link
abbrev pub wishes_drain : List Entry → Bool
wishes_drain past = last_or false (last_said drain_said past)

-- how many messages were last said to be available
abbrev pub available : List Entry → ℕ
available past = last_or 0 (last_said said_available past)

abbrev pub sender_credit : List Entry → CreditView
sender_credit past =
    record { first_count = wire (first_count past); passed = wire (passed past); credit = credit past; drain = wishes_drain past }
