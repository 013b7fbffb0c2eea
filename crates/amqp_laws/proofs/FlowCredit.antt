-- The credit of a link after a flow that is heard, as a formula over the link's past and as a single change.
use Rattle.std.proofs.Common.{◌≡◌, ℕ, ◌+◌, ◌-◌, cond, Option, Some, None, List, ◌∷◌, arith, refl, is_some, option_map, unwrap_or, nat_le}
use Rattle.amqp_flow.specs.Serial.{wire, distance}
use Rattle.amqp_flow.specs.Credit.{CreditView}
use Rattle.amqp_performatives.specs.declared.bodies.AttachBody.{AttachBody}
use Rattle.amqp_performatives.specs.declared.bodies.FlowBody.{FlowBody}
use Rattle.amqp_performatives.specs.declared.bodies.Role.TheVariants.{Sender, Receiver}
use Rattle.amqp_performatives.specs.declared.performative.Performative.TheVariants.{Flow}
use Rattle.amqp_rules.specs.declared.reply.Reply.{Reply}
use Rattle.amqp_rules.specs.Attach.{end_of}
use Rattle.amqp_rules.specs.Flow.{credit_heard}
use Rattle.amqp_laws.specs.declared.entry.Entry.{Entry}
use Rattle.amqp_laws.specs.declared.entry.Step.TheVariants.{Heard}
use Rattle.amqp_laws.specs.Attaches.{our_attach, count_in}
use Rattle.amqp_laws.specs.Sending as sending
use Rattle.amqp_laws.specs.Receiving as receiving
use Rattle.amqp_flow.proofs.FlowLaws.{count-wire}
use Rattle.amqp_laws.proofs.Counting.{left-none, more-is}

-- a flow that was heard, with this reply
abbrev pub flow_entry : ℕ → FlowBody → List ℕ → Reply → Entry
flow_entry channel b payload reply = record { step = Heard (record { channel = channel; body = Some (Flow b); payload = payload }); reply = reply }

pub told-early : (n credit : ℕ) → ((n + credit) - 0) - n ≡ credit - 0
told-early n credit = omega arith

pub told-late : (n credit lag : ℕ) → ((n + credit) - lag) - n ≡ credit - lag
told-late n credit lag = omega arith

pub wire-sum : (n j : ℕ) → wire (n + j) ≡ wire (wire n + j)
wire-sum n j = omega arith

wire-none : (n : ℕ) → wire (wire n + 0) ≡ wire n
wire-none n = omega arith

pub left-sum : (limit n j : ℕ) → limit - (n + j) ≡ (limit - n) - j
left-sum limit n j = omega arith

-- where we send
pub sender-told : (channel : ℕ) (b : FlowBody) (payload : List ℕ) (reply : Reply) (past : List Entry) (ours : Option AttachBody) (credit : Option ℕ)
    → our_attach past ≡ ours → b.link_credit ≡ credit
    → ◌≡◌ {A = CreditView} (record {
      first_count = wire (sending.first_count past);
      passed = wire (sending.passed (flow_entry channel b payload reply ∷ past));
      credit = sending.credit (flow_entry channel b payload reply ∷ past);
      drain = sending.wishes_drain (flow_entry channel b payload reply ∷ past);
    })
    (credit_heard Sender (is_some (option_map end_of (our_attach past))) b (sending.sender_credit past))
sender-told channel b payload reply past None None o k = rw (o, k) refl
sender-told channel b payload reply past (Some a) None o k = rw (o, k) refl
sender-told channel b payload reply past None (Some credit) o k = rw (k, o, told-early (sending.passed past) credit) refl
sender-told channel b payload reply past (Some a) (Some credit) o k =
    rw (
      k,
      o,
      told-late (sending.passed past) credit (distance (unwrap_or b.delivery_count (wire (count_in (Some a)))) (wire (count_in (Some a) + sending.passed past))),
      count-wire (count_in (Some a)) (sending.passed past),
    )
    refl

-- where we receive
pub receiver-told : (channel : ℕ) (b : FlowBody) (payload : List ℕ) (reply : Reply) (past : List Entry) (ours : Option AttachBody) (count : Option ℕ)
    → our_attach past ≡ ours → b.delivery_count ≡ count
    → ◌≡◌ {A = CreditView} (record {
      first_count = wire (receiving.first_count past);
      passed = wire (receiving.passed (flow_entry channel b payload reply ∷ past));
      credit = receiving.credit (flow_entry channel b payload reply ∷ past);
      drain = receiving.asks_drain (flow_entry channel b payload reply ∷ past);
    })
    (credit_heard Receiver (is_some (option_map end_of (our_attach past))) b (receiving.receiver_credit past))
receiver-told channel b payload reply past None count o k = rw o refl
receiver-told channel b payload reply past (Some a) None o k = rw (o, k, wire-none (receiving.passed past), left-none) refl
receiver-told channel b payload reply past (Some a) (Some count) o k =
    let n = receiving.passed past in
    let limit = receiving.limit past in
    let first = receiving.first_count past in
    let j = cond (nat_le (distance (wire (first + n)) count) (limit - n)) (distance (wire (first + n)) count) 0 in
    rw (o, k, count-wire first n, more-is j n, wire-sum n j, left-sum limit n j) refl
