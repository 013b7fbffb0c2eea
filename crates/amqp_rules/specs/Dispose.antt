-- Dispose: we tell the state of unsettled deliveries, and may settle them (part 2, 2.6.12 and 2.7.6).
use Rattle.std.specs.Prelude.{ℕ, ◌+◌, ◌^◌, ◌&&◌, not, nat_le, Bool, true, false, Option, Some, None, Result, List, [], ◌∷◌, filter, map}
use Rattle.std.specs.List.{list_any}
use Rattle.amqp_performatives.specs.declared.bodies.Role.{Role}
use Rattle.amqp_performatives.specs.declared.bodies.Role.TheVariants.{Sender, Receiver}
use Rattle.amqp_performatives.specs.declared.performative.Performative.{Performative}
use Rattle.amqp_performatives.specs.declared.performative.Performative.TheVariants as sends_body
use Rattle.amqp_flow.specs.Serial.{distance}
use Rattle.amqp_events.specs.Event.{Item, Disposition}
use Rattle.amqp_events.specs.Unsettled.{covers, next_held}
use Rattle.amqp_events.specs.Told.{next_sent_held}
use Rattle.amqp_rules.specs.declared.op.Op.TheVariants as own
use Rattle.amqp_rules.specs.declared.reply.Reply.{Reply}
use Rattle.amqp_rules.specs.declared.reply.Given.TheVariants.{Nothing}
use Rattle.amqp_rules.specs.declared.refusal.Refusal.{Refusal}
use Rattle.amqp_rules.specs.declared.refusal.Refusal.TheVariants.{NotMapped, BadRange, NothingHeld, MustNotSettle, OutcomeFixed}
use Rattle.amqp_rules.specs.View.{View, is_mapped, is_sender}
use Rattle.amqp_rules.specs.Deliveries.{sent_by_own, received_by_own, ended_by}
use Rattle.amqp_events.specs.States.{is_fixed}
use Rattle.amqp_rules.specs.Sending.{sends_ending}
use Rattle.amqp_rules.specs.Telling.{flag}

-- the range runs backwards: it spans 2^31 ids or more
abbrev pub is_backwards : ℕ → ℕ → Bool
is_backwards first last = nat_le (2 ^ 31) (distance first last)

-- the unsettled deliveries of this role of ours
abbrev pub held_as : View → Role → List Item
held_as v Sender = map (λ s. s.item) v.sent
held_as v Receiver = v.received

-- those that the disposition speaks of
abbrev pub spoken_of : View → Role → Disposition → List Item
spoken_of v role d = filter (covers d) (held_as v role)

-- the receiver settles it second: after its sender
abbrev pub waits_for_sender : Role → Item → Bool
waits_for_sender role i = not (is_sender role) && i.second

abbrev pub is_empty : List Item → Bool
is_empty [] = true
is_empty (i ∷ items) = false

abbrev pub dispose_refusals : View → Role → Disposition → List (Bool × Refusal)
dispose_refusals v role d =
    (not (is_mapped v.session), NotMapped)
    ∷ (is_backwards d.first d.last, BadRange)
    ∷ (is_empty (spoken_of v role d), NothingHeld)
    ∷ (d.settled && list_any (waits_for_sender role) (spoken_of v role d), MustNotSettle)
    ∷ (list_any (is_fixed d.state) (spoken_of v role d), OutcomeFixed)
    ∷ []

abbrev pub dispose_body : Role → Disposition → Option Performative
dispose_body role d =
    Some (sends_body.Disposition (record { role = role; first = d.first; last = Some d.last; settled = flag d.settled; state = d.state; batchable = None }))

abbrev pub dispose_answer : View → Role → Disposition → Result Reply Refusal
dispose_answer v role d =
    let op = own.Dispose role d.first d.last d.settled d.state in
    sends_ending v.max_frame (dispose_refusals v role d) (dispose_body role d) (ended_by (sent_by_own v op) (received_by_own v op) v) Nothing

abbrev pub next_dispose : View → Role → Disposition → View
next_dispose v role d =
    record v {
      steps = v.steps + 1;
      sent = next_sent_held (sent_by_own v (own.Dispose role d.first d.last d.settled d.state)) v.sent;
      received = next_held (received_by_own v (own.Dispose role d.first d.last d.settled d.state)) v.received;
    }
