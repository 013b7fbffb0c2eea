-- Performatives whose fields hold what a reader can find there: no present field is null, a delivery tag has at most 32 octets, a settle mode is one of those there are (part 2, 2.8.2
-- and 2.8.3), and a state that is none of the five delivery states (part 3, 3.4) has not the descriptor of one.
use Rattle.std.specs.Prelude.{ℕ, ◌==◌, nat_le, Bool, true, false, not, ◌&&◌, Option, Some, None, List, [], ◌∷◌, length}
use Rattle.std.specs.List.{list_any}
use Rattle.std.specs.Str.{bytes_eq}
use Rattle.amqp_types.specs.declared.class.Kind.TheVariants as Kind
use Rattle.amqp_types.specs.declared.class.Run.TheVariants as Run
use Rattle.amqp_types.specs.declared.value.Value.{Value}
use Rattle.amqp_types.specs.Datum.{Datum, number, octets, described}
use Rattle.amqp_types.specs.View.{view}
use Rattle.amqp_performatives.specs.declared.bodies.OpenBody.{OpenBody}
use Rattle.amqp_performatives.specs.declared.bodies.BeginBody.{BeginBody}
use Rattle.amqp_performatives.specs.declared.bodies.AttachBody.{AttachBody}
use Rattle.amqp_performatives.specs.declared.error.AmqpError.{AmqpError}
use Rattle.amqp_performatives.specs.declared.state.DeliveryState.{DeliveryState}
use Rattle.amqp_performatives.specs.declared.state.DeliveryState.TheVariants.{Received, Accepted, Rejected, Released, Modified, Other}
use Rattle.amqp_performatives.specs.declared.performative.Performative.{Performative}
use Rattle.amqp_performatives.specs.declared.performative.Performative.TheVariants.{Open, Begin, Attach, Flow, Transfer, Disposition, Detach, End, Close}
use Rattle.amqp_performatives.specs.Bodies.{received_type, accepted_type, rejected_type, released_type, modified_type}

abbrev pub is_null : Datum → Bool
is_null (number Kind.Null n) = true
is_null _ = false

abbrev pub is_descriptor : ℕ × List ℕ → Datum → Bool
is_descriptor type (number Kind.Ulong n) = n == type.0
is_descriptor type (octets Run.Symbol name) = bytes_eq name type.1
is_descriptor type _ = false

-- the descriptor of one of the five delivery states
abbrev pub names_state : Datum → Bool
names_state d = list_any (λ type. is_descriptor type d) (received_type ∷ accepted_type ∷ rejected_type ∷ released_type ∷ modified_type ∷ [])

-- neither null nor one of the five
abbrev pub is_other_state : Datum → Bool
is_other_state (described descriptor v) = not (names_state descriptor)
is_other_state d = not (is_null d)

abbrev pub where_present : {A : Type 0} → (A → Bool) → Option A → Bool
where_present test None = true
where_present test (Some a) = test a

abbrev pub is_present : Value → Bool
is_present v = not (is_null (view v))

-- unsettled, settled or mixed
abbrev pub is_sender_mode : ℕ → Bool
is_sender_mode n = nat_le n 2

-- first or second
abbrev pub is_receiver_mode : ℕ → Bool
is_receiver_mode n = nat_le n 1

-- at most 32 octets (part 2, 2.8.7)
abbrev pub is_tag : List ℕ → Bool
is_tag os = nat_le (length os) 32

abbrev pub is_fair_error : AmqpError → Bool
is_fair_error e = where_present is_present e.info

abbrev pub is_fair_state : DeliveryState → Bool
is_fair_state (Received section_number section_offset) = true
is_fair_state Accepted = true
is_fair_state (Rejected e) = where_present is_fair_error e
is_fair_state Released = true
is_fair_state (Modified delivery_failed undeliverable_here message_annotations) = where_present is_present message_annotations
is_fair_state (Other v) = is_other_state (view v)

abbrev pub is_fair_open : OpenBody → Bool
is_fair_open b =
    where_present is_present b.outgoing_locales
    && where_present is_present b.incoming_locales
    && where_present is_present b.offered_capabilities
    && where_present is_present b.desired_capabilities
    && where_present is_present b.properties

abbrev pub is_fair_begin : BeginBody → Bool
is_fair_begin b =
    where_present is_present b.offered_capabilities
    && where_present is_present b.desired_capabilities
    && where_present is_present b.properties

abbrev pub is_fair_attach : AttachBody → Bool
is_fair_attach b =
    where_present is_sender_mode b.snd_settle_mode
    && where_present is_receiver_mode b.rcv_settle_mode
    && where_present is_present b.source
    && where_present is_present b.target
    && where_present is_present b.offered_capabilities
    && where_present is_present b.desired_capabilities
    && where_present is_present b.properties

abbrev pub is_fair : Performative → Bool
is_fair (Open b) = is_fair_open b
is_fair (Begin b) = is_fair_begin b
is_fair (Attach b) = is_fair_attach b
is_fair (Flow b) = where_present is_present b.properties
is_fair (Transfer b) = where_present is_tag b.delivery_tag && where_present is_receiver_mode b.rcv_settle_mode && where_present is_fair_state b.state
is_fair (Disposition b) = where_present is_fair_state b.state
is_fair (Detach b) = where_present is_fair_error b.error
is_fair (End b) = where_present is_fair_error b.error
is_fair (Close b) = where_present is_fair_error b.error
