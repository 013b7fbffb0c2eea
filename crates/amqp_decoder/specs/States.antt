-- What the private readers of delivery states promise.
use Rattle.std.specs.Prelude.{ℕ, Bool, true, false, List, Option}
use Rattle.amqp_types.specs.declared.value.Value.{Value}
use Rattle.amqp_performatives.specs.declared.state.DeliveryState.{DeliveryState}
use Rattle.amqp_performatives.specs.declared.state.DeliveryState.TheVariants.{Received, Accepted, Rejected, Released, Modified, Other}
use Rattle.amqp_decoder.specs.declared.states.StateKind.{StateKind}
use Rattle.amqp_decoder.specs.declared.states.StateKind.TheVariants as kind
use Rattle.amqp_performatives.specs.Part.{Fields, no_field}
use Rattle.amqp_performatives.specs.Bodies.{uint, ulong, boolean, any, error, optional, ◌▸◌, received_type, accepted_type, rejected_type, released_type, modified_type}

abbrev pub type_of : StateKind → ℕ × List ℕ
type_of kind.Received = received_type
type_of kind.Accepted = accepted_type
type_of kind.Rejected = rejected_type
type_of kind.Released = released_type
type_of kind.Modified = modified_type

-- the state is of this type
abbrev pub is_of : StateKind → DeliveryState → Bool
is_of kind.Received (Received section_number section_offset) = true
is_of kind.Accepted Accepted = true
is_of kind.Rejected (Rejected e) = true
is_of kind.Released Released = true
is_of kind.Modified (Modified delivery_failed undeliverable_here message_annotations) = true
is_of _ _ = false

abbrev pub received_fields : ℕ × ℕ → Fields
received_fields r = uint r.0 ▸ ulong r.1 ▸ no_field

abbrev pub modified_fields : Option Bool × Option Bool × Option Value → Fields
modified_fields m = optional boolean m.0 ▸ optional boolean m.1 ▸ optional any m.2 ▸ no_field

abbrev pub state_fields : DeliveryState → Fields
state_fields (Received section_number section_offset) = uint section_number ▸ ulong section_offset ▸ no_field
state_fields Accepted = no_field
state_fields (Rejected e) = optional error e ▸ no_field
state_fields Released = no_field
state_fields (Modified delivery_failed undeliverable_here message_annotations) =
    optional boolean delivery_failed ▸ optional boolean undeliverable_here ▸ optional any message_annotations ▸ no_field
state_fields (Other v) = no_field
