-- What the private readers of all the fields of a list promise, and what the borrowed parts are.
use Rattle.std.specs.Prelude.{Bool, IsTrue, Option, Some, None, option_map}
use Rattle.amqp_types.specs.declared.value.Value.{Value}
use Rattle.amqp_decoder.specs.declared.borrowed.ValueRef.{ValueRef}
use Rattle.amqp_decoder.specs.declared.borrowed.ErrorRef.{ErrorRef}
use Rattle.amqp_decoder.specs.declared.borrowed.StateRef.{StateRef}
use Rattle.amqp_decoder.specs.declared.borrowed.StateRef.TheVariants as borrowed
use Rattle.amqp_performatives.specs.declared.error.AmqpError.{AmqpError}
use Rattle.amqp_decoder.specs.declared.fields.Cursor.{Cursor}
use Rattle.amqp_performatives.specs.declared.state.DeliveryState.{DeliveryState}
use Rattle.amqp_performatives.specs.declared.state.DeliveryState.TheVariants.{Received, Accepted, Rejected, Released, Modified, Other}
use Rattle.amqp_performatives.specs.Part.{Fields, no_field}
use Rattle.amqp_performatives.specs.Bodies.{symbol, string, any, error, optional, ◌▸◌}
use Rattle.amqp_decoder.specs.Borrowed.{value_in}
use Rattle.amqp_decoder.specs.Reading.{AreFields}

abbrev pub values_in : Option ValueRef → Option Value
values_in v = option_map (λ r. value_in r.octets.now) v

abbrev pub error_in : ErrorRef → AmqpError
error_in r = record { condition = r.condition.now; description = option_map (λ t. t.now) r.description; info = values_in r.info }

abbrev pub state_in : StateRef → DeliveryState
state_in (borrowed.Received section_number section_offset) = Received section_number section_offset
state_in borrowed.Accepted = Accepted
state_in (borrowed.Rejected e) = Rejected (option_map error_in e)
state_in borrowed.Released = Released
state_in (borrowed.Modified delivery_failed undeliverable_here message_annotations) = Modified delivery_failed undeliverable_here (values_in message_annotations)
state_in (borrowed.Other v) = Other (value_in v.octets.now)

-- the fields of an error
abbrev pub error_fields : AmqpError → Fields
error_fields e = symbol e.condition ▸ optional string e.description ▸ optional any e.info ▸ no_field

-- an error alone
abbrev pub lone_error : Option AmqpError → Fields
lone_error e = optional error e ▸ no_field

-- what the reader of all fields answers
abbrev pub ReadsAll : {B : Type 0} → (B → Fields) → (B → Bool) → Cursor → Option B → Type 0
ReadsAll {B} of may from None = (b : B) → IsTrue (may b) → AreFields from.depth from.left (of b) from.octets.now → ⊥
ReadsAll of may from (Some b) = IsTrue (may b) × AreFields from.depth from.left (of b) from.octets.now
