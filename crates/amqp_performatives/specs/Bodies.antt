-- The composite types: each by its descriptor and its fields in order (part 2, 2.7 and 2.8.14; part 3, 3.4).
use Rattle.std.specs.Prelude.{ℕ, Bool, true, false, Option, Some, None, List, if◌then◌else◌}
use Rattle.amqp_types.specs.declared.class.Kind.TheVariants as Kind
use Rattle.amqp_types.specs.declared.class.Run.TheVariants as Run
use Rattle.amqp_types.specs.declared.value.Value.{Value}
use Rattle.amqp_types.specs.Datum.{number, octets, map}
use Rattle.amqp_types.specs.View.{view, views_of_pairs}
use Rattle.amqp_performatives.specs.declared.bodies.Role.{Role}
use Rattle.amqp_performatives.specs.declared.bodies.Role.TheVariants.{Sender, Receiver}
use Rattle.amqp_performatives.specs.declared.bodies.OpenBody.{OpenBody}
use Rattle.amqp_performatives.specs.declared.bodies.BeginBody.{BeginBody}
use Rattle.amqp_performatives.specs.declared.bodies.AttachBody.{AttachBody}
use Rattle.amqp_performatives.specs.declared.bodies.FlowBody.{FlowBody}
use Rattle.amqp_performatives.specs.declared.bodies.TransferBody.{TransferBody}
use Rattle.amqp_performatives.specs.declared.bodies.DispositionBody.{DispositionBody}
use Rattle.amqp_performatives.specs.declared.bodies.DetachBody.{DetachBody}
use Rattle.amqp_performatives.specs.declared.bodies.EndBody.{EndBody}
use Rattle.amqp_performatives.specs.declared.bodies.CloseBody.{CloseBody}
use Rattle.amqp_performatives.specs.declared.error.AmqpError.{AmqpError}
use Rattle.amqp_performatives.specs.declared.state.DeliveryState.{DeliveryState}
use Rattle.amqp_performatives.specs.declared.state.DeliveryState.TheVariants.{Received, Accepted, Rejected, Released, Modified, Other}
use Rattle.amqp_performatives.specs.declared.performative.Performative.{Performative}
use Rattle.amqp_performatives.specs.declared.performative.Performative.TheVariants.{Open, Begin, Attach, Flow, Transfer, Disposition, Detach, End, Close}
use Rattle.amqp_performatives.specs.declared.composite.Composite.{Composite}
use Rattle.amqp_performatives.specs.Composite.{type_of}
use Rattle.amqp_performatives.specs.Part.{Part, Fields, absent, value, composite, no_field, field}

-- the types that fields have
abbrev pub boolean : Bool → Part
boolean b = value (number Kind.Bool (if b then 1 else 0))

abbrev pub ubyte : ℕ → Part
ubyte n = value (number Kind.Ubyte n)

abbrev pub ushort : ℕ → Part
ushort n = value (number Kind.Ushort n)

abbrev pub uint : ℕ → Part
uint n = value (number Kind.Uint n)

abbrev pub ulong : ℕ → Part
ulong n = value (number Kind.Ulong n)

abbrev pub binary : List ℕ → Part
binary os = value (octets Run.Binary os)

abbrev pub string : List ℕ → Part
string os = value (octets Run.Str os)

abbrev pub symbol : List ℕ → Part
symbol os = value (octets Run.Symbol os)

abbrev pub mapping : List (Value × Value) → Part
mapping pairs = value (map (views_of_pairs pairs))

abbrev pub any : Value → Part
any v = value (view v)

-- false for a sender, true for a receiver
abbrev pub role : Role → Part
role Sender = boolean false
role Receiver = boolean true

-- a field that is not mandatory
abbrev pub optional : {A : Type 0} → (A → Part) → Option A → Part
optional of None = absent
optional of (Some a) = of a

infixr 20 ◌▸◌
abbrev pub ◌▸◌ : Part → Fields → Fields
p ▸ fs = field p fs

-- the number and the name of a descriptor
abbrev pub error_type : ℕ × List ℕ
error_type = type_of Composite.Error

abbrev pub received_type : ℕ × List ℕ
received_type = type_of Composite.Received

abbrev pub accepted_type : ℕ × List ℕ
accepted_type = type_of Composite.Accepted

abbrev pub rejected_type : ℕ × List ℕ
rejected_type = type_of Composite.Rejected

abbrev pub released_type : ℕ × List ℕ
released_type = type_of Composite.Released

abbrev pub modified_type : ℕ × List ℕ
modified_type = type_of Composite.Modified

abbrev pub error : AmqpError → Part
error e = composite error_type (symbol e.condition ▸ optional string e.description ▸ optional any e.info ▸ no_field)

abbrev pub state : DeliveryState → Part
state (Received section_number section_offset) = composite received_type (uint section_number ▸ ulong section_offset ▸ no_field)
state Accepted = composite accepted_type no_field
state (Rejected e) = composite rejected_type (optional error e ▸ no_field)
state Released = composite released_type no_field
state (Modified delivery_failed undeliverable_here message_annotations) =
    composite modified_type (optional boolean delivery_failed ▸ optional boolean undeliverable_here ▸ optional any message_annotations ▸ no_field)
state (Other v) = any v

abbrev pub open_fields : OpenBody → Fields
open_fields b =
    string b.container_id
    ▸ optional string b.hostname
    ▸ optional uint b.max_frame_size
    ▸ optional ushort b.channel_max
    ▸ optional uint b.idle_time_out
    ▸ optional any b.outgoing_locales
    ▸ optional any b.incoming_locales
    ▸ optional any b.offered_capabilities
    ▸ optional any b.desired_capabilities
    ▸ optional any b.properties
    ▸ no_field

abbrev pub begin_fields : BeginBody → Fields
begin_fields b =
    optional ushort b.remote_channel
    ▸ uint b.next_outgoing_id
    ▸ uint b.incoming_window
    ▸ uint b.outgoing_window
    ▸ optional uint b.handle_max
    ▸ optional any b.offered_capabilities
    ▸ optional any b.desired_capabilities
    ▸ optional any b.properties
    ▸ no_field

abbrev pub attach_fields : AttachBody → Fields
attach_fields b =
    string b.name
    ▸ uint b.handle
    ▸ role b.role
    ▸ optional ubyte b.snd_settle_mode
    ▸ optional ubyte b.rcv_settle_mode
    ▸ optional any b.source
    ▸ optional any b.target
    ▸ optional mapping b.unsettled
    ▸ optional boolean b.incomplete_unsettled
    ▸ optional uint b.initial_delivery_count
    ▸ optional ulong b.max_message_size
    ▸ optional any b.offered_capabilities
    ▸ optional any b.desired_capabilities
    ▸ optional any b.properties
    ▸ no_field

abbrev pub flow_fields : FlowBody → Fields
flow_fields b =
    optional uint b.next_incoming_id
    ▸ uint b.incoming_window
    ▸ uint b.next_outgoing_id
    ▸ uint b.outgoing_window
    ▸ optional uint b.handle
    ▸ optional uint b.delivery_count
    ▸ optional uint b.link_credit
    ▸ optional uint b.available
    ▸ optional boolean b.drain
    ▸ optional boolean b.echo
    ▸ optional any b.properties
    ▸ no_field

abbrev pub transfer_fields : TransferBody → Fields
transfer_fields b =
    uint b.handle
    ▸ optional uint b.delivery_id
    ▸ optional binary b.delivery_tag
    ▸ optional uint b.message_format
    ▸ optional boolean b.settled
    ▸ optional boolean b.more
    ▸ optional ubyte b.rcv_settle_mode
    ▸ optional state b.state
    ▸ optional boolean b.resume
    ▸ optional boolean b.aborted
    ▸ optional boolean b.batchable
    ▸ no_field

abbrev pub disposition_fields : DispositionBody → Fields
disposition_fields b =
    role b.role
    ▸ uint b.first
    ▸ optional uint b.last
    ▸ optional boolean b.settled
    ▸ optional state b.state
    ▸ optional boolean b.batchable
    ▸ no_field

abbrev pub detach_fields : DetachBody → Fields
detach_fields b = uint b.handle ▸ optional boolean b.closed ▸ optional error b.error ▸ no_field

abbrev pub end_fields : EndBody → Fields
end_fields b = optional error b.error ▸ no_field

abbrev pub close_fields : CloseBody → Fields
close_fields b = optional error b.error ▸ no_field

-- the fields of a performative
abbrev pub fields_of : Performative → Fields
fields_of (Open b) = open_fields b
fields_of (Begin b) = begin_fields b
fields_of (Attach b) = attach_fields b
fields_of (Flow b) = flow_fields b
fields_of (Transfer b) = transfer_fields b
fields_of (Disposition b) = disposition_fields b
fields_of (Detach b) = detach_fields b
fields_of (End b) = end_fields b
fields_of (Close b) = close_fields b

-- its composite type
abbrev pub composite_of : Performative → Composite
composite_of (Open b) = Composite.Open
composite_of (Begin b) = Composite.Begin
composite_of (Attach b) = Composite.Attach
composite_of (Flow b) = Composite.Flow
composite_of (Transfer b) = Composite.Transfer
composite_of (Disposition b) = Composite.Disposition
composite_of (Detach b) = Composite.Detach
composite_of (End b) = Composite.End
composite_of (Close b) = Composite.Close

-- the number and the name of its descriptor
abbrev pub descriptor_of : Performative → ℕ × List ℕ
descriptor_of p = type_of (composite_of p)

abbrev pub part_of : Performative → Part
part_of p = composite (descriptor_of p) (fields_of p)
