-- What the readers promise that leave a performative in a slot.
use Rattle.std.specs.Prelude.{ℕ, Bool, true, false, Option, Some, None, Result, Ok, Err, List}
use Rattle.amqp_types.specs.Datum.{Datum}
use Rattle.amqp_decoder.specs.declared.fields.Cursor.{Cursor}
use Rattle.amqp_performatives.specs.declared.performative.Performative.{Performative}
use Rattle.amqp_performatives.specs.declared.performative.Performative.TheVariants.{Flow, Disposition}
use Rattle.amqp_decoder.specs.declared.fault.BodyFault.{BodyFault}
use Rattle.amqp_performatives.specs.Part.{IsDescriptor}
use Rattle.amqp_decoder.specs.ReadPerformatives.{ReadsDescribed, ReadsFront}

-- where the answer is good the slot has the performative
abbrev pub LeavesDescribed : Datum → Cursor → Result (Unit {0}) BodyFault → Option Performative → Type 0
LeavesDescribed descriptor from (Ok u) (Some p) = ReadsDescribed descriptor from (Ok p)
LeavesDescribed descriptor from (Ok u) None = ⊥
LeavesDescribed descriptor from (Err fault) slot = ReadsDescribed descriptor from (Err fault)

abbrev pub LeavesFront : List ℕ → Result ℕ BodyFault → Option Performative → Type 0
LeavesFront octets (Ok used) (Some p) = ReadsFront octets (Ok (p, used))
LeavesFront octets (Ok used) None = ⊥
LeavesFront octets (Err fault) slot = ReadsFront octets (Err fault)

-- the same for whatever descriptor is that of this type
abbrev pub LeavesKind : ℕ × List ℕ → Cursor → Result (Unit {0}) BodyFault → Option Performative → Type 0
LeavesKind type from result slot = (descriptor : Datum) → IsDescriptor type descriptor → LeavesDescribed descriptor from result slot

-- false says nothing
abbrev pub LeavesCommon : ℕ × List ℕ → Cursor → Bool → Option Performative → Type 0
LeavesCommon type from true slot = (u : Unit {0}) (descriptor : Datum) → IsDescriptor type descriptor → LeavesDescribed descriptor from (Ok u) slot
LeavesCommon type from false slot = Unit

-- what stands in the slot
abbrev pub is_flow : Option Performative → Bool
is_flow (Some (Flow b)) = true
is_flow _ = false

abbrev pub is_disposition : Option Performative → Bool
is_disposition (Some (Disposition b)) = true
is_disposition _ = false
