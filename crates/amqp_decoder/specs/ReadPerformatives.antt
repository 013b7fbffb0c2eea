-- What the private readers of performatives promise.
use Rattle.std.specs.Prelude.{ℕ, ◌≡◌, ◌≤◌, IsTrue, Result, Ok, Err, List, ◌++◌, length, take}
use Rattle.amqp_types.specs.Datum.{Datum}
use Rattle.amqp_decoder.specs.declared.fields.Cursor.{Cursor}
use Rattle.amqp_performatives.specs.declared.performative.Performative.{Performative}
use Rattle.amqp_decoder.specs.declared.fault.BodyFault.{BodyFault}
use Rattle.amqp_decoder.specs.declared.fault.BodyFault.TheVariants.{NoBody, NoMemory}
use Rattle.amqp_performatives.specs.declared.composite.Composite.TheVariants as composite
use Rattle.amqp_performatives.specs.Composite.{type_of}
use Rattle.amqp_performatives.specs.Part.{IsDescriptor}
use Rattle.amqp_performatives.specs.Bodies.{descriptor_of, fields_of}
use Rattle.amqp_performatives.specs.Fair.{is_fair}
use Rattle.amqp_performatives.specs.Spelling.{IsPerformative}
use Rattle.amqp_decoder.specs.Reading.{AreFields}

-- the types of performatives: the number and the name of each descriptor
abbrev pub open_type : ℕ × List ℕ
open_type = type_of composite.Open

abbrev pub begin_type : ℕ × List ℕ
begin_type = type_of composite.Begin

abbrev pub attach_type : ℕ × List ℕ
attach_type = type_of composite.Attach

abbrev pub flow_type : ℕ × List ℕ
flow_type = type_of composite.Flow

abbrev pub transfer_type : ℕ × List ℕ
transfer_type = type_of composite.Transfer

abbrev pub disposition_type : ℕ × List ℕ
disposition_type = type_of composite.Disposition

abbrev pub detach_type : ℕ × List ℕ
detach_type = type_of composite.Detach

abbrev pub end_type : ℕ × List ℕ
end_type = type_of composite.End

abbrev pub close_type : ℕ × List ℕ
close_type = type_of composite.Close

-- these are the performative's fields, behind its descriptor
abbrev pub IsDescribed : Datum → Cursor → Performative → Type 0
IsDescribed descriptor from p = IsTrue (is_fair p) × IsDescriptor (descriptor_of p) descriptor × AreFields from.depth from.left (fields_of p) from.octets.now

abbrev pub ReadsDescribed : Datum → Cursor → Result Performative BodyFault → Type 0
ReadsDescribed descriptor from (Ok p) = IsDescribed descriptor from p
ReadsDescribed descriptor from (Err NoBody) = (p : Performative) → IsDescribed descriptor from p → ⊥
ReadsDescribed descriptor from (Err NoMemory) = (p : Performative) × IsDescribed descriptor from p

-- the same for whatever descriptor is that of this type
abbrev pub ReadsKind : ℕ × List ℕ → Cursor → Result Performative BodyFault → Type 0
ReadsKind type from result = (descriptor : Datum) → IsDescriptor type descriptor → ReadsDescribed descriptor from result

-- the performative in front of the octets, or that none is
abbrev pub ReadsFront : List ℕ → Result (Performative × ℕ) BodyFault → Type 0
ReadsFront octets (Ok found) = (found.1 ≤ length octets) × IsPerformative found.0 (take found.1 octets)
ReadsFront octets (Err NoBody) = (p : Performative) (x rest : List ℕ) → IsPerformative p x → octets ≡ x ++ rest → ⊥
ReadsFront octets (Err NoMemory) = (p : Performative) × (x rest : List ℕ) × IsPerformative p x × (octets ≡ x ++ rest)
