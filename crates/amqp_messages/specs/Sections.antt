-- The sections of a message (part 3, 3.2): each is a described value.
use Rattle.std.specs.Prelude.{ℕ, ◌≡◌, ◌≤◌, ◌++◌, Bool, true, false, IsTrue, Result, Ok, Err, List, length, take, codes}
use Rattle.amqp_types.specs.declared.class.Run.TheVariants as Run
use Rattle.amqp_types.specs.Datum.{Datum, octets, list, map, described}
use Rattle.amqp_types.specs.Grammar.{Spells}
use Rattle.amqp_types.specs.View.{view}
use Rattle.amqp_performatives.specs.Part.{IsDescriptor}
use Rattle.amqp_messages.specs.declared.kind.SectionKind.{SectionKind}
use Rattle.amqp_messages.specs.declared.kind.SectionKind.TheVariants.{Header, DeliveryAnnotations, MessageAnnotations, Properties, ApplicationProperties, Data, AmqpSequence, AmqpValue, Footer}
use Rattle.amqp_messages.specs.declared.section.Section.{Section}
use Rattle.amqp_messages.specs.declared.fault.SectionFault.{SectionFault}
use Rattle.amqp_messages.specs.declared.fault.SectionFault.TheVariants as fault

-- the number and the name of the descriptor of this kind
abbrev pub type_of : SectionKind → ℕ × List ℕ
type_of Header = (0x70, codes "amqp:header:list")
type_of DeliveryAnnotations = (0x71, codes "amqp:delivery-annotations:map")
type_of MessageAnnotations = (0x72, codes "amqp:message-annotations:map")
type_of Properties = (0x73, codes "amqp:properties:list")
type_of ApplicationProperties = (0x74, codes "amqp:application-properties:map")
type_of Data = (0x75, codes "amqp:data:binary")
type_of AmqpSequence = (0x76, codes "amqp:amqp-sequence:list")
type_of AmqpValue = (0x77, codes "amqp:amqp-value:*")
type_of Footer = (0x78, codes "amqp:footer:map")

-- no kind has this descriptor
abbrev pub NamesNone : Datum → Type 0
NamesNone d = (kind : SectionKind) → IsDescriptor (type_of kind) d → ⊥

abbrev pub is_list : Datum → Bool
is_list (list ds) = true
is_list _ = false

abbrev pub is_map : Datum → Bool
is_map (map ds) = true
is_map _ = false

abbrev pub is_binary : Datum → Bool
is_binary (octets Run.Binary os) = true
is_binary _ = false

-- whether the value can be the body of a section of this kind
abbrev pub is_body : SectionKind → Datum → Bool
is_body Header v = is_list v
is_body DeliveryAnnotations v = is_map v
is_body MessageAnnotations v = is_map v
is_body Properties v = is_list v
is_body ApplicationProperties v = is_map v
is_body Data v = is_binary v
is_body AmqpSequence v = is_list v
is_body AmqpValue v = true
is_body Footer v = is_map v

-- a section as plain data: its kind and its body
abbrev pub SectionData : Type 0
SectionData = SectionKind × Datum

abbrev pub seen : Section → SectionKind × Datum
seen s = (s.kind, view s.body)

-- the octets spell a section of this kind with this body, in any spelling that a described value has
pub record IsSection (s : SectionKind × Datum) (x : List ℕ) : Type 0 where
  pub formed : IsTrue (is_body s.0 s.1)
  pub descriptor : Datum
  pub named : IsDescriptor (type_of s.0) descriptor
  pub spelled : Spells (described descriptor s.1) x

-- no prefix of the octets spells a section
abbrev pub HasNoSection : List ℕ → Type 0
HasNoSection os = (s : SectionKind × Datum) (x rest : List ℕ) → IsSection s x → os ≡ x ++ rest → ⊥

-- what reading the section at the front of the octets returns: the section and its length in octets; NoSection if no
-- section is there; NoMemory only if one is
abbrev pub ReadsSection : List ℕ → Result (Section × ℕ) SectionFault → Type 0
ReadsSection os (Ok found) = (found.1 ≤ length os) × IsSection (seen found.0) (take found.1 os)
ReadsSection os (Err fault.NoSection) = HasNoSection os
ReadsSection os (Err fault.NoMemory) = (s : SectionKind × Datum) × (x rest : List ℕ) × IsSection s x × (os ≡ x ++ rest)
