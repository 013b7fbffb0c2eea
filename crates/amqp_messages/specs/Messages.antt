-- Whole messages (part 3, 3.2): sections, one after the other, in a fixed order.
use Rattle.std.specs.Prelude.{ℕ, ◌≡◌, ◌≤◌, ◌<◌, ◌++◌, nat_lt, ◌&&◌, ◌||◌, Bool, true, false, IsTrue, Option, Some, None, Result, Ok, Err, List, [], ◌∷◌, length, take, drop, ◌==◌, if◌then◌else◌}
use Rattle.amqp_types.specs.Datum.{Datum}
use Rattle.amqp_types.specs.Grammar.{Then}
use Rattle.amqp_messages.specs.declared.kind.SectionKind.{SectionKind}
use Rattle.amqp_messages.specs.declared.kind.SectionKind.TheVariants.{Header, DeliveryAnnotations, MessageAnnotations, Properties, ApplicationProperties, Data, AmqpSequence, AmqpValue, Footer}
use Rattle.amqp_messages.specs.declared.section.Section.{Section}
use Rattle.amqp_messages.specs.declared.message.Message.{Message}
use Rattle.amqp_messages.specs.declared.fault.MessageFault.{MessageFault}
use Rattle.amqp_messages.specs.declared.fault.MessageFault.TheVariants as fault
use Rattle.amqp_messages.specs.Sections.{SectionData, type_of, seen, IsSection, HasNoSection}

-- the rank of a kind in the order; data, amqp-sequence and amqp-value share one
abbrev pub rank : SectionKind → ℕ
rank Header = 0
rank DeliveryAnnotations = 1
rank MessageAnnotations = 2
rank Properties = 3
rank ApplicationProperties = 4
rank Data = 5
rank AmqpSequence = 5
rank AmqpValue = 5
rank Footer = 6

-- a data section may follow another, and an amqp-sequence may follow another
abbrev pub repeats : SectionKind → SectionKind → Bool
repeats Data Data = true
repeats AmqpSequence AmqpSequence = true
repeats _ _ = false

-- whether a section may follow one of the kind `before`, or be the first
abbrev pub may_follow : Option SectionKind → SectionKind → Bool
may_follow None k = true
may_follow (Some before) k = nat_lt (rank before) (rank k) || repeats before k

abbrev pub is_of_body : SectionKind → Bool
is_of_body Data = true
is_of_body AmqpSequence = true
is_of_body AmqpValue = true
is_of_body _ = false

-- each section may follow the one before it, and the first one may follow the kind `before`
abbrev pub are_ordered : Option SectionKind → List SectionData → Bool
are_ordered before [] = true
are_ordered before (s ∷ ss) = may_follow before s.0 && are_ordered (Some s.0) ss

-- the kind of the last section, or `before` if there is none
abbrev pub last_of : Option SectionKind → List SectionData → Option SectionKind
last_of before [] = before
last_of before (s ∷ ss) = last_of (Some s.0) ss

abbrev pub has_body : List SectionData → Bool
has_body [] = false
has_body (s ∷ ss) = is_of_body s.0 || has_body ss

-- the octets spell the sections, one after the other
abbrev pub AreSections : List SectionData → List ℕ → Type 0
AreSections [] os = os ≡ []
AreSections (s ∷ ss) os = Then (IsSection s) (AreSections ss) os

-- the octets spell a message that has these sections
pub record IsMessage (ss : List SectionData) (os : List ℕ) : Type 0 where
  pub ordered : IsTrue (are_ordered None ss)
  pub body : IsTrue (has_body ss)
  pub spelled : AreSections ss os

-- up to this offset the octets spell these sections, in an allowed order
pub record StandUpTo (ss : List SectionData) (at : ℕ) (os : List ℕ) : Type 0 where
  pub within : at ≤ length os
  pub spelled : AreSections ss (take at os)
  pub ordered : IsTrue (are_ordered None ss)

-- the octets spell some message
abbrev pub IsSome : List ℕ → Type 0
IsSome os = (ss : List SectionData) × IsMessage ss os

-- the octets begin with this section
abbrev pub BeginsWith : SectionData → List ℕ → Type 0
BeginsWith s os = (x rest : List ℕ) × IsSection s x × (os ≡ x ++ rest)

-- the errors that reading the octets may return
abbrev pub Refuses : List ℕ → MessageFault → Type 0
Refuses os (fault.NoSection at) = (ss : List SectionData) × StandUpTo ss at os × (at < length os) × HasNoSection (drop at os)
Refuses os (fault.OutOfOrder at) = (ss : List SectionData) × StandUpTo ss at os × (s : SectionData) × BeginsWith s (drop at os) × (may_follow (last_of None ss) s.0 ≡ false)
Refuses os fault.NoBody = (ss : List SectionData) × AreSections ss os × IsTrue (are_ordered None ss) × (has_body ss ≡ false)
Refuses os fault.NoMemory = IsSome os

abbrev pub seen_all : List Section → List SectionData
seen_all [] = []
seen_all (s ∷ ss) = seen s ∷ seen_all ss

-- what reading the octets returns: the message that they spell, or an error
abbrev pub ReadsMessage : List ℕ → Result Message MessageFault → Type 0
ReadsMessage os (Ok m) = IsMessage (seen_all m.sections) os
ReadsMessage os (Err f) = Refuses os f

-- the result is the message of these sections, unless memory ran out
abbrev pub Finds : List SectionData → Result Message MessageFault → Type 0
Finds ss (Ok m) = seen_all m.sections ≡ ss
Finds ss (Err fault.NoMemory) = Unit {0}
Finds ss (Err _) = ⊥

-- the body of the first section of this kind
abbrev pub first_of : SectionKind → List SectionData → Option Datum
first_of kind [] = None
first_of kind (s ∷ ss) = if (type_of s.0).0 == (type_of kind).0 then Some s.1 else first_of kind ss
