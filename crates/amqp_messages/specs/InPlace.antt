-- A section that is found in the octets before any memory is allocated.
use Rattle.std.specs.Prelude.{ℕ, ◌≤◌, ◌-◌, Bool, true, false, List, length, take, drop}
use Rattle.amqp_types.specs.declared.class.Class.{Class}
use Rattle.amqp_types.specs.declared.class.Run.TheVariants as Run
use Rattle.amqp_types.specs.Datum.{Datum}
use Rattle.amqp_types.specs.Grammar.{SpellsWithin}
use Rattle.amqp_messages.specs.declared.kind.SectionKind.{SectionKind}
use Rattle.amqp_messages.specs.declared.kind.SectionKind.TheVariants.{Header, DeliveryAnnotations, MessageAnnotations, Properties, ApplicationProperties, Data, AmqpSequence, AmqpValue, Footer}
use Rattle.amqp_messages.specs.declared.section.Place.{Place}
use Rattle.amqp_messages.specs.Sections.{IsSection}

abbrev pub of_lists : Class → Bool
of_lists Class.EmptyList = true
of_lists (Class.List w) = true
of_lists _ = false

abbrev pub of_maps : Class → Bool
of_maps (Class.Map w) = true
of_maps _ = false

abbrev pub of_binaries : Class → Bool
of_binaries (Class.Octets Run.Binary w) = true
of_binaries (Class.Sixteen Run.Binary) = true
of_binaries _ = false

-- whether a body of the kind may begin with a format code of the class
abbrev pub begins : SectionKind → Class → Bool
begins Header c = of_lists c
begins DeliveryAnnotations c = of_maps c
begins MessageAnnotations c = of_maps c
begins Properties c = of_lists c
begins ApplicationProperties c = of_maps c
begins Data c = of_binaries c
begins AmqpSequence c = of_lists c
begins AmqpValue c = true
begins Footer c = of_maps c

-- the octets begin with a section of this kind: its body lies between these offsets, and the section ends with it
pub record IsFound (os : List ℕ) (place : Place) : Type 0 where
  pub order : place.start ≤ place.end
  pub within : place.end ≤ length os
  pub body : Datum
  pub spelled : SpellsWithin 31 body (take (place.end - place.start) (drop place.start os))
  pub is : IsSection (place.kind, body) (take place.end os)
