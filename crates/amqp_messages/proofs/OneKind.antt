-- A descriptor names one kind at most.
use Rattle.std.proofs.Common.{◌≡◌, inl, inr, Bool, eqb, cond, List, [], ◌∷◌, Option, Some, None, refl, sym, ap, ◌∙◌}
use Rattle.std.specs.Str.{bytes_eq}
use Rattle.amqp_types.specs.declared.class.Kind.TheVariants as Kind
use Rattle.amqp_types.specs.declared.class.Run.TheVariants as Run
use Rattle.amqp_types.specs.Datum.{Datum, number, octets}
use Rattle.amqp_performatives.specs.Part.{IsDescriptor}
use Rattle.amqp_messages.specs.declared.kind.SectionKind.{SectionKind}
use Rattle.amqp_messages.specs.declared.kind.SectionKind.TheVariants.{Header, DeliveryAnnotations, MessageAnnotations, Properties, ApplicationProperties, Data, AmqpSequence, AmqpValue, Footer}
use Rattle.amqp_messages.specs.Sections.{type_of}

abbrev kind_in : (SectionKind → Bool) → List SectionKind → Option SectionKind
kind_in test [] = None
kind_in test (k ∷ ks) = cond (test k) (Some k) (kind_in test ks)

abbrev all : List SectionKind
all = Header ∷ DeliveryAnnotations ∷ MessageAnnotations ∷ Properties ∷ ApplicationProperties ∷ Data ∷ AmqpSequence ∷ AmqpValue ∷ Footer ∷ []

-- the kind that a descriptor names
abbrev kind_of : Datum → Option SectionKind
kind_of (number Kind.Ulong n) = kind_in (λ k. eqb n (type_of k).0) all
kind_of (octets Run.Symbol name) = kind_in (λ k. bytes_eq name (type_of k).1) all
kind_of d = None

by_number : (k : SectionKind) → kind_of (number Kind.Ulong (type_of k).0) ≡ Some k
by_number Header = refl
by_number DeliveryAnnotations = refl
by_number MessageAnnotations = refl
by_number Properties = refl
by_number ApplicationProperties = refl
by_number Data = refl
by_number AmqpSequence = refl
by_number AmqpValue = refl
by_number Footer = refl

by_name : (k : SectionKind) → kind_of (octets Run.Symbol (type_of k).1) ≡ Some k
by_name Header = refl
by_name DeliveryAnnotations = refl
by_name MessageAnnotations = refl
by_name Properties = refl
by_name ApplicationProperties = refl
by_name Data = refl
by_name AmqpSequence = refl
by_name AmqpValue = refl
by_name Footer = refl

named : (k : SectionKind) (d : Datum) → IsDescriptor (type_of k) d → kind_of d ≡ Some k
named k d (inl e) = ap kind_of e ∙ by_number k
named k d (inr e) = ap kind_of e ∙ by_name k

pub one_kind : (k l : SectionKind) (d : Datum) → IsDescriptor (type_of k) d → IsDescriptor (type_of l) d → k ≡ l
one_kind k l d h g = let e : Some k ≡ Some l = sym (named k d h) ∙ named l d g in cc
