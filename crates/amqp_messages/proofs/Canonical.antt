-- What is written of a message is a message.
use Rattle.std.proofs.Common.{◌≡◌, ℕ, ◌≤◌, ◌&&◌, inl, Bool, true, false, List, [], ◌∷◌, ◌++◌, Option, Some, None, refl, sym, ap, subst, ◌∙◌, arith}
use Rattle.std.specs.Prelude.{if◌then◌else◌, nat_le}
use Rattle.amqp_types.specs.declared.class.Kind.TheVariants as Kind
use Rattle.amqp_types.specs.Codes.{class_of}
use Rattle.amqp_types.specs.Datum.{Datum, number, described, depth_of}
use Rattle.amqp_types.specs.Grammar.{number_of, Spells, SpellsWithin}
use Rattle.amqp_types.specs.Reading.{◌>>=◌}
use Rattle.amqp_types.specs.Canon.{part_form, capped, Appends}
use Rattle.amqp_types.proofs.Canonical.{canon_spells, canon_is}
use Rattle.amqp_types.proofs.Compounds.{bind_some}
use Rattle.amqp_types.proofs.ListHeads.{described_from_parts}
use Rattle.amqp_types.proofs.Spelled.{capped_some}
use Rattle.amqp_messages.specs.declared.kind.SectionKind.{SectionKind}
use Rattle.amqp_messages.specs.declared.kind.SectionKind.TheVariants.{Header, DeliveryAnnotations, MessageAnnotations, Properties, ApplicationProperties, Data, AmqpSequence, AmqpValue, Footer}
use Rattle.amqp_messages.specs.Sections.{SectionData, type_of, is_body, IsSection}
use Rattle.amqp_messages.specs.Messages.{AreSections, are_ordered, has_body, IsMessage}
use Rattle.amqp_messages.specs.Written.{bare_form, section_form, sections_form, is_message, message_form, bare_forms}
use Rattle.amqp_messages.proofs.Sequences.{and_first, and_second, same_sections}

where_some : {A : Type 0} (b : Bool) (f : Option A) (x : A) → (if b then f else None) ≡ Some x → (b ≡ true) × (f ≡ Some x)
where_some true f x h = (refl, h)
where_some false f x h = absurd cc

le_of : (n m : ℕ) → nat_le n m ≡ true → n ≤ m
le_of n m h = grind arith

-- ---- a section

number_within : (k : SectionKind) → SpellsWithin 31 (number Kind.Ulong (type_of k).0) (0x53 ∷ (type_of k).0 ∷ [])
unfolding class_of number_of
number_within Header = ((refl, refl, refl, refl), omega arith)
number_within DeliveryAnnotations = ((refl, refl, refl, refl), omega arith)
number_within MessageAnnotations = ((refl, refl, refl, refl), omega arith)
number_within Properties = ((refl, refl, refl, refl), omega arith)
number_within ApplicationProperties = ((refl, refl, refl, refl), omega arith)
number_within Data = ((refl, refl, refl, refl), omega arith)
number_within AmqpSequence = ((refl, refl, refl, refl), omega arith)
number_within AmqpValue = ((refl, refl, refl, refl), omega arith)
number_within Footer = ((refl, refl, refl, refl), omega arith)

body_spelled : (v : Datum) (x : List ℕ) → depth_of v ≤ 31 → part_form None v ≡ Some x → SpellsWithin 31 v x
body_spelled v x h e = ((canon_spells v x (canon_is v (omega (arith, h)) ∙ e)).0, h)

pub section_spelled : (s : SectionData) (x : List ℕ) → section_form s ≡ Some x → IsSection s x
section_spelled s x h =
    let w = where_some (is_body s.0 s.1 && nat_le (depth_of s.1) 31) (bare_form s) x h in
    let b = bind_some (part_form None s.1) (λ b. Some (0x00 ∷ 0x53 ∷ (type_of s.0).0 ∷ b)) x w.1 in
    let parts : x ≡ 0x00 ∷ ((0x53 ∷ (type_of s.0).0 ∷ []) ++ b.0) = let e = b.2 in cc in
    let deep = le_of (depth_of s.1) 31 (and_second (is_body s.0 s.1) (nat_le (depth_of s.1) 31) w.0) in
    record {
      formed = and_first (is_body s.0 s.1) (nat_le (depth_of s.1) 31) w.0;
      descriptor = number Kind.Ulong (type_of s.0).0;
      named = inl refl;
      spelled = subst (λ (z : List ℕ). Spells (described (number Kind.Ulong (type_of s.0).0) s.1) z) (sym parts) (described_from_parts 31 (number Kind.Ulong (type_of s.0).0) s.1 (0x53 ∷ (type_of s.0).0 ∷ []) b.0 (number_within s.0) (body_spelled s.1 b.0 deep b.1));
    }

-- ---- sections, one after the other

record Both (f g : Option (List ℕ)) (x : List ℕ) : Type 0 where
  a : List ℕ
  b : List ℕ
  first : f ≡ Some a
  second : g ≡ Some b
  parts : x ≡ a ++ b

both_of : (f g : Option (List ℕ)) (x : List ℕ) → (f >>= λ a. g >>= λ b. Some (a ++ b)) ≡ Some x → Both f g x
both_of f g x h =
    let a = bind_some f (λ a. g >>= λ b. Some (a ++ b)) x h in
    let b = bind_some g (λ b. Some (a.0 ++ b)) x a.2 in
    record { a = a.0; b = b.0; first = a.1; second = b.1; parts = let e = b.2 in cc }

pub sections_spelled : (ss : List SectionData) (x : List ℕ) → sections_form ss ≡ Some x → AreSections ss x
sections_spelled [] x h = cc
sections_spelled (s ∷ ss) x h =
    let b = both_of (section_form s) (sections_form ss) x h in
    (b.a, b.b, section_spelled s b.a b.first, sections_spelled ss b.b b.second, b.parts)

pub message_spelled : (ss : List SectionData) (x : List ℕ) → message_form ss ≡ Some x → IsMessage ss x
message_spelled ss x h =
    let w = where_some (is_message ss) (sections_form ss) x h in
    record {
      ordered = and_first (are_ordered None ss) (has_body ss) w.0;
      body = and_second (are_ordered None ss) (has_body ss) w.0;
      spelled = sections_spelled ss x w.1;
    }

pub one_message : (ss ts : List SectionData) (x : List ℕ) → IsMessage ss x → IsMessage ts x → ts ≡ ss
one_message ss ts x m n = same_sections ts ss x n.spelled m.spelled

-- ---- what is put without a test

bare_of : (s : SectionData) (x : List ℕ) → section_form s ≡ Some x → bare_form s ≡ Some x
bare_of s x h = (where_some (is_body s.0 s.1 && nat_le (depth_of s.1) 31) (bare_form s) x h).1

bound_both : (f g : Option (List ℕ)) (a b x : List ℕ) → f ≡ Some a → g ≡ Some b → x ≡ a ++ b → (f >>= λ a. g >>= λ b. Some (a ++ b)) ≡ Some x
bound_both f g a b x first second parts = rw (first, second, parts) refl

bare_all : (ss : List SectionData) (x : List ℕ) → sections_form ss ≡ Some x → bare_forms ss ≡ Some x
bare_all [] x h = h
bare_all (s ∷ ss) x h =
    let b = both_of (section_form s) (sections_form ss) x h in
    bound_both (bare_form s) (bare_forms ss) b.a b.b x (bare_of s b.a b.first) (bare_all ss b.b b.second) b.parts

pub written_message : (ss : List SectionData) (size : ℕ) (nothing start beside end : List ℕ) → Some size ≡ capped (message_form ss) → Appends (bare_forms ss) nothing beside → nothing ≡ [] → end ≡ start ++ beside → Appends (message_form ss) start end
written_message ss size nothing start beside end there a none f =
    let s = capped_some (message_form ss) size there in
    let w = where_some (is_message ss) (sections_form ss) s.0 s.1 in
    let same : a.0 ≡ s.0 = let e : Some a.0 ≡ Some s.0 = sym a.1 ∙ bare_all ss s.0 w.1 in cc in
    (s.0, s.1, f ∙ ap (λ (y : List ℕ). start ++ y) (a.2 ∙ ap (λ (y : List ℕ). y ++ a.0) none ∙ same))
