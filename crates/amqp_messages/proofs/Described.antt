-- A section is a descriptor and a body, one behind the other.
use Rattle.std.proofs.Common.{◌≡◌, ℕ, suc, ◌+◌, ◌-◌, ◌≤◌, ◌||◌, inl, inr, Bool, true, false, eqb, List, [], ◌∷◌, ◌++◌, length, take, drop, None, refl, sym, ap, subst, ◌∙◌, arith, append_assoc}
use Rattle.std.specs.Prelude.{IsTrue}
use Rattle.std.proofs.lemmas.Bool.{eqb-true}
use Rattle.std.proofs.lemmas.List.{take-append-drop, append_cancel_left}
use Rattle.std.proofs.Math.Seq.{take-add}
use Rattle.std.proofs.Math.ListN.{length-drop}
use Rattle.amqp_types.specs.declared.class.Class.{Class}
use Rattle.amqp_types.specs.declared.heads.Descriptor.{Descriptor}
use Rattle.amqp_types.specs.declared.heads.Descriptor.TheVariants as descriptor
use Rattle.amqp_types.specs.Codes.{class_of, table}
use Rattle.amqp_types.specs.Datum.{Datum, described, depth_of}
use Rattle.amqp_types.specs.Grammar.{IsPart, IsBody, IsDescribedBody, SpellsWithin, Spells}
use Rattle.amqp_types.specs.Heads.{datum_of}
use Rattle.amqp_types.specs.Heads.{IsDescriptor as IsDescriptorFront}
use Rattle.amqp_types.proofs.Fronts.{is_code, class_listed}
use Rattle.amqp_types.proofs.ListHeads.{described_from_parts}
use Rattle.amqp_types.proofs.Laws.{one_spelling}
use Rattle.amqp_performatives.specs.Part.{IsDescriptor}
use Rattle.amqp_messages.specs.declared.kind.SectionKind.{SectionKind}
use Rattle.amqp_messages.specs.Sections.{type_of, is_body, IsSection, HasNoSection, NamesNone}
use Rattle.amqp_messages.specs.InPlace.{IsFound}

-- ---- a described value's parts

pub record Split (n : ℕ) (d v : Datum) (y : List ℕ) : Type 0 where
  pub a : List ℕ
  pub b : List ℕ
  pub first : SpellsWithin n d a
  pub second : SpellsWithin n v b
  pub parts : y ≡ 0 ∷ (a ++ b)

abbrev of_described : Class → Bool
of_described Class.Described = true
of_described _ = false

or_false : (b : Bool) → (b || false) ≡ true → b ≡ true
or_false true h = refl
or_false false h = h

only_zero : (c : ℕ) → (eqb c 0 || false) ≡ true → c ≡ 0
only_zero c h = eqb-true c 0 (or_false (eqb c 0) h)

described_code : (c : ℕ) → class_of c ≡ Class.Described → c ≡ 0
unfolding class_of
described_code c e =
    let k : is_code (0 ∷ []) c ≡ true = class_listed of_described refl table c (ap of_described e) in
    only_zero c k

split_body : (n c : ℕ) (class : Class) (d v : Datum) (b : List ℕ) → class_of c ≡ class → IsDescribedBody class (IsPart None (IsBody d)) (IsPart None (IsBody v)) b → depth_of d ≤ n → depth_of v ≤ n → Split n d v (c ∷ b)
split_body n c Class.Described d v b is h e f = record { a = h.0; b = h.1; first = (h.2, e); second = (h.3, f); parts = rw (described_code c is, h.4) refl }
split_body n c _ d v b is h e f = absurd h

pub split_of : (n : ℕ) (d v : Datum) (y : List ℕ) → SpellsWithin (suc n) (described d v) y → Split n d v y
split_of n d v [] s = absurd s.0
split_of n d v (c ∷ b) s = split_body n c (class_of c) d v b refl s.0 (omega (arith, s.1)) (omega (arith, s.1))

-- ---- what stands behind a descriptor that was read

pub record Behind (os : List ℕ) (start : ℕ) (D : Datum) (s : SectionKind × Datum) (y rest : List ℕ) : Type 0 where
  pub named : IsDescriptor (type_of s.0) D
  pub text : List ℕ
  pub spelled : SpellsWithin 31 s.1 text
  pub parts : drop start os ≡ text ++ rest

pub behind : (os x : List ℕ) (start : ℕ) (D : Datum) (s : SectionKind × Datum) (y rest : List ℕ) → Spells D x → take start os ≡ 0 ∷ x → IsSection s y → os ≡ y ++ rest → Behind os start D s y rest
behind os x start D s y rest d t p e =
    let q = split_of 31 p.descriptor s.1 y p.spelled in
    let first : Spells p.descriptor q.a = (q.first.0, omega (arith, q.first.1)) in
    let k : 0 ∷ (x ++ drop start os) ≡ 0 ∷ ((q.a ++ q.b) ++ rest) = ap (λ (z : List ℕ). z ++ drop start os) (sym t) ∙ take-append-drop start os ∙ e ∙ ap (λ (z : List ℕ). z ++ rest) q.parts in
    let j : x ++ drop start os ≡ (q.a ++ q.b) ++ rest = cc in
    let m : x ++ drop start os ≡ q.a ++ (q.b ++ rest) = j ∙ append_assoc q.a q.b rest in
    let same = one_spelling D p.descriptor x q.a (drop start os) (q.b ++ rest) d first m in
    record {
      named = subst (λ (v : Datum). IsDescriptor (type_of s.0) v) (sym same.0) p.named;
      text = q.b;
      spelled = q.second;
      parts = append_cancel_left x (drop start os) (q.b ++ rest) (m ∙ ap (λ (z : List ℕ). z ++ (q.b ++ rest)) (sym same.1));
    }

named_front : (type : ℕ × List ℕ) (d : Datum) (a : List ℕ) → IsDescriptor type d → Spells d a → (D : Descriptor) × Spells (datum_of D) a
named_front type d a (inl e) s = (descriptor.Number type.0, subst (λ (v : Datum). Spells v a) e s)
named_front type d a (inr e) s = (descriptor.Name (record { ref_ptr = (0, 0); now = type.1 }), subst (λ (v : Datum). Spells v a) e s)

pub none_described : (os : List ℕ) → IsDescriptorFront os None → HasNoSection os
none_described os front s y rest p e =
    let q = split_of 31 p.descriptor s.1 y p.spelled in
    let d = named_front (type_of s.0) p.descriptor q.a p.named (q.first.0, omega (arith, q.first.1)) in
    front d.0 q.a (q.b ++ rest) d.1 (e ∙ ap (λ (z : List ℕ). z ++ rest) q.parts ∙ ap (λ (z : List ℕ). 0 ∷ z) (append_assoc q.a q.b rest))

pub none_named : (os x : List ℕ) (start : ℕ) (D : Datum) → Spells D x → take start os ≡ 0 ∷ x → NamesNone D → HasNoSection os
none_named os x start D d t other s y rest p e = other s.0 (behind os x start D s y rest d t p e).named

-- ---- a section from its parts

pub flat_descriptor : (D : Descriptor) → depth_of (datum_of D) ≡ 1
flat_descriptor (descriptor.Number n) = refl
flat_descriptor (descriptor.Name text) = refl

pub section_of_parts : (os x : List ℕ) (start used : ℕ) (D : Datum) (s : SectionKind × Datum) → depth_of D ≡ 1 → Spells D x → take start os ≡ 0 ∷ x → IsDescriptor (type_of s.0) D → IsTrue (is_body s.0 s.1) → SpellsWithin 31 s.1 (take used (drop start os)) → IsSection s (take (start + used) os)
section_of_parts os x start used D s flat d t named formed body =
    let whole : take (start + used) os ≡ 0 ∷ (x ++ take used (drop start os)) = take-add start used os ∙ ap (λ (z : List ℕ). z ++ take used (drop start os)) t in
    record {
      formed = formed;
      descriptor = D;
      named = named;
      spelled = subst (λ (z : List ℕ). Spells (described D s.1) z) (sym whole) (described_from_parts 31 D s.1 x (take used (drop start os)) (d.0, omega arith) body);
    }

same_cut : (start used : ℕ) → start + used - start ≡ used
same_cut start used = omega arith

pub found_at : (os x : List ℕ) (start used : ℕ) (D v : Datum) (k : SectionKind) → start ≤ length os → used ≤ length (drop start os) → depth_of D ≡ 1 → Spells D x → take start os ≡ 0 ∷ x → IsDescriptor (type_of k) D → IsTrue (is_body k v) → SpellsWithin 31 v (take used (drop start os)) → IsFound os (record { kind = k; start = start; end = start + used })
found_at os x start used D v k within inside flat d t named formed body = record {
  order = omega arith;
  within = omega (arith, inside, length-drop start os);
  body = v;
  spelled = subst (λ (n : ℕ). SpellsWithin 31 v (take n (drop start os))) (sym (same_cut start used)) body;
  is = section_of_parts os x start used D (k, v) flat d t named formed body;
}
