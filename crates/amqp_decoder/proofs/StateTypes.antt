-- A descriptor names one type.
use Rattle.std.proofs.Common.{◌≡◌, ℕ, inl, inr, Bool, true, false, not, eqb, ◌&&◌, List, refl, ap, eq-eqb}
use Rattle.std.specs.Str.{bytes_eq}
use Rattle.std.proofs.lemmas.Bool.{eqb-true}
use Rattle.std.proofs.lemmas.Slice.Eq.{bytes_eq-Decides}
use Rattle.amqp_types.specs.declared.class.Kind.TheVariants as Kind
use Rattle.amqp_types.specs.declared.class.Run.TheVariants as Run
use Rattle.amqp_types.specs.Datum.{Datum, number, octets, list, map, array, described}
use Rattle.amqp_performatives.specs.Part.{IsDescriptor}
use Rattle.amqp_performatives.specs.Fair.{is_descriptor, names_state}
use Rattle.amqp_performatives.specs.Bodies.{received_type, accepted_type, rejected_type, released_type, modified_type}
use Rattle.amqp_decoder.proofs.Conjunctions.{and_left, and_right}

-- two types that no descriptor names both
abbrev pub differ : ℕ × List ℕ → ℕ × List ℕ → Bool
differ s t = not (eqb s.0 t.0) && not (bytes_eq s.1 t.1)

pub untrue : (b : Bool) → not b ≡ true → b ≡ true → ⊥
untrue true h e = absurd (let q : false ≡ true = h in cc)
untrue false h e = absurd (let q : false ≡ true = e in cc)

pub apart : (s t : ℕ × List ℕ) (d : Datum) → differ s t ≡ true → IsDescriptor s d → IsDescriptor t d → ⊥
apart s t d h (inl e) (inl f) = let n : s.0 ≡ t.0 = cc in untrue (eqb s.0 t.0) (and_left (not (eqb s.0 t.0)) (not (bytes_eq s.1 t.1)) h) (eq-eqb s.0 t.0 n)
apart s t d h (inl e) (inr f) = let q : number Kind.Ulong s.0 ≡ octets Run.Symbol t.1 = cc in absurd cc
apart s t d h (inr e) (inl f) = let q : octets Run.Symbol s.1 ≡ number Kind.Ulong t.0 = cc in absurd cc
apart s t d h (inr e) (inr f) = let n : s.1 ≡ t.1 = cc in untrue (bytes_eq s.1 t.1) (and_right (not (eqb s.0 t.0)) (not (bytes_eq s.1 t.1)) h) ((bytes_eq-Decides s.1 t.1).1 n)

descriptor_true : (type : ℕ × List ℕ) (d : Datum) → is_descriptor type d ≡ true → IsDescriptor type d
descriptor_true type (number Kind.Ulong n) h = inl (ap (number Kind.Ulong) (eqb-true n type.0 h))
descriptor_true type (number _ n) h = absurd cc
descriptor_true type (octets Run.Symbol name) h = inr (ap (octets Run.Symbol) ((bytes_eq-Decides name type.1).0 h))
descriptor_true type (octets _ name) h = absurd cc
descriptor_true type (list ds) h = absurd cc
descriptor_true type (map ds) h = absurd cc
descriptor_true type (array c ds) h = absurd cc
descriptor_true type (described d v) h = absurd cc

false_of : (b : Bool) → (b ≡ true → ⊥) → b ≡ false
false_of true h = absurd (h refl)
false_of false h = refl

pub not_descriptor : (type : ℕ × List ℕ) (d : Datum) → (IsDescriptor type d → ⊥) → is_descriptor type d ≡ false
not_descriptor type d no_such = false_of (is_descriptor type d) (λ e. no_such (descriptor_true type d e))
