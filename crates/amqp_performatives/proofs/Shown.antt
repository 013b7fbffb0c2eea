-- The fields that are written of a list of them.
use Rattle.std.proofs.Common.{◌≡◌, ℕ, suc, ◌+◌, ◌<◌, ◌≤◌, zero, Bool, true, false, ltb, List, [], ◌∷◌, length, get_or, drop, refl, sym, ap, ◌∙◌, arith, add-one, drop-cons}
use Rattle.std.proofs.lemmas.Bool.{ltb-true, ltb-false}
use Rattle.std.proofs.lemmas.List.{drop_all}
use Rattle.amqp_types.specs.Datum.{Datum, Data, none, item, count_of}
use Rattle.amqp_performatives.specs.declared.field.Field.{Field}
use Rattle.amqp_performatives.specs.Part.{Part, absent, value, composite, shown, canonical}
use Rattle.amqp_performatives.specs.Listed.{part_at, is_absent, shown_fields}

-- ---- the fields that are written

shown_item : (p : Part) (d : Datum) (ds : Data) (n : ℕ) → count_of (shown p d ds) ≡ suc n → shown p d ds ≡ item d ds
shown_item absent d none n e = absurd (omega (arith, e))
shown_item absent d (item x ds) n e = refl
shown_item (value w) d ds n e = refl
shown_item (composite type fs) d ds n e = refl

pub shown_before : (p : Part) (d : Datum) (ds : Data) (n : ℕ) → count_of ds ≡ suc n → shown p d ds ≡ item d ds
shown_before p d none n e = absurd (omega (arith, e))
shown_before absent d (item x ds) n e = refl
shown_before (value w) d (item x ds) n e = refl
shown_before (composite type fs) d (item x ds) n e = refl

pub fields-drop : (fs : List Field) (i : ℕ) (f : Field) → i < length fs → f ≡ get_or fs i f → shown_fields (drop i fs) ≡ shown (part_at f) (canonical (part_at f)) (shown_fields (drop (i + 1) fs))
fields-drop fs i f h e = rw (add-one, drop-cons fs i f h, ← e) refl

pub no_fields : (fs : List Field) (i : ℕ) → length fs ≤ i → shown_fields (drop i fs) ≡ none
no_fields fs i h = ap shown_fields (drop_all i fs h)

pub none_counted : (ds : Data) → count_of ds ≡ 0 → ds ≡ none
none_counted none e = refl
none_counted (item d ds) e = absurd (omega (arith, e))

-- a field that is written, and those behind it
pub record IsNext (fs : List Field) (i n : ℕ) (f : Field) : Type 0 where
  pub parts : shown_fields (drop i fs) ≡ item (canonical (part_at f)) (shown_fields (drop (i + 1) fs))
  pub left : count_of (shown_fields (drop (i + 1) fs)) ≡ n

pub next_field : (fs : List Field) (i n : ℕ) (f : Field) → i < length fs → f ≡ get_or fs i f → count_of (shown_fields (drop i fs)) ≡ suc n → IsNext fs i n f
next_field fs i n f h e counted =
    let s = fields-drop fs i f h e in
    let one : shown_fields (drop i fs) ≡ item (canonical (part_at f)) (shown_fields (drop (i + 1) fs)) =
    s ∙ shown_item (part_at f) (canonical (part_at f)) (shown_fields (drop (i + 1) fs)) n (sym (ap count_of s) ∙ counted) in
    record {
      parts = one;
      left = omega (arith, ap count_of one, counted);
    }

-- a last present field, and the fields before it
pub counted_from : (fs : List Field) (i n : ℕ) → count_of (shown_fields (drop i fs)) ≡ suc n → count_of (shown_fields fs) ≡ i + suc n
counted_from fs zero n e = e ∙ omega arith
counted_from [] (suc i) n e = absurd (omega (arith, e))
counted_from (f ∷ fs) (suc i) n e =
    let rest = counted_from fs i n e in
    ap count_of (shown_before (part_at f) (canonical (part_at f)) (shown_fields fs) (i + n) (rest ∙ omega arith)) ∙ omega (arith, rest)

-- ---- the last that is present

shown_present : (p : Part) (d : Datum) → is_absent p ≡ false → count_of (shown p d none) ≡ 1
shown_present absent d e = absurd cc
shown_present (value w) d e = refl
shown_present (composite type fs) d e = refl

pub last_field : (fs : List Field) (i j : ℕ) (f : Field) → j ≡ i + 1 → i < length fs → f ≡ get_or fs i f → is_absent (part_at f) ≡ false → shown_fields (drop j fs) ≡ none → count_of (shown_fields fs) ≡ i + 1
last_field fs i j f next h e present end =
    let behind : shown_fields (drop (i + 1) fs) ≡ none = ap (λ (k : ℕ). shown_fields (drop k fs)) (sym next) ∙ end in
    let one : count_of (shown_fields (drop i fs)) ≡ 1 =
    ap count_of (fields-drop fs i f h e ∙ ap (shown (part_at f) (canonical (part_at f))) behind) ∙ shown_present (part_at f) (canonical (part_at f)) present in
    counted_from fs i 0 one

index_by : (fs : List Field) (i n : ℕ) (b : Bool) → ltb i (length fs) ≡ b → count_of (shown_fields (drop i fs)) ≡ suc n → i < length fs
index_by fs i n true e counted = ltb-true _ _ e
index_by fs i n false e counted = absurd (omega (arith, ap count_of (no_fields fs i (ltb-false _ _ e)), counted))

pub index_inside : (fs : List Field) (i n : ℕ) → count_of (shown_fields (drop i fs)) ≡ suc n → i < length fs
index_inside fs i n counted = index_by fs i n (ltb i (length fs)) refl counted
