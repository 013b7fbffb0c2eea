-- Fields one after the other: which are written, and how many octets they take.
use Rattle.std.proofs.Common.{◌≡◌, ◌≢◌, ℕ, ◌+◌, ◌-◌, ◌^◌, ◌≤◌, append_assoc, true, leb, min, List, [], ◌++◌, length, drop, Option, Some, None, refl, sym, ap, ◌∙◌, arith}
use Rattle.std.proofs.lemmas.Bool.{le-leb}
use Rattle.std.proofs.lemmas.List.{append-nil}
use Rattle.amqp_types.specs.Datum.{Datum, octets, Data, none, item, count_of, depth_of}
use Rattle.amqp_types.specs.Reading.{◌>>=◌}
use Rattle.amqp_types.specs.Canon.{part_form, parts_form, capped}
use Rattle.amqp_performatives.specs.declared.field.Field.{Field}
use Rattle.amqp_performatives.specs.Part.{canonical}
use Rattle.amqp_performatives.proofs.Shown.{IsNext, none_counted}
use Rattle.amqp_frames.specs.Field.{form_within, forms_within, measured, added}
use Rattle.amqp_performatives.specs.Listed.{part_at, shown_fields}

-- ---- depth

pub leaf_within : (depth : ℕ) (d : Datum) → depth_of d ≡ 1 → depth ≢ 0 → form_within depth d ≡ part_form None d
leaf_within depth d one ne = let e : leb (depth_of d) depth ≡ true = le-leb _ _ (omega (arith, one, ne)) in rw e refl

-- ---- their spellings

-- ---- sizes, which are told up to 2 ^ 64 - 1

-- so many octets, and what is behind them
abbrev pub capped_behind : ℕ → Option (List ℕ) → Option ℕ
capped_behind n form = form >>= λ x. Some (min (n + length x) (2 ^ 64 - 1))

measured_as : (count size : ℕ) (form : Option (List ℕ)) → Some size ≡ capped form → Some (count, size) ≡ measured count form
measured_as count size (Some x) e = let m : size ≡ min (length x) (2 ^ 64 - 1) = cc in rw m refl
measured_as count size None e = absurd cc

-- past the last field
pub size_whole : (depth : ℕ) (fs : List Field) (i size : ℕ) → size ≤ 2 ^ 64 - 1 → count_of (shown_fields (drop i fs)) ≡ 0
    → capped_behind size (forms_within depth (shown_fields (drop i fs))) ≡ capped (forms_within depth (shown_fields fs)) → Some (count_of (shown_fields fs), size) ≡ measured (count_of (shown_fields fs)) (forms_within depth (shown_fields fs))
size_whole depth fs i size le counted so_far =
    let end : shown_fields (drop i fs) ≡ none = none_counted (shown_fields (drop i fs)) counted in
    let shallow : leb 0 depth ≡ true = le-leb 0 depth (omega arith) in
    let done : forms_within depth none ≡ Some [] = rw shallow refl in
    let all : capped_behind size (forms_within depth (shown_fields (drop i fs))) ≡ Some size =
    ap (λ (ds : Data). capped_behind size (forms_within depth ds)) end ∙ ap (capped_behind size) done ∙ ap (λ (k : ℕ). let o : Option ℕ = Some k in o) (omega (arith, le)) in
    measured_as (count_of (shown_fields fs)) size (forms_within depth (shown_fields fs)) (sym all ∙ so_far)

-- ---- the octets

regroup : (out a : List ℕ) (form : Option (List ℕ)) → added out (form >>= λ x. Some (a ++ x)) ≡ added (out ++ a) form
regroup out a (Some x) = simp append_assoc
regroup out a None = refl

added_is : (out new : List ℕ) (a : Option (List ℕ)) → added out a ≡ Some new → (x : List ℕ) × (a ≡ Some x) × (new ≡ out ++ x)
added_is out new (Some x) e = (x, refl, let q : out ++ x ≡ new = cc in sym q)
added_is out new None e = absurd cc

put_over : (out a new : List ℕ) (v : Datum) (vs : Data) → part_form None v ≡ Some a → new ≡ out ++ a → added new (parts_form vs None) ≡ added out (parts_form (item v vs) None)
put_over out a new v vs e s = rw (s, e) (sym (regroup out a (parts_form vs None)))

-- one more field
pub put_step : (fs : List Field) (i n : ℕ) (f : Field) (out new : List ℕ) (total : Option (List ℕ)) → IsNext fs i n f → added out (part_form None (canonical (part_at f))) ≡ Some new
    → added out (parts_form (shown_fields (drop i fs)) None) ≡ total → added new (parts_form (shown_fields (drop (i + 1) fs)) None) ≡ total
put_step fs i n f out new total h e so_far =
    let x = added_is out new (part_form None (canonical (part_at f))) e in
    put_over out x.0 new (canonical (part_at f)) (shown_fields (drop (i + 1) fs)) x.1 x.2 ∙ sym (ap (λ (ds : Data). added out (parts_form ds None)) h.parts) ∙ so_far

-- past the last field
pub put_whole : (fs : List Field) (i : ℕ) (start out : List ℕ) → count_of (shown_fields (drop i fs)) ≡ 0 → added out (parts_form (shown_fields (drop i fs)) None) ≡ added start (parts_form (shown_fields fs) None) → added start (parts_form (shown_fields fs) None) ≡ Some out
put_whole fs i start out counted so_far =
    let end : shown_fields (drop i fs) ≡ none = none_counted (shown_fields (drop i fs)) counted in
    sym so_far ∙ ap (λ (ds : Data). added out (parts_form ds None)) end ∙ ap (λ (y : List ℕ). let o : Option (List ℕ) = Some y in o) (append-nil out)
