-- The values that fields are written as.
use Rattle.std.proofs.Common.{◌≡◌, ℕ, ◌+◌, ◌<◌, inl, List, [], ◌∷◌, ◌++◌, length, get_or, drop, reverse, refl, sym, ap, ◌∙◌, add-one, drop-cons}
use Rattle.std.proofs.lemmas.List.{length-reverse, reverse-append, nil_from_length}
use Rattle.amqp_types.specs.declared.class.Kind.TheVariants as Kind
use Rattle.amqp_types.specs.declared.value.Value.{Value}
use Rattle.amqp_types.specs.declared.value.Value.TheVariants as W
use Rattle.amqp_types.specs.declared.value.Value.TheOpen.{Value-F}
use Rattle.amqp_types.specs.declared.value.Value.TheFolds.{fold-roll-Value}
use Rattle.amqp_types.specs.declared.value.Value.TheViews as V
use Rattle.amqp_types.specs.Datum.{Datum, number, list, described, Data, none, item}
use Rattle.amqp_types.specs.View.{view_step, view, views}
use Rattle.amqp_types.proofs.Views.{view_list}
use Rattle.amqp_performatives.specs.Part.{Part, Fields, absent, value, composite, no_field, field, Fits, FitInOrder, shown, canonical, canonical_fields}
use Rattle.amqp_messages.specs.declared.lent.Lent.{Lent}
use Rattle.amqp_messages.specs.Lending.{part_of, fields_at}

pub left_off : (p : Part) (xs seen : List Value) → seen ≡ xs → (seen ≡ []) × (p ≡ absent) → views (reverse xs) ≡ shown p (canonical p) (views (reverse xs))
left_off p xs seen e h =
    let none_there : xs ≡ [] = sym e ∙ h.0 in
    rw (none_there, h.1) refl

nothing_reversed : (xs : List Value) → reverse xs ≡ [] → xs ≡ []
nothing_reversed xs e = nil_from_length xs (sym (length-reverse xs) ∙ ap length e)

shown_there : (p : Part) (d : Datum) (ws : List Value) → (ws ≡ [] → p ≡ absent → ⊥) → shown p d (views ws) ≡ item d (views ws)
shown_there absent d [] h = absurd (h refl refl)
shown_there absent d (w ∷ ws) h = refl
shown_there (value v) d ws h = refl
shown_there (composite type fs) d ws h = refl

pub put_there : (p : Part) (xs seen new : List Value) (v : Value) → seen ≡ xs → ((seen ≡ []) × (p ≡ absent) → ⊥) → view v ≡ canonical p → new ≡ xs ++ v ∷ [] → views (reverse new) ≡ shown p (canonical p) (views (reverse xs))
put_there p xs seen new v e h is made =
    let turned : reverse new ≡ v ∷ reverse xs = ap reverse made ∙ reverse-append xs (v ∷ []) in
    ap views turned ∙ ap (λ (d : Datum). item d (views (reverse xs))) is ∙ sym (shown_there p (canonical p) (reverse xs) (λ a b. h (e ∙ nothing_reversed xs a, b)))

fields-drop : (fs : List Lent) (i : ℕ) (f : Lent) → i < length fs → f ≡ get_or fs i f → canonical_fields (fields_at (drop i fs)) ≡ shown (part_of f) (canonical (part_of f)) (canonical_fields (fields_at (drop (i + 1) fs)))
fields-drop fs i f h e = rw (add-one, drop-cons fs i f h, ← e) refl

pub field_before : (fs : List Lent) (i j : ℕ) (f : Lent) → j ≡ i + 1 → i < length fs → f ≡ get_or fs i f → (ds : Data) → ds ≡ canonical_fields (fields_at (drop j fs)) → shown (part_of f) (canonical (part_of f)) ds ≡ canonical_fields (fields_at (drop i fs))
field_before fs i j f next h e ds was = ap (shown (part_of f) (canonical (part_of f))) (was ∙ ap (λ (k : ℕ). canonical_fields (fields_at (drop k fs))) next) ∙ sym (fields-drop fs i f h e)

-- ---- values that are made

view_described : (d v : Value) → view (W.Described d v) ≡ described (view d) (view v)
unfolding V.roll-Value denote.Hole.Carrier.roll
view_described d v = fold-roll-Value Datum view_step (Value-F.Described d v)

view_ulong : (n : ℕ) → view (W.Ulong n) ≡ number Kind.Ulong n
unfolding V.roll-Value denote.Hole.Carrier.roll
view_ulong n = fold-roll-Value Datum view_step (Value-F.Ulong n)

pub described_is : (d b : Value) (n : ℕ) (vs : List Value) → d ≡ W.Ulong n → b ≡ W.List vs → view (W.Described d b) ≡ described (number Kind.Ulong n) (list (views vs))
described_is d b n vs e f =
    let items : view (W.List vs) ≡ list (views vs) = rw view_list refl in
    view_described d b ∙ ap (λ (x : Datum). described x (view b)) (ap view e ∙ view_ulong n) ∙ ap (described (number Kind.Ulong n)) (ap view f ∙ items)

-- ---- what is written of fields fits them

shown_fits : (p : Part) (d : Datum) (fs : Fields) (ds : Data) → Fits p d → FitInOrder fs ds → FitInOrder (field p fs) (shown p d ds)
shown_fits absent d fs none f h = (refl, h)
shown_fits absent d fs (item e ds) f h = (f, h)
shown_fits (value w) d fs ds f h = (f, h)
shown_fits (composite type gs) d fs ds f h = (f, h)

mutual
  canonical_fits : (p : Part) → Fits p (canonical p)
  canonical_fits absent = refl
  canonical_fits (value w) = refl
  canonical_fits (composite type fs) = (number Kind.Ulong type.0, canonical_fields fs, inl refl, canonical_fit fs, refl)

  pub canonical_fit : (fs : Fields) → FitInOrder fs (canonical_fields fs)
  canonical_fit no_field = tt
  canonical_fit (field p fs) = shown_fits p (canonical p) fs (canonical_fields fs) (canonical_fits p) (canonical_fit fs)
