-- No delivery is named as ended twice.
use Rattle.std.proofs.Common.{◌≡◌, ◌<◌, ◌≤◌, ℕ, ◌^◌, ◌||◌, not, eqb, Bool, true, false, cond, List, [], ◌∷◌, ◌++◌, map, filter, refl, sym, ap, arith, AllPairs}
use Rattle.std.specs.List.{AllByRecursion}
use Rattle.std.proofs.lemmas.Bool.{eqb-false, ne_eqb, or_parts, or_from, not-true}
use Rattle.std.proofs.lemmas.List.Folds.{list_any-append}
use Rattle.amqp_flow.specs.Serial.{distance}
use Rattle.amqp_events.specs.Event.{Item, Event, Begins}
use Rattle.amqp_events.specs.Unsettled.{begins, ends, held, said_to, added}
use Rattle.amqp_events.specs.Numbers.{expected}
use Rattle.amqp_events.proofs.Used.{uses, used}
use Rattle.amqp_events.specs.Named.{has_id, ended_by, named}
use Rattle.amqp_events.proofs.Numbered.{AreNumbered}
use Rattle.amqp_events.proofs.UnsettledLaw.{held-step}
use Rattle.amqp_events.proofs.Lists.{all-append, all-map, all-weaker, all-filter, all-pass, all-both, Pairs, pairs-append, pairs-map, pairs-filter, pairs-rising, pairs-all}
use Rattle.amqp_events.proofs.Order.{InOrder, far_item, held-order, some-more, far-counted}

-- # An id among the unsettled

pub has-map : (e : Event) (items : List Item) (id : ℕ) → has_id (map (said_to e) items) id ≡ has_id items id
has-map e [] id = refl
has-map e (i ∷ items) id = ap (λ b. eqb i.id id || b) (has-map e items id)

-- what is not among all is not among those that are kept
has-not_kept : (test : Item → Bool) (items : List Item) (id : ℕ) → has_id items id ≡ false → has_id (filter test items) id ≡ false
has-not_kept test [] id h = refl
has-not_kept test (i ∷ items) id h =
    let p = or_parts (eqb i.id id) (has_id items id) h in
    by_test (test i) p.0 (has-not_kept test items id p.1)
  where
    by_test : (b : Bool) → eqb i.id id ≡ false → has_id (filter test items) id ≡ false → has_id (cond b (i ∷ filter test items) (filter test items)) id ≡ false
    by_test true one rest = or_from (eqb i.id id) (has_id (filter test items) id) one rest
    by_test false one rest = rest

has-not_each : (items : List Item) (id : ℕ) → has_id items id ≡ false → AllByRecursion (λ i. id ≡ i.id → ⊥) items
has-not_each [] id h = tt
has-not_each (i ∷ items) id h =
    let p = or_parts (eqb i.id id) (has_id items id) h in
    ((λ same. eqb-false i.id id p.0 (sym same)), has-not_each items id p.1)

-- an id that is less far than the next is not that of a delivery that begins
pub has-not_added : (first : ℕ) (e : Event) (before : List Event) (id : ℕ) → AreNumbered first (e ∷ before) → used before < 2 ^ 32 → distance first id < used before
    → has_id (added (begins e)) id ≡ false
has-not_added first (Begins item true) before id h few near =
    let here : distance first item.id ≡ used before = far-counted first (used before) item.id h.1 few in
    or_from (eqb item.id id) false (ne_eqb item.id id (λ same. let k : distance first item.id < used before = rw same near in omega (arith, k, here))) refl
has-not_added first (Begins item false) before id h few near = refl
has-not_added first _ before id h few near = refl

-- # What was named

pub record Named (first : ℕ) (past : List Event) (ids : List ℕ) : Type 0 where
  pub below : AllByRecursion (λ id. distance first id < used past) ids
  pub gone : AllByRecursion (λ id. has_id (held past) id ≡ false) ids
  pub apart : Pairs (λ i j. i ≡ j → ⊥) ids

still-gone : (first : ℕ) (e : Event) (before : List Event) (id : ℕ) → AreNumbered first (e ∷ before) → used before < 2 ^ 32
    → distance first id < used before → has_id (held before) id ≡ false → has_id (held (e ∷ before)) id ≡ false
still-gone first e before id h few near out =
    rw (held-step e before, list_any-append (λ i. eqb i.id id) (map (said_to e) (filter (λ i. not (ends e i)) (held before))) (added (begins e)), has-map e (filter (λ i. not (ends e i)) (held before)) id)
    (or_from (has_id (filter (λ i. not (ends e i)) (held before)) id) (has_id (added (begins e)) id) (has-not_kept (λ i. not (ends e i)) (held before) id out) (has-not_added first e before id h few near))

named-one : (first : ℕ) (e : Event) (before : List Event) → AreNumbered first (e ∷ before) → used (e ∷ before) < 2 ^ 32 → used before ≤ used (e ∷ before)
    → InOrder (far_item first) (used before) (held before)
    → Named first before (named before) → Named first (e ∷ before) (named before ++ ended_by e before)
named-one first e before h few more' o n =
    let few' : used before < 2 ^ 32 = omega (arith, few, more') in
    let after = held (e ∷ before) in
    let test : Item → Bool = λ i. not (has_id after i.id) in
    let P : ℕ → Type 0 = λ id. distance first id < used (e ∷ before) in
    let Q : ℕ → Type 0 = λ id. has_id after id ≡ false in
    let R : ℕ → ℕ → Type 0 = λ i j. i ≡ j → ⊥ in
    let RI : Item → Item → Type 0 = λ i j. i.id ≡ j.id → ⊥ in
    let both = all-both (λ id. distance first id < used before) (λ id. has_id (held before) id ≡ false) (named before) n.below n.gone in
    let each_apart = pairs-rising RI (far_item first) (used before) (λ i j k l same. let m : distance first j.id < distance first j.id = rw same at k in omega (arith, m)) (held before) o.below o.rising in
    record {
      below =
          all-append P (named before) (ended_by e before)
          (all-weaker (λ id. distance first id < used before) P (named before) (λ id k. omega (arith, k, more')) n.below)
          (all-map P (λ i. i.id) (filter test (held before)) (all-filter (λ i. P i.id) test (held before) (all-weaker (λ i. far_item first i < used before) (λ i. P i.id) (held before) (λ i k. omega (arith, k, more')) o.below)));
      gone =
          all-append Q (named before) (ended_by e before)
          (all-weaker (λ id. (distance first id < used before) × (has_id (held before) id ≡ false)) Q (named before) (λ id k. still-gone first e before id h few' k.0 k.1) both)
          (all-map Q (λ i. i.id) (filter test (held before)) (all-weaker (λ i. test i ≡ true) (λ i. Q i.id) (filter test (held before)) (λ i k. not-true (has_id after i.id) k) (all-pass test (held before))));
      apart =
          pairs-append R (named before) (ended_by e before) n.apart
          (pairs-map R (λ i. i.id) (filter test (held before)) (pairs-filter RI test (held before) each_apart))
          (all-weaker (λ id. has_id (held before) id ≡ false) (λ id. AllByRecursion (R id) (ended_by e before)) (named before) (λ id k. all-map (R id) (λ i. i.id) (filter test (held before)) (all-filter (λ i. R id i.id) test (held before) (has-not_each (held before) id k))) n.gone);
    }

pub named-all : (first : ℕ) (past : List Event) → AreNumbered first past → used past < 2 ^ 32 → Named first past (named past)
named-all first [] h few = record { below = tt; gone = tt; apart = tt }
named-all first (e ∷ before) h few =
    let more' : used before ≤ used (e ∷ before) = some-more (uses e (expected before)) (used before) in
    let few' : used before ≤ 2 ^ 32 = omega (arith, few, more') in
    named-one first e before h few more' (held-order first before h.0 few') (named-all first before h.0 (omega (arith, few, more')))

-- no id is named twice
pub never-twice : (first : ℕ) (past : List Event) → AreNumbered first past → used past < 2 ^ 32 → AllPairs (λ i j. i ≡ j → ⊥) (named past)
never-twice first past h few = pairs-all (λ i j. i ≡ j → ⊥) (named past) (named-all first past h few).apart
