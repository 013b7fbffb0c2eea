-- The unsettled deliveries are those that began unsettled, less those that were named as ended.
use Rattle.std.proofs.Common.{◌≡◌, ◌<◌, ◌≤◌, ℕ, ◌^◌, ◌||◌, not, eqb, Bool, true, false, cond, Option, Some, None, List, [], ◌∷◌, ◌++◌, map, filter, length, refl, sym, ap, ◌∙◌, arith}
use Rattle.std.specs.List.{AllByRecursion}
use Rattle.std.proofs.lemmas.Bool.{eqb-false, eq-eqb, ne_eqb, or_parts, or_from}
use Rattle.std.proofs.lemmas.List.Folds.{list_any-append}
use Rattle.amqp_flow.specs.Serial.{distance}
use Rattle.amqp_events.specs.Event.{Item, Event}
use Rattle.amqp_events.specs.Since.{with_one, now}
use Rattle.amqp_events.specs.Unsettled.{begins, begun, ends, held, is_held, shown, said_to, added}
use Rattle.amqp_events.specs.Numbers.{expected}
use Rattle.amqp_events.proofs.Used.{uses, used}
use Rattle.amqp_events.specs.Numbers.{AreSentInOrder, AreHeardInOrder}
use Rattle.amqp_events.specs.Named.{has_id, ids_of, ids_begun, is_among, less, ended_by, named}
use Rattle.amqp_events.proofs.Numbered.{AreNumbered, sent-numbered, heard-numbered, used-few}
use Rattle.amqp_events.proofs.UnsettledLaw.{held-step, kept-later}
use Rattle.amqp_events.proofs.Lists.{all-append, all-map, all-weaker, all-both, Pairs, pairs-rising}
use Rattle.amqp_events.proofs.Order.{far_item, held-order, some-more}
use Rattle.amqp_events.proofs.Settled.{named-all, has-map, has-not_added}

-- # What is left out is not found by its id

none-left : (x : Item) (test : Item → Bool) (items : List Item) → AllByRecursion (λ j. x.id ≡ j.id → ⊥) items → has_id (filter test items) x.id ≡ false
none-left x test [] all = refl
none-left x test (i ∷ items) all = by_test (test i) (none-left x test items all.1)
  where
    by_test : (b : Bool) → has_id (filter test items) x.id ≡ false → has_id (cond b (i ∷ filter test items) (filter test items)) x.id ≡ false
    by_test true rest = or_from (eqb i.id x.id) (has_id (filter test items) x.id) (ne_eqb i.id x.id (λ same. all.0 (sym same))) rest
    by_test false rest = rest

left-out : (test : Item → Bool) (items : List Item) → Pairs (λ i j. i.id ≡ j.id → ⊥) items
    → AllByRecursion (λ i. test i ≡ false → has_id (filter test items) i.id ≡ false) items
left-out test [] apart = tt
left-out test (x ∷ xs) apart = (first (test x) refl, all-weaker _ (λ i. test i ≡ false → has_id (cond (test x) (x ∷ filter test xs) (filter test xs)) i.id ≡ false) xs later (all-both (λ i. x.id ≡ i.id → ⊥) (λ i. test i ≡ false → has_id (filter test xs) i.id ≡ false) xs apart.0 (left-out test xs apart.1)))
  where
    first : (b : Bool) → test x ≡ b → b ≡ false → has_id (cond b (x ∷ filter test xs) (filter test xs)) x.id ≡ false
    first true t h = absurd (cc h)
    first false t h = none-left x test xs apart.0

    later : (i : Item) → (x.id ≡ i.id → ⊥) × (test i ≡ false → has_id (filter test xs) i.id ≡ false) → test i ≡ false → has_id (cond (test x) (x ∷ filter test xs) (filter test xs)) i.id ≡ false
    later i p h = by_test (test x) (p.1 h)
      where
        by_test : (b : Bool) → has_id (filter test xs) i.id ≡ false → has_id (cond b (x ∷ filter test xs) (filter test xs)) i.id ≡ false
        by_test true rest = or_from (eqb x.id i.id) (has_id (filter test xs) i.id) (ne_eqb x.id i.id p.0) rest
        by_test false rest = rest

-- what passes is found by its id
or-later : (a b : Bool) → b ≡ true → a || b ≡ true
or-later true b h = refl
or-later false b h = h

or-first : (a b : Bool) → a ≡ true → a || b ≡ true
or-first true b h = refl
or-first false b h = absurd (cc)

passed : (test : Item → Bool) (items : List Item) → AllByRecursion (λ i. test i ≡ true → is_among (ids_of (filter test items)) i.id ≡ true) items
passed test [] = tt
passed test (x ∷ xs) = (first (test x) refl, all-weaker (λ i. test i ≡ true → is_among (ids_of (filter test xs)) i.id ≡ true) (λ i. test i ≡ true → is_among (ids_of (cond (test x) (x ∷ filter test xs) (filter test xs))) i.id ≡ true) xs later (passed test xs))
  where
    first : (b : Bool) → test x ≡ b → b ≡ true → is_among (ids_of (cond b (x ∷ filter test xs) (filter test xs))) x.id ≡ true
    first true t h = or-first (eqb x.id x.id) (is_among (ids_of (filter test xs)) x.id) (eq-eqb x.id x.id refl)
    first false t h = absurd (cc h)

    later : (i : Item) → (test i ≡ true → is_among (ids_of (filter test xs)) i.id ≡ true) → test i ≡ true → is_among (ids_of (cond (test x) (x ∷ filter test xs) (filter test xs))) i.id ≡ true
    later i p h = by_test (test x) (p h)
      where
        by_test : (b : Bool) → is_among (ids_of (filter test xs)) i.id ≡ true → is_among (ids_of (cond b (x ∷ filter test xs) (filter test xs))) i.id ≡ true
        by_test true rest = or-later (eqb x.id i.id) (is_among (ids_of (filter test xs)) i.id) rest
        by_test false rest = rest

-- # What an event ends is named

ended-gone : (first : ℕ) (e : Event) (before : List Event) → AreNumbered first (e ∷ before) → used before < 2 ^ 32
    → AllByRecursion (λ i. ends e i ≡ true → has_id (held (e ∷ before)) i.id ≡ false) (held before)
ended-gone first e before h few =
    let items = held before in
    let o = held-order first before h.0 (omega (arith, few)) in
    let RI : Item → Item → Type 0 = λ i j. i.id ≡ j.id → ⊥ in
    let apart = pairs-rising RI (far_item first) (used before) (λ i j k l same. let m : distance first j.id < distance first j.id = rw same at k in omega (arith, m)) items o.below o.rising in
    let test : Item → Bool = λ i. not (ends e i) in
    all-weaker (λ i. (far_item first i < used before) × (test i ≡ false → has_id (filter test items) i.id ≡ false)) (λ i. ends e i ≡ true → has_id (held (e ∷ before)) i.id ≡ false) items
    (λ i p ended.
    let out : test i ≡ false = rw ended refl in
    rw (held-step e before, list_any-append (λ j. eqb j.id i.id) (map (said_to e) (filter test items)) (added (begins e)), has-map e (filter test items) i.id)
    (or_from (has_id (filter test items) i.id) (has_id (added (begins e)) i.id) (p.1 out) (has-not_added first e before i.id h few p.0)))
    (all-both (λ i. far_item first i < used before) (λ i. test i ≡ false → has_id (filter test items) i.id ≡ false) items o.below (left-out test items apart))

ended-named : (first : ℕ) (e : Event) (before : List Event) → AreNumbered first (e ∷ before) → used before < 2 ^ 32
    → AllByRecursion (λ i. ends e i ≡ true → is_among (ended_by e before) i.id ≡ true) (held before)
ended-named first e before h few =
    let items = held before in
    let after = held (e ∷ before) in
    let test : Item → Bool = λ i. not (has_id after i.id) in
    all-weaker (λ i. (ends e i ≡ true → has_id after i.id ≡ false) × (test i ≡ true → is_among (ended_by e before) i.id ≡ true)) (λ i. ends e i ≡ true → is_among (ended_by e before) i.id ≡ true) items
    (λ i p ended. let gone : has_id after i.id ≡ false = p.0 ended in let out : test i ≡ true = rw gone refl in p.1 out)
    (all-both (λ i. ends e i ≡ true → has_id after i.id ≡ false) (λ i. test i ≡ true → is_among (ended_by e before) i.id ≡ true) items (ended-gone first e before h few) (passed test items))

-- # Of the deliveries that began

-- what holds of those that are held, as they are shown
of-held : (Q : Item → Type 0) (ds : List (Item × List Event)) → AllByRecursion Q (map shown (filter is_held ds)) → AllByRecursion (λ d. is_held d ≡ true → Q (shown d)) ds
of-held Q [] all = tt
of-held Q (d ∷ ds) all = by_held (is_held d) refl all (of-held Q ds)
  where
    by_held : (b : Bool) → is_held d ≡ b → AllByRecursion Q (map shown (cond b (d ∷ filter is_held ds) (filter is_held ds)))
        → (AllByRecursion Q (map shown (filter is_held ds)) → AllByRecursion (λ d. is_held d ≡ true → Q (shown d)) ds)
        → (is_held d ≡ true → Q (shown d)) × AllByRecursion (λ d. is_held d ≡ true → Q (shown d)) ds
    by_held true h all rest = ((λ k. all.0), rest all.1)
    by_held false h all rest = ((λ k. absurd (cc (h, k))), rest all)

among-append : (xs ys : List ℕ) (id : ℕ) → is_among (xs ++ ys) id ≡ (is_among xs id || is_among ys id)
among-append xs ys id = list_any-append (λ j. eqb j id) xs ys

one-ended : (e : Event) (before : List Event) (d : Item × List Event)
    → (is_held d ≡ false → is_among (named before) d.0.id ≡ true) × (is_held d ≡ true → ends e (shown d) ≡ true → is_among (ended_by e before) d.0.id ≡ true)
    → is_held (with_one e d) ≡ false → is_among (named before ++ ended_by e before) d.0.id ≡ true
one-ended e before d p h = rw (among-append (named before) (ended_by e before) d.0.id) (by_held (is_held d) refl)
  where
    by_ends : (b : Bool) → ends e (shown d) ≡ b → is_held d ≡ true → is_among (named before) d.0.id || is_among (ended_by e before) d.0.id ≡ true
    by_ends true t k = or-later (is_among (named before) d.0.id) (is_among (ended_by e before) d.0.id) (p.1 k t)
    by_ends false t k = let still : is_held (with_one e d) ≡ true = kept-later e d ∙ rw (k, t) refl in absurd (cc (still, h))

    by_held : (b : Bool) → is_held d ≡ b → is_among (named before) d.0.id || is_among (ended_by e before) d.0.id ≡ true
    by_held true k = by_ends (ends e (shown d)) refl k
    by_held false k = or-first (is_among (named before) d.0.id) (is_among (ended_by e before) d.0.id) (p.0 k)

new-held : (o : Option Item) (names : List ℕ) → AllByRecursion (λ d. is_held d ≡ false → is_among names d.0.id ≡ true) (now o)
new-held None names = tt
new-held (Some i) names = ((λ h. absurd (cc h)), tt)

-- each that is ended was named
all-named : (first : ℕ) (past : List Event) → AreNumbered first past → used past < 2 ^ 32 → AllByRecursion (λ d. is_held d ≡ false → is_among (named past) d.0.id ≡ true) (begun past)
all-named first [] h few = tt
all-named first (e ∷ before) h few =
    let more' : used before ≤ used (e ∷ before) = some-more (uses e (expected before)) (used before) in
    let few' : used before < 2 ^ 32 = omega (arith, few, more') in
    let P : Item × List Event → Type 0 = λ d. is_held d ≡ false → is_among (named before ++ ended_by e before) d.0.id ≡ true in
    all-append P (map (with_one e) (begun before)) (now (begins e))
    (all-map P (with_one e) (begun before)
    (all-weaker (λ d. (is_held d ≡ false → is_among (named before) d.0.id ≡ true) × (is_held d ≡ true → ends e (shown d) ≡ true → is_among (ended_by e before) d.0.id ≡ true)) (λ d. P (with_one e d)) (begun before) (one-ended e before)
    (all-both (λ d. is_held d ≡ false → is_among (named before) d.0.id ≡ true) (λ d. is_held d ≡ true → ends e (shown d) ≡ true → is_among (ended_by e before) d.0.id ≡ true) (begun before)
    (all-named first before h.0 few')
    (of-held (λ i. ends e i ≡ true → is_among (ended_by e before) i.id ≡ true) (begun before) (ended-named first e before h few')))))
    (new-held (begins e) (named before ++ ended_by e before))

-- none that is held was named
none-among : (items : List Item) (names : List ℕ) → AllByRecursion (λ id. has_id items id ≡ false) names → AllByRecursion (λ i. is_among names i.id ≡ false) items
none-among [] names gone = tt
none-among (i ∷ items) names gone = (here names gone, none-among items names (all-weaker (λ id. has_id (i ∷ items) id ≡ false) (λ id. has_id items id ≡ false) names (λ id h. (or_parts (eqb i.id id) (has_id items id) h).1) gone))
  where
    here : (names : List ℕ) → AllByRecursion (λ id. has_id (i ∷ items) id ≡ false) names → is_among names i.id ≡ false
    here [] gone = refl
    here (id ∷ names) gone =
        let p = or_parts (eqb i.id id) (has_id items id) gone.0 in
        or_from (eqb id i.id) (is_among names i.id) (ne_eqb id i.id (λ same. eqb-false i.id id p.0 (sym same))) (here names gone.1)

-- # The equation

kept-is : (names : List ℕ) (ds : List (Item × List Event)) → AllByRecursion (λ d. is_held d ≡ not (is_among names d.0.id)) ds
    → ids_of (map shown (filter is_held ds)) ≡ less (map (λ d. d.0.id) ds) names
kept-is names [] all = refl
kept-is names (d ∷ ds) all = rw all.0 (by_named (is_among names d.0.id) (kept-is names ds all.1))
  where
    by_named : (b : Bool) → ids_of (map shown (filter is_held ds)) ≡ less (map (λ d. d.0.id) ds) names
        → ids_of (map shown (cond (not b) (d ∷ filter is_held ds) (filter is_held ds))) ≡ cond (not b) (d.0.id ∷ less (map (λ d. d.0.id) ds) names) (less (map (λ d. d.0.id) ds) names)
    by_named true rest = rest
    by_named false rest = ap (λ ids. d.0.id ∷ ids) rest

both-ways : (b n : Bool) → (b ≡ false → n ≡ true) → (b ≡ true → n ≡ false) → b ≡ not n
both-ways true n f t = rw (t refl) refl
both-ways false n f t = rw (f refl) refl

pub held-left-over : (first : ℕ) (past : List Event) → AreNumbered first past → used past < 2 ^ 32 → ids_of (held past) ≡ less (ids_begun past) (named past)
held-left-over first past h few =
    let n = named-all first past h few in
    let ended = all-named first past h few in
    let kept = of-held (λ i. is_among (named past) i.id ≡ false) (begun past) (none-among (held past) (named past) n.gone) in
    kept-is (named past) (begun past)
    (all-weaker (λ d. (is_held d ≡ false → is_among (named past) d.0.id ≡ true) × (is_held d ≡ true → is_among (named past) d.0.id ≡ false)) (λ d. is_held d ≡ not (is_among (named past) d.0.id)) (begun past)
    (λ d p. both-ways (is_held d) (is_among (named past) d.0.id) p.0 p.1)
    (all-both (λ d. is_held d ≡ false → is_among (named past) d.0.id ≡ true) (λ d. is_held d ≡ true → is_among (named past) d.0.id ≡ false) (begun past) ended kept))

few-used : (past : List Event) → length past ≤ 2 ^ 30 → used past < 2 ^ 32
few-used past h = let f = used-few past in omega (arith, f, h)

pub sent-left-over : (first : ℕ) (past : List Event) → AreSentInOrder first past → length past ≤ 2 ^ 30 → ids_of (held past) ≡ less (ids_begun past) (named past)
sent-left-over first past h few = let s = sent-numbered first past h in held-left-over first past s.numbered (few-used past few)

pub heard-left-over : (past : List Event) → AreHeardInOrder past → length past ≤ 2 ^ 30 → ids_of (held past) ≡ less (ids_begun past) (named past)
heard-left-over past h few = let s = heard-numbered past h in held-left-over s.first past s.numbered (few-used past few)
