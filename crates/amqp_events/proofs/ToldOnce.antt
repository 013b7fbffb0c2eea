-- No delivery is told twice.
use Rattle.std.proofs.Common.{◌≡◌, ◌<◌, ◌≤◌, ℕ, ◌^◌, ◌&&◌, ◌||◌, not, eqb, Bool, true, false, cond, None, Some, List, [], ◌∷◌, ◌++◌, map, filter, refl, sym, arith, append-nil}
use Rattle.std.specs.List.{AllByRecursion, list_any, cons_option}
use Rattle.std.proofs.lemmas.Bool.{eqb-true, ne_eqb, or_parts, or_from}
use Rattle.std.proofs.lemmas.List.Folds.{list_any-append}
use Rattle.amqp_flow.specs.Serial.{distance, is_inside}
use Rattle.amqp_events.specs.Event.{Disposition, Event, Begins, Continues, PassesOver, Says, Hears, Leaves, Over, Learns, Takes, Nothing}
use Rattle.amqp_events.specs.Unsettled.{begins, ends, begun, is_held, still_held}
use Rattle.amqp_events.specs.Numbers.{expected}
use Rattle.amqp_events.proofs.Used.{uses, used}
use Rattle.amqp_events.specs.Told.{Telling, telling, has_outcome, tells, tells_now, told, told_by, SentItem, sent_item, sent_held, next_sent, added_sent, tellings}
use Rattle.amqp_events.proofs.Numbered.{AreNumbered}
use Rattle.amqp_events.proofs.ToldLaw.{sent-step, told-by-held}
use Rattle.amqp_events.proofs.Lists.{all-append, all-weaker, all-both, Rises, Pairs, pairs-append}
use Rattle.amqp_events.proofs.Order.{InOrder, far, begun-order, order-filter, order-map, some-more, far-counted}

abbrev far_sent : ℕ → SentItem → ℕ
far_sent first s = distance first s.item.id

sent-order : (first : ℕ) (past : List Event) → AreNumbered first past → used past ≤ 2 ^ 32 → InOrder (far_sent first) (used past) (sent_held past)
sent-order first past h few =
    order-map (far_sent first) sent_item (used past) (still_held past) (order-filter (far first) (used past) is_held (begun past) (begun-order first past h few))

-- the disposition tells of a delivery with this id
abbrev reaches : Disposition → ℕ → Bool
reaches d id = is_inside id d.first d.last && (d.settled || has_outcome d.state)

-- # What an event tells

abbrev Tells : Event → ℕ → Type 0
Tells (Hears d) id = reaches d id ≡ true
Tells _ id = ⊥

tells-none : (e : Event) (items : List SentItem) → ((s : SentItem) → tells_now e s.item s.told ≡ None) → tellings e items ≡ []
tells-none e [] h = refl
tells-none e (s ∷ items) h = rw (h s) (tells-none e items h)

-- of each thing that a disposition tells: its delivery was not told, and is reached
new-each : (d : Disposition) (P : ℕ → Type 0) (items : List SentItem) → AllByRecursion (λ s. s.told ≡ false → reaches d s.item.id ≡ true → P s.item.id) items
    → AllByRecursion (λ t. P t.id) (tellings (Hears d) items)
new-each d P [] h = tt
new-each d P (s ∷ items) h = by_test (reaches d s.item.id) s.told refl refl (new-each d P items h.1)
  where
    by_test : (a b : Bool) → reaches d s.item.id ≡ a → s.told ≡ b → AllByRecursion (λ t. P t.id) (tellings (Hears d) items)
        → AllByRecursion (λ t. P t.id) (cons_option (cond (a && not b) (Some (telling d s.item)) None) (tellings (Hears d) items))
    by_test true false r k rest = (h.0 k r, rest)
    by_test true true r k rest = rest
    by_test false b r k rest = rest

each-of : (P : SentItem → Type 0) (items : List SentItem) → ((s : SentItem) → P s) → AllByRecursion P items
each-of P [] h = tt
each-of P (s ∷ items) h = (h s, each-of P items h)

new-apart : (first : ℕ) (d : Disposition) (items : List SentItem) → Rises (far_sent first) items → Pairs (λ a b. a.id ≡ b.id → ⊥) (tellings (Hears d) items)
new-apart first d [] h = tt
new-apart first d (s ∷ items) h = by_test (reaches d s.item.id && not s.told) (new-apart first d items h.1)
  where
    later : AllByRecursion (λ t. s.item.id ≡ t.id → ⊥) (tellings (Hears d) items)
    later =
        new-each d (λ id. s.item.id ≡ id → ⊥) items
        (all-weaker (λ y. far_sent first s < far_sent first y) (λ y. y.told ≡ false → reaches d y.item.id ≡ true → s.item.id ≡ y.item.id → ⊥) items
        (λ y less k r same. let bad : distance first y.item.id < distance first y.item.id = rw same at less in omega (arith, bad)) h.0)

    by_test : (b : Bool) → Pairs (λ a b. a.id ≡ b.id → ⊥) (tellings (Hears d) items)
        → Pairs (λ a b. a.id ≡ b.id → ⊥) (cons_option (cond b (Some (telling d s.item)) None) (tellings (Hears d) items))
    by_test true rest = (later, rest)
    by_test false rest = rest

-- # What is not told

abbrev untold : ℕ → SentItem → Bool
untold id s = eqb s.item.id id && not s.told

abbrev has_untold : List SentItem → ℕ → Bool
has_untold items id = list_any (untold id) items

-- what is told stays told
keeps-told : (e : Event) (items : List SentItem) (id : ℕ) → has_untold items id ≡ false
    → has_untold (map (next_sent e) (filter (λ s. not (ends e s.item)) items)) id ≡ false
keeps-told e [] id h = refl
keeps-told e (s ∷ items) id h =
    let p = or_parts (untold id s) (has_untold items id) h in
    by_end (ends e s.item) (still (eqb s.item.id id) s.told (tells s.item e) p.0) (keeps-told e items id p.1)
  where
    still : (a b t : Bool) → a && not b ≡ false → a && not (t || b) ≡ false
    still false b t h = refl
    still true true true h = refl
    still true true false h = refl
    still true false t h = absurd (cc)

    by_end : (b : Bool) → eqb s.item.id id && not (tells s.item e || s.told) ≡ false → has_untold (map (next_sent e) (filter (λ s. not (ends e s.item)) items)) id ≡ false
        → has_untold (map (next_sent e) (cond (not b) (s ∷ filter (λ s. not (ends e s.item)) items) (filter (λ s. not (ends e s.item)) items))) id ≡ false
    by_end true one rest = rest
    by_end false one rest = or_from (eqb s.item.id id && not (tells s.item e || s.told)) (has_untold (map (next_sent e) (filter (λ s. not (ends e s.item)) items)) id) one rest

-- what is reached is told now
reached-told : (d : Disposition) (items : List SentItem) (id : ℕ) → reaches d id ≡ true
    → has_untold (map (next_sent (Hears d)) (filter (λ s. not (ends (Hears d) s.item)) items)) id ≡ false
reached-told d [] id h = refl
reached-told d (s ∷ items) id h = by_end (ends (Hears d) s.item) (reached-told d items id h)
  where
    one : eqb s.item.id id && not (reaches d s.item.id || s.told) ≡ false
    one = by_same (eqb s.item.id id) refl
      where
        by_same : (b : Bool) → eqb s.item.id id ≡ b → b && not (reaches d s.item.id || s.told) ≡ false
        by_same true e = let same : s.item.id ≡ id = eqb-true s.item.id id e in let r : reaches d s.item.id ≡ true = rw same h in rw r refl
        by_same false e = refl

    by_end : (b : Bool) → has_untold (map (next_sent (Hears d)) (filter (λ s. not (ends (Hears d) s.item)) items)) id ≡ false
        → has_untold (map (next_sent (Hears d)) (cond (not b) (s ∷ filter (λ s. not (ends (Hears d) s.item)) items) (filter (λ s. not (ends (Hears d) s.item)) items))) id ≡ false
    by_end true rest = rest
    by_end false rest = or_from (eqb s.item.id id && not (reaches d s.item.id || s.told)) (has_untold (map (next_sent (Hears d)) (filter (λ s. not (ends (Hears d) s.item)) items)) id) one rest

untold-added : (first : ℕ) (e : Event) (before : List Event) (id : ℕ) → AreNumbered first (e ∷ before) → used before < 2 ^ 32 → distance first id < used before
    → has_untold (added_sent (begins e)) id ≡ false
untold-added first (Begins item true) before id h few near =
    let here : distance first item.id ≡ used before = far-counted first (used before) item.id h.1 few in
    let apart : eqb item.id id ≡ false = ne_eqb item.id id (λ same. let k : distance first item.id < used before = rw same near in omega (arith, k, here)) in
    rw apart refl
untold-added first (Begins item false) before id h few near = refl
untold-added first _ before id h few near = refl

after-untold : (first : ℕ) (e : Event) (before : List Event) (id : ℕ) → AreNumbered first (e ∷ before) → used before < 2 ^ 32 → distance first id < used before
    → has_untold (map (next_sent e) (filter (λ s. not (ends e s.item)) (sent_held before))) id ≡ false
    → has_untold (sent_held (e ∷ before)) id ≡ false
after-untold first e before id h few near none =
    rw (sent-step e before, list_any-append (untold id) (map (next_sent e) (filter (λ s. not (ends e s.item)) (sent_held before))) (added_sent (begins e)))
    (or_from (has_untold (map (next_sent e) (filter (λ s. not (ends e s.item)) (sent_held before))) id) (has_untold (added_sent (begins e)) id) none (untold-added first e before id h few near))

-- # All that was told

pub record Told (first : ℕ) (past : List Event) (ts : List Telling) : Type 0 where
  pub below : AllByRecursion (λ t. distance first t.id < used past) ts
  pub known : AllByRecursion (λ t. has_untold (sent_held past) t.id ≡ false) ts
  pub apart : Pairs (λ a b. a.id ≡ b.id → ⊥) ts

-- the things that are told already
kept-told : (first : ℕ) (e : Event) (before : List Event) → AreNumbered first (e ∷ before) → used before < 2 ^ 32 → used before ≤ used (e ∷ before)
    → Told first before (told before) → Told first (e ∷ before) (told before)
kept-told first e before h few more' s =
    record {
      below = all-weaker (λ t. distance first t.id < used before) (λ t. distance first t.id < used (e ∷ before)) (told before) (λ t k. omega (arith, k, more')) s.below;
      known =
          all-weaker (λ t. (distance first t.id < used before) × (has_untold (sent_held before) t.id ≡ false)) (λ t. has_untold (sent_held (e ∷ before)) t.id ≡ false) (told before)
          (λ t k. after-untold first e before t.id h few k.0 (keeps-told e (sent_held before) t.id k.1))
          (all-both (λ t. distance first t.id < used before) (λ t. has_untold (sent_held before) t.id ≡ false) (told before) s.below s.known);
      apart = s.apart;
    }

-- an untold item of the table is among what has an untold one
not-untold : (items : List SentItem) (id : ℕ) → has_untold items id ≡ false → AllByRecursion (λ s. s.told ≡ false → id ≡ s.item.id → ⊥) items
not-untold [] id h = tt
not-untold (s ∷ items) id h =
    let p = or_parts (untold id s) (has_untold items id) h in
    ((λ k same. let bad : true ≡ false = (let e : eqb s.item.id id && not s.told ≡ false = p.0 in let e' = rw (k, sym same, eqb-same id) at e in e') in cc_bad bad), not-untold items id p.1)
  where
    cc_bad : true ≡ false → ⊥
    cc_bad e = absurd (cc)

    eqb-same : (n : ℕ) → eqb n n ≡ true
    eqb-same n = grind arith

hears-told : (first : ℕ) (d : Disposition) (before : List Event) → AreNumbered first (Hears d ∷ before) → used before < 2 ^ 32
    → Told first before (told before) → Told first (Hears d ∷ before) (told before ++ told_by (Hears d) before)
hears-told first d before h few s =
    let items = sent_held before in
    let o = sent-order first before h.0 (omega (arith, few)) in
    let k = kept-told first (Hears d) before h few (omega arith) s in
    let new = tellings (Hears d) items in
    let near = new-each d (λ id. distance first id < used before) items (all-weaker (λ y. far_sent first y < used before) (λ y. y.told ≡ false → reaches d y.item.id ≡ true → distance first y.item.id < used before) items (λ y l a b. l) o.below) in
    let reached = new-each d (λ id. reaches d id ≡ true) items (each-of (λ y. y.told ≡ false → reaches d y.item.id ≡ true → reaches d y.item.id ≡ true) items (λ y a b. b)) in
    rw (told-by-held (Hears d) before)
    record {
      below = all-append (λ t. distance first t.id < used before) (told before) new k.below near;
      known =
          all-append (λ t. has_untold (sent_held (Hears d ∷ before)) t.id ≡ false) (told before) new k.known
          (all-weaker (λ t. (distance first t.id < used before) × (reaches d t.id ≡ true)) (λ t. has_untold (sent_held (Hears d ∷ before)) t.id ≡ false) new
          (λ t r. after-untold first (Hears d) before t.id h few r.0 (reached-told d items t.id r.1))
          (all-both (λ t. distance first t.id < used before) (λ t. reaches d t.id ≡ true) new near reached));
      apart =
          pairs-append (λ a b. a.id ≡ b.id → ⊥) (told before) new k.apart (new-apart first d items o.rising)
          (all-weaker (λ t. has_untold items t.id ≡ false) (λ t. AllByRecursion (λ n. t.id ≡ n.id → ⊥) new) (told before)
          (λ t u. new-each d (λ id. t.id ≡ id → ⊥) items (all-weaker (λ y. y.told ≡ false → t.id ≡ y.item.id → ⊥) (λ y. y.told ≡ false → reaches d y.item.id ≡ true → t.id ≡ y.item.id → ⊥) items (λ y f a b. f a) (not-untold items t.id u))) s.known);
    }

quiet-told : (first : ℕ) (e : Event) (before : List Event) → AreNumbered first (e ∷ before) → used before < 2 ^ 32 → used before ≤ used (e ∷ before)
    → ((s : SentItem) → tells_now e s.item s.told ≡ None)
    → Told first before (told before) → Told first (e ∷ before) (told before ++ told_by e before)
quiet-told first e before h few more' none s =
    rw (told-by-held e before, tells-none e (sent_held before) none, append-nil (told before)) (kept-told first e before h few more' s)

by-event : (first : ℕ) (e : Event) (before : List Event) → AreNumbered first (e ∷ before) → used before < 2 ^ 32 → used before ≤ used (e ∷ before)
    → Told first before (told before) → Told first (e ∷ before) (told before ++ told_by e before)
by-event first (Hears d) before h few more' s = hears-told first d before h few s
by-event first (Begins item unsettled) before h few more' s = quiet-told first (Begins item unsettled) before h few more' (λ s. refl) s
by-event first (Continues id state over) before h few more' s = quiet-told first (Continues id state over) before h few more' (λ s. refl) s
by-event first (PassesOver id) before h few more' s = quiet-told first (PassesOver id) before h few more' (λ s. refl) s
by-event first (Says d) before h few more' s = quiet-told first (Says d) before h few more' (λ s. refl) s
by-event first (Leaves link) before h few more' s = quiet-told first (Leaves link) before h few more' (λ s. refl) s
by-event first Over before h few more' s = quiet-told first Over before h few more' (λ s. refl) s
by-event first (Learns link) before h few more' s = quiet-told first (Learns link) before h few more' (λ s. refl) s
by-event first (Takes link) before h few more' s = quiet-told first (Takes link) before h few more' (λ s. refl) s
by-event first Nothing before h few more' s = quiet-told first Nothing before h few more' (λ s. refl) s

pub told-all : (first : ℕ) (past : List Event) → AreNumbered first past → used past < 2 ^ 32 → Told first past (told past)
told-all first [] h few = record { below = tt; known = tt; apart = tt }
told-all first (e ∷ before) h few =
    let more' : used before ≤ used (e ∷ before) = some-more (uses e (expected before)) (used before) in
    by-event first e before h (omega (arith, few, more')) more' (told-all first before h.0 (omega (arith, few, more')))
