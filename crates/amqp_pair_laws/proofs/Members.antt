-- Members of the lists of unsettled deliveries, along one event.
use Rattle.std.proofs.Common.{◌≡◌, ◌⊎◌, inl, inr, ◌++◌, ◌||◌, Bool, true, false, not, Option, Some, None, List, [], ◌∷◌, refl, sym, ap, subst, filter, map}
use Rattle.amqp_events.specs.Event.{Event, Item}
use Rattle.amqp_events.specs.Told.{SentItem, added_sent, next_sent, next_sent_held, tells}
use Rattle.amqp_events.specs.Since.{or_earlier}
use Rattle.amqp_events.specs.Unsettled.{added, begins, ends, next_held, said_to, says_local, says_remote}
use Rattle.amqp_rules.proofs.Listed.{by-bool}

abbrev pub In : {A : Type 0} → A → List A → Type 0
In x [] = ⊥
In x (y ∷ ys) = (x ≡ y) ⊎ In x ys

pub in-append : {A : Type 0} (x : A) (xs ys : List A) → In x (xs ++ ys) → In x xs ⊎ In x ys
in-append x [] ys h = inr h
in-append x (y ∷ xs) ys (inl e) = inl (inl e)
in-append x (y ∷ xs) ys (inr h) = by (in-append x xs ys h)
  where
    by : In x xs ⊎ In x ys → In x (y ∷ xs) ⊎ In x ys
    by (inl k) = inl (inr k)
    by (inr k) = inr k

pub in-first : {A : Type 0} (x : A) (xs ys : List A) → In x xs → In x (xs ++ ys)
in-first x [] ys h = absurd h
in-first x (y ∷ xs) ys (inl e) = inl e
in-first x (y ∷ xs) ys (inr h) = inr (in-first x xs ys h)

pub in-second : {A : Type 0} (x : A) (xs ys : List A) → In x ys → In x (xs ++ ys)
in-second x [] ys h = h
in-second x (y ∷ xs) ys h = inr (in-second x xs ys h)

-- # What is there after an event

-- the delivery is another's, but for the states that were given
pub record IsSame (i j : Item) : Type 0 where
  pub id : j.id ≡ i.id
  pub link : j.link ≡ i.link
  pub tag : j.tag ≡ i.tag

-- a delivery that was there and was not ended
pub record Stayed (e : Event) (items : List Item) (j : Item) : Type 0 where
  pub item : Item
  pub there : In item items
  pub same : IsSame item j
  pub local : j.local ≡ or_earlier (says_local item e) item.local
  pub stays : ends e item ≡ false

not-true : (b : Bool) → not b ≡ true → b ≡ false
not-true true h = absurd (cc (h))
not-true false h = refl

same-by : (e : Event) (i j : Item) → j ≡ said_to e i → IsSame i j
same-by e i j is = subst (λ (j : Item). IsSame i j) (sym is) (record { id = refl; link = refl; tag = refl })

stayed-more : (e : Event) (i : Item) (items : List Item) (j : Item) → Stayed e items j → Stayed e (i ∷ items) j
stayed-more e i items j s = record { item = s.item; there = inr s.there; same = s.same; local = s.local; stays = s.stays }

held-stayed : (e : Event) (items : List Item) (j : Item) → In j (map (said_to e) (filter (λ i. not (ends e i)) items)) → Stayed e items j
held-stayed e [] j h = absurd h
held-stayed e (i ∷ items) j h =
    by-bool (not (ends e i))
    (λ (t : not (ends e i) ≡ true).
    let k : (j ≡ said_to e i) ⊎ In j (map (said_to e) (filter (λ i. not (ends e i)) items)) = (let k = rw t at h in k) in
    by (held-stayed e items j) (not-true (ends e i) t) k)
    (λ (f : not (ends e i) ≡ false). let k = rw f at h in stayed-more e i items j (held-stayed e items j k))
  where
    by : (In j (map (said_to e) (filter (λ i. not (ends e i)) items)) → Stayed e items j) → ends e i ≡ false → (j ≡ said_to e i) ⊎ In j (map (said_to e) (filter (λ i. not (ends e i)) items)) → Stayed e (i ∷ items) j
    by later stays (inl is) = record { item = i; there = inl refl; same = same-by e i j is; local = ap (λ (j : Item). j.local) is; stays = stays }
    by later stays (inr rest) = stayed-more e i items j (later rest)

-- a delivery that is there was there before, or began
pub held-before : (e : Event) (items : List Item) (j : Item) → In j (next_held e items) → Stayed e items j ⊎ (begins e ≡ Some j)
held-before e items j h = by (in-append j (map (said_to e) (filter (λ i. not (ends e i)) items)) (added (begins e)) h)
  where
    now : (o : Option Item) → In j (added o) → o ≡ Some j
    now None h = absurd h
    now (Some i) (inl is) = let same = is in rw same refl
    now (Some i) (inr h) = absurd h

    by : In j (map (said_to e) (filter (λ i. not (ends e i)) items)) ⊎ In j (added (begins e)) → Stayed e items j ⊎ (begins e ≡ Some j)
    by (inl k) = inl (held-stayed e items j k)
    by (inr k) = inr (now (begins e) k)

-- one of ours that is still there
pub record Stays (s : SentItem) (items : List SentItem) : Type 0 where
  pub held : SentItem
  pub there : In held items
  pub same : IsSame s.item held.item

stays-first : (s : SentItem) (xs ys : List SentItem) → Stays s xs → Stays s (xs ++ ys)
stays-first s xs ys k = record { held = k.held; there = in-first k.held xs ys k.there; same = k.same }

sent-stays : (e : Event) (items : List SentItem) (s : SentItem) → In s items → ends e s.item ≡ false → Stays s (map (next_sent e) (filter (λ s. not (ends e s.item)) items))
sent-stays e [] s h stays = absurd h
sent-stays e (t ∷ items) s (inl is) stays =
    let other : not (ends e t.item) ≡ true = here t is in
    rw other (record { held = next_sent e t; there = inl refl; same = same t is })
  where
    here : (t : SentItem) → s ≡ t → not (ends e t.item) ≡ true
    here t is = subst (λ (t : SentItem). not (ends e t.item) ≡ true) is (let f = stays in rw f refl)

    same : (t : SentItem) → s ≡ t → IsSame s.item (next_sent e t).item
    same t is = subst (λ (t : SentItem). IsSame s.item (next_sent e t).item) is (record { id = refl; link = refl; tag = refl })
sent-stays e (t ∷ items) s (inr h) stays =
    let k = sent-stays e items s h stays in
    by-bool (not (ends e t.item))
    (λ (b : not (ends e t.item) ≡ true). rw b (record { held = k.held; there = inr k.there; same = k.same }))
    (λ (b : not (ends e t.item) ≡ false). rw b k)

-- what is not ended stays
pub sent-after : (e : Event) (items : List SentItem) (s : SentItem) → In s items → ends e s.item ≡ false → Stays s (next_sent_held e items)
sent-after e items s h stays = stays-first s (map (next_sent e) (filter (λ s. not (ends e s.item)) items)) (added_sent (begins e)) (sent-stays e items s h stays)

-- what begins is there
pub sent-begun : (e : Event) (items : List SentItem) (i : Item) → begins e ≡ Some i → In (record { item = i; told = false }) (next_sent_held e items)
sent-begun e items i is = in-second (record { item = i; told = false }) (map (next_sent e) (filter (λ s. not (ends e s.item)) items)) (added_sent (begins e)) (by (begins e) is)
  where
    by : (o : Option Item) → o ≡ Some i → In (record { item = i; told = false }) (added_sent o)
    by None h = absurd (cc (h))
    by (Some j) h = let one : j ≡ i = cc h in inl (rw one refl)

-- one of ours that was there before
pub record Was (e : Event) (items : List SentItem) (s : SentItem) : Type 0 where
  pub before : SentItem
  pub there : In before items
  pub same : IsSame before.item s.item
  pub remote : s.item.remote ≡ or_earlier (says_remote before.item e) before.item.remote
  pub told : s.told ≡ tells before.item e || before.told
  pub stays : ends e before.item ≡ false

was-more : (e : Event) (t : SentItem) (items : List SentItem) (s : SentItem) → Was e items s → Was e (t ∷ items) s
was-more e t items s w = record { before = w.before; there = inr w.there; same = w.same; remote = w.remote; told = w.told; stays = w.stays }

sent-was : (e : Event) (items : List SentItem) (s : SentItem) → In s (map (next_sent e) (filter (λ s. not (ends e s.item)) items)) → Was e items s
sent-was e [] s h = absurd h
sent-was e (t ∷ items) s h =
    by-bool (not (ends e t.item))
    (λ (b : not (ends e t.item) ≡ true).
    let k : (s ≡ next_sent e t) ⊎ In s (map (next_sent e) (filter (λ s. not (ends e s.item)) items)) = (let k = rw b at h in k) in
    by (sent-was e items s) (not-true (ends e t.item) b) k)
    (λ (b : not (ends e t.item) ≡ false). let k = rw b at h in was-more e t items s (sent-was e items s k))
  where
    by : (In s (map (next_sent e) (filter (λ s. not (ends e s.item)) items)) → Was e items s) → ends e t.item ≡ false → (s ≡ next_sent e t) ⊎ In s (map (next_sent e) (filter (λ s. not (ends e s.item)) items)) → Was e (t ∷ items) s
    by later stays (inl is) = record { before = t; there = inl refl; same = subst (λ (s : SentItem). IsSame t.item s.item) (sym is) (record { id = refl; link = refl; tag = refl }); remote = ap (λ (s : SentItem). s.item.remote) is; told = ap (λ (s : SentItem). s.told) is; stays = stays }
    by later stays (inr rest) = was-more e t items s (later rest)

-- one of ours was there before, or began
pub sent-before : (e : Event) (items : List SentItem) (s : SentItem) → In s (next_sent_held e items) → Was e items s ⊎ (begins e ≡ Some s.item)
sent-before e items s h = by (in-append s (map (next_sent e) (filter (λ s. not (ends e s.item)) items)) (added_sent (begins e)) h)
  where
    now : (o : Option Item) → In s (added_sent o) → o ≡ Some s.item
    now None h = absurd h
    now (Some i) (inl is) = ap (λ (t : SentItem). Some t.item) (sym is)
    now (Some i) (inr h) = absurd h

    by : In s (map (next_sent e) (filter (λ s. not (ends e s.item)) items)) ⊎ In s (added_sent (begins e)) → Was e items s ⊎ (begins e ≡ Some s.item)
    by (inl k) = inl (sent-was e items s k)
    by (inr k) = inr (now (begins e) k)

pub was-there : (e : Event) (items : List SentItem) (s : SentItem) → says_remote s.item e ≡ None → tells s.item e ≡ false → ends e s.item ≡ false → In s items → Was e items s
was-there e items s none quiet stays h =
    record {
      before = s;
      there = h;
      same = record { id = refl; link = refl; tag = refl };
      remote = ap (λ o. or_earlier o s.item.remote) (sym none);
      told = ap (λ b. b || s.told) (sym quiet);
      stays = stays;
    }

-- without an event
pub stays-there : (s : SentItem) (items : List SentItem) → In s items → Stays s items
stays-there s items h = record { held = s; there = h; same = record { id = refl; link = refl; tag = refl } }

pub stayed-there : (e : Event) (items : List Item) (j : Item) → In j items → says_local j e ≡ None → ends e j ≡ false → Stayed e items j
stayed-there e items j h unsaid stays = record { item = j; there = h; same = record { id = refl; link = refl; tag = refl }; local = ap (λ o. or_earlier o j.local) (sym unsaid); stays = stays }

-- one that was received and is still there
pub record Kept (i : Item) (items : List Item) : Type 0 where
  pub item : Item
  pub there : In item items
  pub same : IsSame i item

pub kept-there : (i : Item) (items : List Item) → In i items → Kept i items
kept-there i items h = record { item = i; there = h; same = record { id = refl; link = refl; tag = refl } }

kept-first : (i : Item) (xs ys : List Item) → Kept i xs → Kept i (xs ++ ys)
kept-first i xs ys k = record { item = k.item; there = in-first k.item xs ys k.there; same = k.same }

kept-among : (e : Event) (items : List Item) (i : Item) → In i items → ends e i ≡ false → Kept i (map (said_to e) (filter (λ i. not (ends e i)) items))
kept-among e [] i h stays = absurd h
kept-among e (j ∷ items) i (inl is) stays =
    let other : not (ends e j) ≡ true = subst (λ (j : Item). not (ends e j) ≡ true) is (let f = stays in rw f refl) in
    rw other (record { item = said_to e j; there = inl refl; same = subst (λ (j : Item). IsSame i (said_to e j)) is (record { id = refl; link = refl; tag = refl }) })
kept-among e (j ∷ items) i (inr h) stays =
    let k = kept-among e items i h stays in
    by-bool (not (ends e j))
    (λ (b : not (ends e j) ≡ true). rw b (record { item = k.item; there = inr k.there; same = k.same }))
    (λ (b : not (ends e j) ≡ false). rw b k)

-- what is not ended stays
pub held-kept : (e : Event) (items : List Item) (i : Item) → In i items → ends e i ≡ false → Kept i (next_held e items)
held-kept e items i h stays = kept-first i (map (said_to e) (filter (λ i. not (ends e i)) items)) (added (begins e)) (kept-among e items i h stays)

-- what begins is there
pub held-begun : (e : Event) (items : List Item) (i : Item) → begins e ≡ Some i → In i (next_held e items)
held-begun e items i is = in-second i (map (said_to e) (filter (λ i. not (ends e i)) items)) (added (begins e)) (by (begins e) is)
  where
    by : (o : Option Item) → o ≡ Some i → In i (added o)
    by None h = absurd (cc (h))
    by (Some j) h = let one : j ≡ i = cc h in inl (sym one)
