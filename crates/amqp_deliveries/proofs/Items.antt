-- Deliveries with and without the mark whether they were told.
use Rattle.std.proofs.Common.{◌≡◌, ◌≢◌, ◌<◌, ℕ, suc, Bool, true, false, ◌||◌, cond, Some, is_some, List, [], ◌∷◌, length, get_or, refl, sym, ap, ◌∙◌, subst, arith}
use Rattle.std.proofs.lemmas.Bool.{true≢false}
use Rattle.std.specs.List.{All, AllPairs, list_any, filter}
use Rattle.std.proofs.lemmas.List.{length-map, get_or-map}
use Rattle.amqp_flow.specs.Serial.{is_before}
use Rattle.amqp_events.specs.Event.{Item, Disposition}
use Rattle.amqp_events.specs.Table.{in_range}
use Rattle.amqp_performatives.specs.declared.state.DeliveryState.{DeliveryState}
use Rattle.amqp_events.specs.Told.{SentItem}
use Rattle.amqp_events.specs.Laws.{AreInOrder, IsPast}
use Rattle.amqp_events.specs.Tags.{AreApart, is_tagged}
use Rattle.amqp_deliveries.specs.Held.{IsHeld, items_of, covered, GivesState}

abbrev item : SentItem → Item
item s = s.item

at-item : (items : List SentItem) (k : ℕ) (d : SentItem) → k < length items → get_or (items_of items) k (item d) ≡ item (get_or items k d)
at-item items k d l = get_or-map item items k d (item d) l

item-at : (items : List SentItem) (k : ℕ) (i : Item) → k < length items → get_or (items_of items) k i ≡ item (get_or items k (record { item = i; told = false }))
item-at items k i l = get_or-map item items k (record { item = i; told = false }) i l

pub past_held : (items : List SentItem) (id : ℕ) → IsPast id (items_of items) → All (λ s. is_before s.item.id id ≡ true) items
past_held items id past = λ k d l.
    let P : Item → Type 0 = λ i. is_before i.id id ≡ true in
    let m : k < length (items_of items) = rw (length-map items item) l in
    subst P (at-item items k d l) (past k (item d) m)

pub held_past : (items : List SentItem) (id : ℕ) → All (λ s. is_before s.item.id id ≡ true) items → IsPast id (items_of items)
held_past items id held = λ k i l.
    let P : Item → Type 0 = λ j. is_before j.id id ≡ true in
    let m : k < length items = rw (length-map items item) at l in
    subst P (sym (item-at items k i m)) (held k (record { item = i; told = false }) m)

pairs-items : (R : Item → Item → Type 0) (items : List SentItem) → AllPairs (λ s t. R s.item t.item) items → AllPairs R (items_of items)
pairs-items R items pairs = λ i j x b l.
    let d : SentItem = record { item = x; told = false } in
    let m : j < length items = rw (length-map items item) at l in
    let k : i < length items = omega arith in
    subst (R (get_or (items_of items) i x)) (sym (item-at items j x m))
    (let P : Item → Type 0 = λ y. R y (item (get_or items j d)) in subst P (sym (item-at items i x k)) (pairs i j d b m))

pub held_in_order : (items : List SentItem) → IsHeld items → AreInOrder (items_of items)
held_in_order items held = pairs-items (λ i j. is_before i.id j.id ≡ true) items held.in_order

pub held_apart : (items : List SentItem) → IsHeld items → AreApart (items_of items)
held_apart items held = pairs-items (λ i j. is_tagged j.link j.tag i ≡ false) items held.apart

pub any_item : (p : Item → Bool) (items : List SentItem) → list_any p (items_of items) ≡ list_any (λ s. p s.item) items
any_item p [] = refl
any_item p (s ∷ items) = ap (λ b. p s.item || b) (any_item p items)

pub filter_item : (p : Item → Bool) (items : List SentItem) → filter p (items_of items) ≡ items_of (filter (λ s. p s.item) items)
filter_item p [] = refl
filter_item p (s ∷ items) = by_test (p s.item) (filter_item p items)
  where
    by_test : (b : Bool) → filter p (items_of items) ≡ items_of (filter (λ s. p s.item) items)
        → cond b (s.item ∷ filter p (items_of items)) (filter p (items_of items)) ≡ items_of (cond b (s ∷ filter (λ s. p s.item) items) (filter (λ s. p s.item) items))
    by_test true h = ap (λ is. s.item ∷ is) h
    by_test false h = h

-- a state is given to some of them
none-left : (items : List SentItem) → items_of items ≡ [] → items ≡ []
none-left [] e = refl
none-left (s ∷ items) e = absurd (let long : suc (length (items_of items)) ≡ 0 = ap length e in omega arith)

pub gives_state : (d : Disposition) (state : DeliveryState) (items : List SentItem) → d.settled ≡ false → d.state ≡ Some state → covered d.first d.last items ≢ []
    → GivesState d (items_of items)
gives_state d state items stays gives some =
    record {
      stays = stays;
      gives = λ none. true≢false (ap is_some (sym gives ∙ none));
      some = λ none. some (none-left (covered d.first d.last items) (sym (filter_item (in_range d.first d.last) items) ∙ none));
    }
