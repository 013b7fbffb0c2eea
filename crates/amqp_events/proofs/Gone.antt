-- What an event leaves, and what it names as ended.
use Rattle.std.proofs.Common.{◌≡◌, ℕ, ◌||◌, not, eqb, Bool, true, false, cond, Option, None, Some, List, [], ◌∷◌, ◌++◌, map, filter, refl, ap, ◌∙◌, append-nil}
use Rattle.std.specs.List.{AllByRecursion}
use Rattle.std.proofs.lemmas.Bool.{or_left, or_right, eq-eqb}
use Rattle.std.proofs.lemmas.List.{map-append}
use Rattle.std.proofs.lemmas.List.Folds.{list_any-append}
use Rattle.amqp_performatives.specs.declared.state.DeliveryState.{DeliveryState}
use Rattle.amqp_events.specs.Event.{Item, Event, Continues, Over, Learns, Takes, Nothing}
use Rattle.amqp_events.specs.Unsettled.{begins, ends, said_to, added, next_held}
use Rattle.amqp_events.specs.Named.{has_id, ids_gone}
use Rattle.amqp_events.specs.Told.{SentItem, tells, next_sent, added_sent, next_sent_held}

-- # Events that end nothing

pub keeps-all : {X : Type 0} (out : X → Bool) (xs : List X) → ((x : X) → out x ≡ false) → filter (λ x. not (out x)) xs ≡ xs
keeps-all out [] h = refl
keeps-all out (x ∷ xs) h = rw (h x, keeps-all out xs h) refl

has-said : (e : Event) (items : List Item) (id : ℕ) → has_id (map (said_to e) items) id ≡ has_id items id
has-said e [] id = refl
has-said e (i ∷ items) id = ap (λ b. eqb i.id id || b) (has-said e items id)

all-there : (items more : List Item) → AllByRecursion (λ i. has_id (items ++ more) i.id ≡ true) items
all-there [] more = tt
all-there (i ∷ items) more =
    (or_left (eqb i.id i.id) (has_id (items ++ more) i.id) (eq-eqb i.id i.id refl), weaker items (all-there items more))
  where
    weaker : (xs : List Item) → AllByRecursion (λ j. has_id (items ++ more) j.id ≡ true) xs → AllByRecursion (λ j. has_id (i ∷ items ++ more) j.id ≡ true) xs
    weaker [] h = tt
    weaker (j ∷ xs) h = (or_right (eqb i.id j.id) (has_id (items ++ more) j.id) h.0, weaker xs h.1)

none-gone : (items after : List Item) → AllByRecursion (λ i. has_id after i.id ≡ true) items → ids_gone items after ≡ []
none-gone [] after h = refl
none-gone (i ∷ items) after h = rw h.0 (none-gone items after h.1)

same-there : (items after others : List Item) → ((id : ℕ) → has_id after id ≡ has_id others id) → AllByRecursion (λ i. has_id others i.id ≡ true) items → AllByRecursion (λ i. has_id after i.id ≡ true) items
same-there [] after others same h = tt
same-there (i ∷ items) after others same h = (same i.id ∙ h.0, same-there items after others same h.1)

-- nothing is named where nothing is ended
pub quiet-gone : (e : Event) (items : List Item) → ((i : Item) → ends e i ≡ false) → ids_gone items (next_held e items) ≡ []
quiet-gone e items h =
    none-gone items (next_held e items)
    (same-there items (next_held e items) (items ++ added (begins e))
    (λ id. rw (
      keeps-all (ends e) items h,
      list_any-append (λ i. eqb i.id id) (map (said_to e) items) (added (begins e)),
      list_any-append (λ i. eqb i.id id) items (added (begins e)),
      has-said e items id,
    ) refl)
    (all-there items (added (begins e))))

-- # The deliveries that we sent are as those that we receive, but for what was told

items-added : (b : Option Item) → map (λ s. s.item) (added_sent b) ≡ added b
items-added None = refl
items-added (Some i) = refl

items-kept : (e : Event) (items : List SentItem)
    → map (λ s. s.item) (map (next_sent e) (filter (λ s. not (ends e s.item)) items)) ≡ map (said_to e) (filter (λ i. not (ends e i)) (map (λ s. s.item) items))
items-kept e [] = refl
items-kept e (s ∷ items) = by_end (ends e s.item) (items-kept e items)
  where
    by_end : (b : Bool) → map (λ s. s.item) (map (next_sent e) (filter (λ s. not (ends e s.item)) items)) ≡ map (said_to e) (filter (λ i. not (ends e i)) (map (λ s. s.item) items))
        → map (λ s. s.item) (map (next_sent e) (cond (not b) (s ∷ filter (λ s. not (ends e s.item)) items) (filter (λ s. not (ends e s.item)) items)))
        ≡ map (said_to e) (cond (not b) (s.item ∷ filter (λ i. not (ends e i)) (map (λ s. s.item) items)) (filter (λ i. not (ends e i)) (map (λ s. s.item) items)))
    by_end true rest = rest
    by_end false rest = ap (λ is. said_to e s.item ∷ is) rest

pub items-next : (e : Event) (items : List SentItem) → map (λ s. s.item) (next_sent_held e items) ≡ next_held e (map (λ s. s.item) items)
items-next e items =
    map-append (λ s. s.item) (map (next_sent e) (filter (λ s. not (ends e s.item)) items)) (added_sent (begins e))
    ∙ rw (items-kept e items, items-added (begins e)) refl

-- # Events that change nothing

-- the event leaves unsettled deliveries as they are
pub record LeavesAll (e : Event) : Type 0 where
  pub ends_none : (i : Item) → ends e i ≡ false
  pub says_nothing : (i : Item) → said_to e i ≡ i
  pub tells_nothing : (i : Item) → tells i e ≡ false
  pub begins_none : begins e ≡ None

map-same : {X : Type 0} (f : X → X) → ((x : X) → f x ≡ x) → (xs : List X) → map f xs ≡ xs
map-same f h [] = refl
map-same f h (x ∷ xs) = rw (h x, map-same f h xs) refl

pub held-left : (e : Event) (items : List Item) → LeavesAll e → next_held e items ≡ items
held-left e items q =
    rw (keeps-all (ends e) items q.ends_none, q.begins_none, map-same (said_to e) q.says_nothing items, append-nil) refl

pub sent-left : (e : Event) (items : List SentItem) → LeavesAll e → next_sent_held e items ≡ items
sent-left e items q =
    rw (
      keeps-all (λ s. ends e s.item) items (λ s. q.ends_none s.item),
      q.begins_none,
      map-same (next_sent e) (λ s. rw (q.says_nothing s.item, q.tells_nothing s.item) refl) items,
      append-nil,
    )
    refl

same-either : {A : Type 0} (b : Bool) (a : A) → cond b a a ≡ a
same-either true a = refl
same-either false a = refl

pub nothing-left : LeavesAll Nothing
nothing-left = record { ends_none = λ i. refl; says_nothing = λ i. refl; tells_nothing = λ i. refl; begins_none = refl }

pub learns-left : (k : ℕ) → LeavesAll (Learns k)
learns-left k = record { ends_none = λ i. refl; says_nothing = λ i. refl; tells_nothing = λ i. refl; begins_none = refl }

pub takes-left : (k : ℕ) → LeavesAll (Takes k)
takes-left k = record { ends_none = λ i. refl; says_nothing = λ i. refl; tells_nothing = λ i. refl; begins_none = refl }

-- a further transfer that says nothing
pub continued-left : (id : ℕ) → LeavesAll (Continues id None false)
continued-left id =
    record { ends_none = λ i. refl; says_nothing = λ i. rw (same-either {A = Option DeliveryState} (eqb i.id id) None) refl; tells_nothing = λ i. refl; begins_none = refl }

-- an end leaves none
none-kept : {X : Type 0} (out : X → Bool) (xs : List X) → ((x : X) → out x ≡ true) → filter (λ x. not (out x)) xs ≡ []
none-kept out [] h = refl
none-kept out (x ∷ xs) h = rw (h x) (none-kept out xs h)

pub held-over : (items : List Item) → next_held Over items ≡ []
held-over items = rw (none-kept (ends Over) items (λ i. refl)) refl

pub sent-over : (items : List SentItem) → next_sent_held Over items ≡ []
sent-over items = rw (none-kept (λ s. ends Over s.item) items (λ s. refl)) refl
