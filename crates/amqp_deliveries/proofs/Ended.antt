-- Which ids are gone where an event ends some of a table's deliveries.
use Rattle.std.proofs.Common.{◌≡◌, ◌<◌, ◌^◌, ℕ, suc, Bool, true, false, not, ◌&&◌, ◌||◌, ◌==◌, eqb, cond, Option, Some, None, option_map, List, [], ◌∷◌, ◌++◌, map, filter, get_or, refl, sym, ap, ◌∙◌, append-nil, arith}
use Rattle.std.specs.List.{All, AllPairs, AllByRecursion, find}
use Rattle.std.proofs.lemmas.Bool.{eq-eqb, ne_eqb, or_left, or_from}
use Rattle.std.proofs.lemmas.List.Elements.{All-head, All-tail}
use Rattle.amqp_performatives.specs.declared.bodies.Role.{Role}
use Rattle.amqp_performatives.specs.declared.bodies.Role.TheVariants.{Sender, Receiver}
use Rattle.amqp_flow.specs.Serial.{is_before, is_inside}
use Rattle.amqp_events.specs.Event.{Item, Disposition, Event, Continues, Says, Hears, Leaves, Over, Nothing}
use Rattle.amqp_events.specs.Table.{in_range}
use Rattle.amqp_performatives.specs.declared.state.DeliveryState.{DeliveryState}
use Rattle.amqp_events.specs.Unsettled.{begins, ends, said_to, next_held}
use Rattle.amqp_events.specs.Named.{has_id, ids_of, ids_gone}
use Rattle.amqp_events.specs.Told.{SentItem, next_sent_held}
use Rattle.amqp_events.proofs.Lists.{Pairs, all-weaker, all-both}
use Rattle.amqp_events.proofs.Gone.{items-next, quiet-gone}
use Rattle.amqp_deliveries.specs.Held.{IsHeld, items_of, is_covered, covered}
use Rattle.amqp_deliveries.specs.Change.{TablesView, Names, held_items, ended_by_events, ended_in}
use Rattle.amqp_deliveries.specs.declared.change.Change.TheVariants as change
use Rattle.amqp_deliveries.proofs.Items.{held_in_order, filter_item}

-- # Ids differ

each-of : {X : Type 0} (P : X → Type 0) (xs : List X) → All P xs → AllByRecursion P xs
each-of P [] h = tt
each-of P (x ∷ xs) h = (All-head P x xs h, each-of P xs (All-tail P x xs h))

pairs-of : {X : Type 0} (R : X → X → Type 0) (xs : List X) → AllPairs R xs → Pairs R xs
pairs-of R [] h = tt
pairs-of R (x ∷ xs) h =
    (each-of (R x) xs (λ k d l. h 0 (suc k) d (omega arith) (omega arith)), pairs-of R xs (λ i j d b l. h (suc i) (suc j) d (omega arith) (omega arith)))

differ : (a b : ℕ) → is_before a b ≡ true → a ≡ b → ⊥
differ a b h e = grind arith

apart : (items : List Item) → AllPairs (λ i j. is_before i.id j.id ≡ true) items → AllPairs (λ i j. i.id ≡ j.id → ⊥) items
apart items h = λ i j d b l. differ _ _ (h i j d b l)

-- # What is kept is found by its id

none-kept : (x : Item) (keep : Item → Bool) (items : List Item) → AllByRecursion (λ j. x.id ≡ j.id → ⊥) items → has_id (filter keep items) x.id ≡ false
none-kept x keep [] all = refl
none-kept x keep (i ∷ items) all = by_test (keep i) (none-kept x keep items all.1)
  where
    by_test : (b : Bool) → has_id (filter keep items) x.id ≡ false → has_id (cond b (i ∷ filter keep items) (filter keep items)) x.id ≡ false
    by_test true rest = or_from (eqb i.id x.id) (has_id (filter keep items) x.id) (ne_eqb i.id x.id (λ same. all.0 (sym same))) rest
    by_test false rest = rest

found-kept : (keep : Item → Bool) (items : List Item) → Pairs (λ i j. i.id ≡ j.id → ⊥) items → AllByRecursion (λ i. has_id (filter keep items) i.id ≡ keep i) items
found-kept keep [] apart = tt
found-kept keep (x ∷ xs) apart = (
  first (keep x) refl,
  all-weaker (λ i. (x.id ≡ i.id → ⊥) × (has_id (filter keep xs) i.id ≡ keep i)) (λ i. has_id (cond (keep x) (x ∷ filter keep xs) (filter keep xs)) i.id ≡ keep i) xs later
      (all-both (λ i. x.id ≡ i.id → ⊥) (λ i. has_id (filter keep xs) i.id ≡ keep i) xs apart.0 (found-kept keep xs apart.1)),
)
  where
    first : (b : Bool) → keep x ≡ b → has_id (cond b (x ∷ filter keep xs) (filter keep xs)) x.id ≡ keep x
    first true t = or_left (eqb x.id x.id) (has_id (filter keep xs) x.id) (eq-eqb x.id x.id refl) ∙ sym t
    first false t = none-kept x keep xs apart.0 ∙ sym t

    later : (i : Item) → (x.id ≡ i.id → ⊥) × (has_id (filter keep xs) i.id ≡ keep i) → has_id (cond (keep x) (x ∷ filter keep xs) (filter keep xs)) i.id ≡ keep i
    later i p = by_test (keep x)
      where
        by_test : (b : Bool) → has_id (cond b (x ∷ filter keep xs) (filter keep xs)) i.id ≡ keep i
        by_test true = ap (λ b. b || has_id (filter keep xs) i.id) (ne_eqb x.id i.id p.0) ∙ p.1
        by_test false = p.1

-- # What is gone

has-said : (e : Event) (items : List Item) (id : ℕ) → has_id (map (said_to e) items) id ≡ has_id items id
has-said e [] id = refl
has-said e (i ∷ items) id = ap (λ b. eqb i.id id || b) (has-said e items id)

filter-same : (p q : Item → Bool) (items : List Item) → ((i : Item) → p i ≡ q i) → filter p items ≡ filter q items
filter-same p q items h = λ k. filter (λ i. h i k) items

filter-each : (p q : Item → Bool) (items : List Item) → AllByRecursion (λ i. p i ≡ q i) items → filter p items ≡ filter q items
filter-each p q [] h = refl
filter-each p q (i ∷ items) h = λ k. cond (h.0 k) (i ∷ filter-each p q items h.1 k) (filter-each p q items h.1 k)

not-not : (b : Bool) → not (not b) ≡ b
not-not true = refl
not-not false = refl

gone : (e : Event) (items : List Item) (out : Item → Bool) → Pairs (λ i j. i.id ≡ j.id → ⊥) items → begins e ≡ None → ((i : Item) → ends e i ≡ out i)
    → ids_gone items (next_held e items) ≡ ids_of (filter out items)
gone e items out apart none same =
    let kept : List Item = filter (λ i. not (out i)) items in
    let after : next_held e items ≡ map (said_to e) kept =
    rw none (append-nil (map (said_to e) (filter (λ i. not (ends e i)) items)) ∙ ap (map (said_to e)) (filter-same (λ i. not (ends e i)) (λ i. not (out i)) items (λ i. ap not (same i)))) in
    ap (λ xs. ids_gone items xs) after
    ∙ ap ids_of (filter-each (λ i. not (has_id (map (said_to e) kept) i.id)) out items
    (all-weaker (λ i. has_id kept i.id ≡ not (out i)) (λ i. not (has_id (map (said_to e) kept) i.id) ≡ out i) items
    (λ i h. ap not (has-said e kept i.id ∙ h) ∙ not-not (out i)) (found-kept (λ i. not (out i)) items apart)))

abbrev tag_role : Role → ℕ → Role × ℕ
tag_role role id = (role, id)

named-ids : (role : Role) (items : List SentItem) → map (λ s. tag_role role s.item.id) items ≡ map (tag_role role) (ids_of (items_of items))
named-ids role [] = refl
named-ids role (s ∷ items) = ap (λ t. tag_role role s.item.id ∷ t) (named-ids role items)

-- those that pass, named by their ids, are the ones that an event names that ends just them
names-gone : (role : Role) (e : Event) (items : List SentItem) (out : Item → Bool) → IsHeld items → begins e ≡ None → ((i : Item) → ends e i ≡ out i)
    → map (λ s. tag_role role s.item.id) (filter (λ s. out s.item) items) ≡ map (tag_role role) (ids_gone (items_of items) (next_held e (items_of items)))
names-gone role e items out held none same =
    named-ids role (filter (λ s. out s.item) items)
    ∙ ap (λ xs. map (tag_role role) (ids_of xs)) (sym (filter_item out items))
    ∙ ap (map (tag_role role)) (sym (gone e (items_of items) out (pairs-of (λ i j. i.id ≡ j.id → ⊥) (items_of items) (apart (items_of items) (held_in_order items held))) none same))

pub names_are : (role : Role) (items : List SentItem) (out : Item → Bool) (xs : List SentItem) (v : List (Role × ℕ)) → IsHeld items → xs ≡ filter (λ s. out s.item) items
    → v ≡ map (λ s. tag_role role s.item.id) xs → Names role out (items_of items) v
names_are role items out xs v held same is = λ e none ends. is ∙ ap (map (λ s. tag_role role s.item.id)) same ∙ names-gone role e items out held none ends

-- by an id alone
one-id : (id x : ℕ) → id < 2 ^ 32 → x < 2 ^ 32 → is_inside x id id ≡ (x == id)
one-id id x h k = grind arith

filter-each-sent : (p q : SentItem → Bool) (items : List SentItem) → AllByRecursion (λ s. p s ≡ q s) items → filter p items ≡ filter q items
filter-each-sent p q [] h = refl
filter-each-sent p q (s ∷ items) h = λ k. cond (h.0 k) (s ∷ filter-each-sent p q items h.1 k) (filter-each-sent p q items h.1 k)

pub one_covered : (id : ℕ) (items : List SentItem) → id < 2 ^ 32 → All (λ s. s.item.id < 2 ^ 32) items → covered id id items ≡ filter (λ s. s.item.id == id) items
one_covered id items small fit =
    filter-each-sent (is_covered id id) (λ s. s.item.id == id) items (each-of (λ s. is_covered id id s ≡ (s.item.id == id)) items (λ k d l. one-id id (get_or items k d).item.id small (fit k d l)))

-- what passes is found among those that pass
found-kept-first : (p : SentItem → Bool) (items : List SentItem) → find p (filter p items) ≡ find p items
found-kept-first p [] = refl
found-kept-first p (s ∷ items) = by_test (p s) refl (found-kept-first p items)
  where
    by_test : (b : Bool) → p s ≡ b → find p (filter p items) ≡ find p items → find p (cond b (s ∷ filter p items) (filter p items)) ≡ cond b (Some s) (find p items)
    by_test true t h = rw t refl
    by_test false t h = h

found-item : (p : Item → Bool) (items : List SentItem) → find p (items_of items) ≡ option_map (λ (s : SentItem). s.item) (find (λ s. p s.item) items)
found-item p [] = refl
found-item p (s ∷ items) = by_test (p s.item) (found-item p items)
  where
    by_test : (b : Bool) → find p (items_of items) ≡ option_map (λ (s : SentItem). s.item) (find (λ s. p s.item) items)
        → cond b (Some s.item) (find p (items_of items)) ≡ option_map (λ (s : SentItem). s.item) (cond b (Some s) (find (λ s. p s.item) items))
    by_test true h = refl
    by_test false h = h

pub found_covered : (id : ℕ) (items inside : List SentItem) → id < 2 ^ 32 → All (λ s. s.item.id < 2 ^ 32) items → inside ≡ covered id id items
    → find (λ i. i.id == id) (items_of items) ≡ option_map (λ (s : SentItem). s.item) (find (λ s. s.item.id == id) inside)
found_covered id items inside small fit is =
    let p : SentItem → Bool = λ s. s.item.id == id in
    found-item (λ i. i.id == id) items
    ∙ ap (option_map (λ (s : SentItem). s.item)) (sym (found-kept-first p items) ∙ ap (find p) (sym (is ∙ one_covered id items small fit)))

-- all pass
all-pass : (items : List SentItem) → items ≡ filter (λ s. true) items
all-pass [] = refl
all-pass (s ∷ items) = ap (λ t. s ∷ t) (all-pass items)

pub all_named : (role : Role) (items : List SentItem) (v : List (Role × ℕ)) → IsHeld items → v ≡ map (λ s. tag_role role s.item.id) items → Names role (λ i. true) (items_of items) v
all_named role items v held is = names_are role items (λ i. true) items v held (all-pass items) is

-- # Of both tables

quiet : (role : Role) (e : Event) (items : List Item) → ((i : Item) → ends e i ≡ false) → map (tag_role role) (ids_gone items (next_held e items)) ≡ []
quiet role e items none = ap (map (tag_role role)) (quiet-gone e items none)

sent-part : (e : Event) (t : TablesView) → map (tag_role Sender) (ids_gone (items_of t.sent) (items_of (next_sent_held e t.sent))) ≡ map (tag_role Sender) (ids_gone (items_of t.sent) (next_held e (items_of t.sent)))
sent-part e t = ap (λ xs. map (tag_role Sender) (ids_gone (items_of t.sent) xs)) (items-next e t.sent)

quiet-ended : (s r : Event) (t : TablesView) → ((i : Item) → ends s i ≡ false) → ((i : Item) → ends r i ≡ false) → ended_by_events s r t ≡ []
quiet-ended s r t hs hr = λ k. (sent-part s t ∙ quiet Sender s (items_of t.sent) hs) k ++ quiet Receiver r t.received hr k

sent-ended : (e : Event) (t : TablesView) → map (tag_role Sender) (ids_gone (items_of t.sent) (next_held e (items_of t.sent))) ≡ ended_by_events e Nothing t
sent-ended e t =
    sym (append-nil (map (tag_role Sender) (ids_gone (items_of t.sent) (next_held e (items_of t.sent)))))
    ∙ (λ k. sym (sent-part e t) k ++ sym (quiet Receiver Nothing t.received (λ i. refl)) k)

received-ended : (e : Event) (t : TablesView) → map (tag_role Receiver) (ids_gone t.received (next_held e t.received)) ≡ ended_by_events Nothing e t
received-ended e t =
    λ k. sym (sent-part Nothing t ∙ quiet Sender Nothing (items_of t.sent) (λ i. refl)) k ++ map (tag_role Receiver) (ids_gone t.received (next_held e t.received))

settles-ends : (d : Disposition) (i : Item) → d.settled ≡ true → d.settled && in_range d.first d.last i ≡ in_range d.first d.last i
settles-ends d i h = rw h refl

settles-none : (d : Disposition) (i : Item) → d.settled ≡ false → d.settled && in_range d.first d.last i ≡ false
settles-none d i h = rw h refl

pub said_ended : (role : Role) (d : Disposition) (t : TablesView) (v : List (Role × ℕ)) → d.settled ≡ true → Names role (in_range d.first d.last) (held_items role t) v
    → v ≡ ended_in (change.Says role d) t
said_ended Sender d t v h names = names (Says d) refl (λ i. settles-ends d i h) ∙ sent-ended (Says d) t
said_ended Receiver d t v h names = names (Says d) refl (λ i. settles-ends d i h) ∙ received-ended (Says d) t

pub heard_ended : (role : Role) (d : Disposition) (t : TablesView) (v : List (Role × ℕ)) → d.settled ≡ true → Names role (in_range d.first d.last) (held_items role t) v
    → v ≡ ended_in (change.Hears role d) t
heard_ended Sender d t v h names = names (Hears d) refl (λ i. settles-ends d i h) ∙ sent-ended (Hears d) t
heard_ended Receiver d t v h names = names (Hears d) refl (λ i. settles-ends d i h) ∙ received-ended (Hears d) t

pub said_quiet : (role : Role) (d : Disposition) (t : TablesView) → d.settled ≡ false → [] ≡ ended_in (change.Says role d) t
said_quiet Sender d t h = sym (quiet-ended (Says d) Nothing t (λ i. settles-none d i h) (λ i. refl))
said_quiet Receiver d t h = sym (quiet-ended Nothing (Says d) t (λ i. refl) (λ i. settles-none d i h))

pub heard_quiet : (role : Role) (d : Disposition) (t : TablesView) → d.settled ≡ false → [] ≡ ended_in (change.Hears role d) t
heard_quiet Sender d t h = sym (quiet-ended (Hears d) Nothing t (λ i. settles-none d i h) (λ i. refl))
heard_quiet Receiver d t h = sym (quiet-ended Nothing (Hears d) t (λ i. refl) (λ i. settles-none d i h))

pub later_ended : (role : Role) (id : ℕ) (state : Option DeliveryState) (t : TablesView) (v : List (Role × ℕ)) → Names role (λ i. i.id == id) (held_items role t) v
    → v ≡ ended_in (change.Continues role id state true) t
later_ended Sender id state t v names = names (Continues id state true) refl (λ i. refl) ∙ sent-ended (Continues id state true) t
later_ended Receiver id state t v names = names (Continues id state true) refl (λ i. refl) ∙ received-ended (Continues id state true) t

pub later_quiet : (role : Role) (id : ℕ) (state : Option DeliveryState) (t : TablesView) → [] ≡ ended_in (change.Continues role id state false) t
later_quiet Sender id state t = sym (quiet-ended (Continues id state false) Nothing t (λ i. refl) (λ i. refl))
later_quiet Receiver id state t = sym (quiet-ended Nothing (Continues id state false) t (λ i. refl) (λ i. refl))

both-named : (e : Event) (t : TablesView) (a b : List (Role × ℕ)) → a ≡ map (tag_role Sender) (ids_gone (items_of t.sent) (next_held e (items_of t.sent)))
    → b ≡ map (tag_role Receiver) (ids_gone t.received (next_held e t.received)) → a ++ b ≡ ended_by_events e e t
both-named e t a b h k = λ i. (h ∙ sym (sent-part e t)) i ++ k i

pub link_ended : (link : ℕ) (t : TablesView) (a b : List (Role × ℕ)) → Names Sender (λ i. i.link == link) (items_of t.sent) a → Names Receiver (λ i. i.link == link) t.received b
    → a ++ b ≡ ended_in (change.Leaves link) t
link_ended link t a b h k = both-named (Leaves link) t a b (h (Leaves link) refl (λ i. refl)) (k (Leaves link) refl (λ i. refl))

pub all_ended : (t : TablesView) (a b : List (Role × ℕ)) → Names Sender (λ i. true) (items_of t.sent) a → Names Receiver (λ i. true) t.received b → a ++ b ≡ ended_in change.Over t
all_ended t a b h k = both-named Over t a b (h Over refl (λ i. refl)) (k Over refl (λ i. refl))
