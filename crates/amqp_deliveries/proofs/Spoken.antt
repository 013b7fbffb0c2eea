-- What one event makes of a table of deliveries, and what it tells.
use Rattle.std.proofs.Common.{◌≡◌, ◌<◌, ◌≤◌, ◌+◌, ◌^◌, ◌==◌, ℕ, Bool, true, false, not, ◌&&◌, ◌||◌, cond, Option, Some, None, List, [], ◌∷◌, ◌++◌, map, filter, filter_map, length, get_or, refl, sym, ap, ◌∙◌, subst, append-nil, arith}
use Rattle.std.specs.List.{All, cons_option, between}
use Rattle.std.proofs.lemmas.List.Elements.{All-head, All-tail, filter_map-append}
use Rattle.std.proofs.lemmas.List.Edits.{between_more}
use Rattle.amqp_flow.specs.Serial.{is_inside}
use Rattle.amqp_performatives.specs.declared.state.DeliveryState.{DeliveryState}
use Rattle.amqp_performatives.specs.Outcome.{is_outcome}
use Rattle.amqp_events.specs.Event.{Item, Disposition, Event, Begins, Continues, Says, Hears, Leaves}
use Rattle.amqp_events.specs.Since.{or_earlier}
use Rattle.amqp_events.specs.Unsettled.{begins, ends}
use Rattle.amqp_events.specs.Told.{SentItem, Telling, telling, tellings, next_sent, next_sent_held, has_outcome}
use Rattle.amqp_deliveries.specs.declared.item.Side.TheVariants.{Local, Remote}
use Rattle.amqp_deliveries.specs.Held.{untold, is_on, is_covered, covered, uncovered, change_covered, unlinked}
use Rattle.amqp_deliveries.specs.Edits.{stated, told_first}

-- # An event that ends some, and one that changes some

left : (e : Event) (out : SentItem → Bool) (items : List SentItem) → ((s : SentItem) → ends e s.item ≡ out s) → ((s : SentItem) → out s ≡ false → next_sent e s ≡ s)
    → map (next_sent e) (filter (λ s. not (ends e s.item)) items) ≡ filter (λ s. not (out s)) items
left e out [] same stays = refl
left e out (s ∷ items) same stays = by_end (out s) refl (same s) (left e out items same stays)
  where
    rest : List SentItem
    rest = filter (λ s. not (ends e s.item)) items

    kept : List SentItem
    kept = filter (λ s. not (out s)) items

    by_end : (b : Bool) → out s ≡ b → ends e s.item ≡ out s → map (next_sent e) (filter (λ s. not (ends e s.item)) items) ≡ filter (λ s. not (out s)) items
        → map (next_sent e) (cond (not (ends e s.item)) (s ∷ filter (λ s. not (ends e s.item)) items) (filter (λ s. not (ends e s.item)) items))
        ≡ cond (not (out s)) (s ∷ filter (λ s. not (out s)) items) (filter (λ s. not (out s)) items)
    by_end true o t h = rw (t, o) h
    by_end false o t h = rw (t, o) (λ i. stays s o i ∷ h i)

changed : (e : Event) (test : SentItem → Bool) (change : SentItem → SentItem) (items : List SentItem)
    → All (λ s. ends e s.item ≡ false) items → All (λ s. next_sent e s ≡ cond (test s) (change s) s) items
    → map (next_sent e) (filter (λ s. not (ends e s.item)) items) ≡ map (λ s. cond (test s) (change s) s) items
changed e test change [] none said = refl
changed e test change (s ∷ items) none said =
    let here : ends e s.item ≡ false = All-head (λ t. ends e t.item ≡ false) s items none in
    let now : next_sent e s ≡ cond (test s) (change s) s = All-head (λ t. next_sent e t ≡ cond (test t) (change t) t) s items said in
    let rest = changed e test change items (All-tail (λ t. ends e t.item ≡ false) s items none) (All-tail (λ t. next_sent e t ≡ cond (test t) (change t) t) s items said) in
    rw here (λ i. now i ∷ rest i)

whole : (e : Event) (items xs : List SentItem) → begins e ≡ None → map (next_sent e) (filter (λ s. not (ends e s.item)) items) ≡ xs → next_sent_held e items ≡ xs
whole e items xs none h = rw (none, h) (append-nil xs)

map-itself : (f : SentItem → SentItem) → ((s : SentItem) → f s ≡ s) → (items : List SentItem) → map f items ≡ items
map-itself f h [] = refl
map-itself f h (s ∷ items) = λ i. h s i ∷ map-itself f h items i

-- # Dispositions that settle

said-past : (first last : ℕ) (state : Option DeliveryState) (s : SentItem) (b : Bool) → is_covered first last s ≡ b → b ≡ false
    → next_sent (Says (record { first = first; last = last; settled = true; state = state })) s ≡ s
said-past first last state s b e f = rw (e ∙ f) refl

heard-past : (first last : ℕ) (state : Option DeliveryState) (s : SentItem) → is_covered first last s ≡ false
    → next_sent (Hears (record { first = first; last = last; settled = true; state = state })) s ≡ s
heard-past first last state s e = rw e refl

settled-said : (first last : ℕ) (state : Option DeliveryState) (items : List SentItem)
    → next_sent_held (Says (record { first = first; last = last; settled = true; state = state })) items ≡ uncovered first last items
settled-said first last state items =
    let e : Event = Says (record { first = first; last = last; settled = true; state = state }) in
    whole e items (uncovered first last items) refl (left e (is_covered first last) items (λ s. refl) (λ s h. said-past first last state s false h refl))

settled-heard : (first last : ℕ) (state : Option DeliveryState) (items : List SentItem)
    → next_sent_held (Hears (record { first = first; last = last; settled = true; state = state })) items ≡ uncovered first last items
settled-heard first last state items =
    let e : Event = Hears (record { first = first; last = last; settled = true; state = state }) in
    whole e items (uncovered first last items) refl (left e (is_covered first last) items (λ s. refl) (λ s h. heard-past first last state s h))

-- # Dispositions that do not

none-ends : (e : Event) (items : List SentItem) → ((s : SentItem) → ends e s.item ≡ false) → All (λ s. ends e s.item ≡ false) items
none-ends e items h = λ k d l. h (get_or items k d)

each-said : (f : SentItem → SentItem) (g : SentItem → SentItem) (items : List SentItem) → ((s : SentItem) → f s ≡ g s) → All (λ s. f s ≡ g s) items
each-said f g items h = λ k d l. h (get_or items k d)

say-one : (first last : ℕ) (state : DeliveryState) (s : SentItem)
    → next_sent (Says (record { first = first; last = last; settled = false; state = Some state })) s ≡ cond (is_covered first last s) (stated Local false state s) s
say-one first last state s = by_range (is_covered first last s)
  where
    by_range : (b : Bool) → ◌≡◌ {A = SentItem} (record { item = record s.item { local = or_earlier (cond b (Some state) None) s.item.local }; told = s.told }) (cond b (stated Local false state s) s)
    by_range true = refl
    by_range false = refl

hear-one : (first last : ℕ) (state : DeliveryState) (s : SentItem)
    → next_sent (Hears (record { first = first; last = last; settled = false; state = Some state })) s ≡ cond (is_covered first last s) (stated Remote (is_outcome state) state s) s
hear-one first last state s = by_range (is_covered first last s)
  where
    by_range : (b : Bool) → ◌≡◌ {A = SentItem} (record { item = record s.item { remote = or_earlier (cond b (Some state) None) s.item.remote }; told = (b && is_outcome state) || s.told }) (cond b (stated Remote (is_outcome state) state s) s)
    by_range true = refl
    by_range false = refl

stated-said : (first last : ℕ) (state : DeliveryState) (items : List SentItem)
    → next_sent_held (Says (record { first = first; last = last; settled = false; state = Some state })) items ≡ change_covered first last (stated Local false state) items
stated-said first last state items =
    let e : Event = Says (record { first = first; last = last; settled = false; state = Some state }) in
    whole e items (change_covered first last (stated Local false state) items) refl
    (changed e (is_covered first last) (stated Local false state) items (none-ends e items (λ s. refl)) (each-said (next_sent e) _ items (say-one first last state)))

stated-heard : (first last : ℕ) (state : DeliveryState) (items : List SentItem)
    → next_sent_held (Hears (record { first = first; last = last; settled = false; state = Some state })) items ≡ change_covered first last (stated Remote (is_outcome state) state) items
stated-heard first last state items =
    let e : Event = Hears (record { first = first; last = last; settled = false; state = Some state }) in
    whole e items (change_covered first last (stated Remote (is_outcome state) state) items) refl
    (changed e (is_covered first last) (stated Remote (is_outcome state) state) items (none-ends e items (λ s. refl)) (each-said (next_sent e) _ items (hear-one first last state)))

none-said : (b : Bool) (earlier : Option DeliveryState) → or_earlier {A = DeliveryState} (cond b None None) earlier ≡ earlier
none-said true earlier = refl
none-said false earlier = refl

none-told : (b told : Bool) → (b && false) || told ≡ told
none-told true told = refl
none-told false told = refl

mute-said : (first last : ℕ) (items : List SentItem) → next_sent_held (Says (record { first = first; last = last; settled = false; state = None })) items ≡ items
mute-said first last items =
    let e : Event = Says (record { first = first; last = last; settled = false; state = None }) in
    let stays : (s : SentItem) → next_sent e s ≡ s =
    λ s i. record { item = record s.item { local = none-said (is_covered first last s) s.item.local i }; told = s.told } in
    whole e items items refl
    (changed e (λ s. false) (λ s. s) items (none-ends e items (λ s. refl)) (each-said (next_sent e) (λ s. s) items stays) ∙ map-itself (λ s. s) (λ s. refl) items)

mute-heard : (first last : ℕ) (items : List SentItem) → next_sent_held (Hears (record { first = first; last = last; settled = false; state = None })) items ≡ items
mute-heard first last items =
    let e : Event = Hears (record { first = first; last = last; settled = false; state = None }) in
    let stays : (s : SentItem) → next_sent e s ≡ s =
    λ s i. record { item = record s.item { remote = none-said (is_covered first last s) s.item.remote i }; told = none-told (is_covered first last s) s.told i } in
    whole e items items refl
    (changed e (λ s. false) (λ s. s) items (none-ends e items (λ s. refl)) (each-said (next_sent e) (λ s. s) items stays) ∙ map-itself (λ s. s) (λ s. refl) items)

-- # A disposition as it is given

pub say_settles : (d : Disposition) (items : List SentItem) → d.settled ≡ true → next_sent_held (Says d) items ≡ uncovered d.first d.last items
say_settles d items t =
    let P : Bool → Type 0 = λ b. next_sent_held (Says (record d { settled = b })) items ≡ uncovered d.first d.last items in
    subst P (sym t) (settled-said d.first d.last d.state items)

pub hear_settles : (d : Disposition) (items : List SentItem) → d.settled ≡ true → next_sent_held (Hears d) items ≡ uncovered d.first d.last items
hear_settles d items t =
    let P : Bool → Type 0 = λ b. next_sent_held (Hears (record d { settled = b })) items ≡ uncovered d.first d.last items in
    subst P (sym t) (settled-heard d.first d.last d.state items)

pub say_states : (d : Disposition) (state : DeliveryState) (items : List SentItem) → d.settled ≡ false → d.state ≡ Some state
    → next_sent_held (Says d) items ≡ change_covered d.first d.last (stated Local false state) items
say_states d state items f s =
    let P : Bool → Option DeliveryState → Type 0 = λ b o. next_sent_held (Says (record d { settled = b; state = o })) items ≡ change_covered d.first d.last (stated Local false state) items in
    subst (λ b. P b d.state) (sym f) (subst (P false) (sym s) (stated-said d.first d.last state items))

pub hear_states : (d : Disposition) (state : DeliveryState) (items : List SentItem) → d.settled ≡ false → d.state ≡ Some state
    → next_sent_held (Hears d) items ≡ change_covered d.first d.last (stated Remote (is_outcome state) state) items
hear_states d state items f s =
    let P : Bool → Option DeliveryState → Type 0 = λ b o. next_sent_held (Hears (record d { settled = b; state = o })) items ≡ change_covered d.first d.last (stated Remote (is_outcome state) state) items in
    subst (λ b. P b d.state) (sym f) (subst (P false) (sym s) (stated-heard d.first d.last state items))

pub say_nothing : (d : Disposition) (items : List SentItem) → d.settled ≡ false → d.state ≡ None → next_sent_held (Says d) items ≡ items
say_nothing d items f s =
    let P : Bool → Option DeliveryState → Type 0 = λ b o. next_sent_held (Says (record d { settled = b; state = o })) items ≡ items in
    subst (λ b. P b d.state) (sym f) (subst (P false) (sym s) (mute-said d.first d.last items))

pub hear_nothing : (d : Disposition) (items : List SentItem) → d.settled ≡ false → d.state ≡ None → next_sent_held (Hears d) items ≡ items
hear_nothing d items f s =
    let P : Bool → Option DeliveryState → Type 0 = λ b o. next_sent_held (Hears (record d { settled = b; state = o })) items ≡ items in
    subst (λ b. P b d.state) (sym f) (subst (P false) (sym s) (mute-heard d.first d.last items))

-- # Later transfers

same-id : (id x : ℕ) → id < 2 ^ 32 → x < 2 ^ 32 → (x == id) ≡ is_inside x id id
same-id id x h k = grind arith

ids-same : (id : ℕ) (items : List SentItem) → id < 2 ^ 32 → All (λ s. s.item.id < 2 ^ 32) items → All (λ s. (s.item.id == id) ≡ is_covered id id s) items
ids-same id items small fit = λ k d l. same-id id (get_or items k d).item.id small (fit k d l)

over-left : (id : ℕ) (state : Option DeliveryState) (items : List SentItem) → All (λ s. (s.item.id == id) ≡ is_covered id id s) items
    → map (next_sent (Continues id state true)) (filter (λ s. not (s.item.id == id)) items) ≡ uncovered id id items
over-left id state [] same = refl
over-left id state (s ∷ items) same =
    by_id (s.item.id == id) refl (All-head (λ t. (t.item.id == id) ≡ is_covered id id t) s items same) (over-left id state items (All-tail (λ t. (t.item.id == id) ≡ is_covered id id t) s items same))
  where
    by_id : (b : Bool) → (s.item.id == id) ≡ b → (s.item.id == id) ≡ is_covered id id s
        → map (next_sent (Continues id state true)) (filter (λ s. not (s.item.id == id)) items) ≡ uncovered id id items
        → map (next_sent (Continues id state true)) (cond (not (s.item.id == id)) (s ∷ filter (λ s. not (s.item.id == id)) items) (filter (λ s. not (s.item.id == id)) items))
        ≡ cond (not (is_covered id id s)) (s ∷ uncovered id id items) (uncovered id id items)
    by_id true t is h = rw (sym is ∙ t, t) h
    by_id false t is h = rw (sym is ∙ t, t) (λ i. (let stays : next_sent (Continues id state true) s ≡ s = rw t refl in stays i) ∷ h i)

pub continue_ends : (id : ℕ) (state : Option DeliveryState) (items : List SentItem) → id < 2 ^ 32 → All (λ s. s.item.id < 2 ^ 32) items
    → next_sent_held (Continues id state true) items ≡ uncovered id id items
continue_ends id state items small fit = whole (Continues id state true) items (uncovered id id items) refl (over-left id state items (ids-same id items small fit))

continue-one : (id : ℕ) (state : DeliveryState) (s : SentItem) → (s.item.id == id) ≡ is_covered id id s
    → next_sent (Continues id (Some state) false) s ≡ cond (is_covered id id s) (stated Remote false state s) s
continue-one id state s is = rw (sym is) (by_id (s.item.id == id))
  where
    by_id : (b : Bool) → ◌≡◌ {A = SentItem} (record { item = record s.item { remote = or_earlier (cond b (Some state) None) s.item.remote }; told = s.told }) (cond b (stated Remote false state s) s)
    by_id true = refl
    by_id false = refl

pub continue_states : (id : ℕ) (state : DeliveryState) (items : List SentItem) → id < 2 ^ 32 → All (λ s. s.item.id < 2 ^ 32) items
    → next_sent_held (Continues id (Some state) false) items ≡ change_covered id id (stated Remote false state) items
continue_states id state items small fit =
    let e : Event = Continues id (Some state) false in
    whole e items (change_covered id id (stated Remote false state) items) refl
    (changed e (is_covered id id) (stated Remote false state) items (none-ends e items (λ s. refl)) (λ k d l. continue-one id state (get_or items k d) (ids-same id items small fit k d l)))

pub continue_nothing : (id : ℕ) (items : List SentItem) → next_sent_held (Continues id None false) items ≡ items
continue_nothing id items =
    let e : Event = Continues id None false in
    let stays : (s : SentItem) → next_sent e s ≡ s =
    λ s i. record { item = record s.item { remote = none-said (s.item.id == id) s.item.remote i }; told = s.told } in
    whole e items items refl
    (changed e (λ s. false) (λ s. s) items (none-ends e items (λ s. refl)) (each-said (next_sent e) (λ s. s) items stays) ∙ map-itself (λ s. s) (λ s. refl) items)

-- # A link's end, all ends, a beginning

pub leave_ends : (link : ℕ) (items : List SentItem) → next_sent_held (Leaves link) items ≡ unlinked link items
leave_ends link items = whole (Leaves link) items (unlinked link items) refl (left (Leaves link) (is_on link) items (λ s. refl) (λ s h. refl))

pub begin_adds : (item : Item) (items : List SentItem) → next_sent_held (Begins item true) items ≡ items ++ untold item ∷ []
begin_adds item items =
    let e : Event = Begins item true in
    ap (λ t. t ++ untold item ∷ [])
    (changed e (λ s. false) (λ s. s) items (none-ends e items (λ s. refl)) (each-said (next_sent e) (λ s. s) items (λ s. refl)) ∙ map-itself (λ s. s) (λ s. refl) items)

-- # What is told

told-of : (d : Disposition) (b : Bool) (items : List SentItem)
    → filter_map (λ s. cond ((is_covered d.first d.last s && b) && not s.told) (Some (telling d s.item)) None) items
    ≡ cond b (filter_map (told_first d) (covered d.first d.last items)) []
told-of d true [] = refl
told-of d false [] = refl
told-of d false (s ∷ items) = by_range (is_covered d.first d.last s) (told-of d false items)
  where
    rest : List Telling
    rest = filter_map (λ s. cond ((is_covered d.first d.last s && false) && not s.told) (Some (telling d s.item)) None) items

    by_range : (c : Bool) → filter_map (λ s. cond ((is_covered d.first d.last s && false) && not s.told) (Some (telling d s.item)) None) items ≡ []
        → cons_option (cond ((c && false) && not s.told) (Some (telling d s.item)) None) (filter_map (λ s. cond ((is_covered d.first d.last s && false) && not s.told) (Some (telling d s.item)) None) items) ≡ []
    by_range true h = h
    by_range false h = h
told-of d true (s ∷ items) = by_range (is_covered d.first d.last s) s.told (told-of d true items)
  where
    by_range : (c t : Bool) → filter_map (λ s. cond ((is_covered d.first d.last s && true) && not s.told) (Some (telling d s.item)) None) items ≡ filter_map (told_first d) (covered d.first d.last items)
        → cons_option (cond ((c && true) && not t) (Some (telling d s.item)) None) (filter_map (λ s. cond ((is_covered d.first d.last s && true) && not s.told) (Some (telling d s.item)) None) items)
        ≡ filter_map (told_first d) (cond c (record s { told = t } ∷ covered d.first d.last items) (covered d.first d.last items))
    by_range true true h = h
    by_range true false h = ap (λ ts. telling d s.item ∷ ts) h
    by_range false t h = h

pub hear_tells : (d : Disposition) (items : List SentItem)
    → tellings (Hears d) items ≡ cond (d.settled || has_outcome d.state) (filter_map (told_first d) (covered d.first d.last items)) []
hear_tells d items = told-of d (d.settled || has_outcome d.state) items

-- the next place of a span
pub told_more : (d : Disposition) (items : List SentItem) (start place : ℕ) (x : SentItem) (was now : List Telling) → start ≤ place → place < length items → x ≡ get_or items place x
    → was ≡ filter_map (told_first d) (between start place items) → now ≡ was ++ filter_map (told_first d) (x ∷ []) → now ≡ filter_map (told_first d) (between start (place + 1) items)
told_more d items start place x was now h l read before after =
    after
    ∙ (λ i. before i ++ filter_map (told_first d) (read i ∷ []))
    ∙ sym (ap (filter_map (told_first d)) (between_more items start place x h l) ∙ filter_map-append (told_first d) (between start place items) (get_or items place x ∷ []))
