-- What stays true of the deliveries that are held when some end, one begins, or states are told.
use Rattle.std.proofs.Common.{◌≡◌, ◌<◌, ◌≤◌, ◌+◌, ◌-◌, ◌^◌, ℕ, Bool, false, ◌&&◌, ◌||◌, ◌==◌, nat_eq, IsTrue, List, [], ◌∷◌, ◌++◌, map, length, get_or, set, take, drop, refl, arith, sym, ap, ◌∙◌, subst, ⊎_elim, length-append, length-drop, append_assoc, append-nil, take-append-drop}
use Rattle.std.specs.List.{list_any, filter, AllPairs, All, between, remove_range}
use Rattle.std.specs.Cmp.Lexicographic.{pointwise, nat_list_eq_equiv}
use Rattle.std.specs.Cmp.{nat_eq_equiv}
use Rattle.std.proofs.lemmas.Bool.{cases_lt, cases_Bool, true≢false}
use Rattle.std.proofs.lemmas.List.{length-take-le, get_or-take, get_or-drop, get_or_append_left, get_or-append_right, map-append, length-map, get_or-map, drop_more, get_or_read, get_or_at, set_at}
use Rattle.std.proofs.lemmas.List.Edits.{split_between, between_more, length-between}
use Rattle.std.proofs.lemmas.List.Folds.{list_any_none, list_any_at}
use Rattle.std.proofs.lemmas.List.Kept.{AllPairs-filter}
use Rattle.std.proofs.lemmas.List.Elements.{All-filter, All-push}
use Rattle.std.proofs.lemmas.List.Quantifiers.{all_pairs_push}
use Rattle.amqp_flow.specs.Serial.{is_before}
use Rattle.amqp_events.specs.Told.{SentItem}
use Rattle.amqp_deliveries.specs.declared.item.Side.TheVariants.{Local, Remote}
use Rattle.amqp_deliveries.specs.declared.item.Side.{Side}
use Rattle.amqp_deliveries.specs.declared.span.Span.{Span}
use Rattle.amqp_deliveries.specs.declared.tags.TagIndex.{TagIndex}
use Rattle.amqp_performatives.specs.declared.state.DeliveryState.{DeliveryState}
use Rattle.amqp_deliveries.specs.Held.{IsHeld, HasItsTag, has_tag}
use Rattle.amqp_deliveries.specs.Edits.{stated}
use Rattle.amqp_deliveries.specs.Span.{IsWithin, without, change_part}
use Rattle.amqp_deliveries.specs.Tags.{IsIndex}

-- # As it is written

pub kept_as : (index : TagIndex) (xs ys : List SentItem) → ys ≡ xs → IsHeld xs → IsIndex index xs → IsHeld ys × IsIndex index ys
kept_as index xs ys e held h = let P : List SentItem → Type 0 = λ t. IsHeld t × IsIndex index t in subst P (sym e) (held, h)

pub held_none : IsHeld []
held_none = record { in_order = λ i j d h l. absurd (omega arith); apart = λ i j d h l. absurd (omega arith); fit = λ k d l. absurd (omega arith) }

-- # A span ends

tagged-turned : (x y : SentItem) → has_tag x.item.link x.item.tag y ≡ has_tag y.item.link y.item.tag x
tagged-turned x y = λ i. nat_eq_equiv.symm y.item.link x.item.link i && nat_list_eq_equiv.symm x.item.tag y.item.tag i

none-before : (items : List SentItem) (start place : ℕ) (x : SentItem) → IsHeld items → start ≤ place → place < length items → x ≡ get_or items place x
    → list_any (has_tag x.item.link x.item.tag) (take start items) ≡ false
none-before items start place x held h l is =
    list_any_none (has_tag x.item.link x.item.tag) (take start items) (λ k d b.
    let n = length-take-le start items (omega arith) in
    let e : get_or items place d ≡ x = sym (get_or_read items place x l is d) in
    let P : SentItem → Type 0 = λ y. has_tag y.item.link y.item.tag (get_or items k d) ≡ false in
    rw (get_or-take start items k d (omega arith)) (subst P e (held.apart k place d (omega arith) l)))

none-after : (items : List SentItem) (place : ℕ) (x : SentItem) → IsHeld items → place < length items → x ≡ get_or items place x
    → list_any (has_tag x.item.link x.item.tag) (drop (place + 1) items) ≡ false
none-after items place x held l is =
    list_any_none (has_tag x.item.link x.item.tag) (drop (place + 1) items) (λ k d b.
    let n = length-drop (place + 1) items in
    let e : get_or items place d ≡ x = sym (get_or_read items place x l is d) in
    let other : SentItem = get_or items (place + 1 + k) d in
    let P : SentItem → Type 0 = λ y. has_tag other.item.link other.item.tag y ≡ false in
    rw (get_or-drop (place + 1) items k d) (tagged-turned x other ∙ subst P e (held.apart place (place + 1 + k) d (omega arith) (omega arith))))

pub alone : (items : List SentItem) (start place : ℕ) (x : SentItem) → IsHeld items → start ≤ place → place < length items → x ≡ get_or items place x
    → HasItsTag (take start items) x.item (drop (place + 1) items)
alone items start place x held h l is = (none-before items start place x held h l is, none-after items place x held l is)

pub before_place : (items : List SentItem) (start place : ℕ) (x : SentItem) → place < length items → x ≡ get_or items place x
    → remove_range items start place ≡ take start items ++ x ∷ drop (place + 1) items
before_place items start place x l is = ap (λ t. take start items ++ t) (drop_more items place x l ∙ ap (λ y. y ∷ drop (place + 1) items) (sym is))

left-long : {X : Type 0} (xs : List X) (i j : ℕ) → i ≤ j → j ≤ length xs → length (remove_range xs i j) + (j - i) ≡ length xs
left-long xs i j h w = omega (arith, length-append (take i xs) (drop j xs), length-take-le i xs (omega arith), length-drop j xs)

left-front : {X : Type 0} (xs : List X) (i j k : ℕ) (d : X) → i ≤ j → j ≤ length xs → k < i → get_or (remove_range xs i j) k d ≡ get_or xs k d
left-front xs i j k d h w l =
    get_or_append_left (take i xs) (drop j xs) d k (omega (arith, length-take-le i xs (omega arith))) ∙ get_or-take i xs k d l

left-back : {X : Type 0} (xs : List X) (i j k : ℕ) (d : X) → i ≤ j → j ≤ length xs → i ≤ k → get_or (remove_range xs i j) k d ≡ get_or xs (k + (j - i)) d
left-back xs i j k d h w l =
    get_or-append_right (take i xs) (drop j xs) i k d (length-take-le i xs (omega arith)) l
    ∙ get_or-drop j xs (k - i) d
    ∙ ap (λ n. get_or xs n d) (omega arith)

pairs_left : {X : Type 0} (R : X → X → Type 0) (xs : List X) (i j : ℕ) → i ≤ j → j ≤ length xs → AllPairs R xs → AllPairs R (remove_range xs i j)
pairs_left R xs i j h w all = λ m n d l b.
    let long = left-long xs i j h w in
    ⊎_elim
    (λ nf. rw (left-front xs i j m d h w (omega arith), left-front xs i j n d h w nf) (all m n d l (omega arith)))
    (λ nb. ⊎_elim
    (λ mf. rw (left-front xs i j m d h w mf, left-back xs i j n d h w nb) (all m (n + (j - i)) d (omega arith) (omega arith)))
    (λ mb. rw (left-back xs i j m d h w mb, left-back xs i j n d h w nb) (all (m + (j - i)) (n + (j - i)) d (omega arith) (omega arith)))
    (cases_lt m i))
    (cases_lt n i)

all_left : {X : Type 0} (P : X → Type 0) (xs : List X) (i j : ℕ) → i ≤ j → j ≤ length xs → All P xs → All P (remove_range xs i j)
all_left P xs i j h w all = λ k d l.
    let long = left-long xs i j h w in
    ⊎_elim
    (λ kf. rw (left-front xs i j k d h w kf) (all k d (omega arith)))
    (λ kb. rw (left-back xs i j k d h w kb) (all (k + (j - i)) d (omega arith)))
    (cases_lt k i)

pub held_left : (span : Span) (items : List SentItem) → IsWithin span items → IsHeld items → IsHeld (without span items)
held_left span items w held =
    record {
      in_order = pairs_left (λ x y. IsTrue (is_before x.item.id y.item.id)) items span.start span.end w.ordered w.within held.in_order;
      apart = pairs_left (λ x y. has_tag y.item.link y.item.tag x ≡ false) items span.start span.end w.ordered w.within held.apart;
      fit = all_left (λ x. x.item.id < 2 ^ 32) items span.start span.end w.ordered w.within held.fit;
    }

-- # Those that pass a test are left

pub held_filtered : (p : SentItem → Bool) (items : List SentItem) → IsHeld items → IsHeld (filter p items)
held_filtered p items held =
    record {
      in_order = AllPairs-filter (λ x y. IsTrue (is_before x.item.id y.item.id)) p items held.in_order;
      apart = AllPairs-filter (λ x y. has_tag y.item.link y.item.tag x ≡ false) p items held.apart;
      fit = All-filter p (λ x. x.item.id < 2 ^ 32) items held.fit;
    }

-- # One begins

any-at : {X : Type 0} (p : X → Bool) (xs : List X) → list_any p xs ≡ false → (k : ℕ) (d : X) → k < length xs → p (get_or xs k d) ≡ false
any-at p xs h k d l =
    ⊎_elim
    (λ t. absurd (true≢false (sym (list_any_at p xs k d l t) ∙ h)))
    (λ f. f)
    (cases_Bool (p (get_or xs k d)))

pub held_more : (items : List SentItem) (x : SentItem) → IsHeld items → All (λ y. IsTrue (is_before y.item.id x.item.id)) items → list_any (has_tag x.item.link x.item.tag) items ≡ false
    → x.item.id < 2 ^ 32 → IsHeld (items ++ x ∷ [])
held_more items x held follows fresh small =
    record {
      in_order = all_pairs_push (λ y z. IsTrue (is_before y.item.id z.item.id)) items x held.in_order follows;
      apart = all_pairs_push (λ y z. has_tag z.item.link z.item.tag y ≡ false) items x held.apart (any-at (has_tag x.item.link x.item.tag) items fresh);
      fit = All-push (λ y. y.item.id < 2 ^ 32) items x held.fit small;
    }

-- # States are told

-- the next place of a span that changes
pub change_more : (start place : ℕ) (f : SentItem → SentItem) (items now : List SentItem) (x : SentItem) → start ≤ place → place < length items
    → now ≡ change_part (record { start = start; end = place }) f items → x ≡ get_or now place x
    → set now place (f x) ≡ change_part (record { start = start; end = place + 1 }) f items
change_more start place f items now x h l is read =
    let front : List SentItem = take start items ++ map f (between start place items) in
    let y : SentItem = get_or items place x in
    let rest : List SentItem = drop (place + 1) items in
    let long : length front ≡ place =
    omega (arith, length-append (take start items) (map f (between start place items)), length-take-le start items (omega arith), length-map (between start place items) f, length-between items start place (omega arith)) in
    let shape : now ≡ front ++ y ∷ rest = is ∙ ap (λ t. front ++ t) (drop_more items place x l) in
    let same : x ≡ y = read ∙ ap (λ t. get_or t place x) shape ∙ get_or_at front y rest x place long in
    let more : map f (between start (place + 1) items) ≡ map f (between start place items) ++ f y ∷ [] =
    ap (map f) (between_more items start place x h l) ∙ map-append f (between start place items) (y ∷ []) in
    (λ i. set (shape i) place (f (same i)))
    ∙ set_at front y rest (f y) place long
    ∙ sym (ap (λ t. take start items ++ t ++ rest) more ∙ ap (λ t. t ++ rest) (sym (append_assoc (take start items) (map f (between start place items)) (f y ∷ []))) ∙ append_assoc front (f y ∷ []) rest)

-- no place of a span has changed yet
pub change_none : (start : ℕ) (f : SentItem → SentItem) (items : List SentItem) → items ≡ change_part (record { start = start; end = start }) f items
change_none start f items =
    let none : start - start ≡ 0 = omega arith in
    sym ((λ i. take start items ++ map f (take (none i) (drop start items)) ++ drop start items) ∙ ap (λ t. t ++ drop start items) (append-nil (take start items)) ∙ take-append-drop start items)

-- the one place of a span
pub change_one : (span : Span) (f : SentItem → SentItem) (items : List SentItem) (x : SentItem) → span.end ≤ span.start + 1 → span.start < span.end → span.end ≤ length items
    → x ≡ get_or items span.start x → set items span.start (f x) ≡ change_part span f items
change_one span f items x few some within read =
    let one : span.start + 1 ≡ span.end = omega arith in
    change_more span.start span.start f items items x (omega arith) (omega arith) (change_none span.start f items) read
    ∙ ap (λ n. change_part (record { start = span.start; end = n }) f items) one

-- no place at all
pub change_empty : (span : Span) (f : SentItem → SentItem) (items : List SentItem) → span.start ≤ span.end → span.end ≤ span.start → items ≡ change_part span f items
change_empty span f items o e =
    let same : span.start ≡ span.end = omega arith in
    change_none span.start f items ∙ ap (λ n. change_part (record { start = span.start; end = n }) f items) same

abbrev Key3 : Type 0
Key3 = ℕ × ℕ × List ℕ

abbrev key3 : SentItem → Key3
key3 x = (x.item.id, x.item.link, x.item.tag)

keys-told : (side : Side) (tells : Bool) (state : DeliveryState) (items : List SentItem) → map key3 (map (stated side tells state) items) ≡ map key3 items
keys-told side tells state [] = refl
keys-told Local tells state (x ∷ items) = ap (λ t. key3 x ∷ t) (keys-told Local tells state items)
keys-told Remote tells state (x ∷ items) = ap (λ t. key3 x ∷ t) (keys-told Remote tells state items)

pub keys_changed : (span : Span) (side : Side) (tells : Bool) (state : DeliveryState) (items : List SentItem) → IsWithin span items → map key3 (change_part span (stated side tells state) items) ≡ map key3 items
keys_changed span side tells state items w =
    let a : List SentItem = take span.start items in
    let b : List SentItem = between span.start span.end items in
    let c : List SentItem = drop span.end items in
    map-append key3 (a ++ map (stated side tells state) b) c
    ∙ ap (λ t. t ++ map key3 c) (map-append key3 a (map (stated side tells state) b) ∙ ap (λ t. map key3 a ++ t) (keys-told side tells state b))
    ∙ append_assoc (map key3 a) (map key3 b) (map key3 c)
    ∙ sym (ap (map key3) (split_between items span.start span.end w.ordered) ∙ map-append key3 a (b ++ c) ∙ ap (λ t. map key3 a ++ t) (map-append key3 b c))

any-mapped : {X Y : Type 0} (f : X → Y) (p : Y → Bool) (xs : List X) → list_any (λ x. p (f x)) xs ≡ list_any p (map f xs)
any-mapped f p [] = refl
any-mapped f p (x ∷ xs) = ap (λ t. p (f x) || t) (any-mapped f p xs)

abbrev is_tagged3 : ℕ → List ℕ → Key3 → Bool
is_tagged3 link tag k = (k.1 == link) && pointwise nat_eq tag k.2

pub index_same : (index : TagIndex) (items changed : List SentItem) → map key3 changed ≡ map key3 items → IsIndex index items → IsIndex index changed
index_same index items changed e h = λ link tag.
    h link tag ∙ any-mapped key3 (is_tagged3 link tag) items ∙ sym (ap (list_any (is_tagged3 link tag)) e) ∙ sym (any-mapped key3 (is_tagged3 link tag) changed)

key-at : (items changed : List SentItem) → map key3 changed ≡ map key3 items → (k : ℕ) (d : SentItem) → k < length changed → key3 (get_or items k d) ≡ key3 (get_or changed k d)
key-at items changed e k d l =
    let n = length-map changed key3 in
    let m = length-map items key3 in
    let long = ap length e in
    sym (get_or-map key3 items k d (key3 d) (omega arith)) ∙ sym (ap (λ t. get_or t k (key3 d)) e) ∙ get_or-map key3 changed k d (key3 d) l

long-same : (items changed : List SentItem) → map key3 changed ≡ map key3 items → length changed ≡ length items
long-same items changed e = sym (length-map changed key3) ∙ ap length e ∙ length-map items key3

pub held_same : (items changed : List SentItem) → map key3 changed ≡ map key3 items → IsHeld items → IsHeld changed
held_same items changed e held =
    let n = long-same items changed e in
    record {
      in_order = λ i j d h l.
          let P : ℕ → ℕ → Type 0 = λ a b. IsTrue (is_before a b) in
          subst (P (get_or changed i d).item.id) (ap (λ k. k.0) (key-at items changed e j d l)) (subst (λ a. P a (get_or items j d).item.id) (ap (λ k. k.0) (key-at items changed e i d (omega arith))) (held.in_order i j d h (omega arith)));
      apart = λ i j d h l.
          let P : Key3 → Key3 → Type 0 = λ a b. is_tagged3 b.1 b.2 a ≡ false in
          subst (P (key3 (get_or changed i d))) (key-at items changed e j d l) (subst (λ a. P a (key3 (get_or items j d))) (key-at items changed e i d (omega arith)) (held.apart i j d h (omega arith)));
      fit = λ k d l. let P : ℕ → Type 0 = λ a. a < 2 ^ 32 in subst P (ap (λ q. q.0) (key-at items changed e k d l)) (held.fit k d (omega arith));
    }

-- what changes at a span's places keeps the ids, links and tags
pub kept_changed : (tags : TagIndex) (span : Span) (side : Side) (tells : Bool) (state : DeliveryState) (was now : List SentItem) → IsWithin span was
    → now ≡ change_part span (stated side tells state) was → IsHeld was → IsIndex tags was → IsHeld now × IsIndex tags now
kept_changed tags span side tells state was now within e held index =
    let change : List SentItem = change_part span (stated side tells state) was in
    let keys = keys_changed span side tells state was within in
    kept_as tags change now e (held_same was change keys held) (index_same tags was change keys index)
