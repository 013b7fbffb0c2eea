-- A span of places against the test that its deliveries pass.
use Rattle.std.proofs.Common.{◌≡◌, ◌<◌, ◌≤◌, ◌+◌, ◌-◌, ◌^◌, ℕ, None, Bool, true, false, not, cond, List, [], ◌∷◌, ◌++◌, map, length, get_or, take, drop, refl, arith, sym, ap, ◌∙◌, subst, append_assoc, length-drop, ⊎_elim}
use Rattle.std.proofs.lemmas.Bool.{cases_lt}
use Rattle.std.specs.List.{filter, All, between}
use Rattle.std.proofs.lemmas.List.{length-take, get_or-take, get_or-drop, map-append, append-nil}
use Rattle.std.proofs.lemmas.List.Edits.{split_between, length-between, get_or-between}
use Rattle.std.proofs.lemmas.List.Elements.{filter-append, filter_passes, All-head, All-tail}
use Rattle.amqp_flow.specs.Serial.{distance, is_before, is_inside}
use Rattle.amqp_events.specs.Told.{SentItem}
use Rattle.amqp_deliveries.specs.declared.span.Span.{Span}
use Rattle.amqp_deliveries.specs.Held.{IsHeld, is_covered}
use Rattle.amqp_deliveries.specs.Span.{IsSpan, IsSpread, IsNarrowed}
use Rattle.amqp_deliveries.proofs.Serials.{inside-far, covered-past, not_covered-past_below, not_covered-past_above, covered-behind, not_covered-behind, not_covered-short}

-- # Where all pass, or none

filter-all : {X : Type 0} (q : X → Bool) (xs : List X) → All (λ x. q x ≡ true) xs → filter q xs ≡ xs
filter-all q [] h = refl
filter-all q (x ∷ xs) h =
    let here : q x ≡ true = All-head (λ y. q y ≡ true) x xs h in
    let rest = filter-all q xs (All-tail (λ y. q y ≡ true) x xs h) in
    λ i. cond (here i) (x ∷ rest i) (rest i)

filter-none : {X : Type 0} (q : X → Bool) (xs : List X) → All (λ x. q x ≡ false) xs → filter q xs ≡ []
filter-none q [] h = refl
filter-none q (x ∷ xs) h =
    let here : q x ≡ false = All-head (λ y. q y ≡ false) x xs h in
    let rest = filter-none q xs (All-tail (λ y. q y ≡ false) x xs h) in
    λ i. cond (here i) (x ∷ rest i) (rest i)

change-all : {X : Type 0} (q : X → Bool) (f : X → X) (xs : List X) → All (λ x. q x ≡ true) xs → map (λ x. cond (q x) (f x) x) xs ≡ map f xs
change-all q f [] h = refl
change-all q f (x ∷ xs) h =
    let here : q x ≡ true = All-head (λ y. q y ≡ true) x xs h in
    let rest = change-all q f xs (All-tail (λ y. q y ≡ true) x xs h) in
    λ i. cond (here i) (f x) x ∷ rest i

change-none : {X : Type 0} (q : X → Bool) (f : X → X) (xs : List X) → All (λ x. q x ≡ false) xs → map (λ x. cond (q x) (f x) x) xs ≡ xs
change-none q f [] h = refl
change-none q f (x ∷ xs) h =
    let here : q x ≡ false = All-head (λ y. q y ≡ false) x xs h in
    let rest = change-none q f xs (All-tail (λ y. q y ≡ false) x xs h) in
    λ i. cond (here i) (f x) x ∷ rest i

-- # The three parts of a list

front-all : {X : Type 0} (P : X → Type 0) (xs : List X) (i : ℕ) → ((k : ℕ) (d : X) → k < i → k < length xs → P (get_or xs k d)) → All P (take i xs)
front-all P xs i h = λ k d l.
    let n = length-take i xs in
    let low : k < i = omega arith in
    subst P (sym (get_or-take i xs k d low)) (h k d low (omega arith))

middle-all : {X : Type 0} (P : X → Type 0) (xs : List X) (i j : ℕ) → i ≤ j → j ≤ length xs → ((k : ℕ) (d : X) → i ≤ k → k < j → P (get_or xs k d)) → All P (between i j xs)
middle-all P xs i j o w h = λ k d l.
    let n = length-between xs i j w in
    let low : i + k < j = omega arith in
    subst P (sym (get_or-between xs i j k d low)) (h (i + k) d (omega arith) low)

back-all : {X : Type 0} (P : X → Type 0) (xs : List X) (j : ℕ) → ((k : ℕ) (d : X) → j ≤ k → k < length xs → P (get_or xs k d)) → All P (drop j xs)
back-all P xs j h = λ k d l.
    let n = length-drop j xs in
    subst P (sym (get_or-drop j xs k d)) (h (j + k) d (omega arith) (omega arith))

not-is : {X : Type 0} (q : X → Bool) (b : Bool) (xs : List X) → All (λ x. q x ≡ b) xs → All (λ x. not (q x) ≡ not b) xs
not-is q b xs h = λ k d l. ap not (h k d l)

-- exactly the deliveries at the span's places pass
pub span_is : (first last : ℕ) (items : List SentItem) (span : Span) → span.start ≤ span.end → span.end ≤ length items
    → ((k : ℕ) (d : SentItem) → k < span.start → k < length items → is_covered first last (get_or items k d) ≡ false)
    → ((k : ℕ) (d : SentItem) → span.start ≤ k → k < span.end → is_covered first last (get_or items k d) ≡ true)
    → ((k : ℕ) (d : SentItem) → span.end ≤ k → k < length items → is_covered first last (get_or items k d) ≡ false)
    → IsSpan first last items span
span_is first last items span o w before inside after =
    let q : SentItem → Bool = is_covered first last in
    let a : List SentItem = take span.start items in
    let b : List SentItem = between span.start span.end items in
    let c : List SentItem = drop span.end items in
    let is : items ≡ a ++ (b ++ c) = split_between items span.start span.end o in
    let fa : All (λ x. q x ≡ false) a = front-all (λ x. q x ≡ false) items span.start before in
    let tb : All (λ x. q x ≡ true) b = middle-all (λ x. q x ≡ true) items span.start span.end o w inside in
    let fc : All (λ x. q x ≡ false) c = back-all (λ x. q x ≡ false) items span.end after in
    let parts : (r : SentItem → Bool) → filter r items ≡ filter r a ++ (filter r b ++ filter r c) = λ r.
    ap (filter r) is ∙ filter-append r a (b ++ c) ∙ ap (λ t. filter r a ++ t) (filter-append r b c) in
    record {
      places = record { ordered = o; within = w };
      inside =
          sym (parts q ∙ (λ i. filter-none q a fa i ++ (filter-all q b tb i ++ filter-none q c fc i)) ∙ append-nil b);
      outside =
          sym (parts (λ x. not (q x)) ∙ (λ i. filter-all (λ x. not (q x)) a (not-is q false a fa) i ++ (filter-none (λ x. not (q x)) b (not-is q true b tb) i ++ filter-all (λ x. not (q x)) c (not-is q false c fc) i)));
      changed = λ f.
          let g : SentItem → SentItem = λ x. cond (q x) (f x) x in
          append_assoc a (map f b) c
          ∙ sym (ap (map g) is ∙ map-append g a (b ++ c) ∙ ap (λ t. map g a ++ t) (map-append g b c) ∙ (λ i. change-none q f a fa i ++ (change-all q f b tb i ++ change-none q f c fc i)));
    }

-- # Spans by distances

pub span_none : (first last : ℕ) (items : List SentItem) → ((k : ℕ) (d : SentItem) → k < length items → is_covered first last (get_or items k d) ≡ false)
    → IsSpan first last items (record { start = 0; end = 0 })
span_none first last items none =
    span_is first last items (record { start = 0; end = 0 }) (omega arith) (omega arith) (λ k d h l. none k d l) (λ k d h l. absurd (omega arith)) (λ k d h l. none k d l)

pub span_far : (first last : ℕ) (items : List SentItem) → 2 ^ 31 ≤ distance first last → IsSpan first last items (record { start = 0; end = 0 })
span_far first last items h = span_none first last items (λ k d l. inside-far (get_or items k d).item.id first last h)

pub span_short : (first last front : ℕ) (items : List SentItem) → IsSpread front items → 2 ^ 31 ≤ distance front first → distance first last < distance first front
    → IsSpan first last items (record { start = 0; end = 0 })
span_short first last front items s skipped short =
    span_none first last items (λ k d l. not_covered-short front (get_or items k d).item.id first last (s.near k d l) skipped short)

pub span_behind : (first last front i : ℕ) (items : List SentItem) → IsSpread front items → distance first last < 2 ^ 31 → 2 ^ 31 ≤ distance front first → distance first front ≤ distance first last
    → IsNarrowed front items (distance first last - distance first front + 1) i i → IsSpan first last items (record { start = 0; end = i })
span_behind first last front i items s reach skipped long n =
    span_is first last items (record { start = 0; end = i }) (omega arith) n.within
    (λ k d h l. absurd (omega arith))
    (λ k d h l. covered-behind front (get_or items k d).item.id first last (s.near k d (omega (arith, n.within))) skipped reach long (n.before k d l))
    (λ k d h l. not_covered-behind front (get_or items k d).item.id first last (s.near k d l) skipped (n.after k d h l))

places-ordered : (front low high i j : ℕ) (items : List SentItem) (d : SentItem) → IsNarrowed front items low i i → IsNarrowed front items high j j → low ≤ high → i ≤ j
places-ordered front low high i j items d n m h =
    ⊎_elim
    (λ l. let a = n.before j d l in let b = m.after j d (omega arith) (omega (arith, n.within)) in absurd (omega arith))
    (λ l. l)
    (cases_lt j i)

pub span_past : (first last front i j : ℕ) (items : List SentItem) (x : SentItem) → IsSpread front items → distance first last < 2 ^ 31 → distance front first < 2 ^ 31
    → IsNarrowed front items (distance front first) i i → IsNarrowed front items (distance front first + distance first last + 1) j j
    → IsSpan first last items (record { start = i; end = j })
span_past first last front i j items x s reach skipped n m =
    span_is first last items (record { start = i; end = j }) (places-ordered front (distance front first) (distance front first + distance first last + 1) i j items x n m (omega arith)) m.within
    (λ k d h l. not_covered-past_below front (get_or items k d).item.id first last reach skipped (n.before k d h))
    (λ k d h l. covered-past front (get_or items k d).item.id first last reach (n.after k d h (omega (arith, m.within))) (m.before k d l))
    (λ k d h l. not_covered-past_above front (get_or items k d).item.id first last (m.after k d h l))

-- # One id

-- the places of one id are one at most
not-both : (a b id : ℕ) → is_inside a id id ≡ true → is_inside b id id ≡ true → is_before a b ≡ true → ⊥
not-both a b id h k l = grind arith

nobody : SentItem
nobody = record { item = record { id = 0; link = 0; tag = []; second = false; local = None; remote = None }; told = false }

pub one_place : (id : ℕ) (items : List SentItem) (span : Span) → IsHeld items → IsSpan id id items span → span.end ≤ span.start + 1
one_place id items span held r =
    let P : SentItem → Type 0 = λ s. is_covered id id s ≡ true in
    let all : All P (between span.start span.end items) = subst (All P) (sym r.inside) (filter_passes (is_covered id id) items) in
    let n = length-between items span.start span.end r.places.within in
    ⊎_elim
    (λ two.
    let first : P (get_or items (span.start + 0) nobody) = subst P (get_or-between items span.start span.end 0 nobody (omega arith)) (all 0 nobody (omega arith)) in
    let second : P (get_or items (span.start + 1) nobody) = subst P (get_or-between items span.start span.end 1 nobody (omega arith)) (all 1 nobody (omega arith)) in
    absurd (not-both (get_or items (span.start + 0) nobody).item.id (get_or items (span.start + 1) nobody).item.id id first second
    (held.in_order (span.start + 0) (span.start + 1) nobody (omega arith) (omega (arith, r.places.within)))))
    (λ few. few)
    (cases_lt (span.start + 1) span.end)
