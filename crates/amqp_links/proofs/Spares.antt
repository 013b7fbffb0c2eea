-- The heap of the handles that are free.
use Rattle.std.proofs.Common.{◌≡◌, ◌<◌, ◌≤◌, ℕ, ◌+◌, ◌==◌, Bool, true, false, cond, Result, Ok, Err, OnOk, IsOk, List, [], ◌∷◌, length, arith, refl, sym, ap, ◌∙◌, nat_lt, slice_index_or, ⊎_elim}
use Rattle.std.proofs.lemmas.Bool.{cases_Bool, eq-eqb, ne_eqb}
use Rattle.std.proofs.lemmas.List.Sums.{sum_by-cons}
use Rattle.std.specs.Ordering.{nat_cmp, is_lt}
use Rattle.std.specs.List.{count_by, AllByRecursion}
use Rattle.amqp_rules.specs.View.{LinkView, free_handle}
use Rattle.amqp_links.specs.declared.handles.Handles.{Handles}
use Rattle.std.specs.BinaryHeap.{IsHeap, heap_items, heap_len, heap_capacity}
use Rattle.amqp_links.specs.Handles.{uses, spares, AreHandled, HasRoom, IsGained}
use Rattle.amqp_links.proofs.Handled.{lowest-unused}
use Rattle.amqp_links.proofs.Named.{yes, no}

-- # Numbers in a list

count-cons : {X : Type 0} (p : X → Bool) (x : X) (xs : List X) → count_by p (x ∷ xs) ≡ cond (p x) 1 0 + count_by p xs
count-cons p x xs = sum_by-cons (λ y. cond (p y) 1 0) x xs

not-below : (a b : ℕ) → a < b → is_lt (nat_cmp a b) ≡ false → ⊥
not-below a b h = grind (arith, h)

-- the first is there
pub first-counts : {X : Type 0} (key : X → ℕ) (x : X) (xs : List X) → x ≡ slice_index_or xs 0 x → 0 < length xs → 1 ≤ count_by (λ y. key y == key x) xs
first-counts key x [] e h = absurd (omega (arith, h))
first-counts key x (y ∷ ys) e h =
    let t : (key y == key x) ≡ true = eq-eqb (key y) (key x) (ap key (sym e)) in
    let c = count-cons (λ z. key z == key x) y ys in
    let d = yes {A = ℕ} (key y == key x) 1 0 t in
    omega (arith, c, d)

-- no number is below the least
pub above-least : {X : Type 0} (key : X → ℕ) (m k : ℕ) (xs : List X) → AllByRecursion (λ y. is_lt (nat_cmp (key y) m) ≡ false) xs → k < m → count_by (λ y. key y == k) xs ≡ 0
above-least key m k [] a h = refl
above-least key m k (y ∷ ys) a h =
    let i = above-least key m k ys a.1 h in
    let c = count-cons (λ z. key z == k) y ys in
    let d : (key y == k) ≡ false = ne_eqb (key y) k (λ e. not-below (key y) m (omega (arith, e, h)) a.0) in
    let z = no {A = ℕ} (key y == k) 1 0 d in
    omega (arith, i, c, z)

pub none-left : {X : Type 0} (key : X → ℕ) (k : ℕ) (xs : List X) → length xs ≡ 0 → count_by (λ y. key y == k) xs ≡ 0
none-left key k [] h = refl
none-left key k (x ∷ xs) h = absurd (omega (arith, h))

pub from-ok : {A E : Type 0} (r : Result A E) (P : Type 0) → IsOk r → OnOk r P → P
from-ok (Ok x) P i h = h
from-ok (Err e) P i h = absurd (cc)

-- # The lowest

unused-one : (s u h n : ℕ) → s + u ≡ cond (nat_lt h n) 1 0 → 1 ≤ s → u ≡ 0
unused-one s u h n e f = ⊎_elim (λ t. let g : s + u ≡ 1 = rw t at e in omega (arith, g, f)) (λ t. absurd (let g : s + u ≡ 0 = rw t at e in omega (arith, g, f))) (cases_Bool (nat_lt h n))

below-next : (s u h n : ℕ) → s + u ≡ cond (nat_lt h n) 1 0 → 1 ≤ s → h < n
below-next s u h n e f = ⊎_elim (λ t. grind (arith, t)) (λ t. absurd (let g : s + u ≡ 0 = rw t at e in omega (arith, g, f))) (cases_Bool (nat_lt h n))

is-below : (a b : ℕ) → a < b → nat_lt a b ≡ true
is-below a b h = grind (arith, h)

not-self : (a : ℕ) → nat_lt a a ≡ false
not-self a = grind arith

in-use-below : (s u h n : ℕ) → s + u ≡ cond (nat_lt h n) 1 0 → s ≡ 0 → h < n → 1 ≤ u
in-use-below s u h n e f l = let g : s + u ≡ 1 = rw (is-below h n l) at e in omega (arith, g, f)

pub lowest-spare : (index : Handles) (links : List LinkView) (m : ℕ) → AreHandled index links → 1 ≤ spares m index → ((k : ℕ) → k < m → spares k index ≡ 0) → m ≡ free_handle links
lowest-spare index links m i has none =
    let low = below-next (spares m index) (uses m links) m index.next (i.each m) has in
    lowest-unused links m (unused-one (spares m index) (uses m links) m index.next (i.each m) has)
    (λ k less. in-use-below (spares k index) (uses k links) k index.next (i.each k) (none k less) (omega (arith, low, less)))

pub lowest-next : (index : Handles) (links : List LinkView) → AreHandled index links → ((k : ℕ) → spares k index ≡ 0) → index.next ≡ free_handle links
lowest-next index links i none =
    lowest-unused links index.next
    (let e : spares index.next index + uses index.next links ≡ 0 = i.each index.next ∙ no {A = ℕ} (nat_lt index.next index.next) 1 0 (not-self index.next) in omega (arith, e))
    (λ k less. in-use-below (spares k index) (uses k links) k index.next (i.each k) (none k) less)

-- # In use, and given back

pub taken : (old new : Handles) (h : ℕ) (less more : List LinkView) → AreHandled old less → IsGained h less more
    → ((k : ℕ) → spares k new + cond (h == k) 1 0 ≡ spares k old) → heap_len new.free + 1 ≡ heap_len old.free → new.next ≡ old.next → heap_capacity new.free ≡ heap_capacity old.free
    → IsHeap (λ x y. nat_cmp y.0 x.0) (heap_items new.free) → AreHandled new more
taken old new h less more i g one len next room up =
    record {
      ordered = up;
      room = rw (next, room) i.room;
      each = λ k. rw next (each k);
      all = rw next (let a = i.all in let b = g.all in omega (arith, a, b, len));
    }
  where
    each : (k : ℕ) → spares k new + uses k more ≡ cond (nat_lt k old.next) 1 0
    each k = let a = i.each k in let b = g.each k in let c = one k in omega (arith, a, b, c)

pub given : (old new : Handles) (h : ℕ) (less more : List LinkView) → AreHandled old more → IsGained h less more
    → ((k : ℕ) → spares k new ≡ cond (h == k) 1 0 + spares k old) → heap_len new.free ≡ heap_len old.free + 1 → new.next ≡ old.next → heap_capacity old.free ≤ heap_capacity new.free
    → IsHeap (λ x y. nat_cmp y.0 x.0) (heap_items new.free) → AreHandled new less
given old new h less more i g one len next room up =
    record {
      ordered = up;
      room = rw next (let a = i.room in omega (arith, a, room));
      each = λ k. rw next (each k);
      all = rw next (let a = i.all in let b = g.all in omega (arith, a, b, len));
    }
  where
    each : (k : ℕ) → spares k new + uses k less ≡ cond (nat_lt k old.next) 1 0
    each k = let a = i.each k in let b = g.each k in let c = one k in omega (arith, a, b, c)

next-one : (k n : ℕ) → cond (nat_lt k n) 1 0 + cond (n == k) 1 0 ≡ cond (nat_lt k (n + 1)) 1 0
next-one k n = grind arith

pub taken-next : (old new : Handles) (less more : List LinkView) → AreHandled old less → IsGained old.next less more → HasRoom old
    → heap_len old.free ≡ 0 → heap_items new.free ≡ heap_items old.free → heap_len new.free ≡ heap_len old.free → new.next ≡ old.next + 1 → heap_capacity new.free ≡ heap_capacity old.free
    → AreHandled new more
taken-next old new less more i g r none same len next room =
    record {
      ordered = rw same i.ordered;
      room = rw (next, room) (let a = r none in omega (arith, a));
      each = λ k. rw (next, same) (each k);
      all = rw (next, len) (let a = i.all in let b = g.all in omega (arith, a, b));
    }
  where
    each : (k : ℕ) → spares k old + uses k more ≡ cond (nat_lt k (old.next + 1)) 1 0
    each k = let a = i.each k in let b = g.each k in let c = next-one k old.next in omega (arith, a, b, c)
