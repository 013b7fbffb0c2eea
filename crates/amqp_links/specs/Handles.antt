-- Which handles are ours.
use Rattle.std.specs.Prelude.{ℕ, ◌≡◌, ◌<◌, ◌≤◌, ◌+◌, ◌==◌, cond, List, [], ◌∷◌, count_by, is_some, nat_lt}
use Rattle.std.specs.Ordering.{nat_cmp}
use Rattle.std.specs.BinaryHeap.{IsHeap, heap_items, heap_len, heap_capacity}
use Rattle.amqp_rules.specs.View.{LinkView, has_handle}
use Rattle.amqp_links.specs.declared.handles.Handles.{Handles}

-- how many of the links we call by this handle
abbrev pub uses : ℕ → List LinkView → ℕ
uses h [] = 0
uses h (l ∷ ls) = cond (has_handle h l) 1 0 + uses h ls

-- how many have a handle of ours
abbrev pub used : List LinkView → ℕ
used [] = 0
used (l ∷ ls) = cond (is_some l.ours) 1 0 + used ls

-- how often this handle is among the free ones
abbrev pub spares : ℕ → Handles → ℕ
spares h index = count_by (λ x. x.0 == h) (heap_items index.free)

-- each handle below the next is free or that of one link, no other is, and there is room for all of them to be free
pub record AreHandled (index : Handles) (links : List LinkView) : Type 0 where
  pub ordered : IsHeap (λ x y. nat_cmp y.0 x.0) (heap_items index.free)
  pub room : index.next ≤ heap_capacity index.free
  pub each : (h : ℕ) → spares h index + uses h links ≡ cond (nat_lt h index.next) 1 0
  pub all : heap_len index.free + used links ≡ index.next

-- a handle more can be in use
abbrev pub HasRoom : Handles → Type 0
HasRoom index = heap_len index.free ≡ 0 → index.next < heap_capacity index.free

-- a link more has this handle of ours
pub record IsGained (h : ℕ) (less more : List LinkView) : Type 0 where
  pub each : (k : ℕ) → uses k more ≡ uses k less + cond (h == k) 1 0
  pub all : used more ≡ used less + 1
