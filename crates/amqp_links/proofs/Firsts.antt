-- The first link that passes a test, told by its number.
use Rattle.std.proofs.Common.{◌≡◌, ◌≤◌, ℕ, ◌+◌, Bool, true, false, Option, None, Some, List, [], ◌∷◌, arith, refl, ap, find, MatchOption, ⊎_elim}
use Rattle.std.proofs.lemmas.Bool.{cases_Bool, eq-eqb, ne_eqb}
use Rattle.std.specs.BTreeMap.{BTreeMap}
use Rattle.slab.specs.Slab.{Slab}
use Rattle.std.specs.Option.{option_map}
use Rattle.std.specs.Ordering.{nat_cmp}
use Rattle.std.specs.BTreeMap as tree
use Rattle.amqp_rules.specs.View.{LinkView, has_number, has_peer_handle}
use Rattle.amqp_links.specs.Links.{links_of, look, AreNumbered, IsStored, IsFirst}
use Rattle.amqp_links.proofs.Stored.{by-handle, numbered}

same : {x y : LinkView} → ◌≡◌ {A = Option LinkView} (Some x) (Some y) → x ≡ y
same h = cc

-- a link that is found has no number before the first
found-from : (test : LinkView → Bool) (ls : List LinkView) (from : ℕ) (l : LinkView) → AreNumbered from ls → find test ls ≡ Some l → from ≤ l.number
found-from test [] from l a h = absurd (cc)
found-from test (m ∷ ls) from l a h =
    let f : from ≤ m.number = a.0 in
    ⊎_elim
    (λ t. let e : m ≡ l = same (rw t at h) in rw (← e) f)
    (λ t. let i : m.number + 1 ≤ l.number = found-from test ls (m.number + 1) l a.1 (rw t at h) in omega (arith, i, f))
    (cases_Bool (test m))

first-here : (test : LinkView → Bool) (l : LinkView) (ls : List LinkView) → test l ≡ true → IsFirst test (l ∷ ls) l
first-here test l ls t =
    record { found = rw t refl; passes = t; numbered = rw (eq-eqb l.number l.number refl) refl; alone = λ change. rw (t, eq-eqb l.number l.number refl) refl; removed = rw (t, eq-eqb l.number l.number refl) refl }

first-further : (test : LinkView → Bool) (l m : LinkView) (ls : List LinkView) → test m ≡ false → has_number l.number m ≡ false → IsFirst test ls l → IsFirst test (m ∷ ls) l
first-further test l m ls t n i =
    record { found = rw t i.found; passes = i.passes; numbered = rw n i.numbered; alone = λ change. rw (t, n) (ap (λ xs. m ∷ xs) (i.alone change)); removed = rw (t, n) (ap (λ xs. m ∷ xs) i.removed) }

pub first-in : (test : LinkView → Bool) (l : LinkView) (ls : List LinkView) (from : ℕ) → AreNumbered from ls → find test ls ≡ Some l → IsFirst test ls l
first-in test l [] from a f = absurd (cc)
first-in test l (m ∷ ls) from a f =
    ⊎_elim
    (λ t. let e : m ≡ l = same (rw t at f) in rw (← e) (first-here test m ls t))
    (λ t. let g : find test ls ≡ Some l = rw t at f in
    let i : m.number + 1 ≤ l.number = found-from test ls (m.number + 1) l a.1 g in
    let n : m.number ≡ l.number → ⊥ = λ q. omega (arith, i, q) in
    first-further test l m ls t (ne_eqb m.number l.number n) (first-in test l ls (m.number + 1) a.1 g))
    (cases_Bool (test m))

first-by : (ls : List LinkView) (h : ℕ) (r : Option LinkView) → AreNumbered 0 ls
    → r ≡ find (has_peer_handle h) ls → MatchOption r (find (has_peer_handle h) ls ≡ None) (IsFirst (has_peer_handle h) ls)
first-by ls h None n e = rw (← e) refl
first-by ls h (Some l) n e = first-in (has_peer_handle h) l ls 0 n (rw (← e) refl)

through : {A B : Type 0} (f : A → B) (P : Type 0) (Q : B → Type 0) (r : Option A) → MatchOption (option_map f r) P Q → MatchOption r P (λ x. Q (f x))
through f P Q None h = h
through f P Q (Some x) h = h

-- the link that the peer calls by a handle
pub called : {A : Type 0} (f : A → LinkView) (s : Slab LinkView) (numbers peers : BTreeMap ℕ ℕ) (made h : ℕ) (key : Option ℕ) (r : Option A) → IsStored s numbers peers made
    → key ≡ tree.get nat_cmp peers h → option_map f r ≡ look s key
    → MatchOption r (find (has_peer_handle h) (links_of s numbers.entries) ≡ None) (λ x. IsFirst (has_peer_handle h) (links_of s numbers.entries) (f x))
called f s numbers peers made h key r i k l =
    through f _ _ r (first-by (links_of s numbers.entries) h (option_map f r) (numbered s numbers peers made i) (by-handle s numbers peers made h key (option_map f r) i k l))
