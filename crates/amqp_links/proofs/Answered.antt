-- The peer's attach of a stored link is heard: it gets a handle of the peer's.
use Rattle.std.proofs.Common.{◌≡◌, ◌≢◌, ◌<◌, ◌≤◌, ℕ, ◌+◌, ◌==◌, Bool, true, false, cond, Option, None, Some, List, [], ◌∷◌, arith, refl, find, ⊎_elim}
use Rattle.std.proofs.lemmas.Bool.{cases_Bool, cases_eq, eqb-true, eq-eqb, ne_eqb}
use Rattle.std.specs.Ordering.{nat_cmp}
use Rattle.std.specs.Map.{lookup}
use Rattle.std.specs.BTreeMap as tree
use Rattle.std.specs.BTreeMap.{BTreeMap}
use Rattle.slab.specs.Slab.{Slab}
use Rattle.slab.specs.Slab as slab
use Rattle.slab.proofs.SlabLemmas.{Updates-with_value}
use Rattle.amqp_rules.specs.View.{LinkView, EndView, has_number, has_peer_handle, change_first}
use Rattle.amqp_links.specs.Links.{link_at, links_of, key_by, AreListed, AreRising, AreApart, IsKnown, IsStored}
use Rattle.amqp_links.proofs.Stored.{at-number, found-number}
use Rattle.amqp_links.proofs.Written.{at-key, there-at, changed-over}

-- under the key stands w in place of l, which had no handle of the peer's
pub record IsJoined (s n : Slab LinkView) (key : ℕ) (l w : LinkView) (end : EndView) : Type 0 where
  pub was : slab.get s key ≡ Some l
  pub is : slab.get n key ≡ Some w
  pub others : (other : ℕ) → other ≢ key → slab.get n other ≡ slab.get s other
  pub number : w.number ≡ l.number
  pub free : l.theirs ≡ None
  pub joined : w.theirs ≡ Some end

-- the key is one of these
abbrev pub occurs : ℕ → List (ℕ × ℕ) → Bool
occurs key [] = false
occurs key (e ∷ es) = cond (e.1 == key) true (occurs key es)

listed-joined : (s n : Slab LinkView) (key : ℕ) (l w : LinkView) (end : EndView) → IsJoined s n key l w end → (es : List (ℕ × ℕ)) → AreListed s es → AreListed n es
listed-joined s n key l w end j [] a = tt
listed-joined s n key l w end j (e ∷ es) a =
    ⊎_elim
    (λ t. let is-l : link_at s e.1 ≡ l = rw t (at-key s key l j.was) in
    let is-w : link_at n e.1 ≡ w = rw t (at-key n key w j.is) in
    let some : slab.get n e.1 ≡ Some w = rw t j.is in
    let k : l.number ≡ e.0 = rw is-l at a.1 in
    (rw some refl, rw (is-w, j.number) k, listed-joined s n key l w end j es a.2))
    (λ t. (rw (j.others e.1 t) a.0, rw (j.others e.1 t) a.1, listed-joined s n key l w end j es a.2))
    (cases_eq e.1 key)

none-held : (h : ℕ) (l : LinkView) → l.theirs ≡ None → has_peer_handle h l ≡ false
none-held h l e = rw e refl

pub one-held : (h : ℕ) (l : LinkView) (end : EndView) → l.theirs ≡ Some end → has_peer_handle h l ≡ (end.handle == h)
one-held h l end e = rw e refl

not-first : (b : Bool) (k : ℕ) (o : Option ℕ) → cond b (Some k) o ≡ None → (b ≡ false) × (o ≡ None)
not-first true k o h = absurd (cc)
not-first false k o h = (refl, h)

key-joined : (s n : Slab LinkView) (key : ℕ) (l w : LinkView) (end : EndView) → IsJoined s n key l w end → (h : ℕ) (es : List (ℕ × ℕ)) → key_by end.handle s es ≡ None
    → key_by h n es ≡ cond (end.handle == h) (cond (occurs key es) (Some key) None) (key_by h s es)
key-joined s n key l w end j h [] k = by (end.handle == h)
  where
    by : (b : Bool) → ◌≡◌ {A = Option ℕ} None (cond b None None)
    by true = refl
    by false = refl
key-joined s n key l w end j h (e ∷ es) k =
    let p = not-first (has_peer_handle end.handle (link_at s e.1)) e.1 (key_by end.handle s es) k in
    let i = key-joined s n key l w end j h es p.1 in
    ⊎_elim
    (λ t. let is-l : link_at s e.1 ≡ l = rw t (at-key s key l j.was) in
    let is-w : link_at n e.1 ≡ w = rw t (at-key n key w j.is) in
    let a : has_peer_handle h (link_at n e.1) ≡ (end.handle == h) = rw is-w (one-held h w end j.joined) in
    let b : has_peer_handle h (link_at s e.1) ≡ false = rw is-l (none-held h l j.free) in
    let eq : (e.1 == key) ≡ true = eq-eqb e.1 key t in
    rw (a, b, i, eq, t) (by (end.handle == h) (cond (occurs key es) (Some key) None) (key_by h s es)))
    (λ t. let a : has_peer_handle h (link_at n e.1) ≡ has_peer_handle h (link_at s e.1) = rw (j.others e.1 t) refl in
    rw (a, i, ne_eqb e.1 key t) (on (end.handle == h) (has_peer_handle h (link_at s e.1)) (Some e.1) (cond (occurs key es) (Some key) None) (key_by h s es)
    (λ q. let r = eqb-true end.handle h q in rw (← r) p.0)))
    (cases_eq e.1 key)
  where
    by : (b : Bool) (o q : Option ℕ) → cond b (Some key) (cond b o q) ≡ cond b (Some key) q
    by true o q = refl
    by false o q = refl

    on : (b t : Bool) (x o q : Option ℕ) → (b ≡ true → t ≡ false) → cond t x (cond b o q) ≡ cond b o (cond t x q)
    on true t x o q f = rw (f refl) refl
    on false t x o q f = refl

-- numbers from here on have other keys
not-occurs : (s : Slab LinkView) (key : ℕ) (l : LinkView) → slab.get s key ≡ Some l → (es : List (ℕ × ℕ)) (from to : ℕ) → l.number < from → AreListed s es → AreRising from to es → occurs key es ≡ false
not-occurs s key l was [] from to h a r = refl
not-occurs s key l was (e ∷ es) from to h a r =
    let f : from ≤ e.0 = r.0 in
    let other : e.1 ≢ key = λ k. (let j : (link_at s key).number ≡ e.0 = rw k at a.1 in let q : l.number ≡ e.0 = rw (at-key s key l was) at j in omega (arith, h, q, f)) in
    rw (ne_eqb e.1 key other) (not-occurs s key l was es (e.0 + 1) to (omega (arith, h, f)) a.2 r.2)

apart-joined : (s n : Slab LinkView) (key : ℕ) (l w : LinkView) (end : EndView) → IsJoined s n key l w end → (es : List (ℕ × ℕ)) (from to : ℕ) → AreListed s es → AreRising from to es
    → key_by end.handle s es ≡ None → AreApart s es → AreApart n es
apart-joined s n key l w end j [] from to a r k p = tt
apart-joined s n key l w end j (e ∷ es) from to a r k p =
    let q = not-first (has_peer_handle end.handle (link_at s e.1)) e.1 (key_by end.handle s es) k in (
      λ h t. ⊎_elim
          (λ g. let is-l : link_at s e.1 ≡ l = rw g (at-key s key l j.was) in
          let is-w : link_at n e.1 ≡ w = rw g (at-key n key w j.is) in
          let u : (end.handle == h) ≡ true = rw (is-w, one-held h w end j.joined) at t in
          let m : l.number ≡ e.0 = rw is-l at a.1 in
          let above : l.number < e.0 + 1 = omega (arith, m) in
          rw (key-joined s n key l w end j h es q.1, u, not-occurs s key l j.was es (e.0 + 1) to above a.2 r.2) refl)
          (λ g. let v : has_peer_handle h (link_at s e.1) ≡ true = rw (j.others e.1 g) at t in
          let u : (end.handle == h) ≡ false = ne_eqb end.handle h (λ c. differ (has_peer_handle h (link_at s e.1)) v (rw c at q.0)) in
          rw (key-joined s n key l w end j h es q.1, u) (p.0 h v))
          (cases_eq e.1 key),
      apart-joined s n key l w end j es (e.0 + 1) to a.2 r.2 q.1 p.1,
    )
  where
    differ : (b : Bool) → b ≡ true → b ≡ false → ⊥
    differ true x y = absurd (cc)
    differ false x y = absurd (cc)

known-joined : (s n : Slab LinkView) (numbers : BTreeMap ℕ ℕ) (key : ℕ) (l w : LinkView) (end : EndView) → IsKnown s numbers → IsJoined s n key l w end → IsKnown n numbers
known-joined s n numbers key l w end i j k m h =
    ⊎_elim
    (λ e. let g : slab.get n key ≡ Some m = rw e at h in rw e (here g))
    (λ e. i k m (rw (← j.others k e) h))
    (cases_eq k key)
  where
    same : {x y : LinkView} → ◌≡◌ {A = Option LinkView} (Some x) (Some y) → x ≡ y
    same h = cc

    here : slab.get n key ≡ Some m → tree.get nat_cmp numbers m.number ≡ Some key
    here g = let q : w ≡ m = same (rw (← j.is) g) in rw (← q, j.number) (i key l j.was)

pub number-at : (n m : ℕ) → tree.is_at (nat_cmp n) m ≡ (n == m)
number-at n m = grind (arith)

-- the tree of the peer's handles, with one more
pub updated : (peers next : BTreeMap ℕ ℕ) (k key q : ℕ) → tree.Updates nat_cmp peers next k (Some key) → tree.get nat_cmp next q ≡ cond (k == q) (Some key) (tree.get nat_cmp peers q)
updated peers next k key q u = rw (u.0 q, number-at k q) refl

occurs-there : (s : Slab LinkView) (es : List (ℕ × ℕ)) (key n : ℕ) → lookup (tree.is_at (nat_cmp n)) es ≡ Some key → occurs key es ≡ true
occurs-there s [] key n h = absurd (cc)
occurs-there s (e ∷ es) key n h =
    let k : cond {A = Option ℕ} (e.0 == n) (Some e.1) (lookup (tree.is_at (nat_cmp n)) es) ≡ Some key = rw (← at-number n e.0) h in
    ⊎_elim
    (λ t. let q : e.1 ≡ key = same (rw t at k) in rw (eq-eqb e.1 key q) refl)
    (λ t. let i : occurs key es ≡ true = occurs-there s es key n (rw t at k) in either (e.1 == key) (occurs key es) i)
    (cases_Bool (e.0 == n))
  where
    same : {x y : ℕ} → ◌≡◌ {A = Option ℕ} (Some x) (Some y) → x ≡ y
    same h = cc

    either : (b o : Bool) → o ≡ true → cond b true o ≡ true
    either true o h = refl
    either false o h = h

pub joined : (s : Slab LinkView) (key : ℕ) (l w : LinkView) (end : EndView) → slab.get s key ≡ Some l → w.number ≡ l.number → l.theirs ≡ None → w.theirs ≡ Some end → IsJoined s (slab.with_value s key w) key l w end
joined s key l w end e number free gets =
    let u = Updates-with_value s key w (rw e refl) in
    record { was = e; is = u.changed; others = u.others; number = number; free = free; joined = gets }

pub found-key : (s : Slab LinkView) (numbers peers : BTreeMap ℕ ℕ) (made key n : ℕ) (l : LinkView) → IsStored s numbers peers made → tree.get nat_cmp numbers n ≡ Some key → slab.get s key ≡ Some l → find (has_number n) (links_of s numbers.entries) ≡ Some l
found-key s numbers peers made key n l i k e = rw (found-number s numbers.entries n i.listed, k, e) refl

pub answer-changes : (s : Slab LinkView) (numbers peers : BTreeMap ℕ ℕ) (made key n : ℕ) (l w : LinkView) (end : EndView) (f : LinkView → LinkView)
    → IsStored s numbers peers made → tree.get nat_cmp numbers n ≡ Some key → slab.get s key ≡ Some l → w.number ≡ l.number → l.theirs ≡ None → w.theirs ≡ Some end → f l ≡ w
    → links_of (slab.with_value s key w) numbers.entries ≡ change_first (has_number n) f (links_of s numbers.entries)
answer-changes s numbers peers made key n l w end f i k e number free gets fl =
    let t = there-at s numbers.entries key n i.listed k in
    let m : l.number ≡ n = rw (at-key s key l e) at t.number in
    let o = joined s key l w end e number free gets in
    rw (← m)
    (changed-over s (slab.with_value s key w) key l w f o.was o.is o.others fl
    (λ j g h q. one j key (rw (← i.known j g h, q, m) k))
    numbers.entries 0 made i.listed i.rising)
  where
    one : (a b : ℕ) → ◌≡◌ {A = Option ℕ} (Some a) (Some b) → a ≡ b
    one a b h = cc

-- where no link has the handle, no key is found
pub none-by : (s : Slab LinkView) (es : List (ℕ × ℕ)) (h : ℕ) → AreListed s es → find (has_peer_handle h) (links_of s es) ≡ None → key_by h s es ≡ None
none-by s [] h a f = refl
none-by s (e ∷ es) h a f =
    ⊎_elim
    (λ t. absurd (let g = rw t at f in cc))
    (λ t. rw t (none-by s es h a.2 (rw t at f)))
    (cases_Bool (has_peer_handle h (link_at s e.1)))

pub stored-joined : (s n : Slab LinkView) (numbers peers next : BTreeMap ℕ ℕ) (made number key : ℕ) (l w : LinkView) (end : EndView)
    → IsStored s numbers peers made → tree.get nat_cmp numbers number ≡ Some key → IsJoined s n key l w end
    → find (has_peer_handle end.handle) (links_of s numbers.entries) ≡ None → tree.Updates nat_cmp peers next end.handle (Some key) → IsStored n numbers next made
stored-joined s n numbers peers next made number key l w end i k j free u =
    let none = none-by s numbers.entries end.handle i.listed free in
    record {
      listed = listed-joined s n key l w end j numbers.entries i.listed;
      rising = i.rising;
      known = known-joined s n numbers key l w end i.known j;
      called = λ h. rw (updated peers next end.handle key h u, key-joined s n key l w end j h numbers.entries none, occurs-there s numbers.entries key number k, i.called h) refl;
      apart = apart-joined s n key l w end j numbers.entries 0 made i.listed i.rising none i.apart;
    }
