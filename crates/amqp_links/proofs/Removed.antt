-- A stored link is taken out.
use Rattle.std.proofs.Common.{◌≡◌, ◌≢◌, ◌<◌, ◌≤◌, ℕ, ◌+◌, ◌==◌, Bool, true, false, cond, Option, None, Some, List, [], ◌∷◌, arith, refl, ap, ⊎_elim}
use Rattle.std.proofs.lemmas.Bool.{cases_Bool, cases_eq, eqb-true, eqb-false, ne_eqb}
use Rattle.std.specs.Ordering.{nat_cmp}
use Rattle.std.specs.Map.{lookup, remove_entry}
use Rattle.std.specs.Option.{option_map}
use Rattle.std.specs.BTreeMap as tree
use Rattle.std.specs.BTreeMap.{BTreeMap}
use Rattle.slab.specs.Slab.{Slab, Updates}
use Rattle.slab.specs.Slab as slab
use Rattle.amqp_rules.specs.View.{LinkView, EndView, holds, has_number, has_peer_handle, remove_first}
use Rattle.amqp_links.specs.Links.{link_at, links_of, key_by, AreListed, AreRising, AreApart, IsKnown, IsStored}
use Rattle.amqp_links.proofs.Stored.{at-number}
use Rattle.amqp_links.proofs.Written.{at-key, there-at}
use Rattle.amqp_links.proofs.Answered.{number-at}
use Rattle.amqp_links.proofs.Offered.{AreSame}

-- under the key stood l, and stands nothing
pub record IsOut (s n : Slab LinkView) (key : ℕ) (l : LinkView) : Type 0 where
  pub was : slab.get s key ≡ Some l
  pub is : slab.get n key ≡ None
  pub others : (other : ℕ) → other ≢ key → slab.get n other ≡ slab.get s other

same-links : (s n : Slab LinkView) (es : List (ℕ × ℕ)) → AreSame s n es → links_of n es ≡ links_of s es
same-links s n [] a = refl
same-links s n (e ∷ es) a = rw a.0 (ap (λ ls. link_at s e.1 ∷ ls) (same-links s n es a.1))

same-listed : (s n : Slab LinkView) (es : List (ℕ × ℕ)) → AreSame s n es → AreListed s es → AreListed n es
same-listed s n [] a l = tt
same-listed s n (e ∷ es) a l = (rw a.0 l.0, rw a.0 l.1, same-listed s n es a.1 l.2)

same-key : (s n : Slab LinkView) (h : ℕ) (es : List (ℕ × ℕ)) → AreSame s n es → key_by h n es ≡ key_by h s es
same-key s n h [] a = refl
same-key s n h (e ∷ es) a = rw (a.0, same-key s n h es a.1) refl

same-apart : (s n : Slab LinkView) (es : List (ℕ × ℕ)) → AreSame s n es → AreApart s es → AreApart n es
same-apart s n [] a p = tt
same-apart s n (e ∷ es) a p = ((λ h t. (let v : has_peer_handle h (link_at s e.1) ≡ true = rw a.0 at t in rw (same-key s n h es a.1) (p.0 h v))), same-apart s n es a.1 p.1)

-- a listed number that is not l's has another key
other-key : (s n : Slab LinkView) (key : ℕ) (l : LinkView) → IsOut s n key l → (e : ℕ × ℕ) → (link_at s e.1).number ≡ e.0 → (e.0 ≡ l.number → ⊥) → e.1 ≢ key
other-key s n key l o e a d k = let j : (link_at s key).number ≡ e.0 = rw k at a in let q : l.number ≡ e.0 = rw (at-key s key l o.was) at j in d (flip q)
  where
    flip : {x y : ℕ} → x ≡ y → y ≡ x
    flip h = cc

rest-out : (s n : Slab LinkView) (key : ℕ) (l : LinkView) → IsOut s n key l → (es : List (ℕ × ℕ)) (from to : ℕ) → l.number < from → AreListed s es → AreRising from to es → AreSame s n es
rest-out s n key l o [] from to h a r = tt
rest-out s n key l o (e ∷ es) from to h a r =
    let f : from ≤ e.0 = r.0 in
    (o.others e.1 (other-key s n key l o e a.1 (λ q. omega (arith, q, f, h))), rest-out s n key l o es (e.0 + 1) to (omega (arith, h, f)) a.2 r.2)

above : (a b : ℕ) → a ≡ b → b < a + 1
above a b h = omega (arith, h)

links-out : (s n : Slab LinkView) (key : ℕ) (l : LinkView) → IsOut s n key l → (es : List (ℕ × ℕ)) (from to : ℕ) → AreListed s es → AreRising from to es
    → links_of n (remove_entry (tree.is_at (nat_cmp l.number)) es) ≡ remove_first (has_number l.number) (links_of s es)
links-out s n key l o [] from to a r = refl
links-out s n key l o (e ∷ es) from to a r =
    ⊎_elim
    (λ t. let u : has_number l.number (link_at s e.1) ≡ true = rw a.1 t in
    rw (at-number l.number e.0, t, u) (same-links s n es (rest-out s n key l o es (e.0 + 1) to (above e.0 l.number (eqb-true e.0 l.number t)) a.2 r.2)))
    (λ t. let u : has_number l.number (link_at s e.1) ≡ false = rw a.1 t in
    rw (at-number l.number e.0, t, u, o.others e.1 (other-key s n key l o e a.1 (eqb-false e.0 l.number t))) (ap (λ ls. link_at s e.1 ∷ ls) (links-out s n key l o es (e.0 + 1) to a.2 r.2)))
    (cases_Bool (e.0 == l.number))

entry-gone : (q : ℕ) (e : ℕ × ℕ) (es : List (ℕ × ℕ)) → (e.0 == q) ≡ true → remove_entry (tree.is_at (nat_cmp q)) (e ∷ es) ≡ es
entry-gone q e es t = rw (at-number q e.0, t) refl

entry-stays : (q : ℕ) (e : ℕ × ℕ) (es : List (ℕ × ℕ)) → (e.0 == q) ≡ false → remove_entry (tree.is_at (nat_cmp q)) (e ∷ es) ≡ e ∷ remove_entry (tree.is_at (nat_cmp q)) es
entry-stays q e es t = rw (at-number q e.0, t) refl

listed-out : (s n : Slab LinkView) (key : ℕ) (l : LinkView) → IsOut s n key l → (es : List (ℕ × ℕ)) (from to : ℕ) → AreListed s es → AreRising from to es → AreListed n (remove_entry (tree.is_at (nat_cmp l.number)) es)
listed-out s n key l o [] from to a r = tt
listed-out s n key l o (e ∷ es) from to a r =
    ⊎_elim
    (λ t. rw (entry-gone l.number e es t) (same-listed s n es (rest-out s n key l o es (e.0 + 1) to (above e.0 l.number (eqb-true e.0 l.number t)) a.2 r.2) a.2))
    (λ t. let q = o.others e.1 (other-key s n key l o e a.1 (eqb-false e.0 l.number t)) in
    rw (entry-stays l.number e es t) (rw q a.0, rw q a.1, listed-out s n key l o es (e.0 + 1) to a.2 r.2))
    (cases_Bool (e.0 == l.number))

lower : (a b to : ℕ) (es : List (ℕ × ℕ)) → a ≤ b → AreRising b to es → AreRising a to es
lower a b to [] h r = tt
lower a b to (e ∷ es) h r = ((let f : b ≤ e.0 = r.0 in omega (arith, h, f)), r.1, r.2)

rising-out : (q from to : ℕ) (es : List (ℕ × ℕ)) → AreRising from to es → AreRising from to (remove_entry (tree.is_at (nat_cmp q)) es)
rising-out q from to [] r = tt
rising-out q from to (e ∷ es) r =
    ⊎_elim
    (λ t. rw (entry-gone q e es t) (lower from (e.0 + 1) to es (let f : from ≤ e.0 = r.0 in omega (arith, f)) r.2))
    (λ t. rw (entry-stays q e es t) (r.0, r.1, rising-out q (e.0 + 1) to es r.2))
    (cases_Bool (e.0 == q))

both : (b : Bool) → b ≡ true → b ≡ false → ⊥
both true x y = absurd (cc)
both false x y = absurd (cc)

not-first : (b : Bool) (k : ℕ) (o : Option ℕ) → cond b (Some k) o ≡ None → (b ≡ false) × (o ≡ None)
not-first true k o h = absurd (cc)
not-first false k o h = (refl, h)

one : (a b : ℕ) → ◌≡◌ {A = Option ℕ} (Some a) (Some b) → a ≡ b
one a b h = cc

has-key : (s n : Slab LinkView) (key h : ℕ) (l : LinkView) → IsOut s n key l → has_peer_handle h l ≡ true → (es : List (ℕ × ℕ)) → lookup (tree.is_at (nat_cmp l.number)) es ≡ Some key → key_by h s es ≡ None → ⊥
has-key s n key h l o u [] k none = absurd (cc)
has-key s n key h l o u (e ∷ es) k none =
    let p = not-first (has_peer_handle h (link_at s e.1)) e.1 (key_by h s es) none in
    let c : cond {A = Option ℕ} (e.0 == l.number) (Some e.1) (lookup (tree.is_at (nat_cmp l.number)) es) ≡ Some key = rw (← at-number l.number e.0) k in
    ⊎_elim
    (λ t. let q : e.1 ≡ key = one e.1 key (rw t at c) in let m : link_at s e.1 ≡ l = rw q (at-key s key l o.was) in both (has_peer_handle h l) u (rw m at p.0))
    (λ t. has-key s n key h l o u es (rw t at c) p.1)
    (cases_Bool (e.0 == l.number))

key-out : (s n : Slab LinkView) (key h : ℕ) (l : LinkView) → IsOut s n key l → (es : List (ℕ × ℕ)) (from to : ℕ) → AreListed s es → AreRising from to es → AreApart s es → lookup (tree.is_at (nat_cmp l.number)) es ≡ Some key
    → key_by h n (remove_entry (tree.is_at (nat_cmp l.number)) es) ≡ cond (has_peer_handle h l) None (key_by h s es)
key-out s n key h l o [] from to a r p k = absurd (cc)
key-out s n key h l o (e ∷ es) from to a r p k =
    let c : cond {A = Option ℕ} (e.0 == l.number) (Some e.1) (lookup (tree.is_at (nat_cmp l.number)) es) ≡ Some key = rw (← at-number l.number e.0) k in
    ⊎_elim
    (λ t. let q : e.1 ≡ key = one e.1 key (rw t at c) in
    let m : link_at s e.1 ≡ l = rw q (at-key s key l o.was) in
    rw (entry-gone l.number e es t, m, same-key s n h es (rest-out s n key l o es (e.0 + 1) to (above e.0 l.number (eqb-true e.0 l.number t)) a.2 r.2))
    (here (has_peer_handle h l) (Some e.1) (key_by h s es) (λ u. p.0 h (rw m u))))
    (λ t. rw (entry-stays l.number e es t, o.others e.1 (other-key s n key l o e a.1 (eqb-false e.0 l.number t)), key-out s n key h l o es (e.0 + 1) to a.2 r.2 p.1 (rw t at c))
    (further (has_peer_handle h l) (has_peer_handle h (link_at s e.1)) (Some e.1) (key_by h s es) (λ u v. has-key s n key h l o u es (rw t at c) (p.0 h v))))
    (cases_Bool (e.0 == l.number))
  where
    here : (b : Bool) (x o : Option ℕ) → (b ≡ true → o ≡ None) → o ≡ cond b None (cond b x o)
    here true x o f = f refl
    here false x o f = refl

    further : (u v : Bool) (x o : Option ℕ) → (u ≡ true → v ≡ true → ⊥) → cond v x (cond u None o) ≡ cond u None (cond v x o)
    further true true x o f = absurd (f refl refl)
    further true false x o f = refl
    further false v x o f = refl

apart-out : (s n : Slab LinkView) (key : ℕ) (l : LinkView) → IsOut s n key l → (es : List (ℕ × ℕ)) (from to : ℕ) → AreListed s es → AreRising from to es → AreApart s es → lookup (tree.is_at (nat_cmp l.number)) es ≡ Some key
    → AreApart n (remove_entry (tree.is_at (nat_cmp l.number)) es)
apart-out s n key l o [] from to a r p k = tt
apart-out s n key l o (e ∷ es) from to a r p k =
    let c : cond {A = Option ℕ} (e.0 == l.number) (Some e.1) (lookup (tree.is_at (nat_cmp l.number)) es) ≡ Some key = rw (← at-number l.number e.0) k in
    ⊎_elim
    (λ t. rw (entry-gone l.number e es t) (same-apart s n es (rest-out s n key l o es (e.0 + 1) to (above e.0 l.number (eqb-true e.0 l.number t)) a.2 r.2) p.1))
    (λ t. let q = o.others e.1 (other-key s n key l o e a.1 (eqb-false e.0 l.number t)) in
    rw (entry-stays l.number e es t) (
      (λ h v. (let w : has_peer_handle h (link_at s e.1) ≡ true = rw q at v in rw (key-out s n key h l o es (e.0 + 1) to a.2 r.2 p.1 (rw t at c), p.0 h w) (none (has_peer_handle h l)))),
      apart-out s n key l o es (e.0 + 1) to a.2 r.2 p.1 (rw t at c),
    ))
    (cases_Bool (e.0 == l.number))
  where
    none : (b : Bool) → ◌≡◌ {A = Option ℕ} (cond b None None) None
    none true = refl
    none false = refl

known-out : (s n : Slab LinkView) (numbers less : BTreeMap ℕ ℕ) (key : ℕ) (l : LinkView) → IsKnown s numbers → IsOut s n key l → tree.Updates nat_cmp numbers less l.number None → IsKnown n less
known-out s n numbers less key l i o u k m h =
    ⊎_elim
    (λ t. absurd (gone (rw t at h)))
    (λ t. let g : slab.get s k ≡ Some m = rw (← o.others k t) h in
    let f = i k m g in
    rw (u.0 m.number, number-at l.number m.number, ne_eqb l.number m.number (λ c. t (one k key (rw (← f, ← c) (i key l o.was))))) f)
    (cases_eq k key)
  where
    gone : slab.get n key ≡ Some m → ⊥
    gone h = let z : ◌≡◌ {A = Option LinkView} None (Some m) = rw (← o.is) h in absurd (cc)

pub stored-out : (s n : Slab LinkView) (numbers peers less next : BTreeMap ℕ ℕ) (made key : ℕ) (l : LinkView) → IsStored s numbers peers made → tree.get nat_cmp numbers l.number ≡ Some key → IsOut s n key l
    → tree.Updates nat_cmp numbers less l.number None → less.entries ≡ remove_entry (tree.is_at (nat_cmp l.number)) numbers.entries
    → ((h : ℕ) → tree.get nat_cmp next h ≡ cond (has_peer_handle h l) None (tree.get nat_cmp peers h)) → IsStored n less next made
stored-out s n numbers peers less next made key l i k o u e x =
    record {
      listed = rw e (listed-out s n key l o numbers.entries 0 made i.listed i.rising);
      rising = rw e (rising-out l.number 0 made numbers.entries i.rising);
      known = known-out s n numbers less key l i.known o u;
      called = λ h. rw (e, x h, i.called h, key-out s n key h l o numbers.entries 0 made i.listed i.rising i.apart k) refl;
      apart = rw e (apart-out s n key l o numbers.entries 0 made i.listed i.rising i.apart k);
    }

pub list-out : (s n : Slab LinkView) (numbers peers less : BTreeMap ℕ ℕ) (made key : ℕ) (l : LinkView) → IsStored s numbers peers made → IsOut s n key l
    → less.entries ≡ remove_entry (tree.is_at (nat_cmp l.number)) numbers.entries → links_of n less.entries ≡ remove_first (has_number l.number) (links_of s numbers.entries)
list-out s n numbers peers less made key l i o e = rw e (links-out s n key l o numbers.entries 0 made i.listed i.rising)

-- the handle of the link that is taken out is taken out too
pub handle-out : (peers next : BTreeMap ℕ ℕ) (l : LinkView) (handle : ℕ) → option_map (λ e. e.handle) l.theirs ≡ Some handle → tree.Updates nat_cmp peers next handle None
    → (h : ℕ) → tree.get nat_cmp next h ≡ cond (has_peer_handle h l) None (tree.get nat_cmp peers h)
handle-out peers next l handle e u h = rw (u.0 h, number-at handle h, held l.theirs e) refl
  where
    held : (o : Option EndView) → option_map (λ e. e.handle) o ≡ Some handle → holds (λ e. e.handle == h) o ≡ (handle == h)
    held None e = absurd (cc)
    held (Some x) e = let q : x.handle ≡ handle = one x.handle handle e in rw q refl

pub no-handle-out : (peers : BTreeMap ℕ ℕ) (l : LinkView) → option_map (λ e. e.handle) l.theirs ≡ None → (h : ℕ) → tree.get nat_cmp peers h ≡ cond (has_peer_handle h l) None (tree.get nat_cmp peers h)
no-handle-out peers l e h = rw (free l.theirs e) refl
  where
    free : (o : Option EndView) → option_map (λ e. e.handle) o ≡ None → holds (λ e. e.handle == h) o ≡ false
    free None e = refl
    free (Some x) e = absurd (cc)

pub out : (s n : Slab LinkView) (key : ℕ) (l : LinkView) → slab.get s key ≡ Some l → Updates s n key None → IsOut s n key l
out s n key l e u = record { was = e; is = u.changed; others = u.others }

pub number-of : (s : Slab LinkView) (numbers peers : BTreeMap ℕ ℕ) (made key q : ℕ) (l : LinkView) → IsStored s numbers peers made → tree.get nat_cmp numbers q ≡ Some key → slab.get s key ≡ Some l → l.number ≡ q
number-of s numbers peers made key q l i k e = let t = there-at s numbers.entries key q i.listed k in rw (at-key s key l e) at t.number

-- the same, for the number that the link has
pub stored-without : (s n : Slab LinkView) (numbers peers less next : BTreeMap ℕ ℕ) (made key q : ℕ) (l : LinkView) → IsStored s numbers peers made → tree.get nat_cmp numbers q ≡ Some key → slab.get s key ≡ Some l → Updates s n key None
    → tree.Updates nat_cmp numbers less q None → less.entries ≡ remove_entry (tree.is_at (nat_cmp q)) numbers.entries
    → ((h : ℕ) → tree.get nat_cmp next h ≡ cond (has_peer_handle h l) None (tree.get nat_cmp peers h)) → IsStored n less next made
stored-without s n numbers peers less next made key q l i k e u v w x =
    let m : l.number ≡ q = number-of s numbers peers made key q l i k e in
    stored-out s n numbers peers less next made key l i (rw m k) (out s n key l e u) (rw m v) (rw m w) x

pub list-without : (s n : Slab LinkView) (numbers peers less : BTreeMap ℕ ℕ) (made key q : ℕ) (l : LinkView) → IsStored s numbers peers made → tree.get nat_cmp numbers q ≡ Some key → slab.get s key ≡ Some l → Updates s n key None
    → less.entries ≡ remove_entry (tree.is_at (nat_cmp q)) numbers.entries → links_of n less.entries ≡ remove_first (has_number q) (links_of s numbers.entries)
list-without s n numbers peers less made key q l i k e u w =
    let m : l.number ≡ q = number-of s numbers peers made key q l i k e in
    rw (← m) (list-out s n numbers peers less made key l i (out s n key l e u) (rw m w))
