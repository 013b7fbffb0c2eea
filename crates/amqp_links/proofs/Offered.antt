-- A link more is stored.
use Rattle.std.proofs.Common.{◌≡◌, ◌≢◌, ◌<◌, ◌≤◌, ℕ, ◌+◌, ◌==◌, Bool, true, false, cond, Option, None, Some, List, [], ◌∷◌, ◌++◌, arith, refl, ap, find, is_some, ⊎_elim}
use Rattle.std.proofs.lemmas.Bool.{cases_Bool, cases_eq, eqb-true, eq-eqb, ne_eqb}
use Rattle.std.specs.Ordering.{nat_cmp}
use Rattle.std.proofs.Common.{Greater}
use Rattle.std.specs.Map.{lookup}
use Rattle.std.specs.BTreeMap as tree
use Rattle.std.specs.BTreeMap.{BTreeMap}
use Rattle.slab.specs.Slab.{Slab, Updates}
use Rattle.slab.specs.Slab as slab
use Rattle.amqp_rules.specs.View.{LinkView, EndView, has_peer_handle}
use Rattle.amqp_links.specs.Links.{link_at, links_of, key_by, AreListed, AreRising, AreApart, IsKnown, IsStored}
use Rattle.amqp_links.proofs.Stored.{at-number}
use Rattle.amqp_links.proofs.Written.{at-key}
use Rattle.amqp_links.proofs.Answered.{updated, one-held, none-by, number-at}

-- under these keys stands the same
abbrev pub AreSame : Slab LinkView → Slab LinkView → List (ℕ × ℕ) → Type 0
AreSame s n [] = Unit {0}
AreSame s n (e ∷ es) = (slab.get n e.1 ≡ slab.get s e.1) × AreSame s n es

some-none : (o : Option LinkView) → is_some o ≡ true → o ≡ None → ⊥
some-none None h e = absurd (cc)
some-none (Some l) h e = absurd (cc)

pub same-added : (s n : Slab LinkView) (key : ℕ) → slab.get s key ≡ None → ((other : ℕ) → other ≢ key → slab.get n other ≡ slab.get s other) → (es : List (ℕ × ℕ)) → AreListed s es → AreSame s n es
same-added s n key none others [] a = tt
same-added s n key none others (e ∷ es) a =
    (others e.1 (λ k. some-none (slab.get s e.1) a.0 (rw k none)), same-added s n key none others es a.2)

links-added : (s n : Slab LinkView) (k : ℕ) (m : ℕ) (w : LinkView) (es : List (ℕ × ℕ)) → slab.get n k ≡ Some w → AreSame s n es → links_of n (es ++ (m, k) ∷ []) ≡ links_of s es ++ w ∷ []
links-added s n k m w [] e a = ap (λ l. l ∷ []) (at-key n k w e)
links-added s n k m w (x ∷ es) e a = rw a.0 (ap (λ ls. link_at s x.1 ∷ ls) (links-added s n k m w es e a.1))

pub listed-added : (s n : Slab LinkView) (k m : ℕ) (w : LinkView) (es : List (ℕ × ℕ)) → slab.get n k ≡ Some w → w.number ≡ m → AreSame s n es → AreListed s es → AreListed n (es ++ (m, k) ∷ [])
listed-added s n k m w [] e q a l = (rw e refl, (let i = at-key n k w e in rw i q), tt)
listed-added s n k m w (x ∷ es) e q a l = (rw a.0 l.0, rw a.0 l.1, listed-added s n k m w es e q a.1 l.2)

pub rising-added : (from m k : ℕ) (es : List (ℕ × ℕ)) → from ≤ m → AreRising from m es → AreRising from (m + 1) (es ++ (m, k) ∷ [])
rising-added from m k [] f r = (f, omega arith, tt)
rising-added from m k (x ∷ es) f r = (r.0, (let h : x.0 < m = r.1 in omega (arith, h)), rising-added (x.0 + 1) m k es (let h : x.0 < m = r.1 in omega (arith, h)) r.2)

by : (b : Bool) (k : ℕ) → ◌≡◌ {A = Option ℕ} (cond b (Some k) None) (cond b (Some k) None)
by b k = refl

key-added : (s n : Slab LinkView) (k m h : ℕ) (w : LinkView) (end : EndView) (es : List (ℕ × ℕ)) → slab.get n k ≡ Some w → w.theirs ≡ Some end → AreSame s n es → key_by end.handle s es ≡ None
    → key_by h n (es ++ (m, k) ∷ []) ≡ cond (end.handle == h) (Some k) (key_by h s es)
key-added s n k m h w end [] e j a none = (let i = at-key n k w e in rw (i, one-held h w end j) refl)
key-added s n k m h w end (x ∷ es) e j a none =
    let p = first (has_peer_handle end.handle (link_at s x.1)) x.1 (key_by end.handle s es) none in
    rw (a.0, key-added s n k m h w end es e j a.1 p.1)
    (on (end.handle == h) (has_peer_handle h (link_at s x.1)) (Some x.1) (Some k) (key_by h s es)
    (λ q. let r = eqb-true end.handle h q in rw (← r) p.0))
  where
    first : (b : Bool) (i : ℕ) (o : Option ℕ) → cond b (Some i) o ≡ None → (b ≡ false) × (o ≡ None)
    first true i o h = absurd (cc)
    first false i o h = (refl, h)

    on : (b t : Bool) (x o q : Option ℕ) → (b ≡ true → t ≡ false) → cond t x (cond b o q) ≡ cond b o (cond t x q)
    on true t x o q f = rw (f refl) refl
    on false t x o q f = refl

apart-added : (s n : Slab LinkView) (k m : ℕ) (w : LinkView) (end : EndView) (es : List (ℕ × ℕ)) → slab.get n k ≡ Some w → w.theirs ≡ Some end → AreSame s n es → key_by end.handle s es ≡ None → AreApart s es → AreApart n (es ++ (m, k) ∷ [])
apart-added s n k m w end [] e j a none p = ((λ h t. refl), tt)
apart-added s n k m w end (x ∷ es) e j a none p =
    let q = first (has_peer_handle end.handle (link_at s x.1)) x.1 (key_by end.handle s es) none in (
      (λ h t. (let v : has_peer_handle h (link_at s x.1) ≡ true = rw a.0 at t in
          let u : (end.handle == h) ≡ false = ne_eqb end.handle h (λ c. differ (has_peer_handle h (link_at s x.1)) v (rw c at q.0)) in
          rw (key-added s n k m h w end es e j a.1 q.1, u) (p.0 h v))),
      apart-added s n k m w end es e j a.1 q.1 p.1,
    )
  where
    first : (b : Bool) (i : ℕ) (o : Option ℕ) → cond b (Some i) o ≡ None → (b ≡ false) × (o ≡ None)
    first true i o h = absurd (cc)
    first false i o h = (refl, h)

    differ : (b : Bool) → b ≡ true → b ≡ false → ⊥
    differ true x y = absurd (cc)
    differ false x y = absurd (cc)

-- a number past all goes to the end
pub insert-last : (m k from : ℕ) (es : List (ℕ × ℕ)) → AreRising from m es → tree.insert_entry nat_cmp es m k ≡ es ++ (m, k) ∷ []
insert-last m k from [] r = refl
insert-last m k from (x ∷ es) r =
    let h : x.0 < m = r.1 in
    rw (greater m x.0 h) (ap (λ ys. x ∷ ys) (insert-last m k (x.0 + 1) es r.2))
  where
    greater : (a b : ℕ) → b < a → nat_cmp a b ≡ Greater
    greater a b h = grind (arith, h)

-- a number that is listed is below the next
number-below : (es : List (ℕ × ℕ)) (from m q k : ℕ) → AreRising from m es → lookup (tree.is_at (nat_cmp q)) es ≡ Some k → q < m
number-below [] from m q k r h = absurd (cc)
number-below (x ∷ es) from m q k r h =
    let c : cond {A = Option ℕ} (x.0 == q) (Some x.1) (lookup (tree.is_at (nat_cmp q)) es) ≡ Some k = rw (← at-number q x.0) h in
    ⊎_elim
    (λ t. let e = eqb-true x.0 q t in let b : x.0 < m = r.1 in omega (arith, e, b))
    (λ t. number-below es (x.0 + 1) m q k r.2 (rw t at c))
    (cases_Bool (x.0 == q))

pub known-added : (s n : Slab LinkView) (numbers more : BTreeMap ℕ ℕ) (key m : ℕ) (w : LinkView) → IsKnown s numbers → AreRising 0 m numbers.entries → tree.Updates nat_cmp numbers more m (Some key)
    → slab.get n key ≡ Some w → w.number ≡ m → ((other : ℕ) → other ≢ key → slab.get n other ≡ slab.get s other) → IsKnown n more
known-added s n numbers more key m w i r u e q others k l h =
    ⊎_elim
    (λ t. let g : slab.get n key ≡ Some l = rw t at h in rw t (here g))
    (λ t. let g : slab.get s k ≡ Some l = rw (← others k t) h in
    let f = i k l g in
    let b = number-below numbers.entries 0 m l.number k r f in
    rw (updated numbers more m key l.number u, ne_eqb m l.number (λ c. omega (arith, c, b))) f)
    (cases_eq k key)
  where
    same : {x y : LinkView} → ◌≡◌ {A = Option LinkView} (Some x) (Some y) → x ≡ y
    same h = cc

    here : slab.get n key ≡ Some l → tree.get nat_cmp more l.number ≡ Some key
    here g = let z : w ≡ l = same (rw (← e) g) in rw (← z, q, updated numbers more m key m u, eq-eqb m m refl) refl

pub stored-added : (s n : Slab LinkView) (numbers peers more next : BTreeMap ℕ ℕ) (made key : ℕ) (w : LinkView) (end : EndView)
    → IsStored s numbers peers made → slab.get s key ≡ None → Updates s n key (Some w) → w.number ≡ made → w.theirs ≡ Some end
    → find (has_peer_handle end.handle) (links_of s numbers.entries) ≡ None
    → tree.Updates nat_cmp numbers more made (Some key) → more.entries ≡ tree.insert_entry nat_cmp numbers.entries made key → tree.Updates nat_cmp peers next end.handle (Some key)
    → IsStored n more next (made + 1)
stored-added s n numbers peers more next made key w end i vacant u number theirs free v entries x =
    let same = same-added s n key vacant u.others numbers.entries i.listed in
    let none = none-by s numbers.entries end.handle i.listed free in
    let at-end : more.entries ≡ numbers.entries ++ (made, key) ∷ [] = rw (← insert-last made key 0 numbers.entries i.rising) entries in
    record {
      listed = rw at-end (listed-added s n key made w numbers.entries u.changed number same i.listed);
      rising = rw at-end (rising-added 0 made key numbers.entries (omega arith) i.rising);
      known = known-added s n numbers more key made w i.known i.rising v u.changed number u.others;
      called = λ h. rw (at-end, updated peers next end.handle key h x, key-added s n key made h w end numbers.entries u.changed theirs same none, i.called h) refl;
      apart = rw at-end (apart-added s n key made w end numbers.entries u.changed theirs same none i.apart);
    }

pub list-added : (s n : Slab LinkView) (numbers peers more : BTreeMap ℕ ℕ) (made key : ℕ) (w : LinkView) → IsStored s numbers peers made → slab.get s key ≡ None → Updates s n key (Some w)
    → more.entries ≡ tree.insert_entry nat_cmp numbers.entries made key → links_of n more.entries ≡ links_of s numbers.entries ++ w ∷ []
list-added s n numbers peers more made key w i vacant u entries =
    let at-end : more.entries ≡ numbers.entries ++ (made, key) ∷ [] = rw (← insert-last made key 0 numbers.entries i.rising) entries in
    rw at-end (links-added s n key made w numbers.entries u.changed (same-added s n key vacant u.others numbers.entries i.listed))

-- where memory was refused, the indexes answer as before
pub stored-same : (s n : Slab LinkView) (numbers peers more next : BTreeMap ℕ ℕ) (made : ℕ) → IsStored s numbers peers made → n ≡ record s { capacity = n.capacity } → more.entries ≡ numbers.entries
    → ((h : ℕ) → tree.get nat_cmp next h ≡ tree.get nat_cmp peers h) → IsStored n more next made
stored-same s n numbers peers more next made i c e p =
    rw c
    record {
      listed = rw e i.listed;
      rising = rw e i.rising;
      known = λ k l h. rw e (i.known k l h);
      called = λ h. rw (e, p h) (i.called h);
      apart = rw e i.apart;
    }

-- a handle that was put in and taken out again
pub taken-back : (peers put out : BTreeMap ℕ ℕ) (h key : ℕ) → tree.get nat_cmp peers h ≡ None → tree.Updates nat_cmp peers put h (Some key) → tree.Updates nat_cmp put out h None → (q : ℕ) → tree.get nat_cmp out q ≡ tree.get nat_cmp peers q
taken-back peers put out h key free u x q =
    ⊎_elim
    (λ t. let e = eqb-true h q t in rw (x.0 q, number-at h q, t, ← e) (flip free))
    (λ t. rw (x.0 q, u.0 q, number-at h q) (pick (h == q) (tree.get nat_cmp peers q) t))
    (cases_Bool (h == q))
  where
    pick : (b : Bool) (o : Option ℕ) → b ≡ false → cond b None (cond b (Some key) o) ≡ o
    pick b o t = rw t refl

    flip : {A : Type 0} {a b : A} → a ≡ b → b ≡ a
    flip h = cc

pub handle-free : (s : Slab LinkView) (numbers peers : BTreeMap ℕ ℕ) (made h : ℕ) → IsStored s numbers peers made → find (has_peer_handle h) (links_of s numbers.entries) ≡ None → tree.get nat_cmp peers h ≡ None
handle-free s numbers peers made h i f = rw (i.called h) (none-by s numbers.entries h i.listed f)

-- room that was made changes no key
pub kept-vacant : (s r : Slab LinkView) (key : ℕ) → r ≡ record s { capacity = r.capacity } → slab.get r key ≡ None → slab.get s key ≡ None
kept-vacant s r key e h = rw e at h

pub kept-updates : (s r n : Slab LinkView) (result key : ℕ) (w : LinkView) → r ≡ record s { capacity = r.capacity } → result ≡ r.vacant_key → key ≡ r.vacant_key → Updates r n result (Some w) → Updates s n key (Some w)
kept-updates s r n result key w e a b u = kept result key (joined result key r.vacant_key a b) u
  where
    joined : (x y z : ℕ) → x ≡ z → y ≡ z → x ≡ y
    joined x y z p q = cc

    at-key : (o : ℕ) → slab.get n o ≡ slab.get r o → slab.get n o ≡ slab.get s o
    at-key o h = rw e at h

    kept : (x y : ℕ) → x ≡ y → Updates r n x (Some w) → Updates s n y (Some w)
    kept x y q v = rw (← q) record { changed = v.changed; others = λ o t. at-key o (v.others o t) }
