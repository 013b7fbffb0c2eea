-- A stored link that is written over.
use Rattle.std.proofs.Common.{◌≡◌, ◌≢◌, ◌<◌, ◌≤◌, ℕ, ◌+◌, ◌==◌, true, false, cond, Option, None, Some, List, [], ◌∷◌, arith, refl, ap, is_some, unwrap_or, ⊎_elim}
use Rattle.std.proofs.lemmas.Bool.{cases_Bool, cases_eq, eqb-true, eq-eqb, ne_eqb}
use Rattle.std.specs.Ordering.{nat_cmp}
use Rattle.std.specs.Map.{lookup}
use Rattle.std.specs.BTreeMap as tree
use Rattle.std.specs.BTreeMap.{BTreeMap}
use Rattle.slab.specs.Slab.{Slab, Updates}
use Rattle.slab.specs.Slab as slab
use Rattle.slab.proofs.SlabLemmas.{Updates-with_value}
use Rattle.amqp_performatives.specs.declared.bodies.Role.TheVariants.{Sender}
use Rattle.amqp_rules.specs.View.{LinkView, new_link, has_number, change_first, remove_first}
use Rattle.amqp_links.specs.Links.{link_at, links_of, key_by, AreListed, AreRising, AreApart, IsKnown, IsStored}
use Rattle.amqp_links.proofs.Stored.{at-number}

some-is : (o : Option LinkView) (l d : LinkView) → o ≡ Some l → unwrap_or o d ≡ l
some-is o l d e = rw e refl

pub at-key : (s : Slab LinkView) (key : ℕ) (l : LinkView) → slab.get s key ≡ Some l → link_at s key ≡ l
at-key s key l e = some-is (slab.get s key) l (new_link 0 Sender []) e

some-since : (o : Option LinkView) (d : LinkView) → is_some o ≡ true → o ≡ Some (unwrap_or o d)
some-since None d h = absurd (cc)
some-since (Some l) d h = refl

-- what stands under the key of a number
pub record IsThere (s : Slab LinkView) (key n : ℕ) : Type 0 where
  pub some : slab.get s key ≡ Some (link_at s key)
  pub number : (link_at s key).number ≡ n

pub there-at : (s : Slab LinkView) (es : List (ℕ × ℕ)) (key n : ℕ) → AreListed s es → lookup (tree.is_at (nat_cmp n)) es ≡ Some key → IsThere s key n
there-at s [] key n a e = absurd (cc)
there-at s (e ∷ es) key n a h =
    ⊎_elim
    (λ t. let k : cond {A = Option ℕ} (e.0 == n) (Some e.1) (lookup (tree.is_at (nat_cmp n)) es) ≡ Some key = rw (← at-number n e.0) h in
    let same : e.1 ≡ key = (let j = rw t at k in cc) in
    rw (← same) record { some = some-since (slab.get s e.1) (new_link 0 Sender []) a.0; number = let m = eqb-true e.0 n t in cc })
    (λ t. let k : cond {A = Option ℕ} (e.0 == n) (Some e.1) (lookup (tree.is_at (nat_cmp n)) es) ≡ Some key = rw (← at-number n e.0) h in
    there-at s es key n a.2 (rw t at k))
    (cases_Bool (e.0 == n))

-- what a write leaves of a slot that the indexes speak of
pub record IsLikeSlot (a b : Option LinkView) : Type 0 where
  pub some : is_some a ≡ is_some b
  pub number : (unwrap_or a (new_link 0 Sender [])).number ≡ (unwrap_or b (new_link 0 Sender [])).number
  pub theirs : (unwrap_or a (new_link 0 Sender [])).theirs ≡ (unwrap_or b (new_link 0 Sender [])).theirs

slot-same : (a b : Option LinkView) → a ≡ b → IsLikeSlot a b
slot-same a b e = rw e record { some = refl; number = refl; theirs = refl }

slot-over : (a b : Option LinkView) (w l : LinkView) → a ≡ Some w → b ≡ Some l → w.number ≡ l.number → w.theirs ≡ l.theirs → IsLikeSlot a b
slot-over a b w l x y n t = rw (x, y) record { some = refl; number = n; theirs = t }

abbrev pub IsLike : Slab LinkView → Slab LinkView → Type 0
IsLike s n = (k : ℕ) → IsLikeSlot (slab.get n k) (slab.get s k)

pub listed-like : (s n : Slab LinkView) (es : List (ℕ × ℕ)) → IsLike s n → AreListed s es → AreListed n es
listed-like s n [] i a = tt
listed-like s n (e ∷ es) i a = (rw ((i e.1).some) a.0, rw ((i e.1).number) a.1, listed-like s n es i a.2)

pub key-like : (s n : Slab LinkView) (es : List (ℕ × ℕ)) (h : ℕ) → IsLike s n → key_by h n es ≡ key_by h s es
key-like s n [] h i = refl
key-like s n (e ∷ es) h i = rw ((i e.1).theirs, key-like s n es h i) refl

pub apart-like : (s n : Slab LinkView) (es : List (ℕ × ℕ)) → IsLike s n → AreApart s es → AreApart n es
apart-like s n [] i a = tt
apart-like s n (e ∷ es) i a = (λ h t. rw (key-like s n es h i) (a.0 h (rw (← (i e.1).theirs) t)), apart-like s n es i a.1)

-- one key is written over
pub record IsOver (s n : Slab LinkView) (key : ℕ) (l w : LinkView) : Type 0 where
  pub was : slab.get s key ≡ Some l
  pub is : slab.get n key ≡ Some w
  pub others : (other : ℕ) → other ≢ key → slab.get n other ≡ slab.get s other
  pub number : w.number ≡ l.number
  pub theirs : w.theirs ≡ l.theirs

like-over : (s n : Slab LinkView) (key : ℕ) (l w : LinkView) → IsOver s n key l w → IsLike s n
like-over s n key l w o k =
    ⊎_elim
    (λ e. rw e (slot-over (slab.get n key) (slab.get s key) w l o.is o.was o.number o.theirs))
    (λ e. slot-same (slab.get n k) (slab.get s k) (o.others k e))
    (cases_eq k key)

some-same : (a b : LinkView) → ◌≡◌ {A = Option LinkView} (Some a) (Some b) → a ≡ b
some-same a b h = cc

known-here : (s n : Slab LinkView) (numbers : BTreeMap ℕ ℕ) (key : ℕ) (l w m : LinkView) → IsKnown s numbers → IsOver s n key l w → slab.get n key ≡ Some m → tree.get nat_cmp numbers m.number ≡ Some key
known-here s n numbers key l w m i o h =
    let same : w ≡ m = some-same w m (rw (← o.is) h) in
    rw (← same, o.number) (i key l o.was)

known-over : (s n : Slab LinkView) (numbers : BTreeMap ℕ ℕ) (key : ℕ) (l w : LinkView) → IsKnown s numbers → IsOver s n key l w → IsKnown n numbers
known-over s n numbers key l w i o k m h =
    ⊎_elim
    (λ e. let j : slab.get n key ≡ Some m = rw e at h in rw e (known-here s n numbers key l w m i o j))
    (λ e. i k m (rw (← o.others k e) h))
    (cases_eq k key)

pub stored-over : (s n : Slab LinkView) (numbers peers : BTreeMap ℕ ℕ) (made key : ℕ) (l w : LinkView) → IsStored s numbers peers made → IsOver s n key l w → IsStored n numbers peers made
stored-over s n numbers peers made key l w i o =
    let like = like-over s n key l w o in
    record {
      listed = listed-like s n numbers.entries like i.listed;
      rising = i.rising;
      known = known-over s n numbers key l w i.known o;
      called = λ h. rw (key-like s n numbers.entries h like) (i.called h);
      apart = apart-like s n numbers.entries like i.apart;
    }

-- numbers from here on are others
rest-same : (s n : Slab LinkView) (key : ℕ) (l : LinkView) → slab.get s key ≡ Some l → ((other : ℕ) → other ≢ key → slab.get n other ≡ slab.get s other) → (es : List (ℕ × ℕ)) (from to : ℕ) → l.number < from → AreListed s es → AreRising from to es → links_of n es ≡ links_of s es
rest-same s n key l was others [] from to h a r = refl
rest-same s n key l was others (e ∷ es) from to h a r =
    let other : e.1 ≢ key = λ k. (let j : (link_at s key).number ≡ e.0 = rw k at a.1 in let q : l.number ≡ e.0 = rw (at-key s key l was) at j in let f : from ≤ e.0 = r.0 in omega (arith, h, q, f)) in
    rw (others e.1 other) (ap (λ ls. link_at s e.1 ∷ ls) (rest-same s n key l was others es (e.0 + 1) to (let f : from ≤ e.0 = r.0 in omega (arith, h, f)) a.2 r.2))

pub changed-over : (s n : Slab LinkView) (key : ℕ) (l w : LinkView) (f : LinkView → LinkView)
    → slab.get s key ≡ Some l → slab.get n key ≡ Some w → ((other : ℕ) → other ≢ key → slab.get n other ≡ slab.get s other) → f l ≡ w
    → ((k : ℕ) (m : LinkView) → slab.get s k ≡ Some m → m.number ≡ l.number → k ≡ key)
    → (es : List (ℕ × ℕ)) (from to : ℕ) → AreListed s es → AreRising from to es → links_of n es ≡ change_first (has_number l.number) f (links_of s es)
changed-over s n key l w f was is others fl only [] from to a r = refl
changed-over s n key l w f was is others fl only (e ∷ es) from to a r =
    ⊎_elim
    (λ t. let is-l : link_at s e.1 ≡ l = rw t (at-key s key l was) in
    let is-w : link_at n e.1 ≡ w = rw t (at-key n key w is) in
    let m : l.number ≡ e.0 = rw is-l at a.1 in
    let above : l.number < e.0 + 1 = omega (arith, m) in
    rw (is-l, is-w, eq-eqb l.number l.number refl, fl) (ap (λ ls. w ∷ ls) (rest-same s n key l was others es (e.0 + 1) to above a.2 r.2)))
    (λ t. let apart : (link_at s e.1).number ≡ l.number → ⊥ = λ m. t (only e.1 (link_at s e.1) (some-since (slab.get s e.1) (new_link 0 Sender []) a.0) m) in
    rw (others e.1 t, ne_eqb (link_at s e.1).number l.number apart)
    (ap (λ ls. link_at s e.1 ∷ ls) (changed-over s n key l w f was is others fl only es (e.0 + 1) to a.2 r.2)))
    (cases_eq e.1 key)

only-key : (a b : ℕ) → ◌≡◌ {A = Option ℕ} (Some a) (Some b) → a ≡ b
only-key a b h = cc

pub over : (s : Slab LinkView) (key : ℕ) (l w : LinkView) → slab.get s key ≡ Some l → w.number ≡ l.number → w.theirs ≡ l.theirs → IsOver s (slab.with_value s key w) key l w
over s key l w e number theirs =
    let u = Updates-with_value s key w (rw e refl) in
    record { was = e; is = u.changed; others = u.others; number = number; theirs = theirs }

-- the link with a number is written over
pub write-stored : (s : Slab LinkView) (numbers peers : BTreeMap ℕ ℕ) (made key : ℕ) (l w : LinkView)
    → IsStored s numbers peers made → slab.get s key ≡ Some l → w.number ≡ l.number → w.theirs ≡ l.theirs → IsStored (slab.with_value s key w) numbers peers made
write-stored s numbers peers made key l w i e number theirs = stored-over s (slab.with_value s key w) numbers peers made key l w i (over s key l w e number theirs)

pub write-changes : (s : Slab LinkView) (numbers peers : BTreeMap ℕ ℕ) (made key n : ℕ) (l w : LinkView) (f : LinkView → LinkView)
    → IsStored s numbers peers made → tree.get nat_cmp numbers n ≡ Some key → slab.get s key ≡ Some l → w.number ≡ l.number → w.theirs ≡ l.theirs → f l ≡ w
    → links_of (slab.with_value s key w) numbers.entries ≡ change_first (has_number n) f (links_of s numbers.entries)
write-changes s numbers peers made key n l w f i k e number theirs fl =
    let t = there-at s numbers.entries key n i.listed k in
    let m : l.number ≡ n = rw (at-key s key l e) at t.number in
    rw (← m)
    (let o = over s key l w e number theirs in
    changed-over s (slab.with_value s key w) key l w f o.was o.is o.others fl
    (λ j g h q. only-key j key (rw (← i.known j g h, q, m) k))
    numbers.entries 0 made i.listed i.rising)

-- where there is no such link, nothing changes
not-there : (s : Slab LinkView) (es : List (ℕ × ℕ)) (n : ℕ) (f : LinkView → LinkView) → AreListed s es → lookup (tree.is_at (nat_cmp n)) es ≡ None → change_first (has_number n) f (links_of s es) ≡ links_of s es
not-there s [] n f a h = refl
not-there s (e ∷ es) n f a h =
    let k : cond {A = Option ℕ} (e.0 == n) (Some e.1) (lookup (tree.is_at (nat_cmp n)) es) ≡ None = rw (← at-number n e.0) h in
    ⊎_elim
    (λ t. absurd (let j = rw t at k in cc))
    (λ t. let u : has_number n (link_at s e.1) ≡ false = rw a.1 t in rw u (ap (λ ls. link_at s e.1 ∷ ls) (not-there s es n f a.2 (rw t at k))))
    (cases_Bool (e.0 == n))

pub unchanged : (s : Slab LinkView) (numbers peers : BTreeMap ℕ ℕ) (made n : ℕ) (f : LinkView → LinkView)
    → IsStored s numbers peers made → tree.get nat_cmp numbers n ≡ None → change_first (has_number n) f (links_of s numbers.entries) ≡ links_of s numbers.entries
unchanged s numbers peers made n f i h = not-there s numbers.entries n f i.listed h

pub there-some : (s : Slab LinkView) (numbers peers : BTreeMap ℕ ℕ) (made key n : ℕ) → IsStored s numbers peers made → tree.get nat_cmp numbers n ≡ Some key → is_some (slab.get s key) ≡ true
there-some s numbers peers made key n i h = let t = there-at s numbers.entries key n i.listed h in rw t.some refl

not-removed : (s : Slab LinkView) (es : List (ℕ × ℕ)) (n : ℕ) → AreListed s es → lookup (tree.is_at (nat_cmp n)) es ≡ None → remove_first (has_number n) (links_of s es) ≡ links_of s es
not-removed s [] n a h = refl
not-removed s (e ∷ es) n a h =
    let k : cond {A = Option ℕ} (e.0 == n) (Some e.1) (lookup (tree.is_at (nat_cmp n)) es) ≡ None = rw (← at-number n e.0) h in
    ⊎_elim
    (λ t. absurd (let j = rw t at k in cc))
    (λ t. let u : has_number n (link_at s e.1) ≡ false = rw a.1 t in rw u (ap (λ ls. link_at s e.1 ∷ ls) (not-removed s es n a.2 (rw t at k))))
    (cases_Bool (e.0 == n))

pub kept-whole : (s : Slab LinkView) (numbers peers : BTreeMap ℕ ℕ) (made n : ℕ) → IsStored s numbers peers made → tree.get nat_cmp numbers n ≡ None → remove_first (has_number n) (links_of s numbers.entries) ≡ links_of s numbers.entries
kept-whole s numbers peers made n i h = not-removed s numbers.entries n i.listed h
