-- The indexes, as the links come, go and change.
use Rattle.std.proofs.Common.{◌≡◌, ◌<◌, ◌≤◌, ℕ, ◌+◌, ◌==◌, not, Bool, true, false, cond, Option, None, Some, Result, Ok, Err, OnOk, OnErr, List, [], ◌∷◌, ◌++◌, length, map, arith, refl, sym, ap, ◌∙◌, find, is_some, ⊎_elim}
use Rattle.std.proofs.lemmas.Bool.{cases_Bool, eq-eqb, ne_eqb}
use Rattle.std.proofs.lemmas.List.{append-nil}
use Rattle.std.proofs.lemmas.List.Elements.{filter-append}
use Rattle.std.specs.List.{filter}
use Rattle.std.specs.Prelude.{nat_eq}
use Rattle.std.specs.Cmp.Lexicographic.{pointwise, nat_list_eq_equiv}
use Rattle.std.specs.BinaryHeap.{heap_len, heap_capacity}
use Rattle.amqp_events.specs.Told.{Telling}
use Rattle.amqp_rules.specs.View.{LinkView, EndView, handle_of, has_number, change_first, remove_first, free_handle}
use Rattle.amqp_links.specs.declared.names.Names.{Names}
use Rattle.amqp_links.specs.declared.handles.Handles.{Handles}
use Rattle.amqp_links.specs.declared.marks.Marks.{Marks}
use Rattle.amqp_links.specs.Fate.{changed, with_more, with_told, with_ours}
use Rattle.amqp_links.specs.Handles.{AreHandled, IsGained, uses, used}
use Rattle.amqp_links.specs.Index.{AreIndexed, IsIndexedAlike, indexed}
use Rattle.amqp_links.specs.Links.{LinksView, AreNumbered, AreWithin}
use Rattle.amqp_links.specs.Resuming.{ResumingView}
use Rattle.amqp_links.specs.Names.{AreNamed, numbers_named, numbers_under}
use Rattle.amqp_links.proofs.Handled.{uses-alike, used-alike, used-few, here-changed, past-changed, gained-changed, gained-added, gained-gone, uses-added, used-added, uses-kept, used-kept}
use Rattle.amqp_links.proofs.Named.{yes, no, named-alike, named-more, named-less, others-stay}

-- # What the indexes tell stays

pub changed-alike : (t : LinkView → Bool) (f : LinkView → LinkView) → ((l : LinkView) → indexed (f l) ≡ indexed l) → (ls : List LinkView) → map indexed (change_first t f ls) ≡ map indexed ls
changed-alike t f k [] = refl
changed-alike t f k (l ∷ ls) =
    ⊎_elim
    (λ u. rw u (ap (λ i. i ∷ map indexed ls) (k l)))
    (λ u. rw u (ap (λ is. indexed l ∷ is) (changed-alike t f k ls)))
    (cases_Bool (t l))

pub one-alike : (n : ℕ) (f : LinkView → LinkView) → ((l : LinkView) → indexed (f l) ≡ indexed l) → (ls : LinksView) → IsIndexedAlike ls (changed n f ls)
one-alike n f k ls = record { list = changed-alike (has_number n) f k ls.list; made = refl }

pub alike-after : (a b : LinksView) (n : ℕ) (f : LinkView → LinkView) → ((l : LinkView) → indexed (f l) ≡ indexed l) → IsIndexedAlike a b → IsIndexedAlike a (changed n f b)
alike-after a b n f k i = record { list = changed-alike (has_number n) f k b.list ∙ i.list; made = i.made }

pub told-alike : (ts : List Telling) (ls : List LinkView) → map indexed (map (with_told ts) ls) ≡ map indexed ls
told-alike ts [] = refl
told-alike ts (l ∷ ls) = ap (λ is. indexed l ∷ is) (told-alike ts ls)

pub handled-same : (index : Handles) (ls ms : List LinkView) → ((k : ℕ) → uses k ms ≡ uses k ls) → used ms ≡ used ls → AreHandled index ls → AreHandled index ms
handled-same index ls ms e f i =
    record { ordered = i.ordered; room = i.room; each = λ h. rw (e h) (i.each h); all = rw f i.all }

pub still-indexed : (names : Names) (handles : Handles) (a b : LinksView) → AreIndexed names handles a → IsIndexedAlike a b → AreIndexed names handles b
still-indexed names handles a b i s =
    record {
      named = λ q. i.named q ∙ sym (named-alike q a.list b.list s.list);
      handled = handled-same handles a.list b.list (λ k. uses-alike k a.list b.list s.list) (used-alike a.list b.list s.list) i.handled;
      low = rw s.made i.low;
    }

pub either-indexed : {A E : Type 0} (r : Result A E) (names : Names) (handles : Handles) (old next new : LinksView) → AreIndexed names handles old → IsIndexedAlike old next → OnOk r (new ≡ next) → OnErr r (new ≡ old) → AreIndexed names handles new
either-indexed (Ok x) names handles old next new i s ok err = rw ok (still-indexed names handles old next i s)
either-indexed (Err e) names handles old next new i s ok err = rw err i

-- # Names

pub more-named : (old new : Names) (ls : List LinkView) (w : LinkView) → AreNamed old ls
    → ((q : List ℕ) → numbers_under new q ≡ cond (pointwise nat_eq w.name q) (numbers_under old q ++ w.number ∷ []) (numbers_under old q)) → AreNamed new (ls ++ w ∷ [])
more-named old new ls w i u q =
    u q ∙ ap (λ ns. cond (pointwise nat_eq w.name q) (ns ++ w.number ∷ []) ns) (i q)
    ∙ ap (λ b. cond b (numbers_named q ls ++ w.number ∷ []) (numbers_named q ls)) (nat_list_eq_equiv.symm w.name q)
    ∙ sym (named-more q w ls)

pub less-named : (old new : Names) (ls : List LinkView) (n : ℕ) (l : LinkView) → AreNumbered 0 ls → find (has_number n) ls ≡ Some l → AreNamed old ls
    → ((q : List ℕ) → numbers_under new q ≡ cond (pointwise nat_eq l.name q) (filter (λ m. not (m == n)) (numbers_under old q)) (numbers_under old q)) → AreNamed new (remove_first (has_number n) ls)
less-named old new ls n l a f i u q =
    u q ∙ ap (λ ns. cond (pointwise nat_eq l.name q) (filter (λ m. not (m == n)) ns) ns) (i q)
    ∙ ap (λ b. cond b (filter (λ m. not (m == n)) (numbers_named q ls)) (numbers_named q ls)) (nat_list_eq_equiv.symm l.name q)
    ∙ sym (named-less q n l ls 0 a f)

not-among : (q : List ℕ) (ls : List LinkView) (from to : ℕ) → AreWithin from to ls → filter (λ m. not (m == to)) (numbers_named q ls) ≡ numbers_named q ls
not-among q [] from to a = refl
not-among q (l ∷ ls) from to a =
    let b : l.number < to = a.1 in
    others-stay q to l ls (ne_eqb l.number to (λ e. omega (arith, e, b))) (not-among q ls (l.number + 1) to a.2)

last-out : (n : ℕ) → filter (λ m. not (m == n)) (n ∷ []) ≡ []
last-out n = ap (λ b. cond (not b) (n ∷ []) []) (eq-eqb n n refl)

back : (b : Bool) (n : ℕ) (ns : List ℕ) → filter (λ m. not (m == n)) ns ≡ ns → cond b (filter (λ m. not (m == n)) (cond b (ns ++ n ∷ []) ns)) (cond b (ns ++ n ∷ []) ns) ≡ ns
back true n ns h = filter-append (λ m. not (m == n)) ns (n ∷ []) ∙ ap (λ xs. xs ++ filter (λ m. not (m == n)) (n ∷ [])) h ∙ ap (λ xs. ns ++ xs) (last-out n) ∙ append-nil ns
back false n ns h = refl

-- a number that was put under a name is taken back
pub back-named : (old more new : Names) (ls : List LinkView) (name : List ℕ) (n : ℕ) → AreWithin 0 n ls → AreNamed old ls
    → ((q : List ℕ) → numbers_under more q ≡ cond (pointwise nat_eq name q) (numbers_under old q ++ n ∷ []) (numbers_under old q))
    → ((q : List ℕ) → numbers_under new q ≡ cond (pointwise nat_eq name q) (filter (λ m. not (m == n)) (numbers_under more q)) (numbers_under more q)) → AreNamed new ls
back-named old more new ls name n a i u v q =
    v q ∙ ap (λ ns. cond (pointwise nat_eq name q) (filter (λ m. not (m == n)) ns) ns) (u q)
    ∙ ap (λ ns. cond (pointwise nat_eq name q) (filter (λ m. not (m == n)) (cond (pointwise nat_eq name q) (ns ++ n ∷ []) ns)) (cond (pointwise nat_eq name q) (ns ++ n ∷ []) ns)) (i q)
    ∙ back (pointwise nat_eq name q) n (numbers_named q ls) (not-among q ls 0 n a)

pub ours-named : (names : Names) (n : ℕ) (end : EndView) (m : Marks) (r : ResumingView) (ls : List LinkView) → AreNamed names ls → AreNamed names (change_first (has_number n) (with_ours end m r) ls)
ours-named names n end m r ls i q = i q ∙ sym (same ls)
  where
    same : (ls : List LinkView) → numbers_named q (change_first (has_number n) (with_ours end m r) ls) ≡ numbers_named q ls
    same [] = refl
    same (l ∷ ls) =
        ⊎_elim
        (λ t. ap (numbers_named q) (here-changed n (with_ours end m r) l ls t))
        (λ t. ap (numbers_named q) (past-changed n (with_ours end m r) l ls t) ∙ ap (λ ns. cond (pointwise nat_eq q l.name) (l.number ∷ ns) ns) (same ls))
        (cases_Bool (l.number == n))

-- # Numbers

few-in : (ls : List LinkView) (from to : ℕ) → from ≤ to → AreWithin from to ls → from + length ls ≤ to
few-in [] from to h a = omega (arith, h)
few-in (l ∷ ls) from to h a =
    let f : from ≤ l.number = a.0 in
    let b : l.number < to = a.1 in
    let i = few-in ls (l.number + 1) to (omega (arith, b)) a.2 in
    omega (arith, f, i)

-- there are fewer handles of ours than links were made
pub used-low : (ls : List LinkView) (made : ℕ) → AreWithin 0 made ls → used ls ≤ made
used-low ls made a = let f = few-in ls 0 made (omega arith) a in let u = used-few ls in omega (arith, f, u)

-- rising numbers below a bound are rising numbers
pub numbered-within : (ls : List LinkView) (from to : ℕ) → AreWithin from to ls → AreNumbered from ls
numbered-within [] from to a = tt
numbered-within (l ∷ ls) from to a = (a.0, numbered-within ls (l.number + 1) to a.2)

length-changed : (t : LinkView → Bool) (f : LinkView → LinkView) (ls : List LinkView) → length (change_first t f ls) ≡ length ls
length-changed t f [] = refl
length-changed t f (l ∷ ls) =
    ⊎_elim (λ u. ap length (yes (t l) (f l ∷ ls) (l ∷ change_first t f ls) u))
    (λ u. ap length (no (t l) (f l ∷ ls) (l ∷ change_first t f ls) u) ∙ (let i = length-changed t f ls in omega (arith, i)))
    (cases_Bool (t l))

-- while one of them has no handle of ours, there are fewer handles than links were made
pub used-lower : (t : LinkView → Bool) (f : LinkView → LinkView) (ls : List LinkView) (made : ℕ) → AreWithin 0 made ls → used (change_first t f ls) ≡ used ls + 1 → used ls < made
used-lower t f ls made a e =
    let n = few-in ls 0 made (omega arith) a in
    let u = used-few (change_first t f ls) in
    let l = length-changed t f ls in
    omega (arith, n, u, l, e)

-- # A link that is not there, and one that is

pub unchanged-without : (n : ℕ) (f : LinkView → LinkView) (ls : List LinkView) → find (has_number n) ls ≡ None → change_first (has_number n) f ls ≡ ls
unchanged-without n f [] h = refl
unchanged-without n f (l ∷ ls) h =
    ⊎_elim (λ t. absurd (let g = rw t at h in cc)) (λ t. rw t (ap (λ xs. l ∷ xs) (unchanged-without n f ls (rw t at h)))) (cases_Bool (l.number == n))

pub whole-without : (n : ℕ) (ls : List LinkView) → find (has_number n) ls ≡ None → remove_first (has_number n) ls ≡ ls
whole-without n [] h = refl
whole-without n (l ∷ ls) h =
    ⊎_elim (λ t. absurd (let g = rw t at h in cc)) (λ t. rw t (ap (λ xs. l ∷ xs) (whole-without n ls (rw t at h)))) (cases_Bool (l.number == n))

pub record IsHandle (o : Option EndView) (h : ℕ) : Type 0 where
  pub end : EndView
  pub is : o ≡ Some end
  pub handle : end.handle ≡ h

pub handle-there : (o : Option EndView) → is_some o ≡ true → IsHandle o (handle_of o)
handle-there None e = absurd (cc)
handle-there (Some end) e = record { end = end; is = refl; handle = refl }

pub none-there : (o : Option EndView) → is_some o ≡ false → o ≡ None
none-there None e = refl
none-there (Some end) e = absurd (cc)

-- # Steps

-- our attach of a link that is there
pub attached-indexed : (names : Names) (was now : Handles) (ls : LinksView) (n : ℕ) (l : LinkView) (end : EndView) (m : Marks) (r : ResumingView) → AreIndexed names was ls → AreWithin 0 ls.made ls.list
    → find (has_number n) ls.list ≡ Some l → l.ours ≡ None → end.handle ≡ free_handle ls.list
    → ((less more : List LinkView) → AreHandled was less → IsGained (free_handle less) less more → AreHandled now more)
    → ((links : List LinkView) (k : ℕ) → AreHandled was links → used links < k → was.next ≤ k → now.next ≤ k)
    → AreIndexed names now (changed n (with_ours end m r) ls)
attached-indexed names was now ls n l end m r i a f o h u v =
    let g = gained-changed n l end (with_ours end m r) ls.list f o refl in
    record {
      named = ours-named names n end m r ls.list i.named;
      handled = u ls.list (change_first (has_number n) (with_ours end m r) ls.list) i.handled (rw (← h) g);
      low = v ls.list ls.made i.handled (used-lower (has_number n) (with_ours end m r) ls.list ls.made a g.all) i.low;
    }

-- a link more, offered
pub offered-indexed : (was now : Names) (handles : Handles) (ls : LinksView) (w : LinkView) → AreIndexed was handles ls → w.ours ≡ None
    → ((q : List ℕ) → numbers_under now q ≡ cond (pointwise nat_eq w.name q) (numbers_under was q ++ w.number ∷ []) (numbers_under was q))
    → AreIndexed now handles (with_more w ls)
offered-indexed was now handles ls w i o u =
    record {
      named = more-named was now ls.list w i.named u;
      handled = handled-same handles ls.list (ls.list ++ w ∷ []) (λ k. uses-added k w ls.list o) (used-added w ls.list o) i.handled;
      low = let l = i.low in omega (arith, l);
    }

-- a link more, asked for
pub asked-indexed : (was now : Names) (held holds : Handles) (ls : LinksView) (w : LinkView) (end : EndView) → AreIndexed was held ls → AreWithin 0 ls.made ls.list
    → w.ours ≡ Some end → end.handle ≡ free_handle ls.list
    → ((q : List ℕ) → numbers_under now q ≡ cond (pointwise nat_eq w.name q) (numbers_under was q ++ w.number ∷ []) (numbers_under was q))
    → ((less more : List LinkView) → AreHandled held less → IsGained (free_handle less) less more → AreHandled holds more)
    → ((links : List LinkView) (k : ℕ) → AreHandled held links → used links < k → held.next ≤ k → holds.next ≤ k)
    → AreIndexed now holds (with_more w ls)
asked-indexed was now held holds ls w end i a o h u v x =
    let g = gained-added w end ls.list o in
    let n = used-low ls.list ls.made a in
    let l = i.low in
    record {
      named = more-named was now ls.list w i.named u;
      handled = v ls.list (ls.list ++ w ∷ []) i.handled (rw (← h) g);
      low = x ls.list (ls.made + 1) i.handled (omega (arith, n)) (omega (arith, l));
    }

-- what was put under a name is taken back
pub back-indexed : (old more new : Names) (handles : Handles) (ls : LinksView) (name : List ℕ) → AreIndexed old handles ls → AreWithin 0 ls.made ls.list
    → ((q : List ℕ) → numbers_under more q ≡ cond (pointwise nat_eq name q) (numbers_under old q ++ ls.made ∷ []) (numbers_under old q))
    → ((q : List ℕ) → numbers_under new q ≡ cond (pointwise nat_eq name q) (filter (λ m. not (m == ls.made)) (numbers_under more q)) (numbers_under more q))
    → AreIndexed new handles ls
back-indexed old more new handles ls name i a u v =
    record { named = back-named old more new ls.list name ls.made a i.named u v; handled = i.handled; low = i.low }

pub reserved-indexed : (names : Names) (was now : Handles) (ls : LinksView) → AreIndexed names was ls → ((links : List LinkView) → AreHandled was links → AreHandled now links) → now.next ≡ was.next → AreIndexed names now ls
reserved-indexed names was now ls i u n = record { named = i.named; handled = u ls.list i.handled; low = rw n i.low }

-- a link is gone that we called by a handle, and one that we did not
pub gone-indexed : (was now : Names) (held holds : Handles) (ls : LinksView) (n h : ℕ) (l : LinkView) → AreIndexed was held ls → AreNumbered 0 ls.list
    → find (has_number n) ls.list ≡ Some l → is_some l.ours ≡ true → h ≡ handle_of l.ours
    → ((q : List ℕ) → numbers_under now q ≡ cond (pointwise nat_eq l.name q) (filter (λ m. not (m == n)) (numbers_under was q)) (numbers_under was q))
    → ((less more : List LinkView) → AreHandled held more → IsGained h less more → AreHandled holds less) → holds.next ≡ held.next
    → AreIndexed now holds (record ls { list = remove_first (has_number n) ls.list })
gone-indexed was now held holds ls n h l i a f o e u v k =
    let t = handle-there l.ours o in
    let g = gained-gone n l t.end ls.list f t.is in
    record {
      named = less-named was now ls.list n l a f i.named u;
      handled = v (remove_first (has_number n) ls.list) ls.list i.handled (rw (e, ← t.handle) g);
      low = rw k i.low;
    }

pub gone-room : (names : Names) (handles : Handles) (ls : LinksView) (n : ℕ) (l : LinkView) → AreIndexed names handles ls → find (has_number n) ls.list ≡ Some l → is_some l.ours ≡ true
    → heap_len handles.free < heap_capacity handles.free
gone-room names handles ls n l i f o =
    let t = handle-there l.ours o in
    let g = gained-gone n l t.end ls.list f t.is in
    let a = g.all in
    let b = i.handled.all in
    let c = i.handled.room in
    omega (arith, a, b, c)

pub left-indexed : (was now : Names) (handles : Handles) (ls : LinksView) (n : ℕ) (l : LinkView) → AreIndexed was handles ls → AreNumbered 0 ls.list
    → find (has_number n) ls.list ≡ Some l → is_some l.ours ≡ false
    → ((q : List ℕ) → numbers_under now q ≡ cond (pointwise nat_eq l.name q) (filter (λ m. not (m == n)) (numbers_under was q)) (numbers_under was q))
    → AreIndexed now handles (record ls { list = remove_first (has_number n) ls.list })
left-indexed was now handles ls n l i a f o u =
    let z = none-there l.ours o in
    record {
      named = less-named was now ls.list n l a f i.named u;
      handled = handled-same handles ls.list (remove_first (has_number n) ls.list) (λ k. uses-kept k n l ls.list f z) (used-kept n l ls.list f z) i.handled;
      low = i.low;
    }

pub whole-indexed : (names : Names) (handles : Handles) (ls : LinksView) (n : ℕ) → AreIndexed names handles ls → find (has_number n) ls.list ≡ None → AreIndexed names handles (record ls { list = remove_first (has_number n) ls.list })
whole-indexed names handles ls n i f = rw (whole-without n ls.list f) i
