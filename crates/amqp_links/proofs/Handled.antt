-- Our handles, as they come into use and are given back.
use Rattle.std.proofs.Common.{◌≡◌, ◌<◌, ◌≤◌, ℕ, ◌+◌, ◌==◌, Bool, true, false, cond, Option, None, Some, List, [], ◌∷◌, ◌++◌, length, map, arith, refl, sym, ap, ◌∙◌, find, is_some, ⊎_elim}
use Rattle.std.proofs.lemmas.Bool.{cases_Bool, cases_lt}
use Rattle.amqp_rules.specs.View.{LinkView, EndView, has_handle, has_number, holds, free_handle, change_first, remove_first}
use Rattle.amqp_rules.specs.Sound.{IsLowestFree}
use Rattle.amqp_rules.proofs.Free.{free-handle_is-lowest}
use Rattle.amqp_links.specs.Handles.{uses, used, IsGained}
use Rattle.amqp_links.specs.Index.{Indexed, indexed}
use Rattle.amqp_links.proofs.Named.{yes, no}

-- # What the index tells decides

abbrev uses-in : ℕ → List Indexed → ℕ
uses-in h [] = 0
uses-in h (i ∷ is) = cond (holds (λ e. e.handle == h) i.ours) 1 0 + uses-in h is

abbrev used-in : List Indexed → ℕ
used-in [] = 0
used-in (i ∷ is) = cond (is_some i.ours) 1 0 + used-in is

uses-told : (h : ℕ) (ls : List LinkView) → uses h ls ≡ uses-in h (map indexed ls)
uses-told h [] = refl
uses-told h (l ∷ ls) = ap (λ n. cond (has_handle h l) 1 0 + n) (uses-told h ls)

used-told : (ls : List LinkView) → used ls ≡ used-in (map indexed ls)
used-told [] = refl
used-told (l ∷ ls) = ap (λ n. cond (is_some l.ours) 1 0 + n) (used-told ls)

pub uses-alike : (h : ℕ) (ls ms : List LinkView) → map indexed ms ≡ map indexed ls → uses h ms ≡ uses h ls
uses-alike h ls ms e = uses-told h ms ∙ ap (uses-in h) e ∙ sym (uses-told h ls)

pub used-alike : (ls ms : List LinkView) → map indexed ms ≡ map indexed ls → used ms ≡ used ls
used-alike ls ms e = used-told ms ∙ ap used-in e ∙ sym (used-told ls)

-- # The lowest that is free

unused : (h : ℕ) (ls : List LinkView) → uses h ls ≡ 0 → is_some (find (has_handle h) ls) ≡ false
unused h [] e = refl
unused h (l ∷ ls) e =
    ⊎_elim
    (λ t. absurd (let n : 1 + uses h ls ≡ 0 = rw t at e in omega (arith, n)))
    (λ t. rw t (unused h ls (let n : 0 + uses h ls ≡ 0 = rw t at e in omega (arith, n))))
    (cases_Bool (has_handle h l))

in-use : (h : ℕ) (ls : List LinkView) → 1 ≤ uses h ls → is_some (find (has_handle h) ls) ≡ true
in-use h [] e = absurd (omega (arith, e))
in-use h (l ∷ ls) e =
    ⊎_elim
    (λ t. rw t refl)
    (λ t. rw t (in-use h ls (let n : 1 ≤ 0 + uses h ls = rw t at e in omega (arith, n))))
    (cases_Bool (has_handle h l))

differ : (b : Bool) → b ≡ true → b ≡ false → ⊥
differ true x y = absurd (cc)
differ false x y = absurd (cc)

one-lowest : (ls : List LinkView) (a b : ℕ) → IsLowestFree ls a → IsLowestFree ls b → a ≡ b
one-lowest ls a b p q =
    ⊎_elim
    (λ lt. absurd (differ (is_some (find (has_handle a) ls)) (q.lowest a lt) p.free))
    (λ ge. ⊎_elim (λ lt. absurd (differ (is_some (find (has_handle b) ls)) (p.lowest b lt) q.free)) (λ le. omega (arith, ge, le)) (cases_lt b a))
    (cases_lt a b)

-- a handle that no link has, while each lower one is a link's
pub lowest-unused : (ls : List LinkView) (h : ℕ) → uses h ls ≡ 0 → ((k : ℕ) → k < h → 1 ≤ uses k ls) → h ≡ free_handle ls
lowest-unused ls h none lower =
    one-lowest ls h (free_handle ls) record { free = unused h ls none; lowest = λ k less. in-use k ls (lower k less) } (free-handle_is-lowest ls)

-- # Links come and go

swap : (a b c : ℕ) → a + (b + c) ≡ a + b + c
swap a b c = omega arith

pub used-few : (ls : List LinkView) → used ls ≤ length ls
used-few [] = omega arith
used-few (l ∷ ls) = let i = used-few ls in let o = one (is_some l.ours) in omega (arith, i, o)
  where
    one : (b : Bool) → cond b 1 0 ≤ 1
    one true = omega arith
    one false = omega arith

uses-more : (h : ℕ) (w : LinkView) (ls : List LinkView) → uses h (ls ++ w ∷ []) ≡ uses h ls + cond (has_handle h w) 1 0
uses-more h w [] = omega arith
uses-more h w (l ∷ ls) = ap (λ n. cond (has_handle h l) 1 0 + n) (uses-more h w ls) ∙ swap (cond (has_handle h l) 1 0) (uses h ls) (cond (has_handle h w) 1 0)

used-more : (w : LinkView) (ls : List LinkView) → used (ls ++ w ∷ []) ≡ used ls + cond (is_some w.ours) 1 0
used-more w [] = omega arith
used-more w (l ∷ ls) = ap (λ n. cond (is_some l.ours) 1 0 + n) (used-more w ls) ∙ swap (cond (is_some l.ours) 1 0) (used ls) (cond (is_some w.ours) 1 0)

held-none : (h : ℕ) (l : LinkView) → l.ours ≡ None → has_handle h l ≡ false
held-none h l e = rw e refl

held-one : (h : ℕ) (l : LinkView) (end : EndView) → l.ours ≡ Some end → has_handle h l ≡ (end.handle == h)
held-one h l end e = rw e refl

some-held : (l : LinkView) (end : EndView) → l.ours ≡ Some end → is_some l.ours ≡ true
some-held l end e = rw e refl

none-held : (l : LinkView) → l.ours ≡ None → is_some l.ours ≡ false
none-held l e = rw e refl

-- a link more, with a handle of ours and with none
pub gained-added : (w : LinkView) (end : EndView) (ls : List LinkView) → w.ours ≡ Some end → IsGained end.handle ls (ls ++ w ∷ [])
gained-added w end ls o =
    record {
      each = λ k. uses-more k w ls ∙ ap (λ b. uses k ls + cond b 1 0) (held-one k w end o);
      all = used-more w ls ∙ ap (λ b. used ls + cond b 1 0) (some-held w end o);
    }

nothing : (n : ℕ) → n + 0 ≡ n
nothing n = omega arith

pub uses-added : (h : ℕ) (w : LinkView) (ls : List LinkView) → w.ours ≡ None → uses h (ls ++ w ∷ []) ≡ uses h ls
uses-added h w ls o = uses-more h w ls ∙ ap (λ b. uses h ls + cond b 1 0) (held-none h w o) ∙ nothing (uses h ls)

pub used-added : (w : LinkView) (ls : List LinkView) → w.ours ≡ None → used (ls ++ w ∷ []) ≡ used ls
used-added w ls o = used-more w ls ∙ ap (λ b. used ls + cond b 1 0) (none-held w o) ∙ nothing (used ls)

some-same : {x y : LinkView} → ◌≡◌ {A = Option LinkView} (Some x) (Some y) → x ≡ y
some-same h = cc

pub here-changed : (n : ℕ) (f : LinkView → LinkView) (x : LinkView) (xs : List LinkView) → (x.number == n) ≡ true → change_first (has_number n) f (x ∷ xs) ≡ f x ∷ xs
here-changed n f x xs t = yes (x.number == n) (f x ∷ xs) (x ∷ change_first (has_number n) f xs) t

pub past-changed : (n : ℕ) (f : LinkView → LinkView) (x : LinkView) (xs : List LinkView) → (x.number == n) ≡ false → change_first (has_number n) f (x ∷ xs) ≡ x ∷ change_first (has_number n) f xs
past-changed n f x xs t = no (x.number == n) (f x ∷ xs) (x ∷ change_first (has_number n) f xs) t

here-gone : (n : ℕ) (x : LinkView) (xs : List LinkView) → (x.number == n) ≡ true → remove_first (has_number n) (x ∷ xs) ≡ xs
here-gone n x xs t = yes (x.number == n) xs (x ∷ remove_first (has_number n) xs) t

past-gone : (n : ℕ) (x : LinkView) (xs : List LinkView) → (x.number == n) ≡ false → remove_first (has_number n) (x ∷ xs) ≡ x ∷ remove_first (has_number n) xs
past-gone n x xs t = no (x.number == n) xs (x ∷ remove_first (has_number n) xs) t

gets-one : (a b c u : ℕ) → a ≡ c → b ≡ 0 → a + u ≡ b + u + c
gets-one a b c u e z = omega (arith, e, z)

moves : (a u v w : ℕ) → u ≡ v + w → a + u ≡ a + v + w
moves a u v w e = omega (arith, e)

-- a link that is there gets a handle of ours
uses-changed : (k n : ℕ) (l : LinkView) (end : EndView) (f : LinkView → LinkView) (ls : List LinkView) → find (has_number n) ls ≡ Some l → l.ours ≡ None → (f l).ours ≡ Some end
    → uses k (change_first (has_number n) f ls) ≡ uses k ls + cond (end.handle == k) 1 0
uses-changed k n l end f [] h o g = absurd (cc)
uses-changed k n l end f (x ∷ xs) h o g =
    ⊎_elim
    (λ t. let e : x ≡ l = some-same (rw t at h) in
    ap (uses k) (here-changed n f x xs t)
    ∙ gets-one (cond (has_handle k (f x)) 1 0) (cond (has_handle k x) 1 0) (cond (end.handle == k) 1 0) (uses k xs)
    (ap (λ b. cond b 1 0) (held-one k (f x) end (rw e g))) (ap (λ b. cond b 1 0) (held-none k x (rw e o))))
    (λ t. ap (uses k) (past-changed n f x xs t)
    ∙ moves (cond (has_handle k x) 1 0) (uses k (change_first (has_number n) f xs)) (uses k xs) (cond (end.handle == k) 1 0) (uses-changed k n l end f xs (rw t at h) o g))
    (cases_Bool (x.number == n))

used-changed : (n : ℕ) (l : LinkView) (end : EndView) (f : LinkView → LinkView) (ls : List LinkView) → find (has_number n) ls ≡ Some l → l.ours ≡ None → (f l).ours ≡ Some end
    → used (change_first (has_number n) f ls) ≡ used ls + 1
used-changed n l end f [] h o g = absurd (cc)
used-changed n l end f (x ∷ xs) h o g =
    ⊎_elim
    (λ t. let e : x ≡ l = some-same (rw t at h) in
    ap used (here-changed n f x xs t)
    ∙ gets-one (cond (is_some (f x).ours) 1 0) (cond (is_some x.ours) 1 0) 1 (used xs)
    (ap (λ b. cond b 1 0) (some-held (f x) end (rw e g))) (ap (λ b. cond b 1 0) (none-held x (rw e o))))
    (λ t. ap used (past-changed n f x xs t)
    ∙ moves (cond (is_some x.ours) 1 0) (used (change_first (has_number n) f xs)) (used xs) 1 (used-changed n l end f xs (rw t at h) o g))
    (cases_Bool (x.number == n))

pub gained-changed : (n : ℕ) (l : LinkView) (end : EndView) (f : LinkView → LinkView) (ls : List LinkView) → find (has_number n) ls ≡ Some l → l.ours ≡ None → (f l).ours ≡ Some end
    → IsGained end.handle ls (change_first (has_number n) f ls)
gained-changed n l end f ls h o g = record { each = λ k. uses-changed k n l end f ls h o g; all = used-changed n l end f ls h o g }

turn : (a b : ℕ) → a + b ≡ b + a
turn a b = omega arith

-- a link is gone
uses-gone : (k n : ℕ) (l : LinkView) (ls : List LinkView) → find (has_number n) ls ≡ Some l → uses k ls ≡ uses k (remove_first (has_number n) ls) + cond (has_handle k l) 1 0
uses-gone k n l [] h = absurd (cc)
uses-gone k n l (x ∷ xs) h =
    ⊎_elim
    (λ t. let e : x ≡ l = some-same (rw t at h) in
    ap (λ y. cond (has_handle k y) 1 0 + uses k xs) e ∙ turn (cond (has_handle k l) 1 0) (uses k xs)
    ∙ sym (ap (λ ys. uses k ys + cond (has_handle k l) 1 0) (here-gone n x xs t)))
    (λ t. moves (cond (has_handle k x) 1 0) (uses k xs) (uses k (remove_first (has_number n) xs)) (cond (has_handle k l) 1 0) (uses-gone k n l xs (rw t at h))
    ∙ sym (ap (λ ys. uses k ys + cond (has_handle k l) 1 0) (past-gone n x xs t)))
    (cases_Bool (x.number == n))

used-gone : (n : ℕ) (l : LinkView) (ls : List LinkView) → find (has_number n) ls ≡ Some l → used ls ≡ used (remove_first (has_number n) ls) + cond (is_some l.ours) 1 0
used-gone n l [] h = absurd (cc)
used-gone n l (x ∷ xs) h =
    ⊎_elim
    (λ t. let e : x ≡ l = some-same (rw t at h) in
    ap (λ y. cond (is_some y.ours) 1 0 + used xs) e ∙ turn (cond (is_some l.ours) 1 0) (used xs)
    ∙ sym (ap (λ ys. used ys + cond (is_some l.ours) 1 0) (here-gone n x xs t)))
    (λ t. moves (cond (is_some x.ours) 1 0) (used xs) (used (remove_first (has_number n) xs)) (cond (is_some l.ours) 1 0) (used-gone n l xs (rw t at h))
    ∙ sym (ap (λ ys. used ys + cond (is_some l.ours) 1 0) (past-gone n x xs t)))
    (cases_Bool (x.number == n))

pub gained-gone : (n : ℕ) (l : LinkView) (end : EndView) (ls : List LinkView) → find (has_number n) ls ≡ Some l → l.ours ≡ Some end → IsGained end.handle (remove_first (has_number n) ls) ls
gained-gone n l end ls h o =
    record {
      each = λ k. uses-gone k n l ls h ∙ ap (λ b. uses k (remove_first (has_number n) ls) + cond b 1 0) (held-one k l end o);
      all = used-gone n l ls h ∙ ap (λ b. used (remove_first (has_number n) ls) + cond b 1 0) (some-held l end o);
    }

pub uses-kept : (k n : ℕ) (l : LinkView) (ls : List LinkView) → find (has_number n) ls ≡ Some l → l.ours ≡ None → uses k (remove_first (has_number n) ls) ≡ uses k ls
uses-kept k n l ls h o = sym (uses-gone k n l ls h ∙ ap (λ b. uses k (remove_first (has_number n) ls) + cond b 1 0) (held-none k l o) ∙ nothing (uses k (remove_first (has_number n) ls)))

pub used-kept : (n : ℕ) (l : LinkView) (ls : List LinkView) → find (has_number n) ls ≡ Some l → l.ours ≡ None → used (remove_first (has_number n) ls) ≡ used ls
used-kept n l ls h o = sym (used-gone n l ls h ∙ ap (λ b. used (remove_first (has_number n) ls) + cond b 1 0) (none-held l o) ∙ nothing (used (remove_first (has_number n) ls)))
