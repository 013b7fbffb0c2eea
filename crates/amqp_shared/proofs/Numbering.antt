-- Units with their numbers, and lists that are taken from one after another.
use Rattle.std.proofs.Common.{◌≡◌, ℕ, zero, suc, ◌+◌, ◌≤◌, List, [], ◌∷◌, ◌++◌, length, take, drop, Some, refl, sym, ap, ◌∙◌, arith, add-one, add-zero, zero-add}
use Rattle.std.specs.Prelude.{slice_get}
use Rattle.std.proofs.lemmas.List.{take-append-le, length-take-le}
use Rattle.amqp_journal.specs.declared.unit.Unit as frame
use Rattle.amqp_shared.specs.Units.{numbered_from}

pub numbered-length : (n : ℕ) (xs : List (List ℕ)) → length (numbered_from n xs) ≡ length xs
numbered-length n [] = refl
numbered-length n (x ∷ xs) = ap suc (numbered-length (n + 1) xs)

pub numbered-append : (n : ℕ) (xs ys : List (List ℕ)) → numbered_from n (xs ++ ys) ≡ numbered_from n xs ++ numbered_from (n + length xs) ys
numbered-append n [] ys = rw (add-zero n) refl
numbered-append n (x ∷ xs) ys =
    let i : numbered_from (n + 1) (xs ++ ys) ≡ numbered_from (n + 1) xs ++ numbered_from (n + 1 + length xs) ys = numbered-append (n + 1) xs ys in
    let k : n + 1 + length xs ≡ n + suc (length xs) = omega arith in
    ap (λ us. record { number = n; bytes = x } ∷ us) (i ∙ ap (λ m. numbered_from (n + 1) xs ++ numbered_from m ys) k)

-- the unit at the front of those that wait
pub front-unit : (n k : ℕ) (xs : List (List ℕ)) (x : List ℕ) → slice_get xs k ≡ Some x
    → drop k (numbered_from n xs) ≡ record { number = n + k; bytes = x } ∷ drop (k + 1) (numbered_from n xs)
front-unit n zero [] x h = cc
front-unit n (suc k) [] x h = cc
front-unit n zero (y ∷ ys) x h =
    let e : y ≡ x = cc in
    rw (e, add-zero n) refl
front-unit n (suc k) (y ∷ ys) x h =
    let r = front-unit (n + 1) k ys x h in
    let number : n + 1 + k ≡ n + suc k = omega arith in
    r
    ∙ ap (λ m. record { number = m; bytes = x } ∷ drop (k + 1) (numbered_from (n + 1) ys)) number
    ∙ ap (λ m. record { number = n + suc k; bytes = x } ∷ drop m (numbered_from (n + 1) ys)) (add-one k)
    ∙ ap (λ m. record { number = n + suc k; bytes = x } ∷ drop m (numbered_from n (y ∷ ys))) (sym (add-one (suc k)))

-- the first of those left is the next one taken
pub take-next : {X : Type 0} (k : ℕ) (xs : List X) (x : X) (rest : List X) → drop k xs ≡ x ∷ rest → take (k + 1) xs ≡ take k xs ++ x ∷ []
take-next k [] x rest h = absurd (empty k h)
  where
    empty : (k : ℕ) → drop k [] ≡ x ∷ rest → ⊥
    empty zero h = cc
    empty (suc k) h = cc
take-next zero (y ∷ ys) x rest h = let e : y ≡ x = cc in ap (λ z. z ∷ []) e
take-next (suc k) (y ∷ ys) x rest h = ap (λ m. take m (y ∷ ys)) (add-one (suc k)) ∙ ap (λ zs. y ∷ zs) (ap (λ m. take m ys) (sym (add-one k)) ∙ take-next k ys x rest h)

-- as many were taken as were counted
pub taken-length : (p : ℕ) (xs : List (List ℕ)) → p ≤ length xs → length (take p (numbered_from 0 xs)) ≡ p
taken-length p xs h = length-take-le p (numbered_from 0 xs) (omega (arith, numbered-length 0 xs, h))

-- what comes behind changes nothing of what was taken
pub taken-append : (p : ℕ) (xs ys : List (List ℕ)) → p ≤ length xs → take p (numbered_from 0 (xs ++ ys)) ≡ take p (numbered_from 0 xs)
taken-append p xs ys h = ap (take p) (numbered-append 0 xs ys) ∙ take-append-le p (numbered_from 0 xs) (numbered_from (0 + length xs) ys) (omega (arith, numbered-length 0 xs, h))

drop-past : {X : Type 0} (k : ℕ) (xs : List X) → length xs ≤ k → drop k xs ≡ []
drop-past zero [] h = refl
drop-past (suc k) [] h = refl
drop-past zero (x ∷ xs) h = absurd (omega (arith, h))
drop-past (suc k) (x ∷ xs) h = drop-past k xs (omega (arith, h))

-- nothing waits once all were taken
pub waiting-none : (p : ℕ) (xs : List (List ℕ)) → length xs ≤ p → drop p (numbered_from 0 xs) ≡ []
waiting-none p xs h = drop-past p (numbered_from 0 xs) (omega (arith, numbered-length 0 xs, h))

unit-is : (p : ℕ) (u : frame.Unit) → u.number ≡ p → record { number = 0 + p; bytes = u.bytes } ≡ u
unit-is p u n = λ i. record { number = (zero-add p ∙ sym n) i; bytes = u.bytes }

-- the unit that is popped next stands at the front of the backlog
pub next-waiting : (p : ℕ) (xs : List (List ℕ)) (u : frame.Unit) → u.number ≡ p → slice_get xs p ≡ Some u.bytes
    → drop p (numbered_from 0 xs) ≡ u ∷ drop (p + 1) (numbered_from 0 xs)
next-waiting p xs u n h = front-unit 0 p xs u.bytes h ∙ ap (λ w. w ∷ drop (p + 1) (numbered_from 0 xs)) (unit-is p u n)

-- and behind all that was moved
pub next-moved : (p : ℕ) (xs : List (List ℕ)) (u : frame.Unit) → u.number ≡ p → slice_get xs p ≡ Some u.bytes
    → take (p + 1) (numbered_from 0 xs) ≡ take p (numbered_from 0 xs) ++ u ∷ []
next-moved p xs u n h = take-next p (numbered_from 0 xs) u (drop (p + 1) (numbered_from 0 xs)) (next-waiting p xs u n h)

-- nothing waits only where no more was put out
pub none-waits : {X : Type 0} (k : ℕ) (xs : List X) → drop k xs ≡ [] → length xs ≤ k
none-waits k [] h = omega arith
none-waits zero (x ∷ xs) h = cc
none-waits (suc k) (x ∷ xs) h = let r = none-waits k xs h in omega (arith, r)
