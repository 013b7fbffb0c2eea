-- Lists that are filtered and changed.
use Rattle.std.proofs.Common.{◌≡◌, ◌<◌, ℕ, Bool, true, false, cond, not, ◌&&◌, ◌||◌, List, [], ◌∷◌, ◌++◌, map, filter, refl, arith, AllPairs}
use Rattle.std.specs.List.{AllByRecursion}
use Rattle.std.proofs.lemmas.List.Kept.{AllPairs-cons}
use Rattle.std.proofs.lemmas.List.Elements.{All-from_recursion}

-- what is kept of changed things, where each is kept that was kept and that the change lets stand
pub filter-step : {A X : Type 0} (kept : A → Bool) (later : A → A) (show : A → X) (out : X → Bool) (change : X → X)
    → ((a : A) → kept (later a) ≡ (kept a && not (out (show a))))
    → ((a : A) → show (later a) ≡ change (show a))
    → (xs : List A)
    → map show (filter kept (map later xs)) ≡ map change (filter (λ x. not (out x)) (map show (filter kept xs)))
filter-step kept later show out change k s [] = refl
filter-step {A} {X} kept later show out change k s (a ∷ xs) = rw (k a) (by_kept (kept a) (filter-step kept later show out change k s xs))
  where
    by_out : (o : Bool) → map show (filter kept (map later xs)) ≡ map change (filter (λ x. not (out x)) (map show (filter kept xs)))
        → map show (cond (not o) (later a ∷ filter kept (map later xs)) (filter kept (map later xs)))
        ≡ map change (cond (not o) (show a ∷ filter (λ x. not (out x)) (map show (filter kept xs))) (filter (λ x. not (out x)) (map show (filter kept xs))))
    by_out true rest = rest
    by_out false rest = rw (s a, rest) refl

    by_kept : (b : Bool) → map show (filter kept (map later xs)) ≡ map change (filter (λ x. not (out x)) (map show (filter kept xs)))
        → map show (cond (b && not (out (show a))) (later a ∷ filter kept (map later xs)) (filter kept (map later xs)))
        ≡ map change (filter (λ x. not (out x)) (map show (cond b (a ∷ filter kept xs) (filter kept xs))))
    by_kept true rest = by_out (out (show a)) rest
    by_kept false rest = rest

pub not-or : (a b : Bool) → not (a || b) ≡ (not b && not a)
not-or true true = refl
not-or true false = refl
not-or false true = refl
not-or false false = refl

-- # What is so of each of a list, and of each and each later one

pub all-append : {X : Type 0} (P : X → Type 0) (xs ys : List X) → AllByRecursion P xs → AllByRecursion P ys → AllByRecursion P (xs ++ ys)
all-append P [] ys h k = k
all-append P (x ∷ xs) ys h k = (h.0, all-append P xs ys h.1 k)

pub all-map : {X Y : Type 0} (P : Y → Type 0) (f : X → Y) (xs : List X) → AllByRecursion (λ x. P (f x)) xs → AllByRecursion P (map f xs)
all-map P f [] h = tt
all-map P f (x ∷ xs) h = (h.0, all-map P f xs h.1)

pub all-weaker : {X : Type 0} (P Q : X → Type 0) (xs : List X) → ((x : X) → P x → Q x) → AllByRecursion P xs → AllByRecursion Q xs
all-weaker P Q [] f h = tt
all-weaker P Q (x ∷ xs) f h = (f x h.0, all-weaker P Q xs f h.1)

pub all-filter : {X : Type 0} (P : X → Type 0) (test : X → Bool) (xs : List X) → AllByRecursion P xs → AllByRecursion P (filter test xs)
all-filter P test [] h = tt
all-filter {X} P test (x ∷ xs) h = by_test (test x) (all-filter P test xs h.1)
  where
    by_test : (b : Bool) → AllByRecursion P (filter test xs) → AllByRecursion P (cond b (x ∷ filter test xs) (filter test xs))
    by_test true rest = (h.0, rest)
    by_test false rest = rest

-- the kept ones pass
pub all-pass : {X : Type 0} (test : X → Bool) (xs : List X) → AllByRecursion (λ x. test x ≡ true) (filter test xs)
all-pass test [] = tt
all-pass {X} test (x ∷ xs) = by_test (test x) refl (all-pass test xs)
  where
    by_test : (b : Bool) → test x ≡ b → AllByRecursion (λ x. test x ≡ true) (filter test xs) → AllByRecursion (λ x. test x ≡ true) (cond b (x ∷ filter test xs) (filter test xs))
    by_test true e rest = (e, rest)
    by_test false e rest = rest

pub all-both : {X : Type 0} (P Q : X → Type 0) (xs : List X) → AllByRecursion P xs → AllByRecursion Q xs → AllByRecursion (λ x. P x × Q x) xs
all-both P Q [] h k = tt
all-both P Q (x ∷ xs) h k = ((h.0, k.0), all-both P Q xs h.1 k.1)

-- the key goes up from each to all later ones
abbrev pub Rises : {X : Type 0} → (X → ℕ) → List X → Type 0
Rises key [] = Unit {0}
Rises key (x ∷ xs) = AllByRecursion (λ y. key x < key y) xs × Rises key xs

pub rises-map : {X Y : Type 0} (key : Y → ℕ) (f : X → Y) (xs : List X) → Rises (λ x. key (f x)) xs → Rises key (map f xs)
rises-map key f [] h = tt
rises-map key f (x ∷ xs) h = (all-map (λ y. key (f x) < key y) f xs h.0, rises-map key f xs h.1)

pub rises-filter : {X : Type 0} (key : X → ℕ) (test : X → Bool) (xs : List X) → Rises key xs → Rises key (filter test xs)
rises-filter key test [] h = tt
rises-filter {X} key test (x ∷ xs) h = by_test (test x) (rises-filter key test xs h.1)
  where
    by_test : (b : Bool) → Rises key (filter test xs) → Rises key (cond b (x ∷ filter test xs) (filter test xs))
    by_test true rest = (all-filter (λ y. key x < key y) test xs h.0, rest)
    by_test false rest = rest

pub rises-push : {X : Type 0} (key : X → ℕ) (xs : List X) (y : X) → Rises key xs → AllByRecursion (λ x. key x < key y) xs → Rises key (xs ++ y ∷ [])
rises-push key [] y h k = (tt, tt)
rises-push key (x ∷ xs) y h k = (all-append (λ z. key x < key z) xs (y ∷ []) h.0 (k.0, tt), rises-push key xs y h.1 k.1)

-- of each two, in order
abbrev pub Pairs : {X : Type 0} → (X → X → Type 0) → List X → Type 0
Pairs R [] = Unit {0}
Pairs R (x ∷ xs) = AllByRecursion (R x) xs × Pairs R xs

pub pairs-append : {X : Type 0} (R : X → X → Type 0) (xs ys : List X) → Pairs R xs → Pairs R ys → AllByRecursion (λ x. AllByRecursion (R x) ys) xs → Pairs R (xs ++ ys)
pairs-append R [] ys h k both = k
pairs-append R (x ∷ xs) ys h k both = (all-append (R x) xs ys h.0 both.0, pairs-append R xs ys h.1 k both.1)

pub pairs-map : {X Y : Type 0} (R : Y → Y → Type 0) (f : X → Y) (xs : List X) → Pairs (λ x y. R (f x) (f y)) xs → Pairs R (map f xs)
pairs-map R f [] h = tt
pairs-map R f (x ∷ xs) h = (all-map (R (f x)) f xs h.0, pairs-map R f xs h.1)

pub pairs-filter : {X : Type 0} (R : X → X → Type 0) (test : X → Bool) (xs : List X) → Pairs R xs → Pairs R (filter test xs)
pairs-filter R test [] h = tt
pairs-filter {X} R test (x ∷ xs) h = by_test (test x) (pairs-filter R test xs h.1)
  where
    by_test : (b : Bool) → Pairs R (filter test xs) → Pairs R (cond b (x ∷ filter test xs) (filter test xs))
    by_test true rest = (all-filter (R x) test xs h.0, rest)
    by_test false rest = rest

-- where the key goes up and stays below a bound, what two keys so say holds of each two
pub pairs-rising : {X : Type 0} (R : X → X → Type 0) (key : X → ℕ) (bound : ℕ) → ((x y : X) → key x < key y → key y < bound → R x y) → (xs : List X)
    → AllByRecursion (λ x. key x < bound) xs → Rises key xs → Pairs R xs
pairs-rising R key bound says [] below h = tt
pairs-rising R key bound says (x ∷ xs) below h =
    (all-weaker (λ y. (key x < key y) × (key y < bound)) (R x) xs (λ y k. says x y k.0 k.1) (all-both (λ y. key x < key y) (λ y. key y < bound) xs h.0 below.1), pairs-rising R key bound says xs below.1 h.1)

pub pairs-all : {X : Type 0} (R : X → X → Type 0) (xs : List X) → Pairs R xs → AllPairs R xs
pairs-all R [] h = λ i j d before within. absurd (let k : j < 0 = within in omega (arith, k))
pairs-all R (x ∷ xs) h = AllPairs-cons R x xs (All-from_recursion (R x) xs h.0) (pairs-all R xs h.1)
