-- Lists, with the first that passes a test changed or removed.
use Rattle.std.proofs.Common.{◌≡◌, suc, Bool, true, false, List, [], ◌∷◌, ◌++◌, length, map, refl, ap, find, is_some}
use Rattle.amqp_rules.specs.View.{change_first, remove_first}
use Rattle.amqp_rules.specs.Sound.{Every}

pub by-bool : {P : Type 0} (b : Bool) → (b ≡ true → P) → (b ≡ false → P) → P
by-bool true t f = t refl
by-bool false t f = f refl

pub length-changed : {A : Type 0} (test : A → Bool) (change : A → A) (xs : List A) → length (change_first test change xs) ≡ length xs
length-changed test change [] = refl
length-changed test change (x ∷ xs) =
    by-bool (test x) (λ (t : test x ≡ true). rw t refl) (λ (t : test x ≡ false). rw t (ap (λ n. suc n) (length-changed test change xs)))

pub every-changed : {A : Type 0} (P : A → Type 0) (test : A → Bool) (change : A → A) (xs : List A) → Every P xs → ((x : A) → P x → P (change x)) → Every P (change_first test change xs)
every-changed P test change [] all keeps = tt
every-changed P test change (x ∷ xs) all keeps =
    by-bool (test x)
    (λ (t : test x ≡ true). rw t (keeps x all.0, all.1))
    (λ (t : test x ≡ false). rw t (all.0, every-changed P test change xs all.1 keeps))

pub every-removed : {A : Type 0} (P : A → Type 0) (test : A → Bool) (xs : List A) → Every P xs → Every P (remove_first test xs)
every-removed P test [] all = tt
every-removed P test (x ∷ xs) all =
    by-bool (test x) (λ (t : test x ≡ true). rw t all.1) (λ (t : test x ≡ false). rw t (all.0, every-removed P test xs all.1))

pub every-more : {A : Type 0} (P : A → Type 0) (xs : List A) (x : A) → Every P xs → P x → Every P (xs ++ x ∷ [])
every-more P [] x all h = (h, tt)
every-more P (y ∷ ys) x all h = (all.0, every-more P ys x all.1 h)

pub every-both : {A : Type 0} (P Q R : A → Type 0) (xs : List A) → Every P xs → Every Q xs → ((x : A) → P x → Q x → R x) → Every R xs
every-both P Q R [] all both h = tt
every-both P Q R (x ∷ xs) all both h = (h x all.0 both.0, every-both P Q R xs all.1 both.1 h)

-- none passes the test that finds none
pub none-passes : {A : Type 0} (test : A → Bool) (xs : List A) → is_some (find test xs) ≡ false → Every (λ x. test x ≡ false) xs
none-passes test [] h = tt
none-passes test (x ∷ xs) h =
    by-bool (test x)
    (λ (t : test x ≡ true). let k = rw t at h in absurd (cc k))
    (λ (t : test x ≡ false). let k = rw t at h in (t, none-passes test xs k))

pub every-mapped : {A B : Type 0} (f : A → B) (P : B → Type 0) (xs : List A) → Every (λ x. P (f x)) xs → Every P (map f xs)
every-mapped f P [] all = tt
every-mapped f P (x ∷ xs) all = (all.0, every-mapped f P xs all.1)

-- a change that f does not see
pub map-kept : {A B : Type 0} (f : A → B) (test : A → Bool) (change : A → A) (xs : List A) → ((x : A) → f (change x) ≡ f x) → map f (change_first test change xs) ≡ map f xs
map-kept f test change [] h = refl
map-kept f test change (x ∷ xs) h =
    by-bool (test x)
    (λ (t : test x ≡ true). rw t (ap (λ y. y ∷ map f xs) (h x)))
    (λ (t : test x ≡ false). rw t (ap (λ ys. f x ∷ ys) (map-kept f test change xs h)))

-- a test and a change that f sees
pub map-changed : {A B : Type 0} (f : A → B) (test : A → Bool) (change : A → A) (test' : B → Bool) (change' : B → B) (xs : List A)
    → ((x : A) → test x ≡ test' (f x)) → ((x : A) → f (change x) ≡ change' (f x))
    → map f (change_first test change xs) ≡ change_first test' change' (map f xs)
map-changed f test change test' change' [] h k = refl
map-changed f test change test' change' (x ∷ xs) h k =
    by-bool (test' (f x))
    (λ (t : test' (f x) ≡ true). rw (h x, t) (ap (λ y. y ∷ map f xs) (k x)))
    (λ (t : test' (f x) ≡ false). rw (h x, t) (ap (λ ys. f x ∷ ys) (map-changed f test change test' change' xs h k)))

pub map-removed : {A B : Type 0} (f : A → B) (test : A → Bool) (test' : B → Bool) (xs : List A)
    → ((x : A) → test x ≡ test' (f x))
    → map f (remove_first test xs) ≡ remove_first test' (map f xs)
map-removed f test test' [] h = refl
map-removed f test test' (x ∷ xs) h =
    by-bool (test' (f x))
    (λ (t : test' (f x) ≡ true). rw (h x, t) refl)
    (λ (t : test' (f x) ≡ false). rw (h x, t) (ap (λ ys. f x ∷ ys) (map-removed f test test' xs h)))
