-- Elements of a list that was mapped, and what comes behind a list.
use Rattle.std.proofs.Common.{◌≡◌, ℕ, zero, suc, ◌<◌, List, [], ◌∷◌, ◌++◌, length, map, get_or, Result, Ok, Err, IfOk, IfErr, refl, sym, ap, ◌∙◌, arith}
use Rattle.std.proofs.lemmas.List.{length-map}

-- the element at a place, by whatever default it is read
pub found : {X Y : Type 0} (f : X → Y) (xs : List X) (i : ℕ) → i < length xs → (x : X) × ((p : Y) → get_or (map f xs) i p ≡ f x) × ((d : X) → get_or xs i d ≡ x)
found f [] i h = absurd (omega (arith, h))
found f (x ∷ xs) zero h = (x, (λ p. refl), λ d. refl)
found f (x ∷ xs) (suc i) h = found f xs i (omega (arith, h))

-- and by whatever default the list that was mapped is read
pub mapped : {X Y : Type 0} (f : X → Y) (xs : List X) (i : ℕ) → i < length xs → (p : Y) (d : X) → get_or (map f xs) i p ≡ f (get_or xs i d)
mapped f xs i h p d = let x = found f xs i h in x.1 p ∙ ap f (sym (x.2 d))

pub if_ok-map : {X E : Type 0} (P Q : X → Type 0) (r : Result X E) → ((x : X) → P x → Q x) → IfOk r P → IfOk r Q
if_ok-map P Q (Ok x) k h = k x h
if_ok-map P Q (Err e) k h = tt

pub if_err-map : {X E : Type 0} (P Q : E → Type 0) (r : Result X E) → ((e : E) → P e → Q e) → IfErr r P → IfErr r Q
if_err-map P Q (Ok x) k h = tt
if_err-map P Q (Err e) k h = k e h

-- a list of as many
pub as-many : {X Y : Type 0} (f : X → Y) (xs : List X) (ys : List Y) → map f xs ≡ ys → length xs ≡ length ys
as-many f xs ys e = sym (length-map xs f) ∙ ap length e

-- one behind a list that is mapped, and others behind it
pub mapped-behind : {X Y : Type 0} (f : X → Y) (xs : List X) (x : X) (ys : List Y) → map f (xs ++ x ∷ []) ++ ys ≡ map f xs ++ f x ∷ ys
mapped-behind f [] x ys = refl
mapped-behind f (y ∷ xs) x ys = ap (λ zs. f y ∷ zs) (mapped-behind f xs x ys)

pub together : {X : Type 0} (xs ys zs : List X) → (xs ++ ys) ++ zs ≡ xs ++ (ys ++ zs)
together [] ys zs = refl
together (x ∷ xs) ys zs = ap (λ all. x ∷ all) (together xs ys zs)
