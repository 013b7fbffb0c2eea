-- The first of a list that passes a test, sought from the front.
use Rattle.std.proofs.Common.{◌≡◌, ◌<◌, ℕ, zero, suc, Bool, true, cond, Some, List, [], ◌∷◌, ◌++◌, length, take, drop, find, refl, sym, ap, ◌∙◌, arith}
use Rattle.std.specs.Prelude.{slice_get, slice_index_or, remove}
use Rattle.amqp_rules.specs.View.{remove_first}

module _ {A : Type 0} (test : A → Bool) where
  -- the first so many do not pass
  abbrev pub IsPast : List A → ℕ → Type 0
  IsPast xs n = (find test xs ≡ find test (drop n xs)) × (remove_first test xs ≡ take n xs ++ remove_first test (drop n xs))

pub front : {A : Type 0} (xs : List A) (n : ℕ) (d : A) → n < length xs
    → (drop n xs ≡ slice_index_or xs n d ∷ drop (suc n) xs) × (take (suc n) xs ≡ take n xs ++ slice_index_or xs n d ∷ []) × (slice_get xs n ≡ Some (slice_index_or xs n d))
front [] n d h = absurd (omega (arith, h))
front (x ∷ xs) zero d h = (refl, refl, refl)
front (x ∷ xs) (suc n) d h =
    let rest = front xs n d (omega (arith, h)) in
    (rest.0, ap (λ ys. x ∷ ys) rest.1, rest.2)

pub past-found : {A : Type 0} (test : A → Bool) (xs : List A) (n : ℕ) (d : A) → n < length xs → test (slice_index_or xs n d) ≡ true → IsPast test xs n
    → (find test xs ≡ slice_get xs n) × (remove xs n ≡ remove_first test xs)
past-found test xs n d h t p =
    let f = front xs n d h in
    let x = slice_index_or xs n d in
    let rest = drop (suc n) xs in (
      p.0 ∙ ap (find test) f.0 ∙ ap (λ b. cond b (Some x) (find test rest)) t ∙ sym f.2,
      sym (p.1 ∙ ap (λ ys. take n xs ++ remove_first test ys) f.0 ∙ ap (λ b. take n xs ++ cond b rest (x ∷ remove_first test rest)) t),
    )

none-left : {A : Type 0} (ys : List A) → drop (length ys) ys ≡ []
none-left [] = refl
none-left (y ∷ ys) = none-left ys
