-- One more of a list that is gone through from its front.
use Rattle.std.proofs.Common.{arith, ◌≡◌, ◌+◌, ℕ, zero, suc, take, Bool, List, [], ◌∷◌, ◌++◌, refl, sym, ap, ◌∙◌, map, filter}
use Rattle.std.specs.List.{slice_get}
use Rattle.std.specs.Option.{option_to_list}
use Rattle.std.proofs.lemmas.List.{map-append}
use Rattle.std.proofs.lemmas.List.Elements.{filter-append}

take-one : {A : Type 0} (xs : List A) (place : ℕ) → take (suc place) xs ≡ take place xs ++ option_to_list (slice_get xs place)
take-one [] zero = refl
take-one [] (suc place) = refl
take-one (x ∷ xs) zero = refl
take-one (x ∷ xs) (suc place) = ap (λ ys. x ∷ ys) (take-one xs place)

-- what is kept of those that pass a test
pub kept-one : {A B : Type 0} (change : A → B) (test : A → Bool) (xs : List A) (place : ℕ)
    → map change (filter test (take place xs)) ++ map change (filter test (option_to_list (slice_get xs place))) ≡ map change (filter test (take (place + 1) xs))
kept-one change test xs place =
    let next : place + 1 ≡ suc place = omega arith in
    sym (ap (λ n. map change (filter test (take n xs))) next
    ∙ ap (λ ys. map change (filter test ys)) (take-one xs place)
    ∙ ap (map change) (filter-append test (take place xs) (option_to_list (slice_get xs place)))
    ∙ map-append change (filter test (take place xs)) (filter test (option_to_list (slice_get xs place))))
