-- Octets by their places.
use Rattle.std.proofs.Common.{◌≡◌, ◌≤◌, ◌<◌, ℕ, zero, suc, List, [], ◌∷◌, ◌++◌, length, get_or, drop, refl, sym, ap, ◌∙◌, arith}
use Rattle.std.specs.Int.{w16, w32, to_be_bytes, from_be_bytes}
use Rattle.std.proofs.lemmas.Nat.{be_bytes_2, be_bytes_4}

abbrev pub first_four : List ℕ → List ℕ
first_four x = get_or x 0 0 ∷ get_or x 1 0 ∷ get_or x 2 0 ∷ get_or x 3 0 ∷ []

four_small : (x : List ℕ) → ((i : ℕ) → get_or x i 0 < 256) → (i : ℕ) → get_or (first_four x) i 0 < 256
four_small x h zero = h 0
four_small x h (suc zero) = h 1
four_small x h (suc (suc zero)) = h 2
four_small x h (suc (suc (suc zero))) = h 3
four_small x h (suc (suc (suc (suc i)))) = omega arith

two_small : (x : List ℕ) → ((i : ℕ) → get_or x i 0 < 256) → (i : ℕ) → get_or (get_or x 6 0 ∷ get_or x 7 0 ∷ []) i 0 < 256
two_small x h zero = h 6
two_small x h (suc zero) = h 7
two_small x h (suc (suc i)) = omega arith

eight_places : (x : List ℕ) → 8 ≤ length x → x ≡ (first_four x ++ (get_or x 4 0 ∷ get_or x 5 0 ∷ []) ++ (get_or x 6 0 ∷ get_or x 7 0 ∷ [])) ++ drop 8 x
eight_places [] h = absurd (omega arith)
eight_places (a ∷ []) h = absurd (omega arith)
eight_places (a ∷ b ∷ []) h = absurd (omega arith)
eight_places (a ∷ b ∷ c ∷ []) h = absurd (omega arith)
eight_places (a ∷ b ∷ c ∷ d ∷ []) h = absurd (omega arith)
eight_places (a ∷ b ∷ c ∷ d ∷ e ∷ []) h = absurd (omega arith)
eight_places (a ∷ b ∷ c ∷ d ∷ e ∷ f ∷ []) h = absurd (omega arith)
eight_places (a ∷ b ∷ c ∷ d ∷ e ∷ f ∷ g ∷ []) h = absurd (omega arith)
eight_places (a ∷ b ∷ c ∷ d ∷ e ∷ f ∷ g ∷ i ∷ x) h = refl

-- eight octets that are there, as the numbers that they are
pub header_parts : (x : List ℕ) (size channel : ℕ) → ((i : ℕ) → get_or x i 0 < 256) → 8 ≤ length x → size ≡ from_be_bytes w32 (first_four x) → channel ≡ from_be_bytes w16 (get_or x 6 0 ∷ get_or x 7 0 ∷ []) → get_or x 5 0 ≡ 0
    → x ≡ (to_be_bytes w32 size ++ (get_or x 4 0 ∷ 0 ∷ []) ++ to_be_bytes w16 channel) ++ drop 8 x
header_parts x size channel range h s c k =
    let p : to_be_bytes w32 size ≡ first_four x = be_bytes_4 (first_four x) size refl (four_small x range) s in
    let q : to_be_bytes w16 channel ≡ get_or x 6 0 ∷ get_or x 7 0 ∷ [] = be_bytes_2 (get_or x 6 0 ∷ get_or x 7 0 ∷ []) channel refl (two_small x range) c in
    eight_places x h ∙ ap (λ (t : ℕ). (first_four x ++ (get_or x 4 0 ∷ t ∷ []) ++ (get_or x 6 0 ∷ get_or x 7 0 ∷ [])) ++ drop 8 x) k
    ∙ ap (λ (t : List ℕ). (t ++ (get_or x 4 0 ∷ 0 ∷ []) ++ (get_or x 6 0 ∷ get_or x 7 0 ∷ [])) ++ drop 8 x) (sym p)
    ∙ ap (λ (t : List ℕ). (to_be_bytes w32 size ++ (get_or x 4 0 ∷ 0 ∷ []) ++ t) ++ drop 8 x) (sym q)
