-- Octets that are compared slice by slice: where as many of both are in front, those are compared, and then what follows them.
use Rattle.std.proofs.Common.{◌≡◌, Bool, true, false, ◌&&◌, not, nat_eq, ℕ, ◌≤◌, zero, suc, List, [], ◌∷◌, ◌++◌, length, take, drop, refl, sym, ◌∙◌, arith}
use Rattle.std.specs.Cmp.Lexicographic.{pointwise}

left_true : (a b : Bool) → (a && b) ≡ true → a ≡ true
left_true true b h = refl
left_true false b h = h

right_true : (a b : Bool) → (a && b) ≡ true → b ≡ true
right_true true b h = h
right_true false b h = absurd (let q : false ≡ true = h in cc)

one_false : (a b c : Bool) → (b ≡ false → c ≡ false) → (a && b) ≡ false → (a && c) ≡ false
one_false true b c f h = f h
one_false false b c f h = refl

pub is_other : (same other : Bool) → other ≡ not same → other ≡ true → same ≡ false
is_other true other e h = absurd (cc)
is_other false other e h = refl

pub is_same : (same other : Bool) → other ≡ not same → other ≡ false → same ≡ true
is_same true other e h = refl
is_same false other e h = absurd (cc)

pub same_front : (n : ℕ) (x r y s : List ℕ) → n ≤ length x → n ≤ length y → pointwise nat_eq (take n x) (take n y) ≡ true
    → pointwise nat_eq (drop n (x ++ r)) (drop n (y ++ s)) ≡ pointwise nat_eq (x ++ r) (y ++ s)
same_front zero x r y s p q h = refl
same_front (suc n) [] r y s p q h = absurd (omega (arith, p))
same_front (suc n) (a ∷ x) r [] s p q h = absurd (omega (arith, q))
same_front (suc n) (a ∷ x) r (b ∷ y) s p q h =
    let e = left_true (nat_eq a b) (pointwise nat_eq (take n x) (take n y)) h in
    let f = right_true (nat_eq a b) (pointwise nat_eq (take n x) (take n y)) h in
    same_front n x r y s (omega (arith, p)) (omega (arith, q)) f ∙ sym (λ i. e i && pointwise nat_eq (x ++ r) (y ++ s))

pub other_front : (n : ℕ) (x r y s : List ℕ) → n ≤ length x → n ≤ length y → pointwise nat_eq (take n x) (take n y) ≡ false
    → pointwise nat_eq (x ++ r) (y ++ s) ≡ false
other_front zero x r y s p q h = absurd (let z : true ≡ false = h in cc)
other_front (suc n) [] r y s p q h = absurd (omega (arith, p))
other_front (suc n) (a ∷ x) r [] s p q h = absurd (omega (arith, q))
other_front (suc n) (a ∷ x) r (b ∷ y) s p q h =
    one_false (nat_eq a b) (pointwise nat_eq (take n x) (take n y)) (pointwise nat_eq (x ++ r) (y ++ s)) (other_front n x r y s (omega (arith, p)) (omega (arith, q))) h
