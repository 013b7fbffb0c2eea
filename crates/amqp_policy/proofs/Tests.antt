-- What tests of numbers and of tags say of each other.
use Rattle.std.proofs.Common.{◌≡◌, ℕ, Bool, true, false, ◌||◌, not, List, refl, sym, ap, ◌∙◌, arith}
use Rattle.std.specs.Prelude.{◌==◌, ◌&&◌, nat_eq}
use Rattle.std.specs.Cmp.Lexicographic.{pointwise, same_text}
use Rattle.std.proofs.lemmas.Bool.{eqb-true}
use Rattle.std.proofs.lemmas.Bool.Decides.{nat_tests}
use Rattle.std.proofs.lemmas.Cmp.{nat_list_eq_equiv}

pub or_false : (b : Bool) → (b || false) ≡ b
or_false true = refl
or_false false = refl

pub or_parts : (a b : Bool) → (a || b) ≡ false → (a ≡ false) × (b ≡ false)
or_parts true b h = absurd cc
or_parts false b h = (refl, h)

pub and_parts : (a b : Bool) → (a && b) ≡ true → (a ≡ true) × (b ≡ true)
and_parts true b h = (refl, h)
and_parts false b h = absurd cc

pub not_true : (b : Bool) → not b ≡ true → b ≡ false
not_true true h = absurd cc
not_true false h = refl

-- # Numbers

-- equal to the same number, or not
pub number_same : (d k n : ℕ) → (d == k) ≡ true → (d == n) ≡ (k == n)
number_same d k n e = ap (λ m. m == n) (eqb-true d k e)

pub number_other : (d k n : ℕ) → (d == k) ≡ false → (d == n) ≡ true → (k == n) ≡ false
number_other d k n e p = let same : d ≡ n = eqb-true d n p in grind (arith, nat_tests, same)

-- # Tags

pub tag_refl : (a : List ℕ) → pointwise nat_eq a a ≡ true
tag_refl a = nat_list_eq_equiv.refl a

pub tag_sym : (a b : List ℕ) → pointwise nat_eq a b ≡ pointwise nat_eq b a
tag_sym a b = nat_list_eq_equiv.symm a b

pub tag_is : (a b : List ℕ) → pointwise nat_eq a b ≡ true → a ≡ b
tag_is a b e = same_text a b (sym e)

pub tag_same : (d k n : List ℕ) → pointwise nat_eq d k ≡ true → pointwise nat_eq d n ≡ pointwise nat_eq k n
tag_same d k n e = ap (λ m. pointwise nat_eq m n) (tag_is d k e)

pub tag_other : (d k n : List ℕ) → pointwise nat_eq d k ≡ false → pointwise nat_eq d n ≡ true → pointwise nat_eq k n ≡ false
tag_other d k n e p = tag_sym k n ∙ ap (λ m. pointwise nat_eq m k) (sym (tag_is d n p)) ∙ e

-- # One that goes

-- with p: it is asked for; q: the one that goes is asked for; r: another is
pub goes : (p q r g x : Bool) → (g ≡ true → p ≡ true) → p ≡ q → x ≡ (not q && r) → x ≡ (not q && (g || r))
goes p q r false x only same h = h
goes p true r true x only same h = h
goes p false r true x only same h = let t : p ≡ true = only refl in absurd cc

pub stays : (q r g x : Bool) → (g ≡ true → q ≡ false) → x ≡ (not q && r) → (g || x) ≡ (not q && (g || r))
stays q r false x other h = h
stays true r true x other h = let t : true ≡ false = other refl in absurd cc
stays false r true x other h = refl
