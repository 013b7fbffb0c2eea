-- Which texts are printable.
use Rattle.std.proofs.Common.{◌≡◌, ℕ, suc, ◌+◌, ◌%◌, ◌^◌, ◌<◌, true, List, [], ◌∷◌, ◌++◌, refl, arith}
use Rattle.std.specs.Prelude.{decimal}
use Rattle.std.specs.Fmt.{signed_decimal}
use Rattle.std.proofs.Math.IntN.{ℤ, pos, negsuc}
use lib.Signed.{mag}
use Rattle.std.proofs.lemmas.Fmt.{decimal_by_steps}
use Rattle.std.proofs.lemmas.List.Folds.{list_all-append}
use Rattle.std.proofs.lemmas.Bool.Decides.{nat_tests}
use Rattle.amqp_trace.specs.Printed.{is_printable, are_printable, hex_digit}

pub both_printable : (a b : List ℕ) → are_printable a ≡ true → are_printable b ≡ true → are_printable (a ++ b) ≡ true
both_printable a b p q = rw (list_all-append, p, q)

figure_printable : (n : ℕ) → n < 10 → are_printable ((48 + n) ∷ []) ≡ true
figure_printable n h = grind (arith, nat_tests)

pub decimal_printable : (n : ℕ) → n < 2 ^ 64 → are_printable (decimal n) ≡ true
decimal_printable n h = decimal_by_steps (λ (k : ℕ) (ds : List ℕ). are_printable ds ≡ true) (λ k below. figure_printable k below) (λ k ds big p. both_printable ds ((48 + k % 10) ∷ []) p (figure_printable (k % 10) (omega arith))) n h

pub signed_printable : (z : ℤ) → mag z < 2 ^ 63 → are_printable (signed_decimal z) ≡ true
signed_printable (pos n) h = decimal_printable n (omega arith)
signed_printable (negsuc n) h = both_printable (45 ∷ []) (decimal (suc n)) refl (decimal_printable (suc n) (omega arith))

pub digit_printable : (n : ℕ) → n < 16 → is_printable (hex_digit n) ≡ true
digit_printable n h = grind (arith, nat_tests)
