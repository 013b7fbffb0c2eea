-- Hexadecimal digits.
use Rattle.std.proofs.Common.{◌≡◌, ℕ, zero, suc, ◌/◌, ◌%◌, ◌^◌, ◌<◌, ◌≤◌, true, false, cond, List, [], ◌∷◌, ◌++◌, refl, arith, ◌∙◌, ap, sym, append_assoc, eq-eqb, ne_eqb}
use Rattle.std.specs.Fmt.{digits_onto, digits}
use native.Mathlib.Decide.{dec_le}
use Rattle.std.proofs.lemmas.Bool.Decides.{nat_tests}
use Rattle.amqp_trace.specs.Printed.{hex_digit, hex, are_printable}
use Rattle.amqp_trace.proofs.Printed.{both_printable, digit_printable}

abbrev onto : ℕ → ℕ → List ℕ → List ℕ
onto k n acc = digits_onto k 16 false n acc

onto_last : (k n : ℕ) (acc : List ℕ) → n < 16 → onto (suc k) n acc ≡ hex_digit (n % 16) ∷ acc
onto_last k n acc h = ap (λ t. cond t (hex_digit (n % 16) ∷ acc) (onto k (n / 16) (hex_digit (n % 16) ∷ acc))) (eq-eqb (n / 16) 0 (omega arith))

onto_next : (k n : ℕ) (acc : List ℕ) → 16 ≤ n → onto (suc k) n acc ≡ onto k (n / 16) (hex_digit (n % 16) ∷ acc)
onto_next k n acc h = ap (λ t. cond t (hex_digit (n % 16) ∷ acc) (onto k (n / 16) (hex_digit (n % 16) ∷ acc))) (ne_eqb (n / 16) 0 (λ e. omega arith))

onto-append : (k n : ℕ) (acc : List ℕ) → onto k n acc ≡ onto k n [] ++ acc
onto-append zero n acc = refl
onto-append (suc k) n acc =
    elim (dec_le 16 n) [
      | yes l ↦ onto_next k n acc l ∙ onto-append k (n / 16) (hex_digit (n % 16) ∷ acc) ∙ sym (append_assoc (onto k (n / 16) []) (hex_digit (n % 16) ∷ []) acc) ∙ ap (λ x. x ++ acc) (sym (onto_next k n [] l ∙ onto-append k (n / 16) (hex_digit (n % 16) ∷ [])))
      | no l ↦ onto_last k n acc (omega arith) ∙ ap (λ x. x ++ acc) (sym (onto_last k n [] (omega arith)))
    ]

-- the limit does not matter if it is large enough
onto_enough : (j k n : ℕ) (acc : List ℕ) → n < 16 ^ suc j → n < 16 ^ suc k → onto (suc j) n acc ≡ onto (suc k) n acc
onto_enough zero k n acc p q = onto_last zero n acc (omega arith) ∙ sym (onto_last k n acc (omega arith))
onto_enough (suc j) zero n acc p q = onto_last (suc j) n acc (omega arith) ∙ sym (onto_last zero n acc (omega arith))
onto_enough (suc j) (suc k) n acc p q =
    elim (dec_le 16 n) [
      | yes l ↦ onto_next (suc j) n acc l ∙ onto_enough j k (n / 16) (hex_digit (n % 16) ∷ acc) (omega arith) (omega arith) ∙ sym (onto_next (suc k) n acc l)
      | no l ↦ onto_last (suc j) n acc (omega arith) ∙ sym (onto_last (suc k) n acc (omega arith))
    ]

pub one_digit : (n : ℕ) → n < 16 → digits 16 false n ≡ hex_digit n ∷ []
unfolding digits
one_digit n h = onto_last 63 n [] h ∙ ap (λ d. hex_digit d ∷ []) (omega arith)

pub more_digits : (n : ℕ) → 16 ≤ n → n < 2 ^ 64 → digits 16 false n ≡ digits 16 false (n / 16) ++ (hex_digit (n % 16) ∷ [])
unfolding digits
more_digits n h small = onto_next 63 n [] h ∙ onto_enough 62 63 (n / 16) (hex_digit (n % 16) ∷ []) (omega arith) (omega arith) ∙ onto-append 64 (n / 16) (hex_digit (n % 16) ∷ [])
