-- A decimal number below a limit that is read digit by digit.
use Rattle.std.proofs.Common.{◌≡◌, ℕ, ◌+◌, ◌*◌, ◌<◌, ◌≤◌, List, [], ◌∷◌, length, drop, get_or, refl, sym, ◌∙◌, ap, subst, arith, drop-cons, add-one, length-drop}
use Rattle.std.proofs.lemmas.List.{nil_from_length}
use Rattle.std.specs.Char.{digit_value}
use Rattle.std.specs.Str.Parse.{AllDigits, IsNumeral, digits_value_after, digits_value}

-- the digits of `word` before `rest` write `value`
pub record IsReadUpTo (word rest : List ℕ) (value : ℕ) : Type 0 where
  pub same : digits_value_after 10 value rest ≡ digits_value 10 word
  pub back : AllDigits 10 rest → AllDigits 10 word
  pub on : AllDigits 10 word → AllDigits 10 rest

pub nothing_read : (word : List ℕ) → IsReadUpTo word word 0
nothing_read word = record { same = refl; back = λ all. all; on = λ all. all }

-- further digits never make a number smaller
grows : (value : ℕ) (rest : List ℕ) → value ≤ digits_value_after 10 value rest
grows value [] = omega arith
grows value (octet ∷ rest) = let more = grows (value * 10 + digit_value octet) rest in omega (arith, more)

-- what is left at a place begins with the octet there
opened : (word : List ℕ) (place value : ℕ) → place < length word → IsReadUpTo word (drop place word) value
    → IsReadUpTo word (get_or word place 0 ∷ drop (place + 1) word) value
opened word place value inside read =
    let P : List ℕ → Type 0 = λ rest. IsReadUpTo word rest value in
    subst P (drop-cons word place 0 inside ∙ ap (λ n. get_or word place 0 ∷ drop n word) (sym (add-one place))) read

pub one_more : (word : List ℕ) (place value next : ℕ) → place < length word → IsReadUpTo word (drop place word) value
    → digit_value (get_or word place 0) < 10 → next ≡ value * 10 + digit_value (get_or word place 0)
    → IsReadUpTo word (drop (place + 1) word) next
one_more word place value next inside read is_digit is_next =
    let here = opened word place value inside read in
    record {
      same = ap (λ n. digits_value_after 10 n (drop (place + 1) word)) is_next ∙ here.same;
      back = λ all. here.back (is_digit, all);
      on = λ all. (here.on all).1;
    }

pub no_digit : (limit : ℕ) (word : List ℕ) (place value : ℕ) → place < length word → IsReadUpTo word (drop place word) value
    → ¬ (digit_value (get_or word place 0) < 10) → ¬ (IsNumeral 10 word × (digits_value 10 word < limit))
no_digit limit word place value inside read none numeral = none ((opened word place value inside read).on numeral.0.1).0

pub too_large : (limit : ℕ) (word : List ℕ) (place value : ℕ) → place < length word → IsReadUpTo word (drop place word) value
    → limit ≤ value * 10 + digit_value (get_or word place 0) → ¬ (IsNumeral 10 word × (digits_value 10 word < limit))
too_large limit word place value inside read large numeral =
    let here = opened word place value inside read in
    let more = grows (value * 10 + digit_value (get_or word place 0)) (drop (place + 1) word) in
    let same : digits_value_after 10 (value * 10 + digit_value (get_or word place 0)) (drop (place + 1) word) ≡ digits_value 10 word = here.same in
    omega (arith, more, same, numeral.1, large)

-- no digit is left
pub all_read : (limit : ℕ) (word : List ℕ) (place value : ℕ) → length word ≤ place → 0 < length word → IsReadUpTo word (drop place word) value
    → value < limit → (IsNumeral 10 word × (digits_value 10 word < limit)) × (value ≡ digits_value 10 word)
all_read limit word place value past some read fits =
    let none : drop place word ≡ [] = nil_from_length (drop place word) (omega (arith, length-drop place word)) in
    let P : List ℕ → Type 0 = λ rest. IsReadUpTo word rest value in
    let whole = subst P none read in
    let same : value ≡ digits_value 10 word = whole.same in
    (((some, whole.back tt), omega (arith, same, fits)), same)
