-- The words of a line, and what a word says by itself.
use Rattle.std.specs.Prelude.{ℕ, Bool, true, false, ◌==◌, if◌then◌else◌, List, [], ◌∷◌, Option, Some, None}
use Rattle.std.specs.Result.{result_ok}
use Rattle.hex.specs.Hex.{decode_of}

-- the first word begins with this octet
abbrev pub in_front : ℕ → List (List ℕ) → List (List ℕ)
in_front octet [] = (octet ∷ []) ∷ []
in_front octet (word ∷ others) = (octet ∷ word) ∷ others

-- the words of a line, with one space between two of them
abbrev pub words : List ℕ → List (List ℕ)
words [] = [] ∷ []
words (octet ∷ rest) = if octet == 32 then [] ∷ words rest else in_front octet (words rest)

-- the truth value of a word: that of the digit 0 or 1
abbrev pub truth_of : List ℕ → Option Bool
truth_of [] = None
truth_of (digit ∷ []) = if digit == 48 then Some false else if digit == 49 then Some true else None
truth_of (first ∷ second ∷ others) = None

-- the octets of a word: none for a hyphen, else those that hexadecimal digits of either case write
abbrev pub octets_of : List ℕ → Option (List ℕ)
octets_of [] = None
octets_of (digit ∷ []) = if digit == 45 then Some [] else None
octets_of (high ∷ low ∷ others) = result_ok (decode_of (high ∷ low ∷ others))
