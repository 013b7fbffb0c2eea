-- Text of printable characters, and octets within it.
use Rattle.std.specs.Prelude.{ℕ, Bool, false, ◌≡◌, nat_lt, ◌==◌, ◌||◌, ◌&&◌, ◌+◌, ◌/◌, ◌%◌, if◌then◌else◌, List, [], ◌∷◌, ◌++◌, codes, decimal}
use Rattle.std.specs.List.{list_all, flat_map}
use Rattle.std.specs.Fmt.{digits}

-- a character of ASCII from the space to the tilde
abbrev pub is_printable : ℕ → Bool
is_printable c = nat_lt 31 c && nat_lt c 127

abbrev pub are_printable : List ℕ → Bool
are_printable text = list_all is_printable text

-- the hexadecimal digit of a number below 16
abbrev pub hex_digit : ℕ → ℕ
hex_digit n = if nat_lt n 10 then 48 + n else 87 + n

-- a number in hexadecimal, without leading zeros
abbrev pub hex : ℕ → List ℕ
hex n = codes "0x" ++ digits 16 false n

-- two hexadecimal digits for each octet
abbrev pub hex_octets : List ℕ → List ℕ
hex_octets octets = flat_map (λ o. hex_digit (o / 16) ∷ hex_digit (o % 16) ∷ []) octets

-- An octet within a text: `"` and `\` behind a `\`, another printable character as it is, and any other as `\x` and two hexadecimal digits.
abbrev pub shown : ℕ → List ℕ
shown o =
    if (o == 34) || (o == 92)
    then 92 ∷ o ∷ []
    else (if is_printable o then o ∷ [] else 92 ∷ 120 ∷ hex_digit (o / 16) ∷ hex_digit (o % 16) ∷ [])

abbrev pub escaped : List ℕ → List ℕ
escaped octets = flat_map shown octets

-- a text goes on from another
pub record Continues (old new : List ℕ) : Type 0 where
  pub more : List ℕ
  pub is : new ≡ old ++ more

-- what stands between an entry and the one before it
abbrev pub comma : Bool → List ℕ
comma is_first = if is_first then [] else codes ", "

-- a type's name and the number of its descriptor
abbrev pub type_text : List ℕ → ℕ → List ℕ
type_text name number = codes "@" ++ name ++ codes "(" ++ decimal number ++ codes ") "
