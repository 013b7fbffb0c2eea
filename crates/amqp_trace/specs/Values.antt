-- Values as text (part 1, 1.6).
use Rattle.std.specs.Prelude.{ℕ, zero, suc, Bool, true, false, ◌==◌, ◌||◌, if◌then◌else◌, Option, Some, None, List, [], ◌∷◌, ◌++◌, codes, decimal, drop, map}
use Rattle.std.specs.Char.{is_ascii_alphanumeric}
use Rattle.std.specs.Fmt.{signed_decimal}
use Rattle.std.specs.List.{list_all}
use Rattle.amqp_types.specs.declared.value.Value.{Value}
use Rattle.amqp_types.specs.declared.value.Value.TheOpen.{Value-F}
use Rattle.amqp_types.specs.declared.value.Value.TheViews.{out-Value}
use Rattle.amqp_trace.specs.Printed.{hex, hex_octets, escaped, comma, type_text}
use Rattle.amqp_trace.specs.Names.{NamedType, described_type}

abbrev pub boolean_text : Bool → List ℕ
boolean_text b = if b then codes "true" else codes "false"

-- a word, and behind it, in parentheses, bits as a hexadecimal number
abbrev pub bits_text : List ℕ → ℕ → List ℕ
bits_text word bits = word ++ codes "(" ++ hex bits ++ codes ")"

-- a word, and behind it, in parentheses, two hexadecimal digits for each octet
abbrev pub run_text : List ℕ → List ℕ → List ℕ
run_text word octets = word ++ codes "(" ++ hex_octets octets ++ codes ")"

abbrev pub string_text : List ℕ → List ℕ
string_text octets = codes "\"" ++ escaped octets ++ codes "\""

abbrev pub binary_text : List ℕ → List ℕ
binary_text octets = codes "b\"" ++ escaped octets ++ codes "\""

-- a letter, a digit or a hyphen
abbrev pub is_of_word : ℕ → Bool
is_of_word o = is_ascii_alphanumeric o || (o == 45)

abbrev pub is_word : List ℕ → Bool
is_word octets = list_all is_of_word octets

-- in quotes if it has other characters than letters, digits and hyphens
abbrev pub symbol_text : List ℕ → List ℕ
symbol_text octets = codes ":" ++ (if is_word octets then escaped octets else string_text octets)

-- A value without parts: a number in hexadecimal if its type is unsigned, in decimal with its sign if it is signed, and the
-- bits of a floating-point number, a decimal number or a character. One opened level of a value is given.
abbrev pub leaf_text : Value-F Value → List ℕ
leaf_text Value-F.Null = codes "null"
leaf_text (Value-F.Bool b) = boolean_text b
leaf_text (Value-F.Ubyte n) = hex n
leaf_text (Value-F.Ushort n) = hex n
leaf_text (Value-F.Uint n) = hex n
leaf_text (Value-F.Ulong n) = hex n
leaf_text (Value-F.Sbyte z) = signed_decimal z
leaf_text (Value-F.Short z) = signed_decimal z
leaf_text (Value-F.Int z) = signed_decimal z
leaf_text (Value-F.Long z) = signed_decimal z
leaf_text (Value-F.FloatBits bits) = bits_text (codes "float") bits
leaf_text (Value-F.DoubleBits bits) = bits_text (codes "double") bits
leaf_text (Value-F.Dec32 bits) = bits_text (codes "decimal32") bits
leaf_text (Value-F.Dec64 bits) = bits_text (codes "decimal64") bits
leaf_text (Value-F.Dec128 octets) = run_text (codes "decimal128") octets
leaf_text (Value-F.Char c) = bits_text (codes "char") c
leaf_text (Value-F.Timestamp z) = signed_decimal z
leaf_text (Value-F.Uuid octets) = run_text (codes "uuid") octets
leaf_text (Value-F.Binary octets) = binary_text octets
leaf_text (Value-F.Str octets) = string_text octets
leaf_text (Value-F.Symbol octets) = symbol_text octets
leaf_text _ = []

-- # Values with parts: `text` is how a part is printed

-- texts, with `, ` between two
abbrev pub listed : Bool → List (List ℕ) → List ℕ
listed is_first [] = []
listed is_first (t ∷ ts) = comma is_first ++ t ++ listed false ts

abbrev pub list_text : (Value → List ℕ) → List Value → List ℕ
list_text text vs = codes "[" ++ listed true (map text vs) ++ codes "]"

abbrev pub pair_text : (Value → List ℕ) → Value × Value → List ℕ
pair_text text p = text p.0 ++ codes "=" ++ text p.1

-- in the order in which the pairs lie
abbrev pub map_text : (Value → List ℕ) → List (Value × Value) → List ℕ
map_text text ps = codes "{" ++ listed true (map (pair_text text) ps) ++ codes "}"

abbrev pub is_null : Value-F Value → Bool
is_null Value-F.Null = true
is_null _ = false

-- the first of the names and `=`, or nothing if no name is left
abbrev pub name_text : List (List ℕ) → List ℕ
name_text [] = []
name_text (name ∷ names) = name ++ codes "="

-- the values that are not null, each behind its name
abbrev pub entries : (Value → List ℕ) → List (List ℕ) → List Value → List (List ℕ)
entries text names [] = []
entries text names (v ∷ vs) =
    if is_null (out-Value v) then entries text (drop 1 names) vs else (name_text names ++ text v) ∷ entries text (drop 1 names) vs

abbrev pub fields_text : (Value → List ℕ) → List (List ℕ) → List Value → List ℕ
fields_text text names vs = codes "[" ++ listed true (entries text names vs) ++ codes "]"

-- a number in decimal
abbrev pub descriptor_text : (Value → List ℕ) → Value → Value-F Value → List ℕ
descriptor_text text d (Value-F.Ulong n) = decimal n
descriptor_text text d _ = text d

-- a list of a known type by its name and the names of its fields
abbrev pub described_text : (Value → List ℕ) → Option NamedType → Value → Value → Value-F Value → List ℕ
described_text text (Some type) d v (Value-F.List vs) = type_text type.name type.number ++ fields_text text type.fields vs
described_text text _ d v _ = codes "@" ++ descriptor_text text d (out-Value d) ++ codes " " ++ text v

abbrev pub opened_text : (Value → List ℕ) → Value-F Value → List ℕ
opened_text text (Value-F.List vs) = list_text text vs
opened_text text (Value-F.Map ps) = map_text text ps
opened_text text (Value-F.Array code vs) = bits_text (codes "array") code ++ list_text text vs
opened_text text (Value-F.Described d v) = described_text text (described_type (out-Value d)) d v (out-Value v)
opened_text text leaf = leaf_text leaf

-- a value with so many levels; `..` for what lies deeper
unfoldable pub value_text : ℕ → Value → List ℕ
value_text zero v = codes ".."
value_text (suc depth) v = opened_text (value_text depth) (out-Value v)
