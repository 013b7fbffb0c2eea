-- Which value octets are that are known to spell one.
use Rattle.std.specs.Prelude.{ℕ, ℤ, pos, negsuc, suc, ◌-◌, ◌^◌, ◌==◌, Bool, true, false, Option, Some, None, List, [], ◌∷◌, length, nat_lt, if◌then◌else◌}
use Rattle.amqp_types.specs.declared.class.Kind.{Kind}
use Rattle.amqp_types.specs.declared.class.Kind.TheVariants as kind
use Rattle.amqp_types.specs.declared.class.Run.{Run}
use Rattle.amqp_types.specs.declared.class.Run.TheVariants as run
use Rattle.amqp_types.specs.declared.value.Value.{Value}
use Rattle.amqp_types.specs.declared.value.Value.TheVariants as W
use Rattle.amqp_types.specs.declared.value.Value.TheViews as V
use Rattle.amqp_types.specs.Datum.{Datum, number, octets, list, map, array, described, Data, none, item}
use Rattle.amqp_types.specs.Reading.{part_at}
use Rattle.amqp_performatives.specs.Part.{null}

-- the signed number that two's complement in so many bits gives
abbrev pub signed : ℕ → ℕ → ℤ
signed bits n = if nat_lt n (2 ^ (bits - 1)) then pos n else negsuc (2 ^ bits - suc n)

abbrev pub number_value : Kind → ℕ → Value
number_value kind.Null n = W.Null
number_value kind.Bool n = W.Bool (n == 1)
number_value kind.Ubyte n = W.Ubyte n
number_value kind.Ushort n = W.Ushort n
number_value kind.Uint n = W.Uint n
number_value kind.Ulong n = W.Ulong n
number_value kind.Sbyte n = W.Sbyte (signed 8 n)
number_value kind.Short n = W.Short (signed 16 n)
number_value kind.Int n = W.Int (signed 32 n)
number_value kind.Long n = W.Long (signed 64 n)
number_value kind.FloatBits n = W.FloatBits n
number_value kind.DoubleBits n = W.DoubleBits n
number_value kind.Dec32 n = W.Dec32 n
number_value kind.Dec64 n = W.Dec64 n
number_value kind.Char n = W.Char n
number_value kind.Timestamp n = W.Timestamp (signed 64 n)

abbrev pub octets_value : Run → List ℕ → Value
octets_value run.Binary os = W.Binary os
octets_value run.Str os = W.Str os
octets_value run.Symbol os = W.Symbol os
octets_value run.Dec128 os = W.Dec128 os
octets_value run.Uuid os = W.Uuid os

abbrev mutual
  pub value_of : Datum → Value
  value_of (number k n) = number_value k n
  value_of (octets r os) = octets_value r os
  value_of (list ds) = V.List (values_of ds)
  value_of (map ds) = V.Map (value_pairs_of ds)
  value_of (array code ds) = V.Array code (values_of ds)
  value_of (described d v) = V.Described (value_of d) (value_of v)

  pub values_of : Data → List Value
  values_of none = []
  values_of (item d ds) = value_of d ∷ values_of ds

  pub value_pairs_of : Data → List (Value × Value)
  value_pairs_of none = []
  value_pairs_of (item k none) = []
  value_pairs_of (item k (item v ds)) = (value_of k, value_of v) ∷ value_pairs_of ds

abbrev pub datum_read : Option (Datum × List ℕ) → Datum
datum_read None = null
datum_read (Some x) = x.0

abbrev pub all_read : Option (Datum × List ℕ) → Bool
all_read None = false
all_read (Some x) = length x.1 == 0

-- the octets spell a value
unfoldable pub is_whole : List ℕ → Bool
is_whole os = all_read (part_at 32 None os)

-- the value that the octets spell
unfoldable pub datum_in : List ℕ → Datum
datum_in os = datum_read (part_at 32 None os)

unfoldable pub value_in : List ℕ → Value
value_in os = value_of (datum_in os)

abbrev pub is_mapping : Datum → Bool
is_mapping (map ds) = true
is_mapping _ = false

abbrev pub pairs_of_datum : Datum → List (Value × Value)
pairs_of_datum (map ds) = value_pairs_of ds
pairs_of_datum _ = []

-- the pairs of the map that the octets spell
unfoldable pub pairs_in : List ℕ → List (Value × Value)
pairs_in os = pairs_of_datum (datum_in os)
