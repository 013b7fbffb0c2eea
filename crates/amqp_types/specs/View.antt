-- The plain data that a Value is.
use Rattle.std.specs.Prelude.{ℕ, ℤ, pos, negsuc, suc, ◌-◌, ◌^◌, List, [], ◌∷◌, nat_lt, if◌then◌else◌}
use Rattle.amqp_types.specs.declared.class.Kind.TheVariants as Kind
use Rattle.amqp_types.specs.declared.class.Run.TheVariants as Run
use Rattle.amqp_types.specs.declared.value.Value.{Value}
use Rattle.amqp_types.specs.declared.value.Value.TheOpen.{Value-F}
use Rattle.amqp_types.specs.declared.value.Value.TheFolds.{fold-Value}
use Rattle.amqp_types.specs.Datum.{Datum, number, octets, list, map, array, described, Data, none, item}

abbrev pub data_of : List Datum → Data
data_of [] = none
data_of (v ∷ vs) = item v (data_of vs)

abbrev pub pairs_of : List (Datum × Datum) → Data
pairs_of [] = none
pairs_of (p ∷ ps) = item p.0 (item p.1 (pairs_of ps))

-- Two's complement in this many bits. A number that does not fit is mapped to 2 ^ bits, which does not fit either.
abbrev pub twos : ℕ → ℤ → ℕ
twos bits (pos n) = if nat_lt n (2 ^ (bits - 1)) then n else 2 ^ bits
twos bits (negsuc n) = if nat_lt n (2 ^ (bits - 1)) then 2 ^ bits - suc n else 2 ^ bits

-- one level of a value, with each inner value already converted to its Datum
abbrev pub view_step : Value-F Datum → Datum
view_step Value-F.Null = number Kind.Null 0
view_step (Value-F.Bool b) = number Kind.Bool (if b then 1 else 0)
view_step (Value-F.Ubyte n) = number Kind.Ubyte n
view_step (Value-F.Ushort n) = number Kind.Ushort n
view_step (Value-F.Uint n) = number Kind.Uint n
view_step (Value-F.Ulong n) = number Kind.Ulong n
view_step (Value-F.Sbyte z) = number Kind.Sbyte (twos 8 z)
view_step (Value-F.Short z) = number Kind.Short (twos 16 z)
view_step (Value-F.Int z) = number Kind.Int (twos 32 z)
view_step (Value-F.Long z) = number Kind.Long (twos 64 z)
view_step (Value-F.FloatBits n) = number Kind.FloatBits n
view_step (Value-F.DoubleBits n) = number Kind.DoubleBits n
view_step (Value-F.Dec32 n) = number Kind.Dec32 n
view_step (Value-F.Dec64 n) = number Kind.Dec64 n
view_step (Value-F.Dec128 os) = octets Run.Dec128 os
view_step (Value-F.Char c) = number Kind.Char c
view_step (Value-F.Timestamp z) = number Kind.Timestamp (twos 64 z)
view_step (Value-F.Uuid os) = octets Run.Uuid os
view_step (Value-F.Binary os) = octets Run.Binary os
view_step (Value-F.Str os) = octets Run.Str os
view_step (Value-F.Symbol os) = octets Run.Symbol os
view_step (Value-F.List vs) = list (data_of vs)
view_step (Value-F.Map ps) = map (pairs_of ps)
view_step (Value-F.Array c vs) = array c (data_of vs)
view_step (Value-F.Described d v) = described d v

abbrev pub view : Value → Datum
view = fold-Value Datum view_step

abbrev pub views : List Value → Data
views [] = none
views (v ∷ vs) = item (view v) (views vs)

abbrev pub views_of_pairs : List (Value × Value) → Data
views_of_pairs [] = none
views_of_pairs (p ∷ ps) = item (view p.0) (item (view p.1) (views_of_pairs ps))
