-- The format code that the writer chooses: the shortest that fits.
use Rattle.std.specs.Prelude.{◌+◌, ◌-◌, ◌^◌, ◌==◌, ◌&&◌, ℕ, length, nat_lt, if◌then◌else◌}
use Rattle.amqp_types.specs.declared.class.Kind.{Kind}
use Rattle.amqp_types.specs.declared.class.Run.{Run}
use Rattle.amqp_types.specs.Canon.{Draft, number_draft, octets_draft, list_draft, map_draft, array_draft, described_draft}

abbrev pub number_code : Kind → ℕ → ℕ
number_code Kind.Null n = 0x40
number_code Kind.Bool n = if n == 0 then 0x42 else 0x41
number_code Kind.Ubyte n = 0x50
number_code Kind.Ushort n = 0x60
number_code Kind.Uint n = if n == 0 then 0x43 else if nat_lt n 256 then 0x52 else 0x70
number_code Kind.Ulong n = if n == 0 then 0x44 else if nat_lt n 256 then 0x53 else 0x80
number_code Kind.Sbyte n = 0x51
number_code Kind.Short n = 0x61
number_code Kind.Int n = if nat_lt n 128 then 0x54 else if nat_lt n (2 ^ 32 - 128) then 0x71 else 0x54
number_code Kind.Long n = if nat_lt n 128 then 0x55 else if nat_lt n (2 ^ 64 - 128) then 0x81 else 0x55
number_code Kind.FloatBits n = 0x72
number_code Kind.DoubleBits n = 0x82
number_code Kind.Dec32 n = 0x74
number_code Kind.Dec64 n = 0x84
number_code Kind.Char n = 0x73
number_code Kind.Timestamp n = 0x83

abbrev pub octets_code : Run → ℕ → ℕ
octets_code Run.Binary n = if nat_lt n 256 then 0xa0 else 0xb0
octets_code Run.Str n = if nat_lt n 256 then 0xa1 else 0xb1
octets_code Run.Symbol n = if nat_lt n 256 then 0xa3 else 0xb3
octets_code Run.Dec128 n = 0x94
octets_code Run.Uuid n = 0x98

abbrev pub compound_code : ℕ → ℕ → ℕ → ℕ → ℕ
compound_code small large count size = if nat_lt (1 + size) 256 && nat_lt count 256 then small else large

abbrev pub code_for : Draft → ℕ
code_for (number_draft k n) = number_code k n
code_for (octets_draft r text) = octets_code r (length text)
code_for (list_draft count content) = if count == 0 then 0x45 else compound_code 0xc0 0xd0 count (length content)
code_for (map_draft count content) = compound_code 0xc1 0xd1 count (length content)
code_for (array_draft code count bodies) = compound_code 0xe0 0xf0 count (1 + length bodies)
code_for (described_draft content) = 0
