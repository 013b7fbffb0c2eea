-- The table of format codes.
use Rattle.std.specs.Prelude.{ℕ, ◌≡◌, Bool, false, List, [], ◌∷◌, ◌==◌, if◌then◌else◌}
use Rattle.amqp_types.specs.declared.class.Class.{Class}
use Rattle.amqp_types.specs.declared.class.Kind.{Kind}
use Rattle.amqp_types.specs.declared.class.Run.{Run}
use Rattle.amqp_types.specs.declared.class.Conversion.TheVariants as Conversion
use Rattle.amqp_types.specs.declared.class.Width.{Width}

abbrev pub octets_in : Width → ℕ
octets_in Width.Zero = 0
octets_in Width.One = 1
octets_in Width.Two = 2
octets_in Width.Four = 4
octets_in Width.Eight = 8

abbrev pub table : List (ℕ × Class)
table =
    (0x00, Class.Described)
    ∷ (0x40, Class.Number Kind.Null Width.Zero Conversion.Plain)
    ∷ (0x41, Class.Number Kind.Bool Width.Zero Conversion.One)
    ∷ (0x42, Class.Number Kind.Bool Width.Zero Conversion.Plain)
    ∷ (0x43, Class.Number Kind.Uint Width.Zero Conversion.Plain)
    ∷ (0x44, Class.Number Kind.Ulong Width.Zero Conversion.Plain)
    ∷ (0x45, Class.EmptyList)
    ∷ (0x50, Class.Number Kind.Ubyte Width.One Conversion.Plain)
    ∷ (0x51, Class.Number Kind.Sbyte Width.One Conversion.Plain)
    ∷ (0x52, Class.Number Kind.Uint Width.One Conversion.Plain)
    ∷ (0x53, Class.Number Kind.Ulong Width.One Conversion.Plain)
    ∷ (0x54, Class.Number Kind.Int Width.One Conversion.Widened32)
    ∷ (0x55, Class.Number Kind.Long Width.One Conversion.Widened64)
    ∷ (0x56, Class.Number Kind.Bool Width.One Conversion.Plain)
    ∷ (0x60, Class.Number Kind.Ushort Width.Two Conversion.Plain)
    ∷ (0x61, Class.Number Kind.Short Width.Two Conversion.Plain)
    ∷ (0x70, Class.Number Kind.Uint Width.Four Conversion.Plain)
    ∷ (0x71, Class.Number Kind.Int Width.Four Conversion.Plain)
    ∷ (0x72, Class.Number Kind.FloatBits Width.Four Conversion.Plain)
    ∷ (0x73, Class.Number Kind.Char Width.Four Conversion.Plain)
    ∷ (0x74, Class.Number Kind.Dec32 Width.Four Conversion.Plain)
    ∷ (0x80, Class.Number Kind.Ulong Width.Eight Conversion.Plain)
    ∷ (0x81, Class.Number Kind.Long Width.Eight Conversion.Plain)
    ∷ (0x82, Class.Number Kind.DoubleBits Width.Eight Conversion.Plain)
    ∷ (0x83, Class.Number Kind.Timestamp Width.Eight Conversion.Plain)
    ∷ (0x84, Class.Number Kind.Dec64 Width.Eight Conversion.Plain)
    ∷ (0x94, Class.Sixteen Run.Dec128)
    ∷ (0x98, Class.Sixteen Run.Uuid)
    ∷ (0xa0, Class.Octets Run.Binary Width.One)
    ∷ (0xa1, Class.Octets Run.Str Width.One)
    ∷ (0xa3, Class.Octets Run.Symbol Width.One)
    ∷ (0xb0, Class.Octets Run.Binary Width.Four)
    ∷ (0xb1, Class.Octets Run.Str Width.Four)
    ∷ (0xb3, Class.Octets Run.Symbol Width.Four)
    ∷ (0xc0, Class.List Width.One)
    ∷ (0xc1, Class.Map Width.One)
    ∷ (0xd0, Class.List Width.Four)
    ∷ (0xd1, Class.Map Width.Four)
    ∷ (0xe0, Class.Array Width.One)
    ∷ (0xf0, Class.Array Width.Four)
    ∷ []

-- the class of the code in the table, or Unknown
abbrev pub class_in : List (ℕ × Class) → ℕ → Class
class_in [] c = Class.Unknown
class_in (row ∷ rows) c = if c == row.0 then row.1 else class_in rows c

unfoldable pub class_of : ℕ → Class
class_of c = class_in table c

-- the index of a type in its enumeration, for comparing two types
abbrev pub kind_index : Kind → ℕ
kind_index Kind.Null = 0
kind_index Kind.Bool = 1
kind_index Kind.Ubyte = 2
kind_index Kind.Ushort = 3
kind_index Kind.Uint = 4
kind_index Kind.Ulong = 5
kind_index Kind.Sbyte = 6
kind_index Kind.Short = 7
kind_index Kind.Int = 8
kind_index Kind.Long = 9
kind_index Kind.FloatBits = 10
kind_index Kind.DoubleBits = 11
kind_index Kind.Dec32 = 12
kind_index Kind.Dec64 = 13
kind_index Kind.Char = 14
kind_index Kind.Timestamp = 15

abbrev pub run_index : Run → ℕ
run_index Run.Binary = 0
run_index Run.Str = 1
run_index Run.Symbol = 2
run_index Run.Dec128 = 3
run_index Run.Uuid = 4

-- the codes whose class satisfies is_such
abbrev pub codes_in : (Class → Bool) → List (ℕ × Class) → List ℕ
codes_in is_such [] = []
codes_in is_such (row ∷ rows) = if is_such row.1 then row.0 ∷ codes_in is_such rows else codes_in is_such rows

abbrev pub of_run : Run → Class → Bool
of_run r (Class.Octets r' w) = run_index r' == run_index r
of_run r (Class.Sixteen r') = run_index r' == run_index r
of_run r _ = false

-- a type with exactly two codes: the size takes one octet under the first and four under the second
abbrev pub HasCodes : Run → ℕ → ℕ → Type 0
HasCodes r small large = (codes_in (of_run r) table ≡ small ∷ large ∷ []) × (class_of small ≡ Class.Octets r Width.One) × (class_of large ≡ Class.Octets r Width.Four)
