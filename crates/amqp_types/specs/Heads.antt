-- The octets before the parts of a value.
use Rattle.std.specs.Prelude.{◌≡◌, ◌≤◌, ℕ, List, ◌∷◌, ◌++◌, length, take, drop, Option, Some, None}
use Rattle.amqp_types.specs.declared.class.Kind.{Kind}
use Rattle.amqp_types.specs.declared.class.Run.{Run}
use Rattle.amqp_types.specs.declared.heads.Descriptor.{Descriptor}
use Rattle.amqp_types.specs.declared.heads.Descriptor.TheVariants as descriptor
use Rattle.amqp_types.specs.Datum.{Datum, number, octets}
use Rattle.amqp_types.specs.Grammar.{Spells, IsListWith}

-- The octets begin with a list of count items that ends at offset end; its items lie from offset start up to there.
-- A list of one octet, its code, has neither size nor count, so start is 1.
abbrev pub IsListHead : List ℕ → ℕ → ℕ → ℕ → Type 0
IsListHead os count start end = (start ≤ end) × (end ≤ length os) × IsListWith count (drop start (take end os)) (take end os) × (end ≡ 1 → start ≡ 1)

-- the octets do not begin with a list's format code, size, count and as many octets as the size says
abbrev pub HasNoList : List ℕ → Type 0
HasNoList os = (count : ℕ) (content x rest : List ℕ) → IsListWith count content x → os ≡ x ++ rest → ⊥

abbrev pub datum_of : Descriptor → Datum
datum_of (descriptor.Number n) = number Kind.Ulong n
datum_of (descriptor.Name text) = octets Run.Symbol text.now

-- the octets begin with a described value's first octet and its encoded descriptor, and found.1 counts both
abbrev pub IsDescriptor : List ℕ → Option (Descriptor × ℕ) → Type 0
IsDescriptor os (Some found) = (found.1 ≤ length os) × (x : List ℕ) × Spells (datum_of found.0) x × (take found.1 os ≡ 0x00 ∷ x)
IsDescriptor os None = (d : Descriptor) (x rest : List ℕ) → Spells (datum_of d) x → os ≡ (0x00 ∷ x) ++ rest → ⊥
