-- What a value's first octets say of it.
use Rattle.std.specs.Prelude.{ℕ, suc, ◌≡◌, Bool, true, false, List, Option, Some, None}
use Rattle.amqp_types.specs.declared.class.Kind.{Kind}
use Rattle.amqp_types.specs.declared.class.Run.{Run}
use Rattle.amqp_types.specs.Datum.{Datum, number, octets, list, map, array, described, Data}
use Rattle.amqp_types.specs.Reading.{part_at, all_parts_at}
use Rattle.amqp_halves.specs.declared.halves.Halves.{Halves}
use Rattle.amqp_halves.specs.declared.leaf.Leaf.{Leaf}
use Rattle.amqp_halves.specs.declared.leaf.Leaf.TheVariants as leaf
use Rattle.amqp_halves.specs.Halves.{whole}

abbrev pub IsLeaf : Leaf → Datum → Type 0
IsLeaf (leaf.Number k n) d = d ≡ number k n
IsLeaf (leaf.Octets r text) d = d ≡ octets r (whole text)
IsLeaf leaf.List d = (ds : Data) × (d ≡ list ds)
IsLeaf leaf.Map d = (ds : Data) × (d ≡ map ds)
IsLeaf leaf.Array d = (c : ℕ) × (ds : Data) × (d ≡ array c ds)
IsLeaf leaf.Described d = (a b : Datum) × (d ≡ described a b)

abbrev pub IsLeafOf : Option Leaf → Datum → Type 0
IsLeafOf None d = ⊥
IsLeafOf (Some l) d = IsLeaf l d

abbrev pub is_list : Datum → Bool
is_list (list ds) = true
is_list _ = false

-- the count of a list's items, and their octets
abbrev pub IsItems : ℕ → Option (ℕ × Halves) → Datum → Type 0
IsItems n None d = is_list d ≡ false
IsItems n (Some x) d = (m : ℕ) × (ds : Data) × (n ≡ suc m) × (d ≡ list ds) × (all_parts_at (part_at m None) x.0 (whole x.1) ≡ Some ds)

abbrev pub is_null_kind : Kind → Bool
is_null_kind Kind.Null = true
is_null_kind _ = false

abbrev pub is_ulong : Kind → Bool
is_ulong Kind.Ulong = true
is_ulong _ = false

abbrev pub is_symbol : Run → Bool
is_symbol Run.Symbol = true
is_symbol _ = false

-- the descriptor of a described value, and the value behind it
abbrev pub IsOpened : ℕ → Option (Leaf × Halves) → Datum → Datum → Type 0
IsOpened n None a b = ⊥
IsOpened n (Some x) a b = IsLeaf x.0 a × (rest : List ℕ) × (part_at n None (whole x.1) ≡ Some (b, rest))
