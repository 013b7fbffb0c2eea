-- Which values have no encoding shorter than the canonical one.
use Rattle.std.specs.Prelude.{◌≡◌}
use Rattle.amqp_types.specs.Datum.{Datum, number, octets, list, map, array, described, Data, none, item, count_of}

-- No part is an empty array of nulls, which may be encoded without the constructor that the canonical encoding has.
abbrev mutual
  pub HasNoEmptyNulls : Datum → Type 0
  HasNoEmptyNulls (number k n) = Unit {0}
  HasNoEmptyNulls (octets r os) = Unit {0}
  HasNoEmptyNulls (list vs) = HaveNoEmptyNulls vs
  HasNoEmptyNulls (map vs) = HaveNoEmptyNulls vs
  HasNoEmptyNulls (array code vs) = (code ≡ 0x40 → count_of vs ≡ 0 → ⊥) × HaveNoEmptyNulls vs
  HasNoEmptyNulls (described d v) = HasNoEmptyNulls d × HasNoEmptyNulls v

  pub HaveNoEmptyNulls : Data → Type 0
  HaveNoEmptyNulls none = Unit {0}
  HaveNoEmptyNulls (item v vs) = HasNoEmptyNulls v × HaveNoEmptyNulls vs
