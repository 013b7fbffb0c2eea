-- Whether a value is of a composite type (part 1, 1.4), as a test over the table of the fields.
use Rattle.std.specs.Prelude.{ℕ, Bool, true, false, ◌&&◌, ◌||◌, nat_le, if◌then◌else◌, List, [], ◌∷◌, length, Option, Some, None}
use Rattle.amqp_types.specs.declared.class.Kind.{Kind}
use Rattle.amqp_types.specs.declared.class.Run.{Run}
use Rattle.amqp_types.specs.Datum.{Datum, number, octets, list, map, array, described, Data, none, item}
use Rattle.amqp_performatives.specs.declared.composite.Composite.{Composite}
use Rattle.amqp_performatives.specs.declared.composite.Composite.TheVariants as kind
use Rattle.amqp_performatives.specs.Composite.{type_of}
use Rattle.amqp_performatives.specs.Fair.{is_null, is_descriptor}
use Rattle.amqp_halves.specs.declared.rows.Sort.{Sort}
use Rattle.amqp_halves.specs.declared.rows.Row.{Row}
use Rattle.amqp_halves.specs.Rows.{rows_of}

abbrev pub admits_number : Sort → Kind → ℕ → Bool
admits_number Sort.Boolean Kind.Bool n = true
admits_number Sort.Role Kind.Bool n = true
admits_number (Sort.Ubyte most) Kind.Ubyte n = nat_le n most
admits_number Sort.Ushort Kind.Ushort n = true
admits_number Sort.Uint Kind.Uint n = true
admits_number Sort.Ulong Kind.Ulong n = true
admits_number Sort.Any Kind.Null n = false
admits_number Sort.Any k n = true
admits_number Sort.State Kind.Null n = false
admits_number Sort.State k n = true
admits_number _ k n = false

abbrev pub admits_octets : Sort → Run → ℕ → Bool
admits_octets Sort.Tag Run.Binary count = nat_le count 32
admits_octets Sort.Str Run.Str count = true
admits_octets Sort.Symbol Run.Symbol count = true
admits_octets Sort.Any r count = true
admits_octets Sort.State r count = true
admits_octets _ r count = false

abbrev pub admits_map : Sort → Bool
admits_map Sort.Map = true
admits_map Sort.Any = true
admits_map Sort.State = true
admits_map _ = false

-- a list or an array
abbrev pub admits_items : Sort → Bool
admits_items Sort.Any = true
admits_items Sort.State = true
admits_items _ = false

-- one of the five delivery states, by its descriptor, or a value with none of theirs
abbrev pub is_state : Datum → (Composite → Bool) → Bool
is_state d of =
    if is_descriptor (type_of Composite.Received) d then of Composite.Received
    else if is_descriptor (type_of Composite.Accepted) d then of Composite.Accepted
    else if is_descriptor (type_of Composite.Rejected) d then of Composite.Rejected
    else if is_descriptor (type_of Composite.Released) d then of Composite.Released
    else if is_descriptor (type_of Composite.Modified) d then of Composite.Modified
    else true

-- a described value, where the value is what some composite types say
abbrev pub admits_described : Sort → Datum → (Composite → Bool) → Bool
admits_described Sort.Any d of = true
admits_described Sort.Error d of = is_descriptor (type_of Composite.Error) d && of Composite.Error
admits_described Sort.State d of = is_state d of
admits_described _ d of = false

abbrev pub all_optional : List Row → Bool
all_optional [] = true
all_optional (Row.Must s ∷ rows) = false
all_optional (Row.May s ∷ rows) = all_optional rows

abbrev mutual
  -- the value is one that a field of this sort may hold
  pub admits : Sort → Datum → Bool
  admits s (number k n) = admits_number s k n
  admits s (octets r os) = admits_octets s r (length os)
  admits s (list ds) = admits_items s
  admits s (map ds) = admits_map s
  admits s (array c ds) = admits_items s
  admits s (described d v) = admits_described s d (fits v)

  -- the value is the list of the fields of the type
  pub fits : Datum → Composite → Bool
  fits (list ds) c = are_rows ds (rows_of c)
  fits _ c = false

  -- the values are the fields in their order; those left off are optional, and those past the last are null
  pub are_rows : Data → List Row → Bool
  are_rows none rows = all_optional rows
  are_rows (item d ds) [] = is_null d && are_rows ds []
  are_rows (item d ds) (Row.Must s ∷ rows) = admits s d && are_rows ds rows
  are_rows (item d ds) (Row.May s ∷ rows) = (is_null d || admits s d) && are_rows ds rows

abbrev pub first_fits : List Row → Datum → Bool
first_fits [] d = is_null d
first_fits (Row.Must s ∷ rows) d = admits s d
first_fits (Row.May s ∷ rows) d = is_null d || admits s d

-- the nine performatives, the most frequent first
abbrev pub bodies : List Composite
bodies = kind.Transfer ∷ kind.Flow ∷ kind.Disposition ∷ kind.Open ∷ kind.Begin ∷ kind.Attach ∷ kind.Detach ∷ kind.End ∷ kind.Close ∷ []

-- the first type that the descriptor and the value are of
abbrev pub first_body : List Composite → Datum → Datum → Option Composite
first_body [] a b = None
first_body (c ∷ cs) a b = if is_descriptor (type_of c) a && fits b c then Some c else first_body cs a b

abbrev pub body_of : Datum → Option Composite
body_of (described a b) = first_body bodies a b
body_of _ = None

abbrev pub is_transfer_type : Composite → Bool
is_transfer_type kind.Transfer = true
is_transfer_type _ = false
