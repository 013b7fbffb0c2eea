-- Reading from left to right: the value that is read and the octets after it, or None.
use Rattle.std.specs.Prelude.{◌≡◌, ◌==◌, ℕ, zero, suc, List, [], ◌∷◌, length, take, drop, Option, Some, None, Result, Ok, Err, nat_lt, if◌then◌else◌}
use Rattle.amqp_types.specs.declared.class.Class.{Class}
use Rattle.amqp_types.specs.declared.class.Kind.{Kind}
use Rattle.amqp_types.specs.declared.class.Run.{Run}
use Rattle.amqp_types.specs.declared.class.Conversion.{Conversion}
use Rattle.amqp_types.specs.declared.class.Width.{Width}
use Rattle.amqp_types.specs.declared.fault.ReadFault.{ReadFault}
use Rattle.amqp_types.specs.declared.fault.ReadFault.TheVariants as fault
use Rattle.amqp_types.specs.Codes.{class_of, octets_in}
use Rattle.amqp_types.specs.Datum.{Datum, number, octets, list, map, array, described, Data, none, item}
use Rattle.amqp_types.specs.Grammar.{number_of, read_number, fits, is_run, is_even, is_element}

-- The result of a function, seen by view, is what reading returns, unless memory ran out.
abbrev pub Fails : {Y : Type 0} → ReadFault → Option Y → Type 0
Fails fault.NoMemory read = Unit {0}
Fails fault.NoValue read = read ≡ None

abbrev pub Gives : {X Y : Type 0} → (X → Y) → Result X ReadFault → Option Y → Type 0
Gives view (Ok x) read = read ≡ Some (view x)
Gives view (Err e) read = Fails e read

infixl 10 ◌>>=◌
abbrev pub ◌>>=◌ : {A B : Type 0} → Option A → (A → Option B) → Option B
(Some x) >>= f = f x
None >>= f = None

abbrev pub split : ℕ → List ℕ → Option (List ℕ × List ℕ)
split n os = if nat_lt (length os) n then None else Some (take n os, drop n os)

unfoldable pub field_at : Width → List ℕ → Option (ℕ × List ℕ)
field_at w os = split (octets_in w) os >>= λ x. Some (number_of x.0, x.1)

unfoldable pub number_at : Kind → Width → Conversion → List ℕ → Option (Datum × List ℕ)
number_at k w r os = do
  n ← field_at w os
  if fits k (read_number r n.0) then Some (number k (read_number r n.0), n.1) else None

unfoldable pub run_at : Run → ℕ → List ℕ → Option (Datum × List ℕ)
run_at r n os = do
  x ← split n os
  if is_run r x.0 then Some (octets r x.0, x.1) else None

unfoldable pub octets_at : Run → Width → List ℕ → Option (Datum × List ℕ)
octets_at r w os = do
  n ← field_at w os
  run_at r n.0 n.1

-- the count, the content and the octets after them
unfoldable pub compound_at : Width → List ℕ → Option ((ℕ × List ℕ) × List ℕ)
compound_at w os = do
  size ← field_at w os
  inside ← split size.0 size.1
  count ← field_at w inside.0
  Some (count, inside.1)

abbrev pub PartReader : Type 0
PartReader = Option ℕ → List ℕ → Option (Datum × List ℕ)

unfoldable pub parts_at : (List ℕ → Option (Datum × List ℕ)) → ℕ → List ℕ → Option (Data × List ℕ)
parts_at part zero os = Some (none, os)
parts_at part (suc n) os = do
  v ← part os
  vs ← parts_at part n v.1
  Some (item v.0 vs.0, vs.1)

-- the parts, if they take up all of the octets
unfoldable pub all_parts_at : (List ℕ → Option (Datum × List ℕ)) → ℕ → List ℕ → Option Data
all_parts_at part n os = do
  vs ← parts_at part n os
  if length vs.1 == 0 then Some vs.0 else None

unfoldable pub list_at : PartReader → Width → List ℕ → Option (Datum × List ℕ)
list_at part w os = do
  f ← compound_at w os
  vs ← all_parts_at (part None) f.0.0 f.0.1
  Some (list vs, f.1)

unfoldable pub map_at : PartReader → Width → List ℕ → Option (Datum × List ℕ)
map_at part w os = do
  f ← compound_at w os
  vs ← (if is_even f.0.0 then all_parts_at (part None) f.0.0 f.0.1 else None)
  Some (map vs, f.1)

unfoldable pub array_content_at : PartReader → ℕ → List ℕ → Option Datum
array_content_at part count [] = if count == 0 then Some (array 0x40 none) else None
array_content_at part count (c ∷ os) = do
  vs ← (if is_element (class_of c) count then all_parts_at (part (Some c)) count os else None)
  Some (array c vs)

unfoldable pub array_at : PartReader → Width → List ℕ → Option (Datum × List ℕ)
array_at part w os = do
  f ← compound_at w os
  v ← array_content_at part f.0.0 f.0.1
  Some (v, f.1)

unfoldable pub described_at : PartReader → List ℕ → Option (Datum × List ℕ)
described_at part os = do
  d ← part None os
  v ← part None d.1
  Some (described d.0 v.0, v.1)

-- a body of a class; part reads its parts
abbrev pub body_by : PartReader → Class → List ℕ → Option (Datum × List ℕ)
body_by part (Class.Number k w r) os = number_at k w r os
body_by part (Class.Octets r w) os = octets_at r w os
body_by part (Class.Sixteen r) os = run_at r 16 os
body_by part Class.EmptyList os = Some (list none, os)
body_by part (Class.List w) os = list_at part w os
body_by part (Class.Map w) os = map_at part w os
body_by part (Class.Array w) os = array_at part w os
body_by part Class.Described os = described_at part os
body_by part Class.Unknown os = None

abbrev pub part_by : (ℕ → List ℕ → Option (Datum × List ℕ)) → PartReader
part_by body None [] = None
part_by body None (c ∷ os) = body c os
part_by body (Some c) os = body c os

-- a body of the format code c, nested at most n deep
unfoldable pub body_at : ℕ → ℕ → List ℕ → Option (Datum × List ℕ)
body_at zero c os = None
body_at (suc n) c os = body_by (part_by (body_at n)) (class_of c) os

-- a part, nested at most n deep
abbrev pub part_at : ℕ → PartReader
part_at n = part_by (body_at n)

-- the octets after the value that is read
abbrev pub after : {A : Type 0} → Option (A × List ℕ) → Option (List ℕ)
after None = None
after (Some x) = Some x.1
