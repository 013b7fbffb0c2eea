-- The canonical encoding: each value has the first format code of the table that fits.
use Rattle.std.specs.Prelude.{◌≡◌, ◌+◌, ◌-◌, ◌^◌, ◌==◌, ◌&&◌, ℕ, List, [], ◌∷◌, ◌++◌, length, map as list_map, Option, Some, None, Result, Ok, Err, min, nat_lt, nat_le, if◌then◌else◌}
use Rattle.std.specs.Int.{to_be_bytes, w8, w16, w32, w64}
use Rattle.amqp_types.specs.declared.class.Class.{Class}
use Rattle.amqp_types.specs.declared.class.Kind.{Kind}
use Rattle.amqp_types.specs.declared.class.Run.{Run}
use Rattle.amqp_types.specs.declared.class.Conversion.{Conversion}
use Rattle.amqp_types.specs.declared.class.Width.{Width}
use Rattle.amqp_types.specs.declared.fault.WriteFault.{WriteFault}
use Rattle.amqp_types.specs.declared.fault.WriteFault.TheVariants as fault
use Rattle.amqp_types.specs.Codes.{table, class_of, octets_in, kind_index, run_index}
use Rattle.amqp_types.specs.Datum.{Datum, number, octets, list, map, array, described, Data, none, item, count_of, depth_of}
use Rattle.amqp_types.specs.Grammar.{fits, is_run, is_even, is_element}
use Rattle.amqp_types.specs.Reading.{◌>>=◌}

-- the number in the body from which the value n is read, if there is one
abbrev pub unread_number : Conversion → ℕ → Option ℕ
unread_number Conversion.Plain n = Some n
unread_number Conversion.One n = if n == 1 then Some 0 else None
unread_number Conversion.Widened32 n = if nat_lt n 128 then Some n else if nat_lt n (2 ^ 32 - 128) then None else Some (n - (2 ^ 32 - 256))
unread_number Conversion.Widened64 n = if nat_lt n 128 then Some n else if nat_lt n (2 ^ 64 - 128) then None else Some (n - (2 ^ 64 - 256))

-- a number in this many octets, big endian, if it fits
abbrev pub field : Width → ℕ → Option (List ℕ)
field Width.Zero n = if n == 0 then Some [] else None
field Width.One n = if nat_lt n (2 ^ 8) then Some (to_be_bytes w8 n) else None
field Width.Two n = if nat_lt n (2 ^ 16) then Some (to_be_bytes w16 n) else None
field Width.Four n = if nat_lt n (2 ^ 32) then Some (to_be_bytes w32 n) else None
field Width.Eight n = if nat_lt n (2 ^ 64) then Some (to_be_bytes w64 n) else None

abbrev pub number_form : Class → Kind → ℕ → Option (List ℕ)
number_form (Class.Number k' w r) k n = if (kind_index k' == kind_index k) && fits k n then unread_number r n >>= field w else None
number_form _ k n = None

-- a size or a count: in one octet or in four
abbrev pub size_field : Width → ℕ → Option (List ℕ)
size_field Width.One n = field Width.One n
size_field Width.Four n = field Width.Four n
size_field _ n = None

-- the size and count before a content of this many octets

abbrev pub octets_head : Class → Run → List ℕ → Option (List ℕ)
octets_head (Class.Octets r' w) r text = if (run_index r' == run_index r) && is_run r text then size_field w (length text) else None
octets_head (Class.Sixteen r') r text = if (run_index r' == run_index r) && (is_run r text && (length text == 16)) then Some [] else None
octets_head _ r text = None

abbrev pub compound_head : Width → ℕ → ℕ → Option (List ℕ)
compound_head w count size = size_field w (octets_in w + size) >>= λ s. size_field w count >>= λ c. Some (s ++ c)

abbrev pub list_head : Class → ℕ → ℕ → Option (List ℕ)
list_head Class.EmptyList count size = if count == 0 then Some [] else None
list_head (Class.List w) count size = compound_head w count size
list_head _ count size = None

abbrev pub map_head : Class → ℕ → ℕ → Option (List ℕ)
map_head (Class.Map w) count size = if is_even count then compound_head w count size else None
map_head _ count size = None

-- the size, the count and the code of the elements
abbrev pub array_head : Class → ℕ → ℕ → ℕ → Option (List ℕ)
array_head (Class.Array w) code count size = if is_element (class_of code) count then compound_head w count (1 + size) >>= (λ h. Some (h ++ code ∷ [])) else None
array_head _ code count size = None

abbrev pub described_head : Class → Option (List ℕ)
described_head Class.Described = Some []
described_head _ = None

-- A value whose parts are already encoded.
pub data Draft : Type 0 where
  number_draft : Kind → ℕ → Draft
  octets_draft : Run → List ℕ → Draft
  list_draft : ℕ → List ℕ → Draft
  map_draft : ℕ → List ℕ → Draft
  array_draft : ℕ → ℕ → List ℕ → Draft
  described_draft : List ℕ → Draft

abbrev pub head_of : Draft → Class → Option (List ℕ)
head_of (number_draft k n) class = number_form class k n
head_of (octets_draft r text) class = octets_head class r text
head_of (list_draft count content) class = list_head class count (length content)
head_of (map_draft count content) class = map_head class count (length content)
head_of (array_draft code count bodies) class = array_head class code count (length bodies)
head_of (described_draft content) class = described_head class

abbrev pub content_of : Draft → List ℕ
content_of (number_draft k n) = []
content_of (octets_draft r text) = text
content_of (list_draft count content) = content
content_of (map_draft count content) = content
content_of (array_draft code count bodies) = bodies
content_of (described_draft content) = content

-- the body under a class, if it has one
abbrev pub draft_form : Draft → Class → Option (List ℕ)
draft_form d class = head_of d class >>= λ h. Some (h ++ content_of d)

abbrev pub first_or : Option (List ℕ) → ℕ → Option (List ℕ) → Option (List ℕ)
first_or None c others = others
first_or (Some os) c others = Some (c ∷ os)

-- the first of these codes that has a body, and that body
abbrev pub first_of : List ℕ → Draft → Option (List ℕ)
first_of [] d = None
first_of (c ∷ cs) d = first_or (draft_form d (class_of c)) c (first_of cs d)

abbrev pub codes : List ℕ
codes = list_map (λ row. row.0) table

-- with the first code of the table (in the order of lengths), or without one as an element of an array
unfoldable pub spelled : Option ℕ → Draft → Option (List ℕ)
spelled None d = first_of codes d
spelled (Some c) d = draft_form d (class_of c)

abbrev mutual
  pub draft : Datum → Option Draft
  draft (number k n) = Some (number_draft k n)
  draft (octets r text) = Some (octets_draft r text)
  draft (list vs) = parts_form vs None >>= λ x. Some (list_draft (count_of vs) x)
  draft (map vs) = parts_form vs None >>= λ x. Some (map_draft (count_of vs) x)
  draft (array code vs) = parts_form vs (Some code) >>= λ x. Some (array_draft code (count_of vs) x)
  draft (described d v) = (draft d >>= spelled None) >>= λ a. (draft v >>= spelled None) >>= λ b. Some (described_draft (a ++ b))

  pub parts_form : Data → Option ℕ → Option (List ℕ)
  parts_form none how = Some []
  parts_form (item v vs) how = (draft v >>= spelled how) >>= λ a. parts_form vs how >>= λ b. Some (a ++ b)

-- a part with its own code, or without one as an element of an array
abbrev pub part_form : Option ℕ → Datum → Option (List ℕ)
part_form how v = draft v >>= spelled how

unfoldable pub canon : Datum → Option (List ℕ)
canon v = if nat_le (depth_of v) 32 then draft v >>= spelled None else None

-- the form exists, and the new octets are the old ones followed by it
abbrev pub Appends : Option (List ℕ) → List ℕ → List ℕ → Type 0
Appends form old new = (x : List ℕ) × (form ≡ Some x) × (new ≡ old ++ x)

-- the new octets are the old ones followed by the canonical encoding
abbrev pub AppendsCanon : Datum → List ℕ → List ℕ → Type 0
AppendsCanon v old new = Appends (canon v) old new

-- The result of appending octets: they follow the old ones, or the form does not exist, or memory ran out.
abbrev pub Writes : {X : Type 0} → Option (List ℕ) → Result X WriteFault → List ℕ → List ℕ → Type 0
Writes form (Ok x) old new = Appends form old new
Writes form (Err fault.NoMemory) old new = Unit {0}
Writes form (Err fault.NotWritable) old new = form ≡ None

-- the number of octets, at most 2 ^ 64 - 1
abbrev pub capped : Option (List ℕ) → Option ℕ
capped None = None
capped (Some x) = Some (min (length x) (2 ^ 64 - 1))
