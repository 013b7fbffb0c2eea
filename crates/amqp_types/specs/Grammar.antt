-- Which octets encode a value.
use Rattle.std.specs.Prelude.{◌≡◌, ◌≤◌, ◌^◌, ◌+◌, ◌-◌, ◌*◌, ◌==◌, ℕ, zero, suc, List, [], ◌∷◌, ◌++◌, length, take, Option, Some, None, Bool, true, false, not, nat_lt, nat_le, ◌&&◌, IsTrue, if◌then◌else◌}
use Rattle.std.specs.List.{list_all}
use Rattle.std.specs.Str.{is_utf8}
use Rattle.amqp_types.specs.declared.class.Class.{Class}
use Rattle.amqp_types.specs.declared.class.Kind.{Kind}
use Rattle.amqp_types.specs.declared.class.Run.{Run}
use Rattle.amqp_types.specs.declared.class.Conversion.{Conversion}
use Rattle.amqp_types.specs.declared.class.Width.{Width}
use Rattle.amqp_types.specs.Codes.{class_of, octets_in}
use Rattle.amqp_types.specs.Datum.{Datum, number, octets, list, map, array, described, Data, none, item, count_of, depth_of}

-- the big-endian number of n followed by these octets
abbrev pub number_from : ℕ → List ℕ → ℕ
number_from n [] = n
number_from n (b ∷ bs) = number_from (n * 256 + b) bs

unfoldable pub number_of : List ℕ → ℕ
number_of bs = number_from 0 bs

-- the value of the number in a body
abbrev pub read_number : Conversion → ℕ → ℕ
read_number Conversion.Plain n = n
read_number Conversion.One n = n + 1
read_number Conversion.Widened32 n = if nat_lt n 128 then n else n + (2 ^ 32 - 256)
read_number Conversion.Widened64 n = if nat_lt n 128 then n else n + (2 ^ 64 - 256)

-- whether n is a Unicode scalar value: no surrogate
abbrev pub is_scalar : ℕ → Bool
is_scalar n = if nat_lt n 0xd800 then true else nat_le 0xe000 n && nat_lt n 0x110000

-- whether n represents a value of the type
abbrev pub fits : Kind → ℕ → Bool
fits Kind.Null n = n == 0
fits Kind.Bool n = nat_lt n 2
fits Kind.Ubyte n = nat_lt n (2 ^ 8)
fits Kind.Ushort n = nat_lt n (2 ^ 16)
fits Kind.Uint n = nat_lt n (2 ^ 32)
fits Kind.Ulong n = nat_lt n (2 ^ 64)
fits Kind.Sbyte n = nat_lt n (2 ^ 8)
fits Kind.Short n = nat_lt n (2 ^ 16)
fits Kind.Int n = nat_lt n (2 ^ 32)
fits Kind.Long n = nat_lt n (2 ^ 64)
fits Kind.FloatBits n = nat_lt n (2 ^ 32)
fits Kind.DoubleBits n = nat_lt n (2 ^ 64)
fits Kind.Dec32 n = nat_lt n (2 ^ 32)
fits Kind.Dec64 n = nat_lt n (2 ^ 64)
fits Kind.Char n = is_scalar n
fits Kind.Timestamp n = nat_lt n (2 ^ 64)

abbrev pub is_ascii : List ℕ → Bool
is_ascii os = list_all (λ o. nat_lt o 128) os

-- whether a run of this type can have these octets
abbrev pub is_run : Run → List ℕ → Bool
is_run Run.Binary os = true
is_run Run.Str os = is_utf8 os
is_run Run.Symbol os = is_ascii os
is_run Run.Dec128 os = length os == 16
is_run Run.Uuid os = length os == 16

abbrev pub is_even : ℕ → Bool
is_even zero = true
is_even (suc n) = not (is_even n)

-- whether an array can have this many elements of the class: at most 255 if they have no body
abbrev pub is_element : Class → ℕ → Bool
is_element Class.Unknown count = false
is_element Class.Described count = false
is_element Class.EmptyList count = nat_le count 255
is_element (Class.Number k Width.Zero r) count = nat_le count 255
is_element (Class.Number k Width.One r) count = true
is_element (Class.Number k Width.Two r) count = true
is_element (Class.Number k Width.Four r) count = true
is_element (Class.Number k Width.Eight r) count = true
is_element (Class.Octets r w) count = true
is_element (Class.Sixteen r) count = true
is_element (Class.List w) count = true
is_element (Class.Map w) count = true
is_element (Class.Array w) count = true

-- the octets hold this number in this width
abbrev pub IsField : Width → ℕ → List ℕ → Type 0
IsField w n os = (length os ≡ octets_in w) × (number_of os ≡ n)

-- Size and count, then the content: the size counts the count's octets and the content's.
pub record IsCompound (w : Width) (count : ℕ) (content os : List ℕ) : Type 0 where
  pub size_field : List ℕ
  pub count_field : List ℕ
  pub size_is : IsField w (octets_in w + length content) size_field
  pub count_is : IsField w count count_field
  pub parts : os ≡ size_field ++ (count_field ++ content)

abbrev pub IsNumberBody : Class → Kind → ℕ → List ℕ → Type 0
IsNumberBody (Class.Number k' w r) k n os = (k' ≡ k) × (length os ≡ octets_in w) × (read_number r (number_of os) ≡ n) × IsTrue (fits k n)
IsNumberBody _ k n os = ⊥

abbrev pub IsOctetsBody : Class → Run → List ℕ → List ℕ → Type 0
IsOctetsBody (Class.Octets r' w) r text os = (r' ≡ r) × IsTrue (is_run r text) × (head : List ℕ) × IsField w (length text) head × (os ≡ head ++ text)
IsOctetsBody (Class.Sixteen r') r text os = (r' ≡ r) × IsTrue (is_run r text) × (length text ≡ 16) × (os ≡ text)
IsOctetsBody _ r text os = ⊥

abbrev pub IsListBody : Class → ℕ → (List ℕ → Type 0) → List ℕ → Type 0
IsListBody Class.EmptyList count Content os = (count ≡ 0) × (os ≡ [])
IsListBody (Class.List w) count Content os = (content : List ℕ) × Content content × IsCompound w count content os
IsListBody _ count Content os = ⊥

abbrev pub IsMapBody : Class → ℕ → (List ℕ → Type 0) → List ℕ → Type 0
IsMapBody (Class.Map w) count Content os = IsTrue (is_even count) × (content : List ℕ) × Content content × IsCompound w count content os
IsMapBody _ count Content os = ⊥

-- The constructor and the bodies; an empty array of null may have no constructor.
abbrev pub IsArrayContent : ℕ → ℕ → (List ℕ → Type 0) → List ℕ → Type 0
IsArrayContent code count Bodies [] = (count ≡ 0) × (code ≡ 0x40)
IsArrayContent code count Bodies (c ∷ os) = (c ≡ code) × IsTrue (is_element (class_of code) count) × Bodies os

abbrev pub IsArrayBody : Class → ℕ → ℕ → (List ℕ → Type 0) → List ℕ → Type 0
IsArrayBody (Class.Array w) code count Bodies os = (content : List ℕ) × IsArrayContent code count Bodies content × IsCompound w count content os
IsArrayBody _ code count Bodies os = ⊥

-- octets of P followed by octets of Q
abbrev pub Then : (List ℕ → Type 0) → (List ℕ → Type 0) → List ℕ → Type 0
Then P Q os = (a b : List ℕ) × P a × Q b × (os ≡ a ++ b)

abbrev pub IsDescribedBody : Class → (List ℕ → Type 0) → (List ℕ → Type 0) → List ℕ → Type 0
IsDescribedBody Class.Described Descriptor Described os = Then Descriptor Described os
IsDescribedBody _ Descriptor Described os = ⊥

-- A part has its own format code, or none as an element of an array.
abbrev pub IsPart : Option ℕ → (ℕ → List ℕ → Type 0) → List ℕ → Type 0
IsPart None Body [] = ⊥
IsPart None Body (c ∷ os) = Body c os
IsPart (Some c) Body os = Body c os

abbrev mutual
  -- the octets are a body of the value under the format code
  pub IsBody : Datum → ℕ → List ℕ → Type 0
  IsBody (number k n) c os = IsNumberBody (class_of c) k n os
  IsBody (octets r text) c os = IsOctetsBody (class_of c) r text os
  IsBody (list vs) c os = IsListBody (class_of c) (count_of vs) (AreParts vs None) os
  IsBody (map vs) c os = IsMapBody (class_of c) (count_of vs) (AreParts vs None) os
  IsBody (array code vs) c os = IsArrayBody (class_of c) code (count_of vs) (AreParts vs (Some code)) os
  IsBody (described d v) c os = IsDescribedBody (class_of c) (IsPart None (IsBody d)) (IsPart None (IsBody v)) os

  pub AreParts : Data → Option ℕ → List ℕ → Type 0
  AreParts none how os = os ≡ []
  AreParts (item v vs) how os = Then (IsPart how (IsBody v)) (AreParts vs how) os

-- the octets are a format code and a body of the value, which is nested at most this deep
abbrev pub SpellsWithin : ℕ → Datum → List ℕ → Type 0
SpellsWithin depth v os = IsPart None (IsBody v) os × (depth_of v ≤ depth)

-- the octets encode the value within the nesting that this profile reads and writes
abbrev pub Spells : Datum → List ℕ → Type 0
Spells v os = SpellsWithin 32 v os

-- the octets begin with the encoding of some value
abbrev pub BeginsWithValue : ℕ → List ℕ → Type 0
BeginsWithValue depth os = (v : Datum) × (x rest : List ℕ) × SpellsWithin depth v x × (os ≡ x ++ rest)

-- The result of a reader of one type: the value at the start of the octets and the number of octets that encode it,
-- or None if they do not begin with a value of that type.
abbrev pub IsFront : {A : Type 0} → (A → Datum) → List ℕ → Option (A × ℕ) → Type 0
IsFront datum os (Some found) = (found.1 ≤ length os) × Spells (datum found.0) (take found.1 os)
IsFront {A} datum os None = (a : A) (x rest : List ℕ) → Spells (datum a) x → os ≡ x ++ rest → ⊥

-- The result of a reader of runs, before it is known whether the type can have these octets.
abbrev pub IsCandidate : Run → List ℕ → Option (List ℕ × ℕ) → Type 0
IsCandidate run os (Some found) = (found.1 ≤ length os) × (IsTrue (is_run run found.0) → Spells (octets run found.0) (take found.1 os))
    × ((text x rest : List ℕ) → Spells (octets run text) x → os ≡ x ++ rest → IsTrue (is_run run found.0))
IsCandidate run os None = (text x rest : List ℕ) → Spells (octets run text) x → os ≡ x ++ rest → ⊥

-- the octets are a list's format code, its size, its count and this content
abbrev pub IsListWith : ℕ → List ℕ → List ℕ → Type 0
IsListWith count content os = IsPart None (λ c body. IsListBody (class_of c) count (λ x. x ≡ content) body) os
