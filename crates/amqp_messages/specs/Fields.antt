-- The fields of a composite type, read one after the other from the values of a list.
use Rattle.std.specs.Prelude.{ℕ, zero, ℤ, ◌≡◌, Bool, true, false, not, Option, Some, None, if◌then◌else◌, List}
use Rattle.std.specs.Borrow.{Bor}
use Rattle.amqp_types.specs.declared.class.Kind.TheVariants as Kind
use Rattle.amqp_types.specs.declared.class.Run.TheVariants as Run
use Rattle.amqp_types.specs.declared.value.Value.{Value}
use Rattle.amqp_types.specs.Datum.{Datum, number, octets, map, Data}
use Rattle.amqp_types.specs.View.{view, twos}
use Rattle.amqp_performatives.specs.Part.{Part, Fields, absent, value, composite, FitInOrder}
use Rattle.amqp_performatives.specs.Bodies.{optional, string, symbol, binary, mapping, any, ◌▸◌}
use Rattle.amqp_performatives.specs.Fair.{is_null, where_present}

-- in milliseconds since the Unix epoch
abbrev pub timestamp : ℤ → Part
timestamp z = value (number Kind.Timestamp (twos 64 z))

-- ---- borrowed fields

abbrev pub lent_string : Option (Bor (List ℕ)) → Part
lent_string text = optional (λ t. string t.now) text

abbrev pub lent_symbol : Option (Bor (List ℕ)) → Part
lent_symbol text = optional (λ t. symbol t.now) text

abbrev pub lent_binary : Option (Bor (List ℕ)) → Part
lent_binary os = optional (λ o. binary o.now) os

abbrev pub lent_mapping : Option (Bor (List (Value × Value))) → Part
lent_mapping pairs = optional (λ p. mapping p.now) pairs

abbrev pub lent_any : Option (Bor Value) → Part
lent_any v = optional (λ w. any w.now) v

-- a field that is present is not null
abbrev pub where_lent : Option (Bor Value) → Bool
where_lent v = where_present (λ w. not (is_null (view w.now))) v

-- ---- for private functions: the values that a field of a type may have

abbrev pub is_boolean : Datum → Bool
is_boolean (number Kind.Bool n) = true
is_boolean _ = false

abbrev pub is_ubyte : Datum → Bool
is_ubyte (number Kind.Ubyte n) = true
is_ubyte _ = false

abbrev pub is_uint : Datum → Bool
is_uint (number Kind.Uint n) = true
is_uint _ = false

abbrev pub is_timestamp : Datum → Bool
is_timestamp (number Kind.Timestamp n) = true
is_timestamp _ = false

abbrev pub is_string : Datum → Bool
is_string (octets Run.Str os) = true
is_string _ = false

abbrev pub is_symbol : Datum → Bool
is_symbol (octets Run.Symbol os) = true
is_symbol _ = false

abbrev pub is_binary : Datum → Bool
is_binary (octets Run.Binary os) = true
is_binary _ = false

abbrev pub is_mapping : Datum → Bool
is_mapping (map ds) = true
is_mapping _ = false

abbrev pub is_present : Datum → Bool
is_present d = not (is_null d)

-- the field that a value spells: null is absent; None if the value has another type
abbrev pub field_in : (Datum → Bool) → Datum → Option Part
field_in test (number Kind.Null zero) = Some absent
field_in test d = if test d then Some (value d) else None

-- the part is absent, or a value that passes the test
abbrev pub IsOf : (Datum → Bool) → Part → Type 0
IsOf test absent = Unit {0}
IsOf test (value d) = test d ≡ true
IsOf test (composite type fs) = ⊥

-- the first field is this part, and the other fields are these values
pub record Taken (test : Datum → Bool) (ds : Data) (p : Part) (rest : Data) : Type 0 where
  pub of : IsOf test p
  pub there : (fs : Fields) → FitInOrder fs rest → FitInOrder (p ▸ fs) ds
  pub only : (q : Part) (fs : Fields) → IsOf test q → FitInOrder (q ▸ fs) ds → (q ≡ p) × FitInOrder fs rest

abbrev pub TakesField : (Datum → Bool) → Data → Option (Part × Data) → Type 0
TakesField test ds (Some found) = Taken test ds found.0 found.1
TakesField test ds None = (q : Part) (fs : Fields) → IsOf test q → FitInOrder (q ▸ fs) ds → ⊥
