-- Fields that are taken one after the other.
use Rattle.std.proofs.Common.{◌≡◌, ℕ, ℤ, Bool, Option, Some, None, List, Bor, refl}
use Rattle.std.specs.Prelude.{IsTrue}
use Rattle.amqp_types.specs.declared.value.Value.{Value}
use Rattle.amqp_types.specs.Datum.{Datum, Data, item}
use Rattle.amqp_performatives.specs.Part.{null, AllNull}
use Rattle.amqp_performatives.specs.Bodies.{optional, boolean, ubyte, uint}
use Rattle.amqp_messages.specs.Fields.{timestamp, lent_string, lent_symbol, lent_binary, lent_mapping, lent_any, where_lent, is_boolean, is_ubyte, is_uint, is_timestamp, is_string, is_symbol, is_binary, is_mapping, is_present, IsOf}

-- ---- nulls at the end

abbrev pub SameNull : Data → Data → Type 0
SameNull a b = (AllNull a → AllNull b) × (AllNull b → AllNull a)

pub null-next : (d : Datum) (ds all : Data) → d ≡ null → SameNull (item d ds) all → SameNull ds all
null-next d ds all e s = (λ h. s.0 (e, h), λ h. (s.1 h).1)

pub null-stop : (d : Datum) (ds all : Data) → (d ≡ null → ⊥) → SameNull (item d ds) all → AllNull all → ⊥
null-stop d ds all not_null s h = not_null (s.1 h).0

-- ---- of which types fields are

pub of_any : (v : Option (Bor Value)) → IsTrue (where_lent v) → IsOf is_present (lent_any v)
of_any None h = tt
of_any (Some v) h = h

pub any_of : (v : Option (Bor Value)) → IsOf is_present (lent_any v) → IsTrue (where_lent v)
any_of None h = refl
any_of (Some v) h = h

pub of_boolean : (v : Option Bool) → IsOf is_boolean (optional boolean v)
of_boolean None = tt
of_boolean (Some b) = refl

pub of_ubyte : (v : Option ℕ) → IsOf is_ubyte (optional ubyte v)
of_ubyte None = tt
of_ubyte (Some n) = refl

pub of_uint : (v : Option ℕ) → IsOf is_uint (optional uint v)
of_uint None = tt
of_uint (Some n) = refl

pub of_timestamp : (v : Option ℤ) → IsOf is_timestamp (optional timestamp v)
of_timestamp None = tt
of_timestamp (Some z) = refl

pub of_string : (v : Option (Bor (List ℕ))) → IsOf is_string (lent_string v)
of_string None = tt
of_string (Some t) = refl

pub of_symbol : (v : Option (Bor (List ℕ))) → IsOf is_symbol (lent_symbol v)
of_symbol None = tt
of_symbol (Some t) = refl

pub of_binary : (v : Option (Bor (List ℕ))) → IsOf is_binary (lent_binary v)
of_binary None = tt
of_binary (Some o) = refl

pub of_mapping : (v : Option (Bor (List (Value × Value)))) → IsOf is_mapping (lent_mapping v)
of_mapping None = tt
of_mapping (Some p) = refl
