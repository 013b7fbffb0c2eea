-- What the private readers of fields promise to one another.
use Rattle.std.specs.Prelude.{ℕ, ◌≡◌, ◌+◌, ◌≤◌, Bool, true, IsTrue, Option, Some, None, List, ◌++◌}
use Rattle.amqp_types.specs.Datum.{Datum, Data, count_of, greatest_depth_of}
use Rattle.amqp_types.specs.Grammar.{AreParts, SpellsWithin, Spells}
use Rattle.amqp_decoder.specs.declared.fields.Cursor.{Cursor}
use Rattle.amqp_decoder.specs.Borrowed.{datum_in}
use Rattle.amqp_performatives.specs.Part.{Part, Fields, absent, field, null, Fits, FitInOrder}

-- the octets are so many values, nested at most so deep, and these are the fields in their order
pub record AreFields (depth left : ℕ) (fields : Fields) (octets : List ℕ) : Type 0 where
  pub values : Data
  pub fit : FitInOrder fields values
  pub spelled : AreParts values None octets
  pub counted : count_of values ≡ left
  pub nested : greatest_depth_of values ≤ depth

-- any value of a field's type may stand there
abbrev pub every : {A : Type 0} → A → Bool
every a = true

-- The first field is read: the others are what is left exactly if it and the others are all.
pub record Takes {A : Type 0} (of : A → Part) (may : A → Bool) (depth left : ℕ) (octets : List ℕ) (a : A) (depth' left' : ℕ) (octets' : List ℕ) : Type 0 where
  pub fair : IsTrue (may a)
  pub same_depth : depth' ≡ depth
  pub found : (others : Fields) → AreFields depth' left' others octets' → AreFields depth left (field (of a) others) octets
  pub only : (b : A) (others : Fields) → IsTrue (may b) → AreFields depth left (field (of b) others) octets → AreFields depth' left' others octets'

-- no first field is of the type
abbrev pub Misses : {A : Type 0} → (A → Part) → (A → Bool) → ℕ → ℕ → List ℕ → Type 0
Misses {A} of may depth left octets = (b : A) (others : Fields) → IsTrue (may b) → AreFields depth left (field (of b) others) octets → ⊥

-- the first field is left off or null
pub record TakesAbsent (depth left : ℕ) (octets : List ℕ) (depth' left' : ℕ) (octets' : List ℕ) : Type 0 where
  pub same_depth : depth' ≡ depth
  pub found : (others : Fields) → AreFields depth' left' others octets' → AreFields depth left (field absent others) octets
  pub only : (part : Part) (others : Fields) → AreFields depth left (field part others) octets → Fits part null × AreFields depth' left' others octets'

-- there is a first field, and it is not null
pub record MissesAbsent (left : ℕ) (octets : List ℕ) : Type 0 where
  pub some : 1 ≤ left
  pub not_null : (x rest : List ℕ) → Spells null x → octets ≡ x ++ rest → ⊥

-- what the reader of one field answers
abbrev pub Reads : {A : Type 0} → (A → Part) → (A → Bool) → Cursor → Option (A × Cursor) → Type 0
Reads of may from None = Misses of may from.depth from.left from.octets.now
Reads of may from (Some r) = Takes of may from.depth from.left from.octets.now r.0 r.1.depth r.1.left r.1.octets.now

abbrev pub ReadsAbsent : Cursor → Option Cursor → Type 0
ReadsAbsent from None = MissesAbsent from.left from.octets.now
ReadsAbsent from (Some r) = TakesAbsent from.depth from.left from.octets.now r.depth r.left r.octets.now

-- these octets are in front, and spell this value
pub record Passes (depth left : ℕ) (octets text : List ℕ) (value : Datum) (depth' left' : ℕ) (octets' : List ℕ) : Type 0 where
  pub spelled : SpellsWithin depth value text
  pub parts : octets ≡ text ++ octets'
  pub same_depth : depth' ≡ depth
  pub one : left' + 1 ≡ left

-- any value is first
abbrev pub ReadsValue : Cursor → Option (List ℕ × Cursor) → Type 0
ReadsValue from None = (v : Datum) (x rest : List ℕ) → 1 ≤ from.left → SpellsWithin from.depth v x → from.octets.now ≡ x ++ rest → ⊥
ReadsValue from (Some r) = Passes from.depth from.left from.octets.now r.0 (datum_in r.0) r.1.depth r.1.left r.1.octets.now
