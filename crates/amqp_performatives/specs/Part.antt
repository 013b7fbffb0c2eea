-- What a composite type says of a value (part 1, 1.4): a described list of fields, in which trailing absent fields may be left off.
use Rattle.std.specs.Prelude.{ℕ, ◌≡◌, List, ◌⊎◌}
use Rattle.amqp_types.specs.declared.class.Kind.TheVariants as Kind
use Rattle.amqp_types.specs.declared.class.Run.TheVariants as Run
use Rattle.amqp_types.specs.Datum.{Datum, number, octets, list, described, Data, none, item}

mutual
  pub data Part : Type 0 where
    -- a field that is not there
    absent : Part
    -- just this value
    value : Datum → Part
    -- a described list; its type is the number and the name of its descriptor
    composite : ℕ × List ℕ → Fields → Part

  pub data Fields : Type 0 where
    no_field : Fields
    field : Part → Fields → Fields

abbrev pub null : Datum
null = number Kind.Null 0

abbrev pub AllNull : Data → Type 0
AllNull none = Unit {0}
AllNull (item d ds) = (d ≡ null) × AllNull ds

-- the value is the descriptor of the type: its number, or the symbol that is its name
abbrev pub IsDescriptor : ℕ × List ℕ → Datum → Type 0
IsDescriptor type d = (d ≡ number Kind.Ulong type.0) ⊎ (d ≡ octets Run.Symbol type.1)

abbrev mutual
  -- the value is the part
  pub Fits : Part → Datum → Type 0
  Fits absent d = d ≡ null
  Fits (value w) d = d ≡ w
  Fits (composite type fs) d = (descriptor : Datum) × (ds : Data) × IsDescriptor type descriptor × FitInOrder fs ds × (d ≡ described descriptor (list ds))

  -- the values are the fields in their order; those left off are absent, and those past the last are null
  pub FitInOrder : Fields → Data → Type 0
  FitInOrder no_field ds = AllNull ds
  FitInOrder (field p fs) none = (p ≡ absent) × FitInOrder fs none
  FitInOrder (field p fs) (item d ds) = Fits p d × FitInOrder fs ds

-- a field, or null before a field that is there; nothing after the last that is there
abbrev pub shown : Part → Datum → Data → Data
shown absent d none = none
shown absent d (item e ds) = item d (item e ds)
shown (value w) d ds = item d ds
shown (composite type fs) d ds = item d ds

abbrev mutual
  -- the value that is written for the part
  pub canonical : Part → Datum
  canonical absent = null
  canonical (value w) = w
  canonical (composite type fs) = described (number Kind.Ulong type.0) (list (canonical_fields fs))

  -- absent fields at the end are left off
  pub canonical_fields : Fields → Data
  canonical_fields no_field = none
  canonical_fields (field p fs) = shown p (canonical p) (canonical_fields fs)
