-- The termini of a link: source and target (part 3, 3.5.3 and 3.5.4).
use Rattle.std.specs.Prelude.{ℕ, ◌≡◌, IsTrue, Option, Some, None, List, codes}
use Rattle.amqp_types.specs.declared.class.Kind.TheVariants as Kind
use Rattle.amqp_types.specs.Datum.{Datum, number, list, described, Data}
use Rattle.amqp_performatives.specs.Part.{Part, Fields, composite, no_field, IsDescriptor}
use Rattle.amqp_performatives.specs.Bodies.{boolean, uint, optional, ◌▸◌}
use Rattle.amqp_messages.specs.declared.terminus.Source.{Source}
use Rattle.amqp_messages.specs.declared.terminus.Target.{Target}
use Rattle.amqp_messages.specs.Fields.{lent_symbol, lent_mapping, lent_any, where_lent}

-- the number and the name of the descriptor
abbrev pub source_type : ℕ × List ℕ
source_type = (0x28, codes "amqp:source:list")

abbrev pub target_type : ℕ × List ℕ
target_type = (0x29, codes "amqp:target:list")

abbrev pub source_fields : Source → Fields
source_fields s =
    lent_any s.address
    ▸ optional uint s.durable
    ▸ lent_symbol s.expiry_policy
    ▸ optional uint s.timeout
    ▸ optional boolean s.dynamic
    ▸ lent_mapping s.dynamic_node_properties
    ▸ lent_symbol s.distribution_mode
    ▸ lent_mapping s.filter
    ▸ lent_any s.default_outcome
    ▸ lent_any s.outcomes
    ▸ lent_any s.capabilities
    ▸ no_field

abbrev pub target_fields : Target → Fields
target_fields t =
    lent_any t.address
    ▸ optional uint t.durable
    ▸ lent_symbol t.expiry_policy
    ▸ optional uint t.timeout
    ▸ optional boolean t.dynamic
    ▸ lent_mapping t.dynamic_node_properties
    ▸ lent_any t.capabilities
    ▸ no_field

abbrev pub source_part : Source → Part
source_part s = composite source_type (source_fields s)

abbrev pub target_part : Target → Part
target_part t = composite target_type (target_fields t)

-- no present field is null
abbrev pub IsFairSource : Source → Type 0
IsFairSource s = IsTrue (where_lent s.address) × IsTrue (where_lent s.default_outcome) × IsTrue (where_lent s.outcomes) × IsTrue (where_lent s.capabilities)

abbrev pub IsFairTarget : Target → Type 0
IsFairTarget t = IsTrue (where_lent t.address) × IsTrue (where_lent t.capabilities)

-- ---- for private functions

abbrev pub numbered : ℕ → Datum
numbered n = number Kind.Ulong n

abbrev pub described_in : Datum → Option Datum
described_in (described d v) = Some (described d v)
described_in _ = None

abbrev pub list_in : Datum → Option Datum
list_in (list ds) = Some (list ds)
list_in _ = None

-- the value is the list of these values, described as the type says
abbrev pub IsListOf : ℕ × List ℕ → Datum → Data → Type 0
IsListOf type v ds = (d : Datum) × IsDescriptor type d × (v ≡ described d (list ds))

abbrev pub IsNoList : ℕ × List ℕ → Datum → Type 0
IsNoList type v = (ds : Data) → IsListOf type v ds → ⊥
