-- What a performative is called, and how many of its fields are written.
use Rattle.std.specs.Prelude.{ℕ, List, codes}
use Rattle.amqp_types.specs.Datum.{count_of}
use Rattle.amqp_performatives.specs.declared.performative.Performative.{Performative}
use Rattle.amqp_performatives.specs.declared.performative.Performative.TheVariants.{Open, Begin, Attach, Flow, Transfer, Disposition, Detach, End, Close}
use Rattle.amqp_performatives.specs.Part.{canonical_fields}
use Rattle.amqp_performatives.specs.Bodies.{fields_of}

-- the performative's name in the standard
abbrev pub name_of : Performative → List ℕ
name_of (Open b) = codes "open"
name_of (Begin b) = codes "begin"
name_of (Attach b) = codes "attach"
name_of (Flow b) = codes "flow"
name_of (Transfer b) = codes "transfer"
name_of (Disposition b) = codes "disposition"
name_of (Detach b) = codes "detach"
name_of (End b) = codes "end"
name_of (Close b) = codes "close"

-- how many fields there are up to the last that is present
abbrev pub field_count : Performative → ℕ
field_count p = count_of (canonical_fields (fields_of p))
