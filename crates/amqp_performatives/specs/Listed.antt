-- The fields of a composite, one after the other, as a writer goes over them.
use Rattle.std.specs.Prelude.{Bool, true, false, List, [], ◌∷◌}
use Rattle.amqp_types.specs.Datum.{Data}
use Rattle.amqp_performatives.specs.declared.field.Field.{Field}
use Rattle.amqp_performatives.specs.declared.field.Field.TheVariants as field
use Rattle.amqp_performatives.specs.Part.{Part, Fields, absent, value, composite, no_field, canonical_fields}
use Rattle.amqp_performatives.specs.Bodies.{boolean, ubyte, ushort, uint, ulong, binary, string, symbol, mapping, any, error, state, ◌▸◌}

abbrev pub part_at : Field → Part
part_at field.Absent = absent
part_at (field.Boolean b) = boolean b
part_at (field.Ubyte n) = ubyte n
part_at (field.Ushort n) = ushort n
part_at (field.Uint n) = uint n
part_at (field.Ulong n) = ulong n
part_at (field.Binary os) = binary os.now
part_at (field.Str text) = string text.now
part_at (field.Symbol text) = symbol text.now
part_at (field.Mapping pairs) = mapping pairs.now
part_at (field.Any v) = any v.now
part_at (field.State s) = state s.now
part_at (field.Failure e) = error e.now

abbrev pub fields_at : List Field → Fields
fields_at [] = no_field
fields_at (f ∷ fs) = part_at f ▸ fields_at fs

-- the fields that are written, and the value that they are described as
abbrev pub shown_fields : List Field → Data
shown_fields fs = canonical_fields (fields_at fs)

abbrev pub is_absent : Part → Bool
is_absent absent = true
is_absent (value d) = false
is_absent (composite type fs) = false
