-- Fields that are to be written.
use Rattle.std.specs.Prelude.{List, [], ◌∷◌}
use Rattle.amqp_performatives.specs.Part.{Part, Fields, absent, no_field}
use Rattle.amqp_performatives.specs.Bodies.{boolean, ubyte, uint, string, symbol, binary, mapping, any, ◌▸◌}
use Rattle.amqp_messages.specs.declared.lent.Lent.{Lent}
use Rattle.amqp_messages.specs.declared.lent.Lent.TheVariants as lent
use Rattle.amqp_messages.specs.Fields.{timestamp}

abbrev pub part_of : Lent → Part
part_of lent.Absent = absent
part_of (lent.Boolean b) = boolean b
part_of (lent.Ubyte n) = ubyte n
part_of (lent.Uint n) = uint n
part_of (lent.Timestamp z) = timestamp z
part_of (lent.Str text) = string text.now
part_of (lent.Symbol text) = symbol text.now
part_of (lent.Binary os) = binary os.now
part_of (lent.Mapping pairs) = mapping pairs.now
part_of (lent.Any v) = any v.now

abbrev pub fields_at : List Lent → Fields
fields_at [] = no_field
fields_at (f ∷ fs) = part_of f ▸ fields_at fs
