-- The plain data of a value as the writer sees it.
use Rattle.amqp_types.specs.declared.write.Shape.{Shape}
use Rattle.amqp_types.specs.declared.write.Shape.TheVariants as shape
use Rattle.amqp_types.specs.Datum.{Datum, number, octets, list, map, array, described}
use Rattle.amqp_types.specs.View.{view, views, views_of_pairs}

abbrev pub datum_of : Shape → Datum
datum_of (shape.Number k n) = number k n
datum_of (shape.Octets r text) = octets r text.now
datum_of (shape.List values) = list (views values.now)
datum_of (shape.Map pairs) = map (views_of_pairs pairs.now)
datum_of (shape.Array code values) = array code (views values.now)
datum_of (shape.Described descriptor value) = described (view descriptor.now) (view value.now)
