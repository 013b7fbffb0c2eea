use Rattle.std.proofs.Common.{sym, ap}
use Rattle.amqp_types.proofs.Views.{view_map}
use Rattle.amqp_performatives.specs.Part.{value}
use Rattle.amqp_decoder.proofs.parts.pairs_of.Goals as goal

pub returns-in-Map : goal.returns-in-Map
returns-in-Map c = rw (c.replace.ensures.value, c.in-Map.pairs-is, c.in-Map.is) (ap value (sym (view_map c.in-Map.pairs)))
