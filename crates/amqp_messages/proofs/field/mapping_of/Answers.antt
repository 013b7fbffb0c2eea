use Rattle.std.proofs.Common.{refl}
use Rattle.amqp_types.proofs.Views.{view_map}
use Rattle.amqp_messages.proofs.field.mapping_of.Goals as goal

pub returns-in-Map : goal.returns-in-Map
returns-in-Map c = rw (c.in-Map.is, view_map, c.as_slice.ensures) refl
