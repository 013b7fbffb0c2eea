use Rattle.std.proofs.Common.{refl}
use Rattle.amqp_types.proofs.Views.{view_map}
use Rattle.amqp_messages.proofs.lent.value_of.Goals as goal

pub returns-in_ok-pairs_of-in-Mapping : goal.returns-in_ok-pairs_of-in-Mapping
returns-in_ok-pairs_of-in-Mapping c = rw (c.in-Mapping.is, view_map, c.in_ok-pairs_of-in-Mapping.ensures) refl
