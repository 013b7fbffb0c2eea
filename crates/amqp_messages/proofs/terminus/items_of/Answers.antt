use Rattle.std.proofs.Common.{refl}
use Rattle.amqp_types.proofs.Views.{view_list}
use Rattle.amqp_messages.proofs.terminus.items_of.Goals as goal

pub returns-in-List : goal.returns-in-List
returns-in-List c = rw (c.in-List.is, view_list, c.as_slice.ensures) refl
