use Rattle.std.proofs.Common.{refl}
use Rattle.amqp_types.proofs.Views.{view_list, view_map, view_array}
use Rattle.amqp_types.proofs.write.shape_of.Goals as goal

pub returns-in-List : goal.returns-in-List
returns-in-List c = rw (c.in-List.is, view_list, c.as_slice-in-List.ensures) refl

pub returns-in-Map : goal.returns-in-Map
returns-in-Map c = rw (c.in-Map.is, view_map, c.as_slice-in-Map.ensures) refl

pub returns-in-Array : goal.returns-in-Array
returns-in-Array c = rw (c.in-Array.is, view_array, c.as_slice-in-Array.ensures) refl
