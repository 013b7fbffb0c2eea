use Rattle.std.proofs.Common.{◌≡◌, ◌++◌}
use Rattle.std.specs.BTreeMap.{values}
use Rattle.amqp_deliveries.specs.Held.{items_of}
use Rattle.amqp_links.specs.Rejoining.{aside_on}
use Rattle.amqp_links.specs.Left.{under}
use Rattle.amqp_links.proofs.rejoining.aside_under.Given as goal

abbrev pub invariant-loop-key : goal.invariant-loop-key
invariant-loop-key l = l.aside.items ++ under (aside_on l.role (items_of l.held)) l.slab l.key-iterator ≡ under (aside_on l.role (items_of l.held)) l.slab (values l.numbers)
