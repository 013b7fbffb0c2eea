use Rattle.std.proofs.Common.{◌≡◌, ◌++◌}
use Rattle.std.specs.BTreeMap.{values}
use Rattle.amqp_links.specs.Left.{left_under}
use Rattle.amqp_links.proofs.left.left_under.Given as goal

abbrev pub invariant-loop-key : goal.invariant-loop-key
invariant-loop-key l = l.left.items ++ left_under l.slab l.key-iterator ≡ left_under l.slab (values l.numbers)
