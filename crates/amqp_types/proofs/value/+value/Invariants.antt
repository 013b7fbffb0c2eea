use Rattle.std.proofs.Common.{◌≡◌, take}
use Rattle.amqp_types.proofs.value.+value.Given as goal

abbrev pub invariant-clone_items-loop-value : goal.invariant-clone_items-loop-value
invariant-clone_items-loop-value l = l.items.items ≡ take l.value-index l.value-items

abbrev pub invariant-clone_pairs-loop-pair : goal.invariant-clone_pairs-loop-pair
invariant-clone_pairs-loop-pair l = l.items.items ≡ take l.pair-index l.pair-items
