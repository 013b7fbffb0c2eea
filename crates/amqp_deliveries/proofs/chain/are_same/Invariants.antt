use Rattle.std.proofs.Common.{◌≡◌, length, nat_eq}
use Rattle.std.specs.Cmp.Lexicographic.{pointwise}
use Rattle.amqp_deliveries.specs.Chain.{chain_of}
use Rattle.amqp_deliveries.proofs.chain.are_same.Given as goal

abbrev pub invariant-loop-ours : goal.invariant-loop-ours
invariant-loop-ours l = pointwise nat_eq (chain_of l.left) (chain_of l.right) ≡ pointwise nat_eq (chain_of l.fn.one) (chain_of l.fn.other)

abbrev pub decreases-loop-ours : goal.decreases-loop-ours
decreases-loop-ours l = length (chain_of l.left)
