use Rattle.std.proofs.Common.{◌≡◌, drop}
use Rattle.amqp_deliveries.specs.Chain.{chain_of}
use Rattle.amqp_deliveries.proofs.chain.Chain.from.Given as goal

abbrev pub invariant-loop-before : goal.invariant-loop-before
invariant-loop-before l = drop l.before (chain_of l.chain) ≡ drop l.fn.from (chain_of l.fn.self)

abbrev pub decreases-loop-before : goal.decreases-loop-before
decreases-loop-before l = l.before
