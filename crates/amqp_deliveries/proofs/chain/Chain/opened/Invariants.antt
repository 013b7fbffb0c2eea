use Rattle.std.proofs.Common.{◌≡◌, length}
use Rattle.amqp_deliveries.specs.Chain.{chain_of}
use Rattle.amqp_deliveries.proofs.chain.Chain.opened.Given as goal

abbrev pub invariant-loop-chain : goal.invariant-loop-chain
invariant-loop-chain l = chain_of l.chain ≡ chain_of l.fn.self

abbrev pub decreases-loop-chain : goal.decreases-loop-chain
decreases-loop-chain l = length l.chain.rest.now
