use Rattle.std.proofs.Common.{length, ap, arith, length-drop}
use Rattle.amqp_deliveries.specs.Chain.{chain_of}
use Rattle.amqp_deliveries.proofs.partial.Parts.slice_from.Goals as goal

pub returns-in-None-clause-some : goal.returns-in-None-clause-some
returns-in-None-clause-some c = λ h.
    let all = chain_of c.chain.result in
    let left = length-drop c.args.from all in
    let from = ap length c.from.ensures in
    let none = ap length c.in-None.ensures.none in
    let same = ap length c.chain.ensures in
    omega (arith, left, from, none, same, h)
