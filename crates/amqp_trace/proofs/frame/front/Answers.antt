use Rattle.std.proofs.Common.{arith, sym, length-take}
use Rattle.std.proofs.lemmas.List.{take_all}
use Rattle.amqp_trace.proofs.frame.front.Goals as goal

pub slice_bounds-result-end : goal.slice_bounds-result-end
slice_bounds-result-end c = omega (arith, length-take 64 c.args.payload.now)

pub returns-else-payload-gt-SHOWN : goal.returns-else-payload-gt-SHOWN
returns-else-payload-gt-SHOWN c = sym (take_all 64 c.args.payload.now c.if-payload-gt-SHOWN.false)
