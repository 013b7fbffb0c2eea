use Rattle.std.proofs.Common.{arith}
use Rattle.amqp_shared.proofs.writer.WriterEnd.take.Goals as goal

pub overflow_add-self : goal.overflow_add-self
overflow_add-self g c =
    let some = c.in-Some.ensures.some in
    omega (arith, c.self.invariant.0, some.1, some.2)
