use Rattle.std.specs.Prelude.{◌≡◌}
use Rattle.amqp_shared.specs.Consuming.{ConsumesLeft}
use Rattle.amqp_shared.proofs.consumers.consume_left.Given as goal

abbrev pub invariant-loop : goal.invariant-loop
invariant-loop g l = ConsumesLeft g.W.Work.consumes l.link l.count l.initial.work l.work × (l.count ≡ l.counter)
