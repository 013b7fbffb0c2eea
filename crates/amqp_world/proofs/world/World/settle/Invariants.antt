use Rattle.std.proofs.Common.{◌+◌, ◌-◌, ◌*◌}
use Rattle.amqp_laws.specs.Past.{past}
use Rattle.amqp_pair_laws.specs.Agreeing.{on_way}
use Rattle.amqp_world.specs.AtRest.{HaveHeard, IsBounded}
use Rattle.amqp_world.proofs.world.World.settle.Given as goal

abbrev pub invariant-loop-heard : goal.invariant-loop-heard
invariant-loop-heard l = HaveHeard l.heard l.initial.self l.self × IsBounded l.heard l.initial.self

abbrev pub decreases-loop-heard : goal.decreases-loop-heard
decreases-loop-heard l = 2 * on_way (past l.initial.self.a.journal) (past l.initial.self.b.journal) - (l.heard.a + l.heard.b)
