use Rattle.std.proofs.Common.{◌≡◌}
use Rattle.amqp_bench.proofs.hand.Hand.carry_all.Given as goal

abbrev pub invariant-loop : goal.invariant-loop
invariant-loop g l = g.C.Operated.stays l.conn ≡ g.C.Operated.stays l.fn.conn
