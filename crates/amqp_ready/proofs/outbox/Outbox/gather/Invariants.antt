use Rattle.amqp_conn.specs.Pumping.{OnlyWrote}
use Rattle.amqp_ready.specs.Gathering.{Gathers}
use Rattle.amqp_ready.proofs.outbox.Outbox.gather.Given as goal

abbrev pub invariant-loop : goal.invariant-loop
invariant-loop l = Gathers l.fn.self l.fn.conn l.self l.conn × OnlyWrote l.fn.conn l.conn
