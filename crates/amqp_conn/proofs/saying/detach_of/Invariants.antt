use Rattle.amqp_journal.proofs.Placing.{IsPast}
use Rattle.amqp_conn.specs.Saying.{hears_detach}
use Rattle.amqp_conn.proofs.saying.detach_of.Given as goal

abbrev pub invariant-loop-place : goal.invariant-loop-place
invariant-loop-place l = IsPast (hears_detach l.link) l.entries l.place
