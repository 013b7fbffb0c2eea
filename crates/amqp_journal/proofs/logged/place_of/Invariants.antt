use Rattle.amqp_journal.specs.Log.{is_left_by}
use Rattle.amqp_journal.proofs.Placing.{IsPast}
use Rattle.amqp_journal.proofs.logged.place_of.Given as goal

abbrev pub invariant-loop-place : goal.invariant-loop-place
invariant-loop-place l = IsPast (is_left_by l.role l.link) l.left.items l.place
