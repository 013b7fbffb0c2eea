use Rattle.amqp_rules.proofs.Same.{ops_alike}
use Rattle.amqp_journal.proofs.logged.is_same.Goals as goal

pub returns : goal.returns
returns c = rw c.eq.ensures (ops_alike c.args.own.now c.args.op.now)
