use Rattle.amqp_ready.proofs.Keeping.{kept-forgotten}
use Rattle.amqp_ready.proofs.lent.Lent.forget.Goals as goal

pub returns-clause-kept : goal.returns-clause-kept
returns-clause-kept c = kept-forgotten c.args.self.now.conn c.forget.new.self c.forget.ensures
