use Rattle.amqp_ready.proofs.Keeping.{kept-closes}
use Rattle.amqp_ready.proofs.lent.Lent.close.Goals as goal

pub returns-clause-kept : goal.returns-clause-kept
returns-clause-kept c = kept-closes c.args.self.now.conn c.close.new.self c.args.error c.close.result c.recall.ensures.some c.close.ensures.closes c.close.ensures.unread
