use Rattle.amqp_ready.proofs.Keeping.{kept-performs}
use Rattle.amqp_ready.proofs.lent.Lent.perform.Goals as goal

pub returns-clause-kept : goal.returns-clause-kept
returns-clause-kept c =
    kept-performs c.args.self.now.conn c.perform.new.self c.args.op c.perform.result c.recall.ensures.within c.recall.ensures.some c.perform.ensures.performs c.perform.ensures.unread
