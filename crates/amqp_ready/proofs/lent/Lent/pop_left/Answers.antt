use Rattle.amqp_ready.proofs.Keeping.{kept-gives}
use Rattle.amqp_ready.proofs.lent.Lent.pop_left.Goals as goal

pub returns-clause-kept : goal.returns-clause-kept
returns-clause-kept c = kept-gives c.args.self.now.conn c.pop_left.new.self c.pop_left.result c.pop_left.ensures.gives c.pop_left.ensures.unread c.pop_left.ensures.err
