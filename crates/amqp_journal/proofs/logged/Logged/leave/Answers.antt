use Rattle.amqp_journal.proofs.Keeping.{on-ok, leaving-parts}
use Rattle.amqp_journal.proofs.logged.Logged.leave.Goals as goal

pub returns-clause-ok : goal.returns-clause-ok
returns-clause-ok c =
    on-ok
    c.leave_all.result
    (leaving-parts
    c.args.self.now
    c.self.inside.config
    c.self.inside.gone.items
    c.self.inside.journal.items
    c.self.inside.put.items
    c.self.inside.popped
    c.self.inside.left.items
    c.leave_all.new.left.items
    c.self.inside.endpoint
    c.self.inside.waiting.items
    c.self.view_is
    c.self.invariant.0)
    c.leave_all.ensures.ok
