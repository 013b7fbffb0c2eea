use Rattle.std.proofs.Common.{rules}
use Rattle.amqp_journal.proofs.Counting.{counted-more}
use Rattle.amqp_journal.proofs.logged.queue.Goals as goal

pub returns-in-Some-clause-counted : goal.returns-in-Some-clause-counted
returns-in-Some-clause-counted c = λ h.
    counted-more
    c.args.octets.now
    c.len.result
    c.saturating_add.result
    c.args.waiting.now.items
    c.push_back_reserved.new.self.items
    c.in-Some.bytes
    h
    (search rules)
    c.len.ensures
    c.len.type_inv
    c.saturating_add.ensures
    c.push_back_reserved.ensures.items
