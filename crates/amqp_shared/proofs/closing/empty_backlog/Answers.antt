use Rattle.std.proofs.Common.{◌++◌, arith, sym, ap, ◌∙◌, append-nil}
use Rattle.amqp_journal.specs.Units.{units}
use Rattle.amqp_shared.proofs.Numbering.{waiting-none}
use Rattle.amqp_shared.proofs.closing.empty_backlog.Goals as goal

pub returns-clause-items : goal.returns-clause-items
returns-clause-items c =
    let was = c.loop-i.invariant in
    let log = c.loop-i.conn.core.log in
    let none = waiting-none log.popped (units log) (omega (arith, was.1, c.loop-i-test.false)) in
    sym (ap (λ w. c.loop-i.left.items ++ w) none ∙ append-nil c.loop-i.left.items) ∙ was.0
