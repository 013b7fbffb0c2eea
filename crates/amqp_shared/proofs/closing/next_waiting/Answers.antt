use Rattle.std.proofs.Common.{arith, refl}
use Rattle.amqp_journal.specs.Units.{units}
use Rattle.amqp_shared.proofs.Numbering.{next-waiting, none-waits}
use Rattle.amqp_shared.proofs.closing.next_waiting.Goals as goal

pub returns-clause-unit : goal.returns-clause-unit
returns-clause-unit c =
    let log = c.args.conn.now.core.log in
    let some = c.in-Some.ensures.some in
    rw some.2 (next-waiting log.popped (units log) c.in-Some.unit some.0 some.1)

pub unreachable-requires : goal.unreachable-requires
unreachable-requires c =
    let log = c.args.conn.now.core.log in
    let none = c.in-None.ensures.none refl in
    let past = none-waits log.popped (units log) none.0 in
    omega (arith, past, c.requires)
