use Rattle.std.proofs.Common.{sym, ◌∙◌, refl, length, take}
use Rattle.std.proofs.lemmas.Option.{slice_get_read}
use Rattle.amqp_laws.specs.Past.{past}
use Rattle.amqp_pair_laws.specs.Moves.{count}
use Rattle.amqp_pair_laws.specs.World.{sends}
use Rattle.amqp_world.proofs.Places.{count-past, none-there, said-there}
use Rattle.amqp_world.proofs.next.next_frame.Goals as goal

pub loop-i-preserved : goal.loop-i-preserved
loop-i-preserved c =
    let entries = c.args.entries.now in
    let there = slice_get_read entries (length entries) c.loop-i.i c.index-entries-i.result refl c.loop-i-test.true c.index-entries-i.is in
    count-past sends entries c.loop-i.i c.index-entries-i.result there (sym c.in_default.ensures) ∙ c.loop-i.invariant

pub returns-in-Some-clause-next : goal.returns-in-Some-clause-next
returns-in-Some-clause-next c =
    let entries = c.args.entries.now in
    let there = slice_get_read entries (length entries) c.loop-i.i c.index-entries-i.result refl c.loop-i-test.true c.index-entries-i.is in
    sym (said-there sends (count sends (past (take c.args.place.now entries))) entries c.loop-i.i c.index-entries-i.result c.in-Some.frame.now c.loop-i.invariant there (sym c.in-Some.ensures))

pub returns-in-Some-clause-there : goal.returns-in-Some-clause-there
returns-in-Some-clause-there c =
    let entries = c.args.entries.now in
    let there = slice_get_read entries (length entries) c.loop-i.i c.index-entries-i.result refl c.loop-i-test.true c.index-entries-i.is in
    (c.index-entries-i.result, there, sym c.in-Some.ensures)

pub returns-clause-next : goal.returns-clause-next
returns-clause-next c = sym (none-there sends (count sends (past (take c.args.place.now c.args.entries.now))) c.args.entries.now c.loop-i.i c.loop-i-test.false c.loop-i.invariant)
