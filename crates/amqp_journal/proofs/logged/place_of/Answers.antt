use Rattle.std.proofs.Common.{rules, ◌≡◌, ◌<◌, length, true, slice_index_or}
use Rattle.amqp_journal.specs.Log.{is_left_by}
use Rattle.amqp_journal.proofs.Placing.{past-found}
use Rattle.amqp_journal.proofs.logged.place_of.Goals as goal

pub returns-then-is_left_by-clause-found : goal.returns-then-is_left_by-clause-found
returns-then-is_left_by-clause-found c =
    let here : is_left_by c.args.role c.args.link (slice_index_or c.args.left.now.items c.loop-place.place c.index.result.now) ≡ true = search rules in
    let within : c.loop-place.place < length c.args.left.now.items = search rules in
    (past-found (is_left_by c.args.role c.args.link) c.args.left.now.items c.loop-place.place c.index.result.now within here c.loop-place.invariant).0

pub returns-then-is_left_by-clause-removed : goal.returns-then-is_left_by-clause-removed
returns-then-is_left_by-clause-removed c =
    let here : is_left_by c.args.role c.args.link (slice_index_or c.args.left.now.items c.loop-place.place c.index.result.now) ≡ true = search rules in
    let within : c.loop-place.place < length c.args.left.now.items = search rules in
    (past-found (is_left_by c.args.role c.args.link) c.args.left.now.items c.loop-place.place c.index.result.now within here c.loop-place.invariant).1
