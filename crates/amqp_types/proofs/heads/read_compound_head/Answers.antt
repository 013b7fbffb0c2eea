use Rattle.std.proofs.Common.{arith, sym}
use Rattle.amqp_types.proofs.ListHeads.{compound_room}
use Rattle.amqp_types.proofs.heads.read_compound_head.Goals as goal

pub overflow_sub-end : goal.overflow_sub-end
overflow_sub-end c = omega (arith, c.requires, compound_room c.args.width c.args.body.now c.in-Some.count c.in-Some.content.now c.in-Some.after.now c.in-Some.ensures)

pub overflow_sub-result : goal.overflow_sub-result
overflow_sub-result c = omega (arith, c.requires, compound_room c.args.width c.args.body.now c.in-Some.count c.in-Some.content.now c.in-Some.after.now c.in-Some.ensures)

pub returns-in-Some : goal.returns-in-Some
returns-in-Some c =
    let room = compound_room c.args.width c.args.body.now c.in-Some.count c.in-Some.content.now c.in-Some.after.now c.in-Some.ensures in
    (c.in-Some.content.now, c.in-Some.after.now, sym c.in-Some.ensures, omega (arith, c.requires, room), omega (arith, c.requires, room))
