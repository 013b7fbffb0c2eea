use Rattle.std.proofs.Common.{refl, ◌∙◌}
use Rattle.amqp_frames.proofs.Slots.{bad_slot, refused_slot, with_slot, left_over, sliced}
use Rattle.amqp_frames.proofs.contents.read_payload.Goals as goal

pub returns-then-not-holds_transfer : goal.returns-then-not-holds_transfer
returns-then-not-holds_transfer c =
    bad_slot c.args.slot.now.body _ _ c.requires.front c.if-not-holds_transfer.ensures (left_over c.args.octets.now c.args.start c.args.end c.args.size c.requires.order c.requires.within c.requires.spelled c.if-start-size.false)

pub returns-in-Ok : goal.returns-in-Ok
returns-in-Ok c =
    (refl, with_slot c.args.slot.now.body _ _ c.args.size c.requires.front c.if-not-holds_transfer.ensures (c.in-Ok.ensures ∙ sliced c.args.octets.now c.args.start c.args.end c.args.size c.requires.order c.requires.spelled))

pub returns-in-Err : goal.returns-in-Err
returns-in-Err c = refused_slot c.args.slot.now.body _ _ c.requires.front c.if-not-holds_transfer.ensures
