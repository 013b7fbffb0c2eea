use Rattle.std.proofs.Common.{◌-◌, take, drop, Some, subst}
use Rattle.std.specs.Prelude.{Err}
use Rattle.amqp_decoder.specs.declared.fault.BodyFault.{BodyFault}
use Rattle.amqp_decoder.specs.Slots.{LeavesFront}
use Rattle.amqp_frames.proofs.Performatives.{none_there, may_not}
use Rattle.amqp_frames.proofs.contents.read_contents.Goals as goal

pub returns-in-Err-NoBody : goal.returns-in-Err-NoBody
returns-in-Err-NoBody c =
    let s = c.args.piece.now in
    rw (← c.requires.same) (none_there _ c.if-is_empty.ensures
    (subst (λ (f : BodyFault). LeavesFront (take (c.args.end - c.args.start) (drop c.args.start s)) (Err f) c.read_performative_into.new.slot) c.in-Err-NoBody.field-0-is c.in-Err-NoBody.ensures))

pub returns-then-may_follow : goal.returns-then-may_follow
returns-then-may_follow c =
    let s = c.args.piece.now in
    let m = subst (λ (f : BodyFault). LeavesFront (take (c.args.end - c.args.start) (drop c.args.start s)) (Err f) c.read_performative_into.new.slot) c.in-Err-NoMemory.field-0-is c.in-Err-NoMemory.ensures in
    rw (← c.requires.same) (Some m.0, m.2, (m.1, m.3, (c.may_follow.ensures m.0 m.1 m.2 m.3 m.4).0 c.if-may_follow.true, m.4))

pub returns-else-may_follow : goal.returns-else-may_follow
returns-else-may_follow c = rw (← c.requires.same) (may_not _ c.if-is_empty.ensures c.if-may_follow.ensures)
