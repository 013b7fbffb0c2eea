use Rattle.std.proofs.Common.{refl}
use Rattle.amqp_rules.specs.View.{new_link}
use Rattle.amqp_links.specs.Credits.{role_of}
use Rattle.amqp_links.specs.Fate.{with_ours}
use Rattle.amqp_links.proofs.Indexing.{asked-indexed, back-indexed, reserved-indexed}
use Rattle.amqp_links.proofs.links.Links.ask.Goals as goal

pub invariant_of-self-in-Ok : goal.invariant_of-self-in-Ok
invariant_of-self-in-Ok c =
    let fit = rw (← c.self.view_is) at c.requires.fit in
    rw c.in-Ok.ensures.next
    (asked-indexed c.self.inside.names c.put.new.self c.reserve.new.self c.take.new.self c.self.inside.store
    (with_ours c.args.end c.args.marks.now c.args.resuming (new_link c.self.inside.store.made (role_of c.args.marks.now.credit) c.args.name)) c.args.end
    (reserved-indexed c.self.inside.names c.self.inside.handles c.reserve.new.self c.self.inside.store c.self.invariant c.in_ok-reserve.ensures.handled c.in_ok-reserve.ensures.next)
    c.rising.ensures refl fit (rw c.made-number.ensures at c.in_ok-put.ensures.ok) c.take.ensures.handled c.take.ensures.low)

pub invariant_of-self-in-Err : goal.invariant_of-self-in-Err
invariant_of-self-in-Err c =
    rw c.in-Err.ensures.err
    (back-indexed c.self.inside.names c.put.new.self c.remove.new.self c.reserve.new.self c.self.inside.store c.args.name
    (reserved-indexed c.self.inside.names c.self.inside.handles c.reserve.new.self c.self.inside.store c.self.invariant c.in_ok-reserve.ensures.handled c.in_ok-reserve.ensures.next)
    c.rising.ensures (rw c.made-number.ensures at c.in_ok-put.ensures.ok) (rw (c.made-number.ensures, c.in-Err.ensures.name) at c.remove.ensures))
