use Rattle.std.proofs.Common.{refl, sym}
use Rattle.amqp_links.specs.Fate.{with_ours}
use Rattle.amqp_links.specs.Marks.{found_link}
use Rattle.amqp_links.proofs.Indexing.{unchanged-without, attached-indexed, reserved-indexed}
use Rattle.amqp_links.proofs.links.Links.attach.Goals as goal

pub returns-in_default-clause-next : goal.returns-in_default-clause-next
returns-in_default-clause-next c =
    rw (← c.self.view_is, unchanged-without c.args.number (with_ours c.args.end c.args.marks.now c.args.resuming) c.self.inside.store.list (sym (rw c.in_default.is at c.by_number.ensures))) refl

pub invariant_of-self-2 : goal.invariant_of-self-2
invariant_of-self-2 c =
    let fit = rw (← c.self.view_is) at c.requires.fit in
    let found = sym c.in-Some.ensures in
    rw c.attach.ensures
    (attached-indexed c.self.inside.names c.reserve.new.self c.take.new.self c.self.inside.store c.args.number (found_link c.in-Some.found) c.args.end c.args.marks.now c.args.resuming
    (reserved-indexed c.self.inside.names c.self.inside.handles c.reserve.new.self c.self.inside.store c.self.invariant c.in_ok-reserve.ensures.handled c.in_ok-reserve.ensures.next)
    c.rising.ensures found (fit.1 (found_link c.in-Some.found) found) fit.0 c.take.ensures.handled c.take.ensures.low)
