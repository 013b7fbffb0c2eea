use Rattle.std.proofs.Common.{sym, ap, ◌∙◌}
use Rattle.amqp_links.specs.Index.{stands_as}
use Rattle.amqp_links.specs.Marks.{found_link}
use Rattle.amqp_links.proofs.Firsts.{first-in}
use Rattle.amqp_links.proofs.Indexing.{numbered-within}
use Rattle.amqp_links.proofs.Sought.{seek, seek-start, seek-at, stands-named}
use Rattle.amqp_links.proofs.links.Links.first.Goals as goal

pub loop-number-init : goal.loop-number-init
loop-number-init c =
    let test = stands_as c.args.standing c.args.role c.args.name.now in
    rw (← c.self.view_is)
    (seek-start test c.args.name.now c.self.inside.store.list (stands-named c.args.standing c.args.role c.args.name.now) (numbered-within c.self.inside.store.list 0 c.self.inside.store.made c.rising.ensures)
    ∙ ap (seek test c.self.inside.store.list) (sym (c.under-number-items.ensures ∙ c.self.invariant.named c.args.name.now)))

pub returns-then-stands_as : goal.returns-then-stands_as
returns-then-stands_as c =
    let test = stands_as c.args.standing c.args.role c.args.name.now in
    rw (← c.self.view_is)
    (first-in test (found_link c.in-Some.found) c.self.inside.store.list 0 (numbered-within c.self.inside.store.list 0 c.self.inside.store.made c.rising.ensures)
    (seek-at test c.self.inside.store.list c.under-number-items.result.now c.loop-number.number-index (found_link c.in-Some.found)
    (rw (← c.self.view_is) at c.loop-number.invariant) c.loop-number-test.true (sym c.in-Some.ensures)
    (rw (← c.stands_as.ensures) c.if-stands_as.true)))
