use Rattle.std.proofs.Common.{refl}
use Rattle.amqp_links.specs.Marks.{found_link}
use Rattle.amqp_links.proofs.Firsts.{called}
use Rattle.amqp_links.proofs.store.Store.by_peer_handle.Goals as goal

pub returns : goal.returns
returns c =
    rw (← c.self.view_is)
    (called found_link c.self.inside.slab c.self.inside.numbers c.self.inside.peers c.self.inside.made c.args.handle _ _ c.self.invariant
    (rw (c.copied.ensures, c.get.ensures.value) refl)
    c.standing.ensures)
