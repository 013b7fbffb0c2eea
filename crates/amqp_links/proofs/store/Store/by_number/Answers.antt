use Rattle.std.proofs.Common.{refl}
use Rattle.amqp_links.proofs.Stored.{by-number}
use Rattle.amqp_links.proofs.store.Store.by_number.Goals as goal

pub returns : goal.returns
returns c =
    rw (← c.self.view_is)
    (by-number c.self.inside.slab c.self.inside.numbers c.self.inside.peers c.self.inside.made c.args.number _ _ c.self.invariant
    (rw (c.copied.ensures, c.get.ensures.value) refl)
    c.standing.ensures)
