use Rattle.amqp_links.proofs.Stored.{within}
use Rattle.amqp_links.proofs.store.Store.rising.Goals as goal

pub returns : goal.returns
returns c =
    rw (← c.self.view_is) (within c.self.inside.slab c.self.inside.numbers c.self.inside.peers c.self.inside.made c.self.invariant)
