use Rattle.amqp_links.proofs.Indexing.{still-indexed}
use Rattle.amqp_links.proofs.links.Links.untell.Goals as goal

pub invariant_of-self : goal.invariant_of-self
invariant_of-self c = still-indexed c.self.inside.names c.self.inside.handles c.self.inside.store c.untell.new.self c.self.invariant c.untell.ensures.alike
