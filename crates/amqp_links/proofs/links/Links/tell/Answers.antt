use Rattle.std.proofs.Common.{refl}
use Rattle.amqp_links.specs.Fate.{links_told}
use Rattle.amqp_links.proofs.Indexing.{either-indexed, told-alike}
use Rattle.amqp_links.proofs.links.Links.tell.Goals as goal

pub invariant_of-self : goal.invariant_of-self
invariant_of-self c =
    either-indexed c.tell.result c.self.inside.names c.self.inside.handles c.self.inside.store (links_told c.args.told.items c.self.inside.store) c.tell.new.self c.self.invariant
    (record { list = told-alike c.args.told.items c.self.inside.store.list; made = refl }) c.tell.ensures.next c.tell.ensures.err
