use Rattle.std.proofs.Common.{refl}
use Rattle.amqp_rules.specs.Take.{taken_from}
use Rattle.amqp_links.proofs.Indexing.{still-indexed, one-alike}
use Rattle.amqp_links.proofs.links.Links.take.Goals as goal

pub invariant_of-self : goal.invariant_of-self
invariant_of-self c =
    still-indexed c.self.inside.names c.self.inside.handles c.self.inside.store c.take.new.self c.self.invariant
    (rw c.take.ensures (one-alike c.args.number taken_from (λ l. refl) c.self.inside.store))
