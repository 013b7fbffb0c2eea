use Rattle.std.proofs.Common.{refl}
use Rattle.amqp_rules.specs.Learn.{learnt_from}
use Rattle.amqp_links.proofs.Indexing.{still-indexed, one-alike}
use Rattle.amqp_links.proofs.links.Links.learn.Goals as goal

pub invariant_of-self : goal.invariant_of-self
invariant_of-self c =
    still-indexed c.self.inside.names c.self.inside.handles c.self.inside.store c.learn.new.self c.self.invariant
    (rw c.learn.ensures (one-alike c.args.number learnt_from (λ l. refl) c.self.inside.store))
