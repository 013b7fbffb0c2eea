use Rattle.std.proofs.Common.{refl}
use Rattle.amqp_links.specs.Fate.{with_resumed}
use Rattle.amqp_links.proofs.Indexing.{still-indexed, one-alike}
use Rattle.amqp_links.proofs.links.Links.resume.Goals as goal

pub invariant_of-self : goal.invariant_of-self
invariant_of-self c =
    still-indexed c.self.inside.names c.self.inside.handles c.self.inside.store c.resume.new.self c.self.invariant
    (rw c.resume.ensures (one-alike c.args.number (with_resumed c.args.marks.now c.args.tag.now) (λ l. refl) c.self.inside.store))
