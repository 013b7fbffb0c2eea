use Rattle.std.proofs.Common.{refl}
use Rattle.amqp_links.specs.Marks.{with_marks}
use Rattle.amqp_links.proofs.Indexing.{still-indexed, one-alike}
use Rattle.amqp_links.proofs.links.Links.mark.Goals as goal

pub invariant_of-self : goal.invariant_of-self
invariant_of-self c =
    still-indexed c.self.inside.names c.self.inside.handles c.self.inside.store c.mark.new.self c.self.invariant
    (rw c.mark.ensures (one-alike c.args.number (with_marks c.args.marks.now) (λ l. refl) c.self.inside.store))
