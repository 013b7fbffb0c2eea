use Rattle.std.proofs.Common.{refl}
use Rattle.amqp_links.specs.Fate.{with_heard}
use Rattle.amqp_links.proofs.Indexing.{either-indexed, one-alike}
use Rattle.amqp_links.proofs.links.Links.hear.Goals as goal

pub invariant_of-self : goal.invariant_of-self
invariant_of-self c =
    either-indexed c.hear.result c.self.inside.names c.self.inside.handles c.self.inside.store _ c.hear.new.self c.self.invariant
    (one-alike c.args.number (with_heard c.args.marks.now c.args.piece) (λ l. refl) c.self.inside.store) c.hear.ensures.next c.hear.ensures.err
