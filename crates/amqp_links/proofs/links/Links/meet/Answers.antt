use Rattle.std.proofs.Common.{refl}
use Rattle.amqp_links.specs.Fate.{with_theirs}
use Rattle.amqp_rules.specs.Detach.{left_by_us}
use Rattle.amqp_links.proofs.Indexing.{still-indexed, either-indexed, one-alike}
use Rattle.amqp_links.proofs.links.Links.meet.Goals as goal

pub invariant_of-self : goal.invariant_of-self
invariant_of-self c =
    either-indexed c.answer.result c.self.inside.names c.self.inside.handles c.self.inside.store _ c.answer.new.self c.self.invariant
    (one-alike c.in-Theirs.number (with_theirs c.in-Theirs.end c.in-Theirs.marks c.in-Theirs.resuming) (λ l. refl) c.self.inside.store) c.answer.ensures.next c.answer.ensures.err

pub invariant_of-self-in-Left : goal.invariant_of-self-in-Left
invariant_of-self-in-Left c =
    still-indexed c.self-in-Left.inside.names c.self-in-Left.inside.handles c.self-in-Left.inside.store c.leave.new.self c.self-in-Left.invariant
    (rw c.leave.ensures (one-alike c.in-Left.number left_by_us (λ l. refl) c.self-in-Left.inside.store))
