use Rattle.std.proofs.Common.{refl}
use Rattle.amqp_rules.specs.View.{new_link}
use Rattle.amqp_links.specs.Credits.{role_of}
use Rattle.amqp_links.specs.Fate.{with_theirs}
use Rattle.amqp_links.proofs.Indexing.{offered-indexed, back-indexed}
use Rattle.amqp_links.proofs.links.Links.offer.Goals as goal

pub invariant_of-self-in-Ok : goal.invariant_of-self-in-Ok
invariant_of-self-in-Ok c =
    rw c.in-Ok.ensures.next
    (offered-indexed c.self.inside.names c.put.new.self c.self.inside.handles c.self.inside.store
    (with_theirs c.args.end c.args.marks.now c.args.resuming (new_link c.self.inside.store.made (role_of c.args.marks.now.credit) c.args.name)) c.self.invariant refl
    (rw c.made-number.ensures at c.in_ok-put.ensures.ok))

pub invariant_of-self-in-Err : goal.invariant_of-self-in-Err
invariant_of-self-in-Err c =
    rw c.in-Err.ensures.err
    (back-indexed c.self.inside.names c.put.new.self c.remove.new.self c.self.inside.handles c.self.inside.store c.args.name c.self.invariant c.rising.ensures
    (rw c.made-number.ensures at c.in_ok-put.ensures.ok) (rw (c.made-number.ensures, c.in-Err.ensures.name) at c.remove.ensures))
