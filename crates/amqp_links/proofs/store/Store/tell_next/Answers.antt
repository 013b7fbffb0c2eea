use Rattle.std.proofs.Common.{refl}
use Rattle.amqp_links.proofs.Tellings.{told-next}
use Rattle.amqp_links.proofs.store.Store.tell_next.Goals as goal

pub returns-clause-next : goal.returns-clause-next
returns-clause-next c ts ls e =
    rw (c.in_ok-tell_one.ensures.next, told-next c.args.self.now c.args.telling ts ls c.tell_one.ensures.numbered e) refl
