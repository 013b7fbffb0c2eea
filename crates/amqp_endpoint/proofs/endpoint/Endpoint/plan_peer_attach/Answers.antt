use Rattle.std.proofs.Common.{sym}
use Rattle.amqp_steps.proofs.Answering.{answering-plan}
use Rattle.amqp_endpoint.proofs.endpoint.Endpoint.plan_peer_attach.Goals as goal

pub returns-in-Ok-resuming_by_peer : goal.returns-in-Ok-resuming_by_peer
returns-in-Ok-resuming_by_peer c =
    rw (← c.self.view_is)
    (answering-plan c.self.inside.steps c.self.inside.session c.self.inside.stores c.args.b.now c.in-Some-answered_link.on c.plan_quiet.result
    (sym (rw (c.in_default.is, ← c.self.view_is) at c.attach_violation.ensures))
    (rw (← c.self.view_is) at c.in-Some-answered_link.ensures)
    c.self.invariant
    (rw (c.in-Ok.ensures, c.in-Ok-resuming_by_peer.ensures) at c.plan_quiet.ensures))
