use Rattle.amqp_steps.specs.Attaching.{wanted_of}
use Rattle.amqp_steps.proofs.Attaches.{plan-attached}
use Rattle.amqp_endpoint.proofs.endpoint.Endpoint.plan_attach.Goals as goal

pub returns : goal.returns
returns c =
    let t = rw (← c.self.view_is) at c.in_ok-meeting.ensures in
    rw (c.in-Ok-write.ensures.1, c.new.ensures, c.in-Ok-attach_body.ensures, c.in-Ok-attached.ensures, c.in-Ok-resuming.ensures, c.in-Ok.ensures, ← c.self.view_is)
    (plan-attached c.self.inside.steps c.self.inside.session c.self.inside.stores (wanted_of c.args.wanted.now) c.in_ok-meeting.meeting c.self.invariant t)
