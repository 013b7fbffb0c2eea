use Rattle.std.proofs.Common.{refl}
use Rattle.amqp_steps.proofs.Flows.{still-flow-plan}
use Rattle.amqp_endpoint.proofs.endpoint.Endpoint.check_still_flow.Goals as goal

pub returns : goal.returns
returns c =
    rw (← c.self.view_is)
    (still-flow-plan c.self.inside.steps c.self.inside.session c.self.inside.stores c.args.b.now _ c.self.invariant
    (rw (← c.self.view_is) at c.requires.takes) c.in-Some.ensures.0 (rw (← c.self.view_is) at c.requires.still)
    (rw (c.sends_echo-echo.ensures, c.session_flow-body.ensures, c.in-Some.ensures.1) refl))
