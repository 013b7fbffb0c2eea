use Rattle.std.proofs.Common.{refl}
use Rattle.amqp_steps.proofs.Flows.{link-flow-plan, marks-sending, told-by}
use Rattle.amqp_endpoint.proofs.endpoint.Endpoint.check_link_flow.Goals as goal

pub returns : goal.returns
returns c =
    rw (← c.self.view_is)
    (link-flow-plan c.self.inside.steps c.args.handle c.args.key c.self.inside.session c.self.inside.stores c.args.b.now c.args.l.now c.in-Some-heard_marks.marks _ c.self.invariant
    (rw (← c.self.view_is) at c.requires.takes) c.requires.names (rw (← c.self.view_is) at c.requires.called) c.in-Some.ensures.0
    c.in-Some-heard_marks.ensures.0 c.in-Some-heard_marks.ensures.1
    (marks-sending c.in-Some-heard_marks.marks c.args.b.now c.args.l.now c.requires.left c.in-Some-heard_marks.ensures.1)
    (rw (
      c.number.ensures,
      c.sends_echo-echo.ensures,
      c.in-Some.ensures.1,
      told-by c.in-Some.session _ _ _ c.flow_in_return-body.result c.flow_in_return-body.ensures c.in-Some.ensures.1 c.in-Some-heard_marks.ensures.1,
    ) refl))
