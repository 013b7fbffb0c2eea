use Rattle.std.proofs.Common.{rules}
use Rattle.amqp_steps.proofs.Answering.{plan-gone, plan-gone-told}
use Rattle.amqp_endpoint.proofs.endpoint.Endpoint.plan_peer_detach.Goals as goal

pub returns-then-not-parting : goal.returns-then-not-parting
returns-then-not-parting c =
    let t = rw (← c.self.view_is) at c.in_ok-parting.ensures in
    rw (← c.self.view_is, c.plan_quiet.ensures)
    (plan-gone c.self.inside.steps c.self.inside.session c.self.inside.stores c.args.body.now c.in_ok-parting.parting c.self.invariant t (search rules))

pub returns : goal.returns
returns c =
    let t = rw (← c.self.view_is) at c.in_ok-parting.ensures in
    rw (← c.self.view_is)
    (plan-gone-told c.self.inside.steps c.self.inside.session c.self.inside.stores c.args.body.now c.in_ok-parting.parting c.in-Ok.given c.plan_answering.result c.self.invariant t (search rules) (rw (← c.self.view_is) at c.in-Ok.ensures) c.plan_answering.ensures)
