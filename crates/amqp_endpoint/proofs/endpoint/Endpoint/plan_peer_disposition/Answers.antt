use Rattle.std.proofs.Common.{rules}
use Rattle.amqp_steps.proofs.Heard.{plan_heard}
use Rattle.amqp_endpoint.proofs.endpoint.Endpoint.plan_peer_disposition.Goals as goal

pub returns : goal.returns
returns c =
    rw (← c.self.view_is)
    (plan_heard c.self.inside.steps c.self.inside.session c.self.inside.stores c.args.body.now c.opposite.result c.in-Ok.said c.plan_quiet.result c.self.invariant
    (search rules) (search rules) c.in-Ok.ensures c.opposite.ensures c.plan_quiet.ensures)
