use Rattle.amqp_steps.proofs.Parted.{own-keeps}
use Rattle.amqp_endpoint.proofs.endpoint.Endpoint.own_planned.Goals as goal

pub follow-requires-clause-apart : goal.follow-requires-clause-apart
follow-requires-clause-apart c = own-keeps c.args.self.now c.args.op.now c.in-Ok.plan c.in-Ok.ensures
