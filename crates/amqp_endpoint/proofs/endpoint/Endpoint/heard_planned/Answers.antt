use Rattle.amqp_steps.proofs.Parted.{body-keeps}
use Rattle.amqp_endpoint.proofs.endpoint.Endpoint.heard_planned.Goals as goal

pub follow-requires-clause-apart : goal.follow-requires-clause-apart
follow-requires-clause-apart c = body-keeps c.args.self.now c.args.frame.now.body c.args.frame.now.payload c.in-Ok.plan c.in-Ok.ensures
