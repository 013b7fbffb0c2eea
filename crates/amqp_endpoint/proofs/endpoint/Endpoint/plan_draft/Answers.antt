use Rattle.std.proofs.Common.{Ok, refl}
use Rattle.amqp_steps.specs.Plan.{view_of}
use Rattle.amqp_steps.proofs.Sends.{draft-plans}
use Rattle.amqp_endpoint.proofs.endpoint.Endpoint.plan_draft.Goals as goal

pub returns-in-Ok-write_sharing : goal.returns-in-Ok-write_sharing
returns-in-Ok-write_sharing c answer after d =
    rw (← c.self.view_is)
    (draft-plans (view_of c.self.inside.steps c.self.inside.session c.self.inside.stores) answer after c.in-Ok.draft.body c.args.payload.now _ (Ok _) (rw (c.in-Ok.is, ← c.self.view_is) at d)
    (c.in-Ok-write_sharing.ensures.0, rw c.in-Ok-write_sharing.ensures.1 refl))
