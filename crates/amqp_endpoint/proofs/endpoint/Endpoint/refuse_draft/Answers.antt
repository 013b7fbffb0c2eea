use Rattle.std.proofs.Common.{◌∙◌}
use Rattle.amqp_steps.specs.Plan.{view_of}
use Rattle.amqp_steps.proofs.Sends.{draft-refused}
use Rattle.amqp_endpoint.proofs.endpoint.Endpoint.refuse_draft.Goals as goal

pub returns-in-Ok : goal.returns-in-Ok
returns-in-Ok c answer after d =
    c.sending_refusal.ensures
    ∙ draft-refused (view_of c.self.inside.steps c.self.inside.session c.self.inside.stores) answer after _ _ _ (rw (c.in-Ok.is, ← c.self.view_is) at d)
