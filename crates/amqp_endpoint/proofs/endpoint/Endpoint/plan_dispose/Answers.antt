use Rattle.std.proofs.Common.{sym}
use Rattle.amqp_steps.specs.Disposing.{said_in}
use Rattle.amqp_steps.proofs.Disposing.{plan_said}
use Rattle.amqp_steps.proofs.Sends.{none-due}
use Rattle.amqp_endpoint.proofs.endpoint.Endpoint.plan_dispose.Goals as goal

pub returns : goal.returns
returns c =
    let both = none-due _ _ _ (sym (rw (c.in_default.is, ← c.self.view_is) at c.refuse_dispose.ensures)) in
    rw (← c.self.view_is, c.in-Ok-write.ensures.1, c.dispose_body-body.ensures, c.new.ensures)
    (plan_said c.self.inside.steps c.self.inside.session c.self.inside.stores c.args.role (said_in c.args.said) c.in-Ok.sent c.in-Ok-kept.kept c.self.invariant both.0 both.1 c.in-Ok.ensures c.in-Ok-kept.ensures)
