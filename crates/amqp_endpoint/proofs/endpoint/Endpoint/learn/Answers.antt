use Rattle.amqp_steps.specs.Doing.{learn_plan}
use Rattle.amqp_steps.specs.Plan.{view_of}
use Rattle.amqp_rules.specs.declared.op.Op.TheVariants as op
use Rattle.amqp_steps.proofs.Kept.{kept-after}
use Rattle.amqp_steps.proofs.Parted.{own-keeps}
use Rattle.amqp_endpoint.proofs.endpoint.Endpoint.learn.Goals as goal

pub invariant_of-self : goal.invariant_of-self
invariant_of-self c =
    let v = view_of c.self.inside.steps c.self.inside.session c.self.inside.stores in
    rw c.learn.ensures
    (kept-after c.self.inside.steps c.self.inside.session c.self.inside.stores (learn_plan v c.in-Ok.both.0 c.args.link c.in-Ok.both.1) (rw (← c.self.view_is) at c.requires) c.self.invariant (rw (← c.self.view_is) at c.in-Ok.ensures.sound)
    (own-keeps v (op.Learn c.args.link) (learn_plan v c.in-Ok.both.0 c.args.link c.in-Ok.both.1) (rw (← c.self.view_is) at c.in-Ok.ensures)))
