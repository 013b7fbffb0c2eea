use Rattle.std.proofs.Common.{refl, ◌∙◌}
use Rattle.amqp_steps.specs.Carrying.{carry_plan}
use Rattle.amqp_steps.specs.Plan.{view_of}
use Rattle.amqp_rules.specs.declared.op.Op.TheVariants as op
use Rattle.amqp_steps.proofs.Carried.{carried-done}
use Rattle.amqp_steps.proofs.Kept.{kept-after}
use Rattle.amqp_steps.proofs.Parted.{own-keeps}
use Rattle.amqp_endpoint.proofs.endpoint.Endpoint.carry.Goals as goal

pub invariant_of-self : goal.invariant_of-self
invariant_of-self c =
    let v = view_of c.self.inside.steps c.self.inside.session c.self.inside.stores in
    rw (c.sent-self-inside.ensures, c.mark.ensures)
    (kept-after c.self.inside.steps c.self.inside.session c.self.inside.stores (carry_plan v c.args.link c.in-Ok.c) (rw (← (c.self.view_is ∙ c.make_carry.ensures.same)) at c.requires) c.self.invariant (rw (← (c.self.view_is ∙ c.make_carry.ensures.same)) at c.in-Ok.ensures.plan.sound)
    (own-keeps v (op.Carry c.args.link c.args.payload.now c.args.more) (carry_plan v c.args.link c.in-Ok.c)
    (rw (← (c.self.view_is ∙ c.make_carry.ensures.same)) at c.in-Ok.ensures.plan)))

pub returns-clause-done : goal.returns-clause-done
returns-clause-done c =
    let v = view_of c.self.inside.steps c.self.inside.session c.self.inside.stores in
    rw (← (c.self.view_is ∙ c.make_carry.ensures.same))
    (carried-done v _ _ c.args.link c.in-Ok.c _ _ (rw (← (c.self.view_is ∙ c.make_carry.ensures.same)) at c.in-Ok.ensures.plan)
    c.carried_done.ensures
    (rw (c.sent-self-inside.ensures, c.mark.ensures) refl))
