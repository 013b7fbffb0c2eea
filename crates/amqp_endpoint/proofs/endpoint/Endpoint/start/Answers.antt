use Rattle.std.proofs.Common.{refl, ◌∙◌}
use Rattle.amqp_steps.specs.Plan.{view_of}
use Rattle.amqp_steps.specs.Starting.{start_plan}
use Rattle.amqp_steps.proofs.Kept.{kept-after, met-after}
use Rattle.amqp_rules.specs.declared.op.Op.TheVariants as op
use Rattle.amqp_steps.proofs.Parted.{own-keeps}
use Rattle.amqp_steps.proofs.Starts.{started-done}
use Rattle.amqp_endpoint.proofs.endpoint.Endpoint.start.Goals as goal

pub start-requires : goal.start-requires
start-requires c =
    let v = view_of c.self.inside.steps c.self.inside.session c.self.inside.stores in
    rw (c.item_begun-item.ensures, c.next_delivery-id.ensures)
    record {
      met = met-after c.self.inside.steps c.self.inside.session c.self.inside.stores (start_plan v c.args.link c.args.tag.now c.args.settled c.in-Ok.s) (rw (← (c.self.view_is ∙ c.make_start.ensures.same)) at c.requires) c.self.invariant (rw (← (c.self.view_is ∙ c.make_start.ensures.same)) at c.in-Ok.ensures.plan.sound);
    }

pub invariant_of-self-2 : goal.invariant_of-self-2
invariant_of-self-2 c =
    let v = view_of c.self.inside.steps c.self.inside.session c.self.inside.stores in
    rw (c.started-self-inside.ensures, c.in-Ok-start.ensures.ok, c.item_begun-item.ensures, c.next_delivery-id.ensures)
    (kept-after c.self.inside.steps c.self.inside.session c.self.inside.stores (start_plan v c.args.link c.args.tag.now c.args.settled c.in-Ok.s) (rw (← (c.self.view_is ∙ c.make_start.ensures.same)) at c.requires) c.self.invariant (rw (← (c.self.view_is ∙ c.make_start.ensures.same)) at c.in-Ok.ensures.plan.sound)
    (own-keeps v (op.Start c.args.link c.args.tag.now c.args.format c.args.settled c.args.payload.now c.args.more) (start_plan v c.args.link c.args.tag.now c.args.settled c.in-Ok.s)
    (rw (← (c.self.view_is ∙ c.make_start.ensures.same)) at c.in-Ok.ensures.plan)))

pub returns-clause-done : goal.returns-clause-done
returns-clause-done c =
    let v = view_of c.self.inside.steps c.self.inside.session c.self.inside.stores in
    rw (← (c.self.view_is ∙ c.make_start.ensures.same))
    (started-done v _ _ c.args.link c.args.tag.now c.args.settled c.in-Ok.s _ _ (rw (← (c.self.view_is ∙ c.make_start.ensures.same)) at c.in-Ok.ensures.plan)
    (rw (c.sending_done.ensures, c.next_delivery-id.ensures) refl)
    (rw (c.started-self-inside.ensures, c.in-Ok-start.ensures.ok, c.item_begun-item.ensures, c.next_delivery-id.ensures) refl))
