use Rattle.std.proofs.Common.{refl}
use Rattle.amqp_links.specs.declared.fate.Fate.TheVariants as fate
use Rattle.amqp_deliveries.specs.declared.change.Change.TheVariants.{Stay}
use Rattle.amqp_rules.specs.declared.reply.Given.TheVariants.{Nothing}
use Rattle.amqp_steps.specs.declared.plan.Session.{Session}
use Rattle.amqp_steps.specs.Plan.{quiet_plan, view_of}
use Rattle.amqp_steps.proofs.Kept.{kept-after}
use Rattle.amqp_steps.proofs.Parted.{quiet-keeps}
use Rattle.amqp_steps.proofs.Plans.{counted-still}
use Rattle.amqp_endpoint.proofs.endpoint.Endpoint.opened.Goals as goal

pub invariant_of-self : goal.invariant_of-self
invariant_of-self c =
    let told : Session = record c.self.inside.session { max_frame = c.max-self-inside.result } in
    kept-after c.self.inside.steps c.self.inside.session c.self.inside.stores (quiet_plan told fate.Stay Stay Nothing) (rw (← c.self.view_is) at c.requires) c.self.invariant
    (record {
      fit = tt;
      short = tt;
      counted = counted-still c.self.inside.steps c.self.inside.session told c.self.inside.stores Stay tt c.self.invariant refl refl refl refl;
      alone = tt;
    })
    (quiet-keeps (view_of c.self.inside.steps c.self.inside.session c.self.inside.stores) c.max-self-inside.result Nothing)
