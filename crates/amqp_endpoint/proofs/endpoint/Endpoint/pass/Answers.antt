use Rattle.amqp_steps.specs.Arriving.{passed_plan}
use Rattle.amqp_steps.specs.Plan.{view_of}
use Rattle.amqp_steps.proofs.Kept.{kept-after}
use Rattle.amqp_endpoint.proofs.endpoint.Endpoint.pass.Goals as goal

pub invariant_of-self : goal.invariant_of-self
invariant_of-self c =
    let v = view_of c.self.inside.steps c.self.inside.session c.self.inside.stores in
    rw c.session_passed-session.ensures
    (kept-after c.self.inside.steps c.self.inside.session c.self.inside.stores (passed_plan v c.args.expected) (rw (← c.self.view_is) at c.requires.steps) c.self.invariant (rw (← c.self.view_is) at c.requires.sound) (rw (← c.self.view_is) at c.requires.apart))
