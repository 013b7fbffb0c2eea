use Rattle.amqp_steps.proofs.Kept.{kept-after, met-after}
use Rattle.amqp_endpoint.proofs.endpoint.Endpoint.commit.Goals as goal

pub keep-requires-clause-met : goal.keep-requires-clause-met
keep-requires-clause-met c =
    met-after c.self.inside.steps c.self.inside.session c.self.inside.stores c.args.plan (rw (← c.self.view_is) at c.requires.steps) c.self.invariant (rw (← c.self.view_is) at c.requires.sound)

pub invariant_of-self-2 : goal.invariant_of-self-2
invariant_of-self-2 c =
    rw c.in-Ok-keep.ensures.ok
    (kept-after c.self.inside.steps c.self.inside.session c.self.inside.stores c.args.plan (rw (← c.self.view_is) at c.requires.steps) c.self.invariant (rw (← c.self.view_is) at c.requires.sound) (rw (← c.self.view_is) at c.requires.apart))
