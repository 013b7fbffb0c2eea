use Rattle.std.proofs.Common.{Ok, Err, refl}
use Rattle.amqp_steps.proofs.Carried.{carry-draft}
use Rattle.amqp_steps.proofs.Sends.{draft-plans}
use Rattle.amqp_endpoint.proofs.endpoint.Endpoint.make_carry.Goals as goal

pub returns-in-Err-cut_sharing-clause-plan : goal.returns-in-Err-cut_sharing-clause-plan
returns-in-Err-cut_sharing-clause-plan c =
    rw (← c.self.view_is)
    (draft-plans _ _ _ _ _ _ (Err c.in-Err-cut_sharing.refusal)
    (carry-draft c.self.inside.steps c.self.inside.session c.self.inside.stores c.args.link c.args.payload.now c.args.more c.in-Ok.on c.self.invariant
    (rw (← c.self.view_is, c.deref.ensures) at c.in-Ok.ensures.taken) (rw (← c.self.view_is) at c.in-Ok.ensures.short))
    (rw (c.later_body-body.ensures, c.flag.ensures) at c.in-Err-cut_sharing.ensures))

pub returns-clause-plan : goal.returns-clause-plan
returns-clause-plan c =
    rw (← c.self.view_is)
    (draft-plans _ _ _ _ _ _ (Ok _)
    (carry-draft c.self.inside.steps c.self.inside.session c.self.inside.stores c.args.link c.args.payload.now c.args.more c.in-Ok.on c.self.invariant
    (rw (← c.self.view_is, c.deref.ensures) at c.in-Ok.ensures.taken) (rw (← c.self.view_is) at c.in-Ok.ensures.short)) (
      rw (c.later_body-body.ensures, c.flag.ensures) at c.in-Ok-cut_sharing.ensures.0,
      rw (c.in-Ok-cut_sharing.ensures.1, c.later_body-body.ensures, c.flag.ensures) refl,
    ))
