use Rattle.std.proofs.Common.{Ok, Err, inl, refl}
use Rattle.amqp_steps.proofs.Sends.{draft-plans}
use Rattle.amqp_steps.proofs.Starts.{start-draft}
use Rattle.amqp_endpoint.proofs.endpoint.Endpoint.make_start.Goals as goal

pub returns-in-Err-clause-plan : goal.returns-in-Err-clause-plan
returns-in-Err-clause-plan c = inl (c.in-Err.ensures.taken c.args.format)

pub returns-in-Err-cut_sharing-clause-plan : goal.returns-in-Err-cut_sharing-clause-plan
returns-in-Err-cut_sharing-clause-plan c =
    rw (← c.self.view_is)
    (draft-plans _ _ _ _ _ _ (Err c.in-Err-cut_sharing.refusal)
    (start-draft c.self.inside.steps c.self.inside.session c.self.inside.stores c.args.link c.args.format c.args.tag.now c.args.payload.now c.args.settled c.args.more c.in-Ok.both.1
    c.in-Ok.both.0 c.self.invariant (rw c.size_of-size.ensures.size at c.size_of-size.ensures.fits) (rw (← c.self.view_is) at c.in-Ok.ensures.second) (rw (← c.self.view_is) at c.in-Ok.ensures.taken))
    (rw (c.start_body-body.ensures, c.next_delivery-id.ensures) at c.in-Err-cut_sharing.ensures))

pub returns-clause-plan : goal.returns-clause-plan
returns-clause-plan c =
    rw (← c.self.view_is)
    (draft-plans _ _ _ _ _ _ (Ok _)
    (start-draft c.self.inside.steps c.self.inside.session c.self.inside.stores c.args.link c.args.format c.args.tag.now c.args.payload.now c.args.settled c.args.more c.in-Ok.both.1
    c.in-Ok.both.0 c.self.invariant (rw c.size_of-size.ensures.size at c.size_of-size.ensures.fits) (rw (← c.self.view_is) at c.in-Ok.ensures.second) (rw (← c.self.view_is) at c.in-Ok.ensures.taken)) (
      rw (c.start_body-body.ensures, c.next_delivery-id.ensures) at c.in-Ok-cut_sharing.ensures.0,
      rw (c.in-Ok-cut_sharing.ensures.1, c.start_body-body.ensures, c.next_delivery-id.ensures) refl,
    ))
