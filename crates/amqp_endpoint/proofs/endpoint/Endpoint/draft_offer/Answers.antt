use Rattle.std.proofs.Common.{[], refl}
use Rattle.amqp_performatives.specs.declared.bodies.Role.TheVariants.{Sender}
use Rattle.amqp_rules.specs.Offer.{offered}
use Rattle.amqp_rules.specs.OnLink.{attached_as}
use Rattle.amqp_rules.specs.Telling.{flag, sender_flow}
use Rattle.amqp_steps.proofs.Sends.{offer-said, draft-telling}
use Rattle.amqp_endpoint.proofs.endpoint.Endpoint.draft_offer.Goals as goal

pub returns : goal.returns
returns c =
    let s = c.self.inside.session in
    rw (← c.self.view_is, c.draft_flow.ensures, c.fate.ensures)
    (draft-telling c.self.inside.steps s c.self.inside.stores c.args.link (λ l. attached_as Sender l []) (offered c.args.available) c.in_ok-on.on
    (λ l. sender_flow s.windows l (flag l.credit.drain)) c.standing_flow-told.result c.self.invariant (rw (← c.self.view_is) at c.in_ok-on.ensures) (λ l. refl)
    (λ l h m f. offer-said s.windows c.in_ok-on.on.marks l c.args.available c.standing_flow-told.result (c.standing_flow-told.ensures l h) m f))
