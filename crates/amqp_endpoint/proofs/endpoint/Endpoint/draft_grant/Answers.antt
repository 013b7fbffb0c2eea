use Rattle.std.proofs.Common.{◌∙◌, refl, ap}
use Rattle.amqp_rules.specs.Grant.{granted_on, grant_flow, grant_refusals}
use Rattle.amqp_rules.specs.View.{LinkView}
use Rattle.amqp_steps.proofs.Sends.{draft-telling}
use Rattle.amqp_endpoint.proofs.endpoint.Endpoint.draft_grant.Goals as goal

pub returns : goal.returns
returns c =
    let s = c.self.inside.session in
    rw (← c.self.view_is, c.draft_flow.ensures, c.fate.ensures)
    (draft-telling c.self.inside.steps s c.self.inside.stores c.args.link (λ l. grant_refusals l c.args.credit) (granted_on c.args.credit c.args.drain) c.in_ok-on.on
    (λ l. grant_flow s.windows l c.args.drain c.args.echo) c.grant_flow-told.result c.self.invariant (rw (← c.self.view_is) at (c.in_ok-on.ensures c.args.echo)) (λ l. refl)
    (λ l h m f. c.grant_flow-told.ensures l h ∙ ap (λ (x : LinkView). grant_flow s.windows x c.args.drain c.args.echo) m))
