use Rattle.std.proofs.Common.{◌∙◌, Some, true, refl, ap}
use Rattle.amqp_rules.specs.Drained.{drained, drained_refusals}
use Rattle.amqp_rules.specs.Telling.{sender_flow}
use Rattle.amqp_rules.specs.View.{LinkView}
use Rattle.amqp_steps.proofs.Sends.{draft-telling}
use Rattle.amqp_endpoint.proofs.endpoint.Endpoint.draft_drained.Goals as goal

pub returns : goal.returns
returns c =
    let s = c.self.inside.session in
    rw (← c.self.view_is, c.draft_flow.ensures, c.fate.ensures)
    (draft-telling c.self.inside.steps s c.self.inside.stores c.args.link drained_refusals drained c.in_ok-on.on
    (λ l. sender_flow s.windows l (Some true)) c.sender_flow-told.result c.self.invariant (rw (← c.self.view_is) at c.in_ok-on.ensures) (λ l. refl)
    (λ l h m f. c.sender_flow-told.ensures l h ∙ ap (λ (x : LinkView). sender_flow s.windows x (Some true)) m))
