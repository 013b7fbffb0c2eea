use Rattle.std.proofs.Common.{◌∙◌, ap, subst}
use Rattle.amqp_rules.specs.declared.refusal.Refusal.TheVariants.{NoMemory}
use Rattle.amqp_rules.specs.Attach.{Wanted, attach_answer, next_attach}
use Rattle.amqp_rules.specs.Rejoin.{rejoined}
use Rattle.amqp_steps.specs.Plan.{Plans}
use Rattle.amqp_endpoint.proofs.endpoint.Endpoint.plan_own.Goals as goal

pub returns-in-Attach : goal.returns-in-Attach
returns-in-Attach c = rw c.in-Attach.is (c.plan_attach.ensures)

pub returns-in-Dispose : goal.returns-in-Dispose
returns-in-Dispose c = rw c.in-Dispose.is (c.plan_dispose.ensures)

pub returns-in-Abort : goal.returns-in-Abort
returns-in-Abort c = rw c.in-Abort.is ((rw c.new.ensures at c.plan_draft-in-Abort.ensures) _ _ c.draft_abort.ensures)

pub returns-in-Grant : goal.returns-in-Grant
returns-in-Grant c = rw c.in-Grant.is ((rw c.new-in-Grant.ensures at c.plan_draft-in-Grant-2.ensures) _ _ c.draft_grant.ensures)

pub returns-in-Offer : goal.returns-in-Offer
returns-in-Offer c = rw c.in-Offer.is ((rw c.new-in-Offer.ensures at c.plan_draft-in-Offer-2.ensures) _ _ c.draft_offer.ensures)

pub returns-in-Drained : goal.returns-in-Drained
returns-in-Drained c = rw c.in-Drained.is ((rw c.new-in-Drained.ensures at c.plan_draft-in-Drained-2.ensures) _ _ c.draft_drained.ensures)

pub returns-in-Refresh : goal.returns-in-Refresh
returns-in-Refresh c = rw c.in-Refresh.is ((rw c.new-in-Refresh.ensures at c.plan_draft-in-Refresh-2.ensures) _ _ c.draft_refresh.ensures)

pub returns-in-Beat : goal.returns-in-Beat
returns-in-Beat c = rw c.in-Beat.is ((rw c.new-in-Beat.ensures at c.plan_draft-in-Beat-2.ensures) _ _ c.draft_beat.ensures)

pub returns-in-Rejoin : goal.returns-in-Rejoin
returns-in-Rejoin c =
    rw c.in-Rejoin.is
    (subst
    (λ (w : Wanted). Plans NoMemory c.args.self.now (attach_answer c.args.self.now w) (next_attach c.args.self.now w) c.plan_attach-in-Rejoin.result)
    (c.rejoined.ensures ∙ ap rejoined c.get.ensures)
    c.plan_attach-in-Rejoin.ensures)
