use Rattle.amqp_endpoint.proofs.endpoint.Endpoint.refusal.Goals as goal

pub returns-in-Abort : goal.returns-in-Abort
returns-in-Abort c = rw c.in-Abort.is (c.refuse_draft.ensures _ _ c.draft_abort.ensures)

pub returns-in-Grant : goal.returns-in-Grant
returns-in-Grant c = rw c.in-Grant.is (c.refuse_draft-in-Grant.ensures _ _ c.draft_grant.ensures)

pub returns-in-Offer : goal.returns-in-Offer
returns-in-Offer c = rw c.in-Offer.is (c.refuse_draft-in-Offer.ensures _ _ c.draft_offer.ensures)

pub returns-in-Drained : goal.returns-in-Drained
returns-in-Drained c = rw c.in-Drained.is (c.refuse_draft-in-Drained.ensures _ _ c.draft_drained.ensures)

pub returns-in-Refresh : goal.returns-in-Refresh
returns-in-Refresh c = rw c.in-Refresh.is (c.refuse_draft-in-Refresh.ensures _ _ c.draft_refresh.ensures)

pub returns-in-Beat : goal.returns-in-Beat
returns-in-Beat c = rw c.in-Beat.is (c.refuse_draft-in-Beat.ensures _ _ c.draft_beat.ensures)

pub returns-in-Dispose : goal.returns-in-Dispose
returns-in-Dispose c = rw c.in-Dispose.is (c.refuse_dispose.ensures)
