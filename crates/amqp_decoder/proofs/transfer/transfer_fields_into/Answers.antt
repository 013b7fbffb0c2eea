use Rattle.std.proofs.Common.{refl}
use Rattle.amqp_decoder.proofs.Conjunctions.{and_both}
use Rattle.amqp_decoder.proofs.transfer.transfer_fields_into.Goals as goal

pub returns : goal.returns
returns c = rw c.clear_state.ensures (and_both _ _ (and_both _ _ c.in-Some.ensures.fair c.in_ok-rcv_settle_mode.ensures.fair) refl, (c.in_ok-handle.ensures.found _ (c.in_ok-delivery_id.ensures.found _ (c.in-Some.ensures.found _ (c.in_ok-message_format.ensures.found _ (c.in_ok-settled.ensures.found _ (c.in_ok-more.ensures.found _ (c.in_ok-rcv_settle_mode.ensures.found _ (c.in-Some-absent.ensures.found _ (c.in_ok-resume.ensures.found _ (c.in_ok-aborted.ensures.found _ (c.in_ok-batchable.ensures.found _ (c.is_at_end.ensures.0 c.if-not-is_at_end.false)))))))))))))
