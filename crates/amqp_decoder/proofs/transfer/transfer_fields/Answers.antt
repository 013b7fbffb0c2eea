use Rattle.std.proofs.Common.{refl}
use Rattle.amqp_performatives.specs.Part.{no_field}
use Rattle.amqp_decoder.specs.Reading.{AreFields}
use Rattle.amqp_decoder.proofs.DescribedLists.{not_named}
use Rattle.amqp_decoder.proofs.FirstField.{always}
use Rattle.amqp_decoder.proofs.Conjunctions.{and_left, and_right, and_both}
use Rattle.amqp_decoder.proofs.transfer.transfer_fields.Goals as goal

pub returns-in_err-handle : goal.returns-in_err-handle
returns-in_err-handle c = rw c.from_residual.ensures (λ b fair h. c.in_err-handle.ensures b.handle _ refl h)

pub returns-in_err-delivery_id : goal.returns-in_err-delivery_id
returns-in_err-delivery_id c = rw c.from_residual-in_err-delivery_id.ensures (λ b fair h. c.in_err-delivery_id.ensures b.delivery_id _ (always b.delivery_id) (c.in_ok-handle.ensures.only b.handle _ refl h))

pub returns-in_default : goal.returns-in_default
returns-in_default c = λ b fair h. c.in_default.ensures b.delivery_tag _ (and_left _ _ (and_left _ _ fair)) (c.in_ok-delivery_id.ensures.only b.delivery_id _ (always b.delivery_id) (c.in_ok-handle.ensures.only b.handle _ refl h))

pub returns-in_err-message_format : goal.returns-in_err-message_format
returns-in_err-message_format c = rw c.from_residual-in_err-message_format.ensures (λ b fair h. c.in_err-message_format.ensures b.message_format _ (always b.message_format) (c.in-Some.ensures.only b.delivery_tag _ (and_left _ _ (and_left _ _ fair)) (c.in_ok-delivery_id.ensures.only b.delivery_id _ (always b.delivery_id) (c.in_ok-handle.ensures.only b.handle _ refl h))))

pub returns-in_err-settled : goal.returns-in_err-settled
returns-in_err-settled c = rw c.from_residual-in_err-settled.ensures (λ b fair h. c.in_err-settled.ensures b.settled _ (always b.settled) (c.in_ok-message_format.ensures.only b.message_format _ (always b.message_format) (c.in-Some.ensures.only b.delivery_tag _ (and_left _ _ (and_left _ _ fair)) (c.in_ok-delivery_id.ensures.only b.delivery_id _ (always b.delivery_id) (c.in_ok-handle.ensures.only b.handle _ refl h)))))

pub returns-in_err-more : goal.returns-in_err-more
returns-in_err-more c = rw c.from_residual-in_err-more.ensures (λ b fair h. c.in_err-more.ensures b.more _ (always b.more) (c.in_ok-settled.ensures.only b.settled _ (always b.settled) (c.in_ok-message_format.ensures.only b.message_format _ (always b.message_format) (c.in-Some.ensures.only b.delivery_tag _ (and_left _ _ (and_left _ _ fair)) (c.in_ok-delivery_id.ensures.only b.delivery_id _ (always b.delivery_id) (c.in_ok-handle.ensures.only b.handle _ refl h))))))

pub returns-in_err-rcv_settle_mode : goal.returns-in_err-rcv_settle_mode
returns-in_err-rcv_settle_mode c = rw c.from_residual-in_err-rcv_settle_mode.ensures (λ b fair h. c.in_err-rcv_settle_mode.ensures b.rcv_settle_mode _ (and_right _ _ (and_left _ _ fair)) (c.in_ok-more.ensures.only b.more _ (always b.more) (c.in_ok-settled.ensures.only b.settled _ (always b.settled) (c.in_ok-message_format.ensures.only b.message_format _ (always b.message_format) (c.in-Some.ensures.only b.delivery_tag _ (and_left _ _ (and_left _ _ fair)) (c.in_ok-delivery_id.ensures.only b.delivery_id _ (always b.delivery_id) (c.in_ok-handle.ensures.only b.handle _ refl h)))))))

pub returns-in_default-state_into : goal.returns-in_default-state_into
returns-in_default-state_into c = λ b fair h. c.in_default-state_into.ensures b.state _ (and_right _ _ fair) (c.in_ok-rcv_settle_mode.ensures.only b.rcv_settle_mode _ (and_right _ _ (and_left _ _ fair)) (c.in_ok-more.ensures.only b.more _ (always b.more) (c.in_ok-settled.ensures.only b.settled _ (always b.settled) (c.in_ok-message_format.ensures.only b.message_format _ (always b.message_format) (c.in-Some.ensures.only b.delivery_tag _ (and_left _ _ (and_left _ _ fair)) (c.in_ok-delivery_id.ensures.only b.delivery_id _ (always b.delivery_id) (c.in_ok-handle.ensures.only b.handle _ refl h)))))))

pub returns-in_err-resume : goal.returns-in_err-resume
returns-in_err-resume c = rw c.from_residual-in_err-resume.ensures (λ b fair h. c.in_err-resume.ensures b.resume _ (always b.resume) (c.in-Some-state_into.ensures.only b.state _ (and_right _ _ fair) (c.in_ok-rcv_settle_mode.ensures.only b.rcv_settle_mode _ (and_right _ _ (and_left _ _ fair)) (c.in_ok-more.ensures.only b.more _ (always b.more) (c.in_ok-settled.ensures.only b.settled _ (always b.settled) (c.in_ok-message_format.ensures.only b.message_format _ (always b.message_format) (c.in-Some.ensures.only b.delivery_tag _ (and_left _ _ (and_left _ _ fair)) (c.in_ok-delivery_id.ensures.only b.delivery_id _ (always b.delivery_id) (c.in_ok-handle.ensures.only b.handle _ refl h)))))))))

pub returns-in_err-aborted : goal.returns-in_err-aborted
returns-in_err-aborted c = rw c.from_residual-in_err-aborted.ensures (λ b fair h. c.in_err-aborted.ensures b.aborted _ (always b.aborted) (c.in_ok-resume.ensures.only b.resume _ (always b.resume) (c.in-Some-state_into.ensures.only b.state _ (and_right _ _ fair) (c.in_ok-rcv_settle_mode.ensures.only b.rcv_settle_mode _ (and_right _ _ (and_left _ _ fair)) (c.in_ok-more.ensures.only b.more _ (always b.more) (c.in_ok-settled.ensures.only b.settled _ (always b.settled) (c.in_ok-message_format.ensures.only b.message_format _ (always b.message_format) (c.in-Some.ensures.only b.delivery_tag _ (and_left _ _ (and_left _ _ fair)) (c.in_ok-delivery_id.ensures.only b.delivery_id _ (always b.delivery_id) (c.in_ok-handle.ensures.only b.handle _ refl h))))))))))

pub returns-in_err-batchable : goal.returns-in_err-batchable
returns-in_err-batchable c = rw c.from_residual-in_err-batchable.ensures (λ b fair h. c.in_err-batchable.ensures b.batchable _ (always b.batchable) (c.in_ok-aborted.ensures.only b.aborted _ (always b.aborted) (c.in_ok-resume.ensures.only b.resume _ (always b.resume) (c.in-Some-state_into.ensures.only b.state _ (and_right _ _ fair) (c.in_ok-rcv_settle_mode.ensures.only b.rcv_settle_mode _ (and_right _ _ (and_left _ _ fair)) (c.in_ok-more.ensures.only b.more _ (always b.more) (c.in_ok-settled.ensures.only b.settled _ (always b.settled) (c.in_ok-message_format.ensures.only b.message_format _ (always b.message_format) (c.in-Some.ensures.only b.delivery_tag _ (and_left _ _ (and_left _ _ fair)) (c.in_ok-delivery_id.ensures.only b.delivery_id _ (always b.delivery_id) (c.in_ok-handle.ensures.only b.handle _ refl h)))))))))))

pub returns-then-not-is_at_end : goal.returns-then-not-is_at_end
returns-then-not-is_at_end c = λ b fair h. not_named c.is_at_end.result (AreFields c.in_ok-batchable.fields.depth c.in_ok-batchable.fields.left no_field c.in_ok-batchable.fields.octets.now) c.is_at_end.ensures c.if-not-is_at_end.true (c.in_ok-batchable.ensures.only b.batchable _ (always b.batchable) (c.in_ok-aborted.ensures.only b.aborted _ (always b.aborted) (c.in_ok-resume.ensures.only b.resume _ (always b.resume) (c.in-Some-state_into.ensures.only b.state _ (and_right _ _ fair) (c.in_ok-rcv_settle_mode.ensures.only b.rcv_settle_mode _ (and_right _ _ (and_left _ _ fair)) (c.in_ok-more.ensures.only b.more _ (always b.more) (c.in_ok-settled.ensures.only b.settled _ (always b.settled) (c.in_ok-message_format.ensures.only b.message_format _ (always b.message_format) (c.in-Some.ensures.only b.delivery_tag _ (and_left _ _ (and_left _ _ fair)) (c.in_ok-delivery_id.ensures.only b.delivery_id _ (always b.delivery_id) (c.in_ok-handle.ensures.only b.handle _ refl h)))))))))))

pub returns : goal.returns
returns c = (and_both _ _ (and_both _ _ c.in-Some.ensures.fair c.in_ok-rcv_settle_mode.ensures.fair) c.in-Some-state_into.ensures.fair, (c.in_ok-handle.ensures.found _ (c.in_ok-delivery_id.ensures.found _ (c.in-Some.ensures.found _ (c.in_ok-message_format.ensures.found _ (c.in_ok-settled.ensures.found _ (c.in_ok-more.ensures.found _ (c.in_ok-rcv_settle_mode.ensures.found _ (c.in-Some-state_into.ensures.found _ (c.in_ok-resume.ensures.found _ (c.in_ok-aborted.ensures.found _ (c.in_ok-batchable.ensures.found _ (c.is_at_end.ensures.0 c.if-not-is_at_end.false)))))))))))))
