use Rattle.amqp_performatives.specs.Part.{no_field}
use Rattle.amqp_decoder.specs.Reading.{AreFields}
use Rattle.amqp_decoder.proofs.DescribedLists.{not_named}
use Rattle.amqp_decoder.proofs.FirstField.{always}
use Rattle.amqp_decoder.proofs.states.modified_fields.Goals as goal

pub returns-in_err-delivery_failed : goal.returns-in_err-delivery_failed
returns-in_err-delivery_failed c = rw c.from_residual.ensures (λ b fair h. c.in_err-delivery_failed.ensures b.0 _ (always b.0) h)

pub returns-in_err-undeliverable_here : goal.returns-in_err-undeliverable_here
returns-in_err-undeliverable_here c = rw c.from_residual-in_err-undeliverable_here.ensures (λ b fair h. c.in_err-undeliverable_here.ensures b.1 _ (always b.1) (c.in_ok-delivery_failed.ensures.only b.0 _ (always b.0) h))

pub returns-in_err-message_annotations : goal.returns-in_err-message_annotations
returns-in_err-message_annotations c = rw c.from_residual-in_err-message_annotations.ensures (λ b fair h. c.in_err-message_annotations.ensures b.2 _ fair (c.in_ok-undeliverable_here.ensures.only b.1 _ (always b.1) (c.in_ok-delivery_failed.ensures.only b.0 _ (always b.0) h)))

pub returns-then-not-is_at_end : goal.returns-then-not-is_at_end
returns-then-not-is_at_end c = λ b fair h. not_named c.is_at_end.result (AreFields c.in_ok-message_annotations.fields.depth c.in_ok-message_annotations.fields.left no_field c.in_ok-message_annotations.fields.octets.now) c.is_at_end.ensures c.if-not-is_at_end.true (c.in_ok-message_annotations.ensures.only b.2 _ fair (c.in_ok-undeliverable_here.ensures.only b.1 _ (always b.1) (c.in_ok-delivery_failed.ensures.only b.0 _ (always b.0) h)))
