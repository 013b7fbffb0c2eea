use Rattle.std.proofs.Common.{refl}
use Rattle.amqp_performatives.specs.Part.{no_field}
use Rattle.amqp_decoder.specs.Reading.{AreFields}
use Rattle.amqp_decoder.proofs.DescribedLists.{not_named}
use Rattle.amqp_decoder.proofs.FirstField.{always}
use Rattle.amqp_decoder.proofs.parts.error_fields.Goals as goal

pub returns-in_err-condition : goal.returns-in_err-condition
returns-in_err-condition c = rw c.from_residual.ensures (λ b fair h. c.in_err-condition.ensures b.condition _ refl h)

pub returns-in_err-description : goal.returns-in_err-description
returns-in_err-description c = rw c.from_residual-in_err-description.ensures (λ b fair h. c.in_err-description.ensures b.description _ (always b.description) (c.in_ok-condition.ensures.only b.condition _ refl h))

pub returns-in_err-info : goal.returns-in_err-info
returns-in_err-info c = rw c.from_residual-in_err-info.ensures (λ b fair h. c.in_err-info.ensures b.info _ fair (c.in_ok-description.ensures.only b.description _ (always b.description) (c.in_ok-condition.ensures.only b.condition _ refl h)))

pub returns-then-not-is_at_end : goal.returns-then-not-is_at_end
returns-then-not-is_at_end c = λ b fair h. not_named c.is_at_end.result (AreFields c.in_ok-info.fields.depth c.in_ok-info.fields.left no_field c.in_ok-info.fields.octets.now) c.is_at_end.ensures c.if-not-is_at_end.true (c.in_ok-info.ensures.only b.info _ fair (c.in_ok-description.ensures.only b.description _ (always b.description) (c.in_ok-condition.ensures.only b.condition _ refl h)))
