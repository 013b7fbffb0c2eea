use Rattle.std.proofs.Common.{refl}
use Rattle.amqp_performatives.specs.Part.{no_field}
use Rattle.amqp_decoder.specs.Reading.{AreFields}
use Rattle.amqp_decoder.proofs.DescribedLists.{not_named}
use Rattle.amqp_decoder.proofs.FirstField.{always}
use Rattle.amqp_decoder.proofs.reading.detach_fields.Goals as goal

pub returns-in_err-handle : goal.returns-in_err-handle
returns-in_err-handle c = rw c.from_residual.ensures (λ b fair h. c.in_err-handle.ensures b.handle _ refl h)

pub returns-in_err-closed : goal.returns-in_err-closed
returns-in_err-closed c = rw c.from_residual-in_err-closed.ensures (λ b fair h. c.in_err-closed.ensures b.closed _ (always b.closed) (c.in_ok-handle.ensures.only b.handle _ refl h))

pub returns-in_err-error : goal.returns-in_err-error
returns-in_err-error c = rw c.from_residual-in_err-error.ensures (λ b fair h. c.in_err-error.ensures b.error _ fair (c.in_ok-closed.ensures.only b.closed _ (always b.closed) (c.in_ok-handle.ensures.only b.handle _ refl h)))

pub returns-then-not-is_at_end : goal.returns-then-not-is_at_end
returns-then-not-is_at_end c = λ b fair h. not_named c.is_at_end.result (AreFields c.in_ok-error.fields.depth c.in_ok-error.fields.left no_field c.in_ok-error.fields.octets.now) c.is_at_end.ensures c.if-not-is_at_end.true (c.in_ok-error.ensures.only b.error _ fair (c.in_ok-closed.ensures.only b.closed _ (always b.closed) (c.in_ok-handle.ensures.only b.handle _ refl h)))
