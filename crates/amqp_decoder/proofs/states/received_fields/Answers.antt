use Rattle.std.proofs.Common.{refl}
use Rattle.amqp_performatives.specs.Part.{no_field}
use Rattle.amqp_decoder.specs.Reading.{AreFields}
use Rattle.amqp_decoder.proofs.DescribedLists.{not_named}
use Rattle.amqp_decoder.proofs.states.received_fields.Goals as goal

pub returns-in_err-section_number : goal.returns-in_err-section_number
returns-in_err-section_number c = rw c.from_residual.ensures (λ b fair h. c.in_err-section_number.ensures b.0 _ refl h)

pub returns-in_err-section_offset : goal.returns-in_err-section_offset
returns-in_err-section_offset c = rw c.from_residual-in_err-section_offset.ensures (λ b fair h. c.in_err-section_offset.ensures b.1 _ refl (c.in_ok-section_number.ensures.only b.0 _ refl h))

pub returns-then-not-is_at_end : goal.returns-then-not-is_at_end
returns-then-not-is_at_end c = λ b fair h. not_named c.is_at_end.result (AreFields c.in_ok-section_offset.fields.depth c.in_ok-section_offset.fields.left no_field c.in_ok-section_offset.fields.octets.now) c.is_at_end.ensures c.if-not-is_at_end.true (c.in_ok-section_offset.ensures.only b.1 _ refl (c.in_ok-section_number.ensures.only b.0 _ refl h))
