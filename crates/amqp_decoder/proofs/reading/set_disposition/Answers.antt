use Rattle.std.proofs.Common.{refl}
use Rattle.amqp_performatives.specs.Part.{no_field}
use Rattle.amqp_decoder.specs.Reading.{AreFields}
use Rattle.amqp_decoder.proofs.DescribedLists.{not_named}
use Rattle.amqp_decoder.proofs.FirstField.{always}
use Rattle.amqp_decoder.proofs.reading.set_disposition.Goals as goal

pub returns-in_err-role : goal.returns-in_err-role
returns-in_err-role c = rw c.from_residual.ensures (λ b fair h. c.in_err-role.ensures b.role _ refl h)

pub returns-in_err-first : goal.returns-in_err-first
returns-in_err-first c = rw c.from_residual-in_err-first.ensures (λ b fair h. c.in_err-first.ensures b.first _ refl (c.in_ok-role.ensures.only b.role _ refl h))

pub returns-in_err-last : goal.returns-in_err-last
returns-in_err-last c = rw c.from_residual-in_err-last.ensures (λ b fair h. c.in_err-last.ensures b.last _ (always b.last) (c.in_ok-first.ensures.only b.first _ refl (c.in_ok-role.ensures.only b.role _ refl h)))

pub returns-in_err-settled : goal.returns-in_err-settled
returns-in_err-settled c = rw c.from_residual-in_err-settled.ensures (λ b fair h. c.in_err-settled.ensures b.settled _ (always b.settled) (c.in_ok-last.ensures.only b.last _ (always b.last) (c.in_ok-first.ensures.only b.first _ refl (c.in_ok-role.ensures.only b.role _ refl h))))

pub returns-in_default : goal.returns-in_default
returns-in_default c = λ b fair h. c.in_default.ensures b.state _ fair (c.in_ok-settled.ensures.only b.settled _ (always b.settled) (c.in_ok-last.ensures.only b.last _ (always b.last) (c.in_ok-first.ensures.only b.first _ refl (c.in_ok-role.ensures.only b.role _ refl h))))

pub returns-in_err-batchable : goal.returns-in_err-batchable
returns-in_err-batchable c = rw c.from_residual-in_err-batchable.ensures (λ b fair h. c.in_err-batchable.ensures b.batchable _ (always b.batchable) (c.in-Some.ensures.only b.state _ fair (c.in_ok-settled.ensures.only b.settled _ (always b.settled) (c.in_ok-last.ensures.only b.last _ (always b.last) (c.in_ok-first.ensures.only b.first _ refl (c.in_ok-role.ensures.only b.role _ refl h))))))

pub returns-then-not-is_at_end : goal.returns-then-not-is_at_end
returns-then-not-is_at_end c = λ b fair h. not_named c.is_at_end.result (AreFields c.in_ok-batchable.fields.depth c.in_ok-batchable.fields.left no_field c.in_ok-batchable.fields.octets.now) c.is_at_end.ensures c.if-not-is_at_end.true (c.in_ok-batchable.ensures.only b.batchable _ (always b.batchable) (c.in-Some.ensures.only b.state _ fair (c.in_ok-settled.ensures.only b.settled _ (always b.settled) (c.in_ok-last.ensures.only b.last _ (always b.last) (c.in_ok-first.ensures.only b.first _ refl (c.in_ok-role.ensures.only b.role _ refl h))))))

pub returns : goal.returns
returns c = (c.in-Some.ensures.fair, (c.in_ok-role.ensures.found _ (c.in_ok-first.ensures.found _ (c.in_ok-last.ensures.found _ (c.in_ok-settled.ensures.found _ (c.in-Some.ensures.found _ (c.in_ok-batchable.ensures.found _ (c.is_at_end.ensures.0 c.if-not-is_at_end.false))))))))
