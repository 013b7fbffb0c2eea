use Rattle.std.proofs.Common.{Ok, Err, Some, refl, ap}
use Rattle.amqp_shared.specs.declared.batches.Span.{Span}
use Rattle.amqp_shared.specs.Consuming.{Tells, Asks}
use Rattle.amqp_shared.proofs.Rounds.{parted}
use Rattle.amqp_shared.proofs.batches.go_to.Goals as goal

pub returns-in-Ok-clause-tells : goal.returns-in-Ok-clause-tells
returns-in-Ok-clause-tells g c =
    parted Tells c.args.begun c.in-Some.span c.args.one c.args.guard.now.conn (Ok tt) c.tell_span.new.guard.conn (Ok (Some c.of-in-Ok.result)) c.if-one.false c.in-Some.is
    (λ h. absurd (let t = c.is_next.ensures.1 h in let f = c.if-is_next.false in cc)) c.in-Ok.ensures.tells (ap (λ (s : Span). Ok (Some s)) c.of-in-Ok.ensures)

pub returns-in-Ok-clause-asks : goal.returns-in-Ok-clause-asks
returns-in-Ok-clause-asks g c =
    parted Asks c.args.begun c.in-Some.span c.args.one c.args.pass.now (Ok tt) c.tell_span.new.pass (Ok (Some c.of-in-Ok.result)) c.if-one.false c.in-Some.is
    (λ h. absurd (let t = c.is_next.ensures.1 h in let f = c.if-is_next.false in cc)) c.in-Ok.ensures.asks (ap (λ (s : Span). Ok (Some s)) c.of-in-Ok.ensures)

pub returns-in-Err-clause-tells : goal.returns-in-Err-clause-tells
returns-in-Err-clause-tells g c =
    parted Tells c.args.begun c.in-Some.span c.args.one c.args.guard.now.conn (Err c.in-Err.refusal) c.tell_span.new.guard.conn (Err c.in-Err.refusal) c.if-one.false c.in-Some.is
    (λ h. absurd (let t = c.is_next.ensures.1 h in let f = c.if-is_next.false in cc)) c.in-Err.ensures.tells refl

pub returns-in-Err-clause-asks : goal.returns-in-Err-clause-asks
returns-in-Err-clause-asks g c =
    parted Asks c.args.begun c.in-Some.span c.args.one c.args.pass.now (Err c.in-Err.refusal) c.tell_span.new.pass (Err c.in-Err.refusal) c.if-one.false c.in-Some.is
    (λ h. absurd (let t = c.is_next.ensures.1 h in let f = c.if-is_next.false in cc)) c.in-Err.ensures.asks refl
