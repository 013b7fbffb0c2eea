use Rattle.std.proofs.Common.{Some}
use Rattle.amqp_ready.specs.Serving.{fault_in}
use Rattle.amqp_ready.specs.Slotting.{parts}
use Rattle.amqp_ready.specs.declared.fault.SlotFault.TheVariants as fault
use Rattle.amqp_ready.proofs.Keeping.{kept-still, kept-gone}
use Rattle.amqp_ready.proofs.Turning.{serves-then, serves-other, serves-lent}
use Rattle.amqp_ready.proofs.slot.Slot.finish.Goals as goal

pub returns-in-Ok-clause-serves : goal.returns-in-Ok-clause-serves
returns-in-Ok-clause-serves g c =
    serves-then (fault_in c.write_out.result) (parts (g.S.NonBlocking.remaining c.args.self.now.stream) c.args.self.now.unfed c.args.self.now.lent.conn (g.H.Handler.told c.args.self.now.handler) c.args.self.now.outbox (g.S.NonBlocking.written c.args.self.now.stream) (g.S.NonBlocking.failed c.args.self.now.stream)) (parts (g.S.NonBlocking.remaining c.args.self.now.stream) c.args.self.now.unfed c.go_on.new.conn.conn (g.H.Handler.told c.go_on.new.self) c.args.self.now.outbox (g.S.NonBlocking.written c.args.self.now.stream) (g.S.NonBlocking.failed c.args.self.now.stream)) (parts (g.S.NonBlocking.remaining c.write_out.new.self.stream) c.write_out.new.self.unfed c.write_out.new.self.lent.conn (g.H.Handler.told c.write_out.new.self.handler) c.write_out.new.self.outbox (g.S.NonBlocking.written c.write_out.new.self.stream) (g.S.NonBlocking.failed c.write_out.new.self.stream)) (serves-lent (g.S.NonBlocking.remaining c.args.self.now.stream) (g.S.NonBlocking.written c.args.self.now.stream) (g.S.NonBlocking.failed c.args.self.now.stream) c.args.self.now.lent.conn c.go_on.new.conn.conn c.args.self.now.unfed c.args.self.now.outbox (g.H.Handler.told c.args.self.now.handler) (g.H.Handler.told c.go_on.new.self) (kept-still c.args.self.now.lent.conn c.go_on.new.conn.conn c.go_on.ensures.kept) (kept-gone c.args.self.now.lent.conn c.go_on.new.conn.conn c.go_on.ensures.kept) c.go_on.ensures.told) c.write_out.ensures.serves

pub returns-in-Err-clause-serves : goal.returns-in-Err-clause-serves
returns-in-Err-clause-serves g c =
    serves-other (Some (fault.Refused c.in-Err.refusal)) (parts (g.S.NonBlocking.remaining c.args.self.now.stream) c.args.self.now.unfed c.args.self.now.lent.conn (g.H.Handler.told c.args.self.now.handler) c.args.self.now.outbox (g.S.NonBlocking.written c.args.self.now.stream) (g.S.NonBlocking.failed c.args.self.now.stream)) (parts (g.S.NonBlocking.remaining c.args.self.now.stream) c.args.self.now.unfed c.go_on.new.conn.conn (g.H.Handler.told c.go_on.new.self) c.args.self.now.outbox (g.S.NonBlocking.written c.args.self.now.stream) (g.S.NonBlocking.failed c.args.self.now.stream)) tt (λ h. h) tt (serves-lent (g.S.NonBlocking.remaining c.args.self.now.stream) (g.S.NonBlocking.written c.args.self.now.stream) (g.S.NonBlocking.failed c.args.self.now.stream) c.args.self.now.lent.conn c.go_on.new.conn.conn c.args.self.now.unfed c.args.self.now.outbox (g.H.Handler.told c.args.self.now.handler) (g.H.Handler.told c.go_on.new.self) (kept-still c.args.self.now.lent.conn c.go_on.new.conn.conn c.go_on.ensures.kept) (kept-gone c.args.self.now.lent.conn c.go_on.new.conn.conn c.go_on.ensures.kept) c.go_on.ensures.told)
