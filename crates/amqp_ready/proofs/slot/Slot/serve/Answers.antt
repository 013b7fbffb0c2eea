use Rattle.std.proofs.Common.{ℕ, List, Option, Some, ap, subst, sym}
use Rattle.amqp_rules.specs.declared.reply.Given.{Given}
use Rattle.amqp_ready.specs.declared.fault.SlotFault.{SlotFault}
use Rattle.amqp_ready.specs.Slotting.{parts, Serves}
use Rattle.amqp_ready.proofs.Turning.{serves-last}
use Rattle.amqp_ready.proofs.slot.Slot.serve.Goals as goal

pub returns-in-Err-clause-serves : goal.returns-in-Err-clause-serves
returns-in-Err-clause-serves g c =
    let one = c.in-Err.ensures.serves in
    let s = c.turn.new.self in
    let t = c.last_words.new.self in
    subst (λ (e : SlotFault). Serves (Some e) (parts (g.S.NonBlocking.remaining c.args.self.now.stream) c.args.self.now.unfed c.args.self.now.lent.conn (g.H.Handler.told c.args.self.now.handler) c.args.self.now.outbox (g.S.NonBlocking.written c.args.self.now.stream) (g.S.NonBlocking.failed c.args.self.now.stream)) (parts (g.S.NonBlocking.remaining c.last_words.new.self.stream) c.last_words.new.self.unfed c.last_words.new.self.lent.conn (g.H.Handler.told c.last_words.new.self.handler) c.last_words.new.self.outbox (g.S.NonBlocking.written c.last_words.new.self.stream) (g.S.NonBlocking.failed c.last_words.new.self.stream))) (sym c.last_words.ensures.same)
    (subst (λ (u : Option (List Given)). Serves (Some c.in-Err.fault) (parts (g.S.NonBlocking.remaining c.args.self.now.stream) c.args.self.now.unfed c.args.self.now.lent.conn (g.H.Handler.told c.args.self.now.handler) c.args.self.now.outbox (g.S.NonBlocking.written c.args.self.now.stream) (g.S.NonBlocking.failed c.args.self.now.stream)) (parts (g.S.NonBlocking.remaining t.stream) t.unfed t.lent.conn u t.outbox (g.S.NonBlocking.written t.stream) (g.S.NonBlocking.failed t.stream))) (sym (ap g.H.Handler.told c.last_words.ensures.handler))
    (subst (λ (x : List ℕ). Serves (Some c.in-Err.fault) (parts (g.S.NonBlocking.remaining c.args.self.now.stream) c.args.self.now.unfed c.args.self.now.lent.conn (g.H.Handler.told c.args.self.now.handler) c.args.self.now.outbox (g.S.NonBlocking.written c.args.self.now.stream) (g.S.NonBlocking.failed c.args.self.now.stream)) (parts (g.S.NonBlocking.remaining t.stream) x t.lent.conn (g.H.Handler.told s.handler) t.outbox (g.S.NonBlocking.written t.stream) (g.S.NonBlocking.failed t.stream))) (sym c.last_words.ensures.unfed)
    (serves-last c.in-Err.fault (parts (g.S.NonBlocking.remaining c.args.self.now.stream) c.args.self.now.unfed c.args.self.now.lent.conn (g.H.Handler.told c.args.self.now.handler) c.args.self.now.outbox (g.S.NonBlocking.written c.args.self.now.stream) (g.S.NonBlocking.failed c.args.self.now.stream)) (g.S.NonBlocking.remaining s.stream) (g.S.NonBlocking.remaining t.stream) (g.S.NonBlocking.written s.stream) (g.S.NonBlocking.written t.stream) (g.S.NonBlocking.failed s.stream) (g.S.NonBlocking.failed t.stream) s.lent.conn t.lent.conn s.unfed s.outbox t.outbox
    (g.H.Handler.told s.handler) one c.last_words.ensures.remaining c.last_words.ensures.sent c.last_words.ensures.only c.last_words.ensures.failed)))
