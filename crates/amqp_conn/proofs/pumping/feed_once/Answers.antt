use Rattle.std.proofs.Common.{ℕ, List, Ok, Err, ◌∙◌, drop, subst, sym}
use Rattle.amqp_conn.specs.Feeding.{Feeds}
use Rattle.amqp_conn.specs.Turning.{GoesOn, Took}
use Rattle.amqp_conn.proofs.Loops.{goes-on, took-fed, took-fault}
use Rattle.amqp_conn.proofs.Telling.{tells-fed, tells-none, fault-adds-none}
use Rattle.amqp_conn.proofs.pumping.feed_once.Goals as goal

pub returns-in-Ok-clause-on : goal.returns-in-Ok-clause-on
returns-in-Ok-clause-on g c =
    subst (λ (n : ℕ). GoesOn c.args.conn.now c.args.rest.now n c.feed.new.self) (sym c.hand_on.ensures.used)
    (goes-on c.args.conn.now c.feed.new.self c.args.rest.now c.in-Ok.fed (subst (λ (x : List ℕ). Feeds c.args.conn.now x (Ok c.in-Ok.fed) c.feed.new.self) c.lent.ensures c.in-Ok.ensures.fed) (c.in-Ok.ensures.progress (λ e. c.requires (sym c.lent.ensures ∙ e))))

pub returns-in-Ok-clause-took : goal.returns-in-Ok-clause-took
returns-in-Ok-clause-took g c =
    subst (λ (n : ℕ). Took c.args.conn.now c.args.rest.now c.feed.new.self (drop n c.args.rest.now)) (sym c.hand_on.ensures.used)
    (took-fed c.args.conn.now c.feed.new.self c.args.rest.now c.in-Ok.fed c.recall.ensures.within (subst (λ (x : List ℕ). Feeds c.args.conn.now x (Ok c.in-Ok.fed) c.feed.new.self) c.lent.ensures c.in-Ok.ensures.fed))

pub returns-in-Ok-clause-well : goal.returns-in-Ok-clause-well
returns-in-Ok-clause-well g c = (c.in-Ok.fed, subst (λ (x : List ℕ). Feeds c.args.conn.now x (Ok c.in-Ok.fed) c.feed.new.self) c.lent.ensures c.in-Ok.ensures.fed)

pub returns-in-Ok-clause-tells : goal.returns-in-Ok-clause-tells
returns-in-Ok-clause-tells g c =
    tells-fed c.args.conn.now c.feed.new.self c.args.rest.now c.in-Ok.fed (g.H.Hears.heard c.args.each.now) (g.H.Hears.heard c.hand_on.new.each) (subst (λ (x : List ℕ). Feeds c.args.conn.now x (Ok c.in-Ok.fed) c.feed.new.self) c.lent.ensures c.in-Ok.ensures.fed) c.hand_on.ensures.tells c.hand_on.ensures.still

pub returns-in-Err-clause-tells : goal.returns-in-Err-clause-tells
returns-in-Err-clause-tells g c =
    tells-none c.args.conn.now.core.log.journal c.feed.new.self.core.log.journal (g.H.Hears.heard c.args.each.now)
    (fault-adds-none c.in-Err.fault c.args.conn.now c.feed.new.self c.args.rest.now (subst (λ (x : List ℕ). Feeds c.args.conn.now x (Err c.in-Err.fault) c.feed.new.self) c.lent.ensures c.in-Err.ensures.fed))

pub returns-in-Err-clause-left : goal.returns-in-Err-clause-left
returns-in-Err-clause-left g c = took-fault c.in-Err.fault c.args.conn.now c.feed.new.self c.args.rest.now c.recall.ensures.within (subst (λ (x : List ℕ). Feeds c.args.conn.now x (Err c.in-Err.fault) c.feed.new.self) c.lent.ensures c.in-Err.ensures.fed)
