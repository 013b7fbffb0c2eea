use Rattle.std.proofs.Common.{ℕ, List, Ok, Err, ◌∙◌, subst}
use Rattle.amqp_conn.specs.Feeding.{Feeds}
use Rattle.amqp_ready.specs.Serving.{fault_in}
use Rattle.amqp_ready.proofs.Keeping.{kept-gone, kept-still}
use Rattle.amqp_ready.proofs.Onward.{feeds-one, feeds-fault, fed-gone, fault-gone}
use Rattle.amqp_ready.proofs.feeding.feed_once.Goals as goal

pub returns-in-Ok-clause-feeds : goal.returns-in-Ok-clause-feeds
returns-in-Ok-clause-feeds g c =
    let conn = c.args.lent.now.conn in
    let piece = subst (λ (x : List ℕ). Feeds conn x (Ok c.in-Ok.fed) c.feed.new.self) (c.lent.ensures ∙ c.octets.ensures) c.in-Ok.ensures.fed in
    feeds-one (fault_in c.hand_on.result) c.in-Ok.fed conn c.feed.new.self c.hand_on.new.lent.conn c.args.unfed.now c.skip.new.self (g.H.Handler.told c.args.handler.now) (g.H.Handler.told c.hand_on.new.handler)
    piece (kept-still c.feed.new.self c.hand_on.new.lent.conn c.hand_on.ensures.kept) c.skip.ensures c.hand_on.ensures.refused c.hand_on.ensures.tells c.hand_on.ensures.still

pub returns-in-Ok-clause-gone : goal.returns-in-Ok-clause-gone
returns-in-Ok-clause-gone g c =
    kept-gone c.feed.new.self c.hand_on.new.lent.conn c.hand_on.ensures.kept
    ∙ fed-gone c.args.lent.now.conn c.feed.new.self c.lent.result c.in-Ok.fed c.recall.ensures.within c.recall.ensures.some c.in-Ok.ensures.fed

pub returns-in-Err-clause-gone : goal.returns-in-Err-clause-gone
returns-in-Err-clause-gone g c =
    fault-gone c.in-Err.fault c.args.lent.now.conn c.feed.new.self c.lent.result c.recall.ensures.within c.recall.ensures.some c.in-Err.ensures.fed

pub returns-in-Err-clause-feeds : goal.returns-in-Err-clause-feeds
returns-in-Err-clause-feeds g c =
    let conn = c.args.lent.now.conn in
    let piece = subst (λ (x : List ℕ). Feeds conn x (Err c.in-Err.fault) c.feed.new.self) (c.lent.ensures ∙ c.octets.ensures) c.in-Err.ensures.fed in
    feeds-fault c.in-Err.fault conn c.feed.new.self c.args.unfed.now (g.H.Handler.told c.args.handler.now) piece
