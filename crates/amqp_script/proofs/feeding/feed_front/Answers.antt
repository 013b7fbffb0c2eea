use Rattle.std.proofs.Common.{ℕ, List, Ok, ◌∙◌, subst, sym}
use Rattle.amqp_conn.specs.Feeding.{Feeds}
use Rattle.amqp_conn.proofs.Loops.{goes-on}
use Rattle.amqp_script.proofs.feeding.feed_front.Goals as goal

pub returns-in-Ok : goal.returns-in-Ok
returns-in-Ok c =
    goes-on c.args.conn.now c.feed.new.self c.args.rest.now c.in-Ok.fed (subst (λ (x : List ℕ). Feeds c.args.conn.now x (Ok c.in-Ok.fed) c.feed.new.self) c.lent.ensures c.in-Ok.ensures.fed)
    (c.in-Ok.ensures.progress (λ e. c.requires (sym c.lent.ensures ∙ e)))
