use Rattle.std.proofs.Common.{None, Some, ◌∙◌}
use Rattle.amqp_ready.proofs.Onward.{feeds-then}
use Rattle.amqp_ready.proofs.feeding.feed.Goals as goal

pub returns-in-Ok-Write-clause-feeds : goal.returns-in-Ok-Write-clause-feeds
returns-in-Ok-Write-clause-feeds g c =
    feeds-then None c.args.lent.now.conn c.loop.lent.conn c.feed_once.new.lent.conn c.args.unfed.now c.loop.unfed c.feed_once.new.unfed (g.H.Handler.told c.args.handler.now)
    (g.H.Handler.told c.loop.handler) (g.H.Handler.told c.feed_once.new.handler) c.loop.invariant.0 c.in-Ok-Write.ensures.feeds

pub returns-in-Err-clause-feeds : goal.returns-in-Err-clause-feeds
returns-in-Err-clause-feeds g c =
    feeds-then (Some c.in-Err.fault) c.args.lent.now.conn c.loop.lent.conn c.feed_once.new.lent.conn c.args.unfed.now c.loop.unfed c.feed_once.new.unfed (g.H.Handler.told c.args.handler.now)
    (g.H.Handler.told c.loop.handler) (g.H.Handler.told c.feed_once.new.handler) c.loop.invariant.0 c.in-Err.ensures.feeds

pub loop-preserved : goal.loop-preserved
loop-preserved g c = (
  feeds-then None c.args.lent.now.conn c.loop.lent.conn c.feed_once.new.lent.conn c.args.unfed.now c.loop.unfed c.feed_once.new.unfed (g.H.Handler.told c.args.handler.now)
      (g.H.Handler.told c.loop.handler) (g.H.Handler.told c.feed_once.new.handler) c.loop.invariant.0 c.in-Ok-Feed.ensures.feeds,
  c.in-Ok-Feed.ensures.gone ∙ c.loop.invariant.1,
)
