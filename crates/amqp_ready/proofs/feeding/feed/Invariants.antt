use Rattle.std.proofs.Common.{◌≡◌, None}
use Rattle.amqp_ready.specs.Gathering.{gone}
use Rattle.amqp_ready.specs.Serving.{FeedsOn}
use Rattle.amqp_ready.proofs.feeding.feed.Given as goal

abbrev pub invariant-loop : goal.invariant-loop
invariant-loop g l =
    FeedsOn None l.fn.lent.conn l.fn.unfed (g.H.Handler.told l.fn.handler) l.lent.conn l.unfed (g.H.Handler.told l.handler) × (gone l.lent.conn ≡ gone l.fn.lent.conn)
