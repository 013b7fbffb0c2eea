use Rattle.std.proofs.Common.{arith}
use Rattle.amqp_frames.proofs.Steps.{holds_none}
use Rattle.amqp_frames.proofs.append.absent.Goals as goal

pub returns-clause-holds : goal.returns-clause-holds
returns-clause-holds c front os h =
    holds_none front c.args.head.now c.put-at.new.head c.args.spot.at c.args.spot.end c.args.spot.count c.put-at.result os h c.put-at.ensures.front (omega arith) (omega arith)
