use Rattle.std.proofs.Common.{arith}
use Rattle.amqp_frames.proofs.Steps.{holds_some}
use Rattle.amqp_frames.proofs.Plain.{uint_shown}
use Rattle.amqp_frames.proofs.append.uint.Goals as goal

pub returns-in-Some-clause-holds : goal.returns-in-Some-clause-holds
returns-in-Some-clause-holds c front os h n =
    rw c.in-Some.is (holds_some front c.args.head.now c.put_uint-at.new.head _ c.args.spot.at c.args.spot.end c.args.spot.count c.put_uint-at.result c.args.number os h c.put_uint-at.ensures.front (omega arith) (omega arith) n)

pub returns-in-Some-clause-shown : goal.returns-in-Some-clause-shown
returns-in-Some-clause-shown c = rw c.in-Some.is (uint_shown c.in-Some.n (omega arith), omega arith)
