use Rattle.std.proofs.Common.{arith, ap, ◌∙◌, take, ◌++◌, length}
use Rattle.amqp_frames.specs.Plain.{binary_octets}
use Rattle.amqp_frames.proofs.Steps.{holds_some}
use Rattle.amqp_frames.proofs.Plain.{binary_shown}
use Rattle.amqp_frames.proofs.append.tag.Goals as goal

pub returns-in-Some-clause-holds : goal.returns-in-Some-clause-holds
returns-in-Some-clause-holds c front os h n =
    rw c.in-Some.is (holds_some front c.args.head.now c.put_binary-at.new.head _ c.args.spot.at c.args.spot.end c.args.spot.count c.put_binary-at.result c.args.number os h
    (c.put_binary-at.ensures.front ∙ ap (λ t. take c.args.spot.at c.args.head.now ++ binary_octets t) c.octets.ensures.value) (omega arith) (omega arith) n)

pub returns-in-Some-clause-shown : goal.returns-in-Some-clause-shown
returns-in-Some-clause-shown c = rw c.in-Some.is (binary_shown c.in-Some.tag (omega (arith, ap length c.octets.ensures.value)), omega arith)
