use Rattle.std.proofs.Common.{arith, ap, ◌∙◌, ◌++◌, take, [], ◌∷◌}
use Rattle.amqp_frames.proofs.Steps.{holds_some}
use Rattle.amqp_frames.proofs.Plain.{boolean_shown}
use Rattle.amqp_frames.proofs.append.boolean.Goals as goal

pub returns-in-Some-clause-holds : goal.returns-in-Some-clause-holds
returns-in-Some-clause-holds c front os h n =
    rw c.in-Some.is (holds_some front c.args.head.now c.put-at.new.head _ c.args.spot.at c.args.spot.end c.args.spot.count c.put-at.result c.args.number os h
    (c.put-at.ensures.front ∙ ap (λ t. take c.args.spot.at c.args.head.now ++ t ∷ []) c.boolean_code.ensures) (omega arith) (omega arith) n)

pub returns-in-Some-clause-shown : goal.returns-in-Some-clause-shown
returns-in-Some-clause-shown c = rw c.in-Some.is (boolean_shown c.in-Some.b, omega arith)
