use Rattle.std.proofs.Common.{Some, [], ◌∷◌, ◌++◌, subst, arith}
use Rattle.amqp_frames.specs.Plain.{Holds}
use Rattle.amqp_frames.proofs.Steps.{holds_some}
use Rattle.amqp_frames.proofs.append.state.Goals as goal

pub returns-in-Accepted-clause-holds : goal.returns-in-Accepted-clause-holds
returns-in-Accepted-clause-holds c front os h n =
    rw c.in-Accepted.is
    (subst (λ k. Holds front c.put-at.new.head c.put-at.result c.put-at.result c.args.number (os ++ Some (0x00 ∷ 0x53 ∷ k ∷ 0x45 ∷ []) ∷ [])) c.number.ensures.value
    (holds_some front c.args.head.now c.put-at.new.head _ c.args.spot.at c.args.spot.end c.args.spot.count c.put-at.result c.args.number os h c.put-at.ensures.front (omega arith) (omega arith) n))

pub returns-in-Released-clause-holds : goal.returns-in-Released-clause-holds
returns-in-Released-clause-holds c front os h n =
    rw c.in-Released.is
    (subst (λ k. Holds front c.put-at-in-Released.new.head c.put-at-in-Released.result c.put-at-in-Released.result c.args.number (os ++ Some (0x00 ∷ 0x53 ∷ k ∷ 0x45 ∷ []) ∷ [])) c.number-in-Released.ensures.value
    (holds_some front c.args.head.now c.put-at-in-Released.new.head _ c.args.spot.at c.args.spot.end c.args.spot.count c.put-at-in-Released.result c.args.number os h c.put-at-in-Released.ensures.front (omega arith) (omega arith) n))
