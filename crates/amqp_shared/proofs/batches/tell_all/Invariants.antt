use Rattle.std.proofs.Common.{◌≡◌, None, Result, length}
use Rattle.amqp_rules.specs.declared.refusal.Refusal.{Refusal}
use Rattle.amqp_conn.specs.Connection.{Connection}
use Rattle.amqp_shared.specs.Passes.{Tally}
use Rattle.amqp_shared.specs.Consuming.{Tells, Asks}
use Rattle.amqp_shared.specs.Batching.{TellsAll}
use Rattle.amqp_shared.proofs.batches.tell_all.Given as goal

-- whoever tells the rest from here has told all
abbrev pub invariant-loop-one : goal.invariant-loop-one
invariant-loop-one g l =
    (l.batch.more ≡ l.initial.batch.more)
    × ((result : Result (Unit {0}) Refusal) → (after : Connection) → TellsAll Tells l.batch.judged l.begun l.guard.conn result after
    → TellsAll Tells l.initial.batch.judged None l.initial.guard.conn result after)
    × ((result : Result (Unit {0}) Refusal) → (after : Tally) → TellsAll Asks l.batch.judged l.begun l.pass result after
    → TellsAll Asks l.initial.batch.judged None l.initial.pass result after)

abbrev pub decreases-loop-one : goal.decreases-loop-one
decreases-loop-one g l = length l.batch.judged
