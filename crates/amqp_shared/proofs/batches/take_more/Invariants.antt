use Rattle.std.proofs.Common.{◌≡◌, ℕ, ◌+◌, ◌-◌, ◌≤◌, ◌++◌, [], List, length}
use Rattle.amqp_rules.specs.declared.reply.Taken.{Taken}
use Rattle.amqp_shared.specs.Passes.{Tally}
use Rattle.amqp_shared.specs.Batching.{TakesMore}
use Rattle.amqp_shared.proofs.batches.take_more.Given as goal

-- what was taken here, and that what is taken behind it was taken with it
abbrev pub invariant-loop-guard : goal.invariant-loop-guard
invariant-loop-guard g l =
    (l.batch.judged ≡ [])
    × (length l.batch.items ≤ l.initial.batch.more + 1)
    × (taken : List Taken)
    × (l.batch ≡ record l.initial.batch { items = l.initial.batch.items ++ taken })
    × ((ts : List Taken) → (room : ℕ) → (after : Tally) → TakesMore l.link ts room l.pass after → TakesMore l.link (taken ++ ts) room l.initial.pass after)

abbrev pub decreases-loop-guard : goal.decreases-loop-guard
decreases-loop-guard g l = l.batch.more + 1 - length l.batch.items
