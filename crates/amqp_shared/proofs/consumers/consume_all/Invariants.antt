use Rattle.std.proofs.Common.{◌≡◌, ℕ}
use Rattle.amqp_shared.specs.Batching.{Batches}
use Rattle.amqp_shared.proofs.consumers.consume_all.Given as goal

abbrev pub invariant-loop : goal.invariant-loop
invariant-loop g l =
    ((n : ℕ) × Batches g.W.Work.consumes l.fn.job.terms l.fn.job.batch.more n l.count (record { pass = l.initial.pass; work = l.initial.work }) (record { pass = l.pass; work = l.work }))
    × (l.batch.more ≡ l.initial.batch.more)
