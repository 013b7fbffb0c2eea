use Rattle.std.proofs.Common.{◌≡◌, ◌++◌, List, length, map}
use Rattle.amqp_shared.specs.Batching.{ConsumesAll}
use Rattle.amqp_shared.specs.declared.batches.Judged.{Judged}
use Rattle.amqp_shared.proofs.batches.Batch.judge_all.Given as goal

abbrev pub invariant-loop : goal.invariant-loop
invariant-loop g l =
    (map (λ (j : Judged). j.item) l.self.judged ++ l.self.items ≡ l.initial.self.items)
    × (l.self.more ≡ l.initial.self.more)
    × ((js : List Judged) → (after : _) → ConsumesAll g.W.Work.consumes l.work js after → ConsumesAll g.W.Work.consumes l.initial.work (l.self.judged ++ js) after)

abbrev pub decreases-loop : goal.decreases-loop
decreases-loop g l = length l.self.items
