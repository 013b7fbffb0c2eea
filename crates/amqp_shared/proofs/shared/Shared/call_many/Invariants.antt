use Rattle.std.proofs.Common.{◌+◌, ◌≤◌, ◌++◌, List, length, drop, Option, vec_len, vec_capacity}
use Rattle.amqp_rules.specs.declared.reply.Given.{Given}
use Rattle.amqp_rules.specs.declared.refusal.Refusal.{Refusal}
use Rattle.amqp_journal.specs.declared.receipt.Receipt.{Receipt}
use Rattle.amqp_shared.specs.Passes.{Tally}
use Rattle.amqp_shared.specs.Waking.{Held}
use Rattle.amqp_shared.specs.Many.{CallsAll, Tells, Notes}
use Rattle.amqp_shared.proofs.shared.Shared.call_many.Given as goal

-- whoever calls the rest from here has called all
abbrev pub invariant-loop-op : goal.invariant-loop-op
invariant-loop-op g l =
    (vec_len l.answers + length (drop l.op-index l.ops) ≤ vec_capacity l.answers)
    × ((more : List (Receipt × Given)) → (refused : Option Refusal) → (after : Held) → CallsAll Tells l.guard (drop l.op-index l.ops) more refused after
    → CallsAll Tells l.initial.guard l.ops (l.answers.items ++ more) refused after)
    × ((more : List (Receipt × Given)) → (refused : Option Refusal) → (after : Tally) → CallsAll Notes l.pass (drop l.op-index l.ops) more refused after
    → CallsAll Notes l.initial.pass l.ops (l.answers.items ++ more) refused after)
