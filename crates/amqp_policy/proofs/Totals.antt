-- A queue from which a message is taken is not longer.
use Rattle.std.proofs.Common.{ℕ, zero, suc, ◌≤◌, Option, Some, None, List, [], ◌∷◌, length, arith}
use Rattle.std.specs.Prelude.{remove}
use Rattle.amqp_policy.specs.declared.queues.Queued.{Queued}
use Rattle.amqp_policy.specs.Queues.{removed}

remove_shorter : (ms : List Queued) (at : ℕ) → length (remove ms at) ≤ length ms
remove_shorter [] zero = omega arith
remove_shorter [] (suc at) = omega arith
remove_shorter (m ∷ ms) zero = omega arith
remove_shorter (m ∷ ms) (suc at) = let rest = remove_shorter ms at in omega arith

pub removed_shorter : (o : Option ℕ) (ms : List Queued) → length (removed o ms) ≤ length ms
removed_shorter None ms = omega arith
removed_shorter (Some at) ms = remove_shorter ms at
