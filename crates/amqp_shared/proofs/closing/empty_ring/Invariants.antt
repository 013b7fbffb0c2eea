use Rattle.std.proofs.Common.{◌≡◌, ◌+◌, ◌≤◌, ◌++◌, length, vec_len, vec_capacity}
use Rattle.rtrb.specs.Ring.{known_items}
use Rattle.amqp_shared.proofs.closing.empty_ring.Given as goal

abbrev pub invariant-loop-i : goal.invariant-loop-i
invariant-loop-i l =
    (l.left.items ++ known_items l.consumer ≡ l.initial.left.items ++ known_items l.initial.consumer)
    × (length (known_items l.consumer) + l._i ≡ l.count)
    × (vec_len l.left + length (known_items l.consumer) ≤ vec_capacity l.left)
    × (vec_capacity l.left ≡ vec_capacity l.initial.left)
