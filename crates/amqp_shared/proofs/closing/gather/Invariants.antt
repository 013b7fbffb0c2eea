use Rattle.std.proofs.Common.{◌≡◌, ◌+◌, vec_len}
use Rattle.amqp_shared.specs.Passes.{total_made, total_parts}
use Rattle.amqp_shared.proofs.closing.gather.Given as goal

abbrev pub invariant-loop-pass : goal.invariant-loop-pass
invariant-loop-pass g l =
    (l.share.parts + total_parts l.passes.items ≡ l.initial.share.parts + total_parts l.initial.passes.items)
    × (l.share.amount + total_made l.passes.items ≡ l.initial.share.amount + total_made l.initial.passes.items)

abbrev pub decreases-loop-pass : goal.decreases-loop-pass
decreases-loop-pass g l = vec_len l.passes
