use Rattle.std.proofs.Common.{◌≡◌, ◌*◌, ◌≤◌, ◌^◌, take}
use Rattle.amqp_shared.specs.Passes.{total_made, total_parts}
use Rattle.amqp_shared.proofs.closing.totals.Given as goal

abbrev pub invariant-loop-pass : goal.invariant-loop-pass
invariant-loop-pass g l =
    (l.parts ≡ total_parts (take l.pass-index l.passes)) × (l.made ≡ total_made (take l.pass-index l.passes)) × (l.parts ≤ l.pass-index * 2 ^ 32) × (l.made ≤ l.pass-index * 2 ^ 64)
