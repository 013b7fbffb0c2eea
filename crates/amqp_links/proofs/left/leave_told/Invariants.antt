use Rattle.std.proofs.Common.{◌≡◌, ◌++◌, map, take}
use Rattle.amqp_links.specs.Left.{unlearnt}
use Rattle.amqp_links.proofs.left.leave_told.Given as goal

abbrev pub invariant-loop-place : goal.invariant-loop-place
invariant-loop-place l = l.left.items ≡ l.initial.left.items ++ map (unlearnt l.name) (take l.place l.told.items)
