use Rattle.std.proofs.Common.{◌≡◌, ◌++◌, map, take}
use Rattle.amqp_links.specs.Left.{untaken}
use Rattle.amqp_links.proofs.left.leave_ready.Given as goal

abbrev pub invariant-loop-place : goal.invariant-loop-place
invariant-loop-place l = l.left.items ≡ l.initial.left.items ++ map (untaken l.link l.name) (take l.place l.ready.items)
