use Rattle.std.proofs.Common.{◌≡◌, take}
use Rattle.amqp_laws.specs.Past.{past}
use Rattle.amqp_pair_laws.specs.Moves.{count}
use Rattle.amqp_pair_laws.specs.World.{sends}
use Rattle.amqp_world.proofs.next.next_frame.Given as goal

abbrev pub invariant-loop-i : goal.invariant-loop-i
invariant-loop-i l = count sends (past (take l.i l.fn.entries)) ≡ count sends (past (take l.fn.place l.fn.entries))
