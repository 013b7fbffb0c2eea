use Rattle.std.proofs.Common.{◌≡◌, drop}
use Rattle.amqp_pair_laws.specs.World.{frame_among}
use Rattle.amqp_world.proofs.next.frame_of.Given as goal

abbrev pub invariant-loop-sent : goal.invariant-loop-sent
invariant-loop-sent l = frame_among l.fn.entry.reply.sent ≡ frame_among (drop l.sent-index l.sent-items)
