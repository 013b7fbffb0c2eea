use Rattle.std.proofs.Common.{◌≡◌, map, take}
use Rattle.amqp_waiting.specs.OurUnsettled.{pair_of}
use Rattle.amqp_waiting.proofs.sent.pairs_of.Given as goal

abbrev pub invariant-loop-item : goal.invariant-loop-item
invariant-loop-item l = l.pairs.items ≡ map pair_of (take l.item-index l.items)
