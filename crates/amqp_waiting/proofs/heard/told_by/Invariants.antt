use Rattle.std.proofs.Common.{◌≡◌, take}
use Rattle.std.specs.Prelude.{filter_map}
use Rattle.amqp_waiting.specs.PeerUnsettled.{told_in}
use Rattle.amqp_waiting.proofs.heard.told_by.Given as goal

abbrev pub invariant-loop-pair : goal.invariant-loop-pair
invariant-loop-pair l = l.told.items ≡ filter_map told_in (take l.pair-index l.pairs)
