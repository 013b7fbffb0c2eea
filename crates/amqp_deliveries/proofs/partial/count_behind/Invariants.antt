use Rattle.std.proofs.Common.{◌≡◌, ◌∷◌, take}
use Rattle.amqp_deliveries.specs.Parts.{octets_told}
use Rattle.amqp_deliveries.proofs.partial.count_behind.Given as goal

abbrev pub invariant-loop-part : goal.invariant-loop-part
invariant-loop-part l = l.octets ≡ octets_told (l.front ∷ take l.part-index l.rest)
