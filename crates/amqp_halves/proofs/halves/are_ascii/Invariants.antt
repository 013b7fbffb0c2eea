use Rattle.std.proofs.Common.{◌≡◌, drop}
use Rattle.amqp_types.specs.Grammar.{is_ascii}
use Rattle.amqp_halves.proofs.halves.are_ascii.Given as goal

abbrev pub invariant-loop-octet : goal.invariant-loop-octet
invariant-loop-octet l = is_ascii (drop l.octet-index l.octets) ≡ is_ascii l.octets
