use Rattle.std.proofs.Common.{◌≡◌, length}
use Rattle.std.specs.Str.{is_utf8}
use Rattle.amqp_halves.specs.Halves.{whole}
use Rattle.amqp_halves.proofs.halves.is_utf8.Given as goal

abbrev pub invariant-loop-rest : goal.invariant-loop-rest
invariant-loop-rest l = is_utf8 (whole l.rest) ≡ is_utf8 (whole l.octets)

abbrev pub decreases-loop-rest : goal.decreases-loop-rest
decreases-loop-rest l = length (whole l.rest)
