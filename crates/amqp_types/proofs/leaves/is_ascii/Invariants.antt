use Rattle.std.proofs.Common.{◌≡◌, drop}
use Rattle.amqp_types.specs.Grammar.{is_ascii}
use Rattle.amqp_types.proofs.leaves.is_ascii.Given as goal

abbrev pub invariant-loop-byte : goal.invariant-loop-byte
invariant-loop-byte l = is_ascii (drop l.byte-index l.bytes) ≡ is_ascii l.bytes
