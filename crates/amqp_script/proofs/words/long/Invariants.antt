use Rattle.std.proofs.Common.{◌<◌, ◌^◌, drop}
use Rattle.amqp_script.proofs.Decimal.{IsReadUpTo}
use Rattle.amqp_script.proofs.words.long.Given as goal

abbrev pub invariant-loop-octet : goal.invariant-loop-octet
invariant-loop-octet l = (l.value < 2 ^ 64) × IsReadUpTo l.word (drop l.octet-index l.word) l.value
