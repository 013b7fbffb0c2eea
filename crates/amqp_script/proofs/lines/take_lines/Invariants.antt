use Rattle.std.proofs.Common.{IsSome}
use Rattle.amqp_script.proofs.lines.take_lines.Given as goal

abbrev pub invariant-loop : goal.invariant-loop
invariant-loop g l = IsSome (g.R.Read.remaining l.fn.reader) → IsSome (g.R.Read.remaining l.reader)
