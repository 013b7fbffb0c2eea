use Rattle.std.proofs.Common.{◌≡◌, drop}
use Rattle.amqp_halves.specs.Judging.{all_optional}
use Rattle.amqp_halves.proofs.judge.all_optional.Given as goal

abbrev pub invariant-loop-row : goal.invariant-loop-row
invariant-loop-row l = all_optional (drop l.row-index l.rows) ≡ all_optional l.rows
