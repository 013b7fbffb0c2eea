use Rattle.std.proofs.Common.{◌≡◌, ℕ, List, Some, None, drop}
use Rattle.amqp_types.specs.Datum.{Datum}
use Rattle.amqp_types.specs.Reading.{part_at}
use Rattle.amqp_halves.specs.Halves.{whole}
use Rattle.amqp_halves.specs.Leaves.{IsLeaf}
use Rattle.amqp_halves.specs.Judging.{first_body}
use Rattle.amqp_halves.proofs.judge.first_body.Given as goal

abbrev pub invariant-loop-composite : goal.invariant-loop-composite
invariant-loop-composite l = (a b : Datum) (rest : List ℕ) → IsLeaf l.descriptor a → part_at 31 None (whole l.value) ≡ Some (b, rest) → first_body (drop l.composite-index l.bodies) a b ≡ first_body l.bodies a b
