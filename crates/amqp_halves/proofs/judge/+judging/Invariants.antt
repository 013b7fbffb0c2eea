use Rattle.std.proofs.Common.{◌≡◌, ◌+◌, ◌-◌, ◌*◌, Some, None}
use Rattle.amqp_types.specs.Datum.{Data}
use Rattle.amqp_types.specs.Reading.{part_at, all_parts_at}
use Rattle.amqp_halves.specs.Halves.{whole}
use Rattle.amqp_halves.proofs.FieldRows.{RowsLeft}
use Rattle.amqp_halves.proofs.judge.+judging.Given as goal

abbrev pub decreases-fits : goal.decreases-fits
decreases-fits l = l.depth * 8

abbrev pub decreases-is_state : goal.decreases-is_state
decreases-is_state l = l.depth * 8 + 1

abbrev pub decreases-admits_described : goal.decreases-admits_described
decreases-admits_described l = l.depth * 8 + 3

abbrev pub decreases-admits : goal.decreases-admits
decreases-admits l = l.depth * 8 + 4

abbrev pub decreases-first_fits : goal.decreases-first_fits
decreases-first_fits l = l.depth * 8 + 5

abbrev pub decreases-are_rows : goal.decreases-are_rows
decreases-are_rows l = l.depth * 8 + 6

abbrev pub invariant-are_rows-loop : goal.invariant-are_rows-loop
invariant-are_rows-loop l = (ds : Data) → all_parts_at (part_at l.depth None) l.count (whole l.octets) ≡ Some ds → RowsLeft (part_at l.depth None) (l.count - l.counter) (whole l.rest) l.others l.rows ds
