use Rattle.std.proofs.Common.{◌≡◌, ◌+◌, ◌*◌, drop, None}
use Rattle.amqp_types.specs.Canon.{parts_form}
use Rattle.amqp_types.specs.Datum.{count_of}
use Rattle.amqp_frames.specs.Field.{added}
use Rattle.amqp_performatives.specs.Listed.{shown_fields}
use Rattle.amqp_frames.proofs.writing.+writing.Given as goal

abbrev pub decreases-put_composite : goal.decreases-put_composite
decreases-put_composite l = 6 * l.depth

abbrev pub decreases-put_state : goal.decreases-put_state
decreases-put_state l = 6 * l.depth + 1

abbrev pub decreases-put_error : goal.decreases-put_error
decreases-put_error l = 6 * l.depth + 1

abbrev pub decreases-put_field : goal.decreases-put_field
decreases-put_field l = 6 * l.depth + 2

abbrev pub decreases-put_fields : goal.decreases-put_fields
decreases-put_fields l = 6 * l.depth + 3

abbrev pub decreases-put_described : goal.decreases-put_described
decreases-put_described l = 6 * l.depth + 4

abbrev pub invariant-put_fields-loop-i : goal.invariant-put_fields-loop-i
invariant-put_fields-loop-i l = record {
  counted : count_of (shown_fields (drop l.i l.fields)) + l.i ≡ l.count;
  so_far : added l.out.items (parts_form (shown_fields (drop l.i l.fields)) None) ≡ added l.initial.out.items (parts_form (shown_fields l.fields) None);
}
