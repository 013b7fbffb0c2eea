use Rattle.std.proofs.Common.{◌≡◌, ◌+◌, ◌*◌, ◌-◌, ◌≤◌, ◌^◌, drop}
use Rattle.amqp_types.specs.Canon.{capped}
use Rattle.amqp_types.specs.Datum.{count_of}
use Rattle.amqp_frames.specs.Field.{forms_within}
use Rattle.amqp_performatives.specs.Listed.{shown_fields}
use Rattle.amqp_frames.proofs.Fields.{capped_behind}
use Rattle.amqp_frames.proofs.measure.+measuring.Given as goal

abbrev pub decreases-composite_len : goal.decreases-composite_len
decreases-composite_len l = 4 * l.depth

abbrev pub decreases-state_len : goal.decreases-state_len
decreases-state_len l = 4 * l.depth + 1

abbrev pub decreases-error_len : goal.decreases-error_len
decreases-error_len l = 4 * l.depth + 1

abbrev pub decreases-field_len : goal.decreases-field_len
decreases-field_len l = 4 * l.depth + 2

abbrev pub decreases-fields_len : goal.decreases-fields_len
decreases-fields_len l = 4 * l.depth + 3

abbrev pub invariant-fields_len-loop-i : goal.invariant-fields_len-loop-i
invariant-fields_len-loop-i l = record {
  within : l.size ≤ 2 ^ 64 - 1;
  counted : count_of (shown_fields (drop l.i l.fields)) + l.i ≡ l.count;
  so_far : capped_behind l.size (forms_within l.depth (shown_fields (drop l.i l.fields))) ≡ capped (forms_within l.depth (shown_fields l.fields));
}
