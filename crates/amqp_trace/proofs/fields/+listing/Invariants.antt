use Rattle.std.proofs.Common.{◌+◌, ◌*◌}
use Rattle.amqp_trace.specs.Printed.{Continues}
use Rattle.amqp_trace.proofs.Entering.{SoFar}
use Rattle.amqp_trace.proofs.fields.+listing.Given as goal

abbrev pub decreases-put_error : goal.decreases-put_error
decreases-put_error l = 4 * l.depth

abbrev pub decreases-put_state : goal.decreases-put_state
decreases-put_state l = 4 * l.depth

abbrev pub decreases-put_field : goal.decreases-put_field
decreases-put_field l = 4 * l.depth + 1

abbrev pub decreases-put_entries : goal.decreases-put_entries
decreases-put_entries l = 4 * l.depth + 2

abbrev pub decreases-put_composite : goal.decreases-put_composite
decreases-put_composite l = 4 * l.depth + 3

abbrev pub invariant-put_entries-loop-place : goal.invariant-put_entries-loop-place
invariant-put_entries-loop-place l = record {
  entries : SoFar l.names l.fields l.place l.is_first l.fn.line l.line;
  goes : Continues l.fn.line l.line;
}
