use Rattle.std.proofs.Common.{sym, ◌∙◌}
use Rattle.amqp_types.proofs.Scans.{scanned_some}
use Rattle.amqp_types.specs.View.{view}
use Rattle.amqp_types.proofs.Laws.{only_reading, nothing_read, rest_is_short, spelling_taken}
use Rattle.amqp_types.proofs.read.read_within.Goals as goal

pub overflow_sub-result : goal.overflow_sub-result
overflow_sub-result c = rest_is_short c.args.depth c.args.bytes.now (view c.in-Ok.value) c.in-Ok.rest.now c.in-Ok.ensures

pub returns-in-Ok-clause-found : goal.returns-in-Ok-clause-found
returns-in-Ok-clause-found c = spelling_taken c.args.depth c.args.bytes.now (view c.in-Ok.value) c.in-Ok.rest.now c.in-Ok.ensures

pub returns-in-Ok-clause-only : goal.returns-in-Ok-clause-only
returns-in-Ok-clause-only c = λ w x after h e. let s = only_reading c.args.depth c.args.bytes.now (view c.in-Ok.value) c.in-Ok.rest.now c.in-Ok.ensures w x after h e in s

pub returns-in-Err-NoValue-clause-none : goal.returns-in-Err-NoValue-clause-none
returns-in-Err-NoValue-clause-none c = λ h q. nothing_read c.args.depth c.args.bytes.now (rw c.in-Err-NoValue.field-0-is at c.in-Err-NoValue.ensures) q.0 q.1 q.2 q.3 q.4

pub returns-then-is_some-clause-memory : goal.returns-then-is_some-clause-memory
returns-then-is_some-clause-memory c = λ h. scanned_some c.args.depth c.args.bytes.now c.skip_within.result c.skip_within.ensures (sym c.is_some.ensures ∙ c.if-is_some.true)
