use Rattle.std.proofs.Common.{◌≡◌, filter_map}
use Rattle.std.specs.List.{slice_range}
use Rattle.amqp_deliveries.specs.Edits.{told_first}
use Rattle.amqp_deliveries.proofs.held.loops.tellings.Given as goal

abbrev pub invariant-loop-place : goal.invariant-loop-place
invariant-loop-place l = l.told.items ≡ filter_map (told_first l.fn.said) (slice_range l.items.items l.fn.span.start l.place)
