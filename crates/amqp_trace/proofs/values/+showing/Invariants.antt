use Rattle.std.proofs.Common.{◌≡◌, ◌++◌, ◌+◌, ◌*◌, true, drop, map}
use Rattle.std.specs.Prelude.{codes}
use Rattle.amqp_trace.specs.Printed.{Continues}
use Rattle.amqp_trace.specs.Names.{texts}
use Rattle.amqp_trace.specs.Values.{value_text, pair_text, listed, entries}
use Rattle.amqp_trace.proofs.values.+showing.Given as goal

abbrev pub decreases-put_value : goal.decreases-put_value
decreases-put_value l = 5 * l.depth

abbrev pub decreases-put_values : goal.decreases-put_values
decreases-put_values l = 5 * l.depth + 1

abbrev pub decreases-put_pairs : goal.decreases-put_pairs
decreases-put_pairs l = 5 * l.depth + 1

abbrev pub decreases-put_bare_descriptor : goal.decreases-put_bare_descriptor
decreases-put_bare_descriptor l = 5 * l.depth + 1

abbrev pub decreases-put_descriptor : goal.decreases-put_descriptor
decreases-put_descriptor l = 5 * l.depth + 2

abbrev pub decreases-put_named : goal.decreases-put_named
decreases-put_named l = 5 * l.depth + 1

abbrev pub decreases-put_described : goal.decreases-put_described
decreases-put_described l = 5 * l.depth + 3

abbrev pub decreases-put_opened : goal.decreases-put_opened
decreases-put_opened l = 5 * l.depth + 4

abbrev pub invariant-put_values-loop-value : goal.invariant-put_values-loop-value
invariant-put_values-loop-value l = l.line ++ listed l.is_first (map (value_text l.depth) (drop l.value-index l.values)) ≡ l.initial.line ++ listed true (map (value_text l.depth) l.values)

abbrev pub invariant-put_pairs-loop-pair : goal.invariant-put_pairs-loop-pair
invariant-put_pairs-loop-pair l = l.line ++ listed l.is_first (map (pair_text (value_text l.depth)) (drop l.pair-index l.pairs)) ≡ l.initial.line ++ listed true (map (pair_text (value_text l.depth)) l.pairs)

abbrev pub invariant-put_named-loop-place : goal.invariant-put_named-loop-place
invariant-put_named-loop-place l = l.line ++ listed l.is_first (entries (value_text l.depth) (texts (drop l.place l.names)) (drop l.place l.values)) ≡ l.initial.line ++ listed true (entries (value_text l.depth) (texts l.names) l.values)
