use Rattle.std.proofs.Common.{◌≡◌, ◌+◌, ◌*◌, drop, None}
use Rattle.amqp_types.specs.Datum.{depth_of, greatest_depth_of}
use Rattle.amqp_types.specs.Canon.{parts_form}
use Rattle.amqp_types.specs.View.{view, views, views_of_pairs}
use Rattle.amqp_types.proofs.Contents.{behind}
use Rattle.amqp_types.proofs.write.+putting.Given as goal

abbrev pub decreases-put_part : goal.decreases-put_part
decreases-put_part l = 2 * depth_of (view l.value.now)

abbrev pub decreases-put_parts : goal.decreases-put_parts
decreases-put_parts l = 2 * greatest_depth_of (views l.values.now) + 1

abbrev pub decreases-put_pairs : goal.decreases-put_pairs
decreases-put_pairs l = 2 * greatest_depth_of (views_of_pairs l.pairs.now) + 1

abbrev pub invariant-put_parts-loop-value : goal.invariant-put_parts-loop-value
invariant-put_parts-loop-value l = behind l.out.items (parts_form (views (drop l.value-index l.values)) l.how) ≡ behind l.initial.out.items (parts_form (views l.values) l.how)

abbrev pub invariant-put_pairs-loop-pair : goal.invariant-put_pairs-loop-pair
invariant-put_pairs-loop-pair l = behind l.out.items (parts_form (views_of_pairs (drop l.pair-index l.pairs)) None) ≡ behind l.initial.out.items (parts_form (views_of_pairs l.pairs) None)
