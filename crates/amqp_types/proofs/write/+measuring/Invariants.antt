use Rattle.std.proofs.Common.{◌≡◌, ◌+◌, ◌*◌, ◌-◌, ◌≤◌, ◌^◌, drop, None}
use Rattle.amqp_types.specs.Datum.{depth_of, greatest_depth_of}
use Rattle.amqp_types.specs.Canon.{parts_form, capped}
use Rattle.amqp_types.specs.View.{view, views, views_of_pairs}
use Rattle.amqp_types.proofs.Lengths.{capped_behind}
use Rattle.amqp_types.proofs.write.+measuring.Given as goal

abbrev pub decreases-part_len : goal.decreases-part_len
decreases-part_len l = 2 * depth_of (view l.value.now)

abbrev pub decreases-parts_len : goal.decreases-parts_len
decreases-parts_len l = 2 * greatest_depth_of (views l.values.now) + 1

abbrev pub decreases-pairs_len : goal.decreases-pairs_len
decreases-pairs_len l = 2 * greatest_depth_of (views_of_pairs l.pairs.now) + 1

abbrev pub invariant-parts_len-loop-value : goal.invariant-parts_len-loop-value
invariant-parts_len-loop-value l = record {
  within : l.size ≤ 2 ^ 64 - 1;
  so_far : capped_behind l.size (parts_form (views (drop l.value-index l.values)) l.how) ≡ capped (parts_form (views l.values) l.how);
}

abbrev pub invariant-pairs_len-loop-pair : goal.invariant-pairs_len-loop-pair
invariant-pairs_len-loop-pair l = record {
  within : l.size ≤ 2 ^ 64 - 1;
  so_far : capped_behind l.size (parts_form (views_of_pairs (drop l.pair-index l.pairs)) None) ≡ capped (parts_form (views_of_pairs l.pairs) None);
}
