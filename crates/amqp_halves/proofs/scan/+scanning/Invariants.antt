use Rattle.std.proofs.Common.{◌≡◌, ◌+◌, ◌-◌, ◌*◌}
use Rattle.amqp_halves.specs.Halves.{whole}
use Rattle.amqp_types.specs.Reading.{part_at, parts_at, after}
use Rattle.amqp_halves.proofs.scan.+scanning.Given as goal

abbrev pub decreases-scan_body : goal.decreases-scan_body
decreases-scan_body l = l.depth * 8

abbrev pub decreases-scan_part : goal.decreases-scan_part
decreases-scan_part l = l.depth * 8 + 1

abbrev pub decreases-are_parts : goal.decreases-are_parts
decreases-are_parts l = l.depth * 8 + 2

abbrev pub decreases-is_array_content : goal.decreases-is_array_content
decreases-is_array_content l = l.depth * 8 + 3

abbrev pub decreases-scan_array : goal.decreases-scan_array
decreases-scan_array l = l.depth * 8 + 4

abbrev pub decreases-scan_list : goal.decreases-scan_list
decreases-scan_list l = l.depth * 8 + 4

abbrev pub decreases-scan_map : goal.decreases-scan_map
decreases-scan_map l = l.depth * 8 + 4

abbrev pub decreases-scan_described : goal.decreases-scan_described
decreases-scan_described l = l.depth * 8 + 4

abbrev pub invariant-are_parts-loop : goal.invariant-are_parts-loop
invariant-are_parts-loop l = after (parts_at (part_at l.depth l.how) (l.count - l.counter) (whole l.rest)) ≡ after (parts_at (part_at l.depth l.how) l.count (whole l.octets))
