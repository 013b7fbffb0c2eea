use Rattle.std.proofs.Common.{◌+◌, ◌-◌, arith, sym, ap, refl}
use Rattle.amqp_halves.specs.Halves.{whole}
use Rattle.amqp_types.specs.Reading.{parts_at, part_at, after}
use Rattle.amqp_types.proofs.Bodies.{no_depth, body_is}
use Rattle.amqp_types.proofs.Scans.{skips_part, stops_at_part, at_end}
use Rattle.amqp_halves.proofs.scan.+scanning.Goals as goal

pub scan_body-returns-then-depth-eq0 : goal.scan_body-returns-then-depth-eq0
scan_body-returns-then-depth-eq0 t c = sym (ap after (no_depth c.args.depth c.args.code (whole c.args.octets) (omega arith)))

pub scan_body-returns-in-EmptyList : goal.scan_body-returns-in-EmptyList
scan_body-returns-in-EmptyList t c = rw (body_is c.args.depth (c.args.depth - 1) c.args.code _ (whole c.args.octets) (omega arith) c.in-EmptyList.ensures) refl

pub scan_body-returns-in-Unknown : goal.scan_body-returns-in-Unknown
scan_body-returns-in-Unknown t c = rw (body_is c.args.depth (c.args.depth - 1) c.args.code _ (whole c.args.octets) (omega arith) c.in-Unknown.ensures) refl

pub scan_body-returns-in-Number : goal.scan_body-returns-in-Number
scan_body-returns-in-Number t c = rw (body_is c.args.depth (c.args.depth - 1) c.args.code _ (whole c.args.octets) (omega arith) c.in-Number.ensures) c.scan_number.ensures

pub scan_body-returns-in-Octets : goal.scan_body-returns-in-Octets
scan_body-returns-in-Octets t c = rw (body_is c.args.depth (c.args.depth - 1) c.args.code _ (whole c.args.octets) (omega arith) c.in-Octets.ensures) c.scan_octets.ensures

pub scan_body-returns-in-Sixteen : goal.scan_body-returns-in-Sixteen
scan_body-returns-in-Sixteen t c = rw (body_is c.args.depth (c.args.depth - 1) c.args.code _ (whole c.args.octets) (omega arith) c.in-Sixteen.ensures) c.scan_run.ensures

pub scan_body-returns-in-List : goal.scan_body-returns-in-List
scan_body-returns-in-List t c = rw (body_is c.args.depth (c.args.depth - 1) c.args.code _ (whole c.args.octets) (omega arith) c.in-List.ensures) c.scan_list.ensures

pub scan_body-returns-in-Map : goal.scan_body-returns-in-Map
scan_body-returns-in-Map t c = rw (body_is c.args.depth (c.args.depth - 1) c.args.code _ (whole c.args.octets) (omega arith) c.in-Map.ensures) c.scan_map.ensures

pub scan_body-returns-in-Array : goal.scan_body-returns-in-Array
scan_body-returns-in-Array t c = rw (body_is c.args.depth (c.args.depth - 1) c.args.code _ (whole c.args.octets) (omega arith) c.in-Array.ensures) c.scan_array.ensures

pub scan_body-returns-in-Described : goal.scan_body-returns-in-Described
scan_body-returns-in-Described t c = rw (body_is c.args.depth (c.args.depth - 1) c.args.code _ (whole c.args.octets) (omega arith) c.in-Described.ensures) c.scan_described.ensures

pub are_parts-loop-preserved : goal.are_parts-loop-preserved
are_parts-loop-preserved t c =
    skips_part (part_at c.args.depth c.args.how) (c.args.count - c.loop.counter) (c.args.count - (c.loop.counter + 1)) (whole c.loop.rest) (whole c.in-Some.next) (after (parts_at (part_at c.args.depth c.args.how) c.args.count (whole c.args.octets)))
    (omega arith) c.in-Some.ensures c.loop.invariant

pub are_parts-returns-in-None : goal.are_parts-returns-in-None
are_parts-returns-in-None t c =
    stops_at_part (part_at c.args.depth c.args.how) (c.args.count - c.loop.counter) (c.args.count - (c.loop.counter + 1)) (whole c.loop.rest) c.args.count (whole c.args.octets) (omega arith) c.in-None.ensures c.loop.invariant

pub are_parts-returns : goal.are_parts-returns
are_parts-returns t c =
    at_end (part_at c.args.depth c.args.how) (c.args.count - c.loop.counter) (whole c.loop.rest) c.args.count (whole c.args.octets) c.is_empty.result (omega arith) c.is_empty.ensures c.loop.invariant
