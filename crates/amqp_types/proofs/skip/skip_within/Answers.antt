use Rattle.std.proofs.Common.{arith}
use Rattle.amqp_types.proofs.Scans.{no_scan, scan_short, scan_spelled}
use Rattle.amqp_types.proofs.skip.skip_within.Goals as goal

pub returns-in-None : goal.returns-in-None
returns-in-None c = no_scan c.args.depth c.args.bytes.now c.in-None.ensures

pub overflow_sub-result : goal.overflow_sub-result
overflow_sub-result c = scan_short c.args.depth c.args.bytes.now c.in-Some.rest.now c.in-Some.ensures

pub returns-in-Some : goal.returns-in-Some
returns-in-Some c =
    let s = scan_spelled c.args.depth c.args.bytes.now c.in-Some.rest.now c.in-Some.ensures in
    (omega arith, s.0, s.1)
