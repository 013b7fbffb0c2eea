use Rattle.std.proofs.Common.{◌-◌, refl, arith}
use Rattle.amqp_types.specs.Datum.{described}
use Rattle.amqp_halves.specs.Halves.{whole}
use Rattle.amqp_halves.proofs.Shapes.{behind, no_depth_read, unread}
use Rattle.amqp_halves.proofs.judge.opened.Goals as goal

pub returns-then-depth-eq0-clause-value : goal.returns-then-depth-eq0-clause-value
returns-then-depth-eq0-clause-value c a b rest e = no_depth_read c.args.depth (whole c.args.octets) (described a b, rest) (omega arith) e

pub returns-in-None-scan_part-clause-value : goal.returns-in-None-scan_part-clause-value
returns-in-None-scan_part-clause-value c a b rest e = unread c.args.depth (c.args.depth - 1) c.in-Some.field-0-0 (whole c.args.octets) (whole c.in-Some.rest) a b rest refl e c.in-Some.ensures c.in-None-scan_part.ensures

pub returns-in-None-leaf_of-clause-value : goal.returns-in-None-leaf_of-clause-value
returns-in-None-leaf_of-clause-value c a b rest e =
    let h = behind c.args.depth (c.args.depth - 1) c.in-Some.field-0-0 (whole c.args.octets) (whole c.in-Some.rest) (whole c.in-Some-scan_part.value) a b rest refl e c.in-Some.ensures c.in-Some-scan_part.ensures in
    c.in-None-leaf_of.ensures (c.args.depth - 1) a (whole c.in-Some-scan_part.value) h.descriptor

pub returns-in-Some-leaf_of-clause-value : goal.returns-in-Some-leaf_of-clause-value
returns-in-Some-leaf_of-clause-value c a b rest e =
    let h = behind c.args.depth (c.args.depth - 1) c.in-Some.field-0-0 (whole c.args.octets) (whole c.in-Some.rest) (whole c.in-Some-scan_part.value) a b rest refl e c.in-Some.ensures c.in-Some-scan_part.ensures in
    (c.in-Some-leaf_of.ensures (c.args.depth - 1) a (whole c.in-Some-scan_part.value) h.descriptor, h.after, h.value)
