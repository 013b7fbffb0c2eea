use Rattle.std.proofs.Common.{◌∷◌}
use Rattle.std.specs.Int.{to_be_bytes, w8}
use Rattle.amqp_types.specs.declared.class.Kind.{Kind}
use Rattle.amqp_types.specs.Datum.{number}
use Rattle.amqp_types.proofs.Typed.{appended, one_octet, ubyte_canon}
use Rattle.amqp_types.proofs.append.write_ubyte.Goals as goal

pub returns-clause-ok : goal.returns-clause-ok
returns-clause-ok c = appended (number Kind.Ubyte c.args.n) (80 ∷ to_be_bytes w8 c.args.n) _ c.extend_from_slice.result c.args.out.now.items c.extend_from_slice.new.self.items (ubyte_canon c.args.n c.ranges.n.fits) c.extend_from_slice.ensures.items (one_octet 80 c.args.n c.ranges.n.fits)
