use Rattle.std.proofs.Common.{◌∷◌, refl}
use Rattle.std.specs.Int.{to_be_bytes, w16}
use Rattle.amqp_types.specs.declared.class.Kind.{Kind}
use Rattle.amqp_types.specs.Datum.{number}
use Rattle.amqp_types.proofs.Typed.{appended, ushort_canon}
use Rattle.amqp_types.proofs.append.write_ushort.Goals as goal

pub returns-clause-ok : goal.returns-clause-ok
returns-clause-ok c = appended (number Kind.Ushort c.args.n) (96 ∷ to_be_bytes w16 c.args.n) _ c.extend_from_slice.result c.args.out.now.items c.extend_from_slice.new.self.items (ushort_canon c.args.n c.ranges.n.fits) c.extend_from_slice.ensures.items (rw c.to_be_bytes.ensures refl)
