use Rattle.std.proofs.Common.{◌∷◌, [], refl}
use Rattle.std.specs.Int.{to_be_bytes, w8, w64}
use Rattle.amqp_types.specs.declared.class.Kind.{Kind}
use Rattle.amqp_types.specs.Datum.{number}
use Rattle.amqp_types.proofs.Typed.{appended, one_octet, ulong_zero, ulong_small, ulong_large}
use Rattle.amqp_types.proofs.append.write_ulong.Goals as goal

pub returns-then-n-eq0-clause-ok : goal.returns-then-n-eq0-clause-ok
returns-then-n-eq0-clause-ok c = appended (number Kind.Ulong c.args.n) (68 ∷ []) _ c.extend_from_slice.result c.args.out.now.items c.extend_from_slice.new.self.items (ulong_zero c.args.n c.if-n-eq0.true) c.extend_from_slice.ensures.items (refl)

pub returns-then-n-lt256-clause-ok : goal.returns-then-n-lt256-clause-ok
returns-then-n-lt256-clause-ok c = appended (number Kind.Ulong c.args.n) (83 ∷ to_be_bytes w8 c.args.n) _ c.extend_from_slice-then-n-lt256.result c.args.out.now.items c.extend_from_slice-then-n-lt256.new.self.items (ulong_small c.args.n c.if-n-eq0.false c.if-n-lt256.true) c.extend_from_slice-then-n-lt256.ensures.items (one_octet 83 c.args.n c.if-n-lt256.true)

pub returns-else-n-lt256-clause-ok : goal.returns-else-n-lt256-clause-ok
returns-else-n-lt256-clause-ok c = appended (number Kind.Ulong c.args.n) (128 ∷ to_be_bytes w64 c.args.n) _ c.extend_from_slice-else-n-lt256.result c.args.out.now.items c.extend_from_slice-else-n-lt256.new.self.items (ulong_large c.args.n c.if-n-lt256.false c.ranges.n.fits) c.extend_from_slice-else-n-lt256.ensures.items (rw c.to_be_bytes.ensures refl)
