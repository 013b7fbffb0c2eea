use Rattle.std.proofs.Common.{◌∷◌, []}
use Rattle.std.specs.Int.{to_be_bytes, w8, w32}
use Rattle.amqp_types.specs.declared.class.Kind.{Kind}
use Rattle.amqp_types.specs.Datum.{number}
use Rattle.amqp_types.specs.Canon.{canon}
use Rattle.amqp_types.proofs.Typed.{length_is, uint_zero, uint_small, uint_large}
use Rattle.amqp_types.proofs.append.uint_size.Goals as goal

pub returns-then-n-eq0 : goal.returns-then-n-eq0
returns-then-n-eq0 c = length_is (canon (number Kind.Uint c.args.n)) (67 ∷ []) (uint_zero c.args.n c.if-n-eq0.true)

pub returns-then-n-lt256 : goal.returns-then-n-lt256
returns-then-n-lt256 c = length_is (canon (number Kind.Uint c.args.n)) (82 ∷ to_be_bytes w8 c.args.n) (uint_small c.args.n c.if-n-eq0.false c.if-n-lt256.true)

pub returns-else-n-lt256 : goal.returns-else-n-lt256
returns-else-n-lt256 c = length_is (canon (number Kind.Uint c.args.n)) (112 ∷ to_be_bytes w32 c.args.n) (uint_large c.args.n c.if-n-lt256.false c.ranges.n.fits)
