use Rattle.std.proofs.Common.{arith}
use Rattle.amqp_types.specs.declared.class.Kind.TheVariants as Kind
use Rattle.amqp_types.specs.Datum.{number}
use Rattle.amqp_decoder.proofs.FirstField.{leaf_takes, leaf_misses}
use Rattle.std.specs.Prelude.{nat_le}
use Rattle.amqp_decoder.proofs.FirstField.{leaf_unfit, above, least}
use Rattle.amqp_decoder.proofs.fields.Cursor.required_mode.Goals as goal

pub returns-then-value-most : goal.returns-then-value-most
returns-then-value-most c = leaf_takes (λ n. number Kind.Ubyte n) (λ n. nat_le n c.args.most) c.args.self.depth c.args.self.left c.args.self.octets.now c.in-Some.value c.in-Some.used c.after.result.depth c.after.result.left c.after.result.octets.now c.in-Some.ensures c.args.self.some (least c.in-Some.value c.args.most c.if-value-most.true) c.after.ensures

pub returns-else-value-most : goal.returns-else-value-most
returns-else-value-most c = leaf_unfit (λ n. number Kind.Ubyte n) (λ n. nat_le n c.args.most) c.args.self.depth c.args.self.left c.args.self.octets.now c.in-Some.value c.in-Some.used c.in-Some.ensures c.args.self.some (omega arith) (λ b e fair. above c.in-Some.value b c.args.most c.if-value-most.false e fair)

pub returns-in-None : goal.returns-in-None
returns-in-None c = leaf_misses (λ n. number Kind.Ubyte n) (λ n. nat_le n c.args.most) c.args.self.depth c.args.self.left c.args.self.octets.now c.in-None.ensures (λ b. omega arith) (omega arith)
