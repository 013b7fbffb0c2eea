use Rattle.std.proofs.Common.{refl, arith}
use Rattle.amqp_types.specs.declared.class.Run.TheVariants as Run
use Rattle.amqp_types.specs.Datum.{octets}
use Rattle.amqp_decoder.specs.Reading.{every}
use Rattle.amqp_decoder.proofs.FirstField.{leaf_takes, leaf_misses, borrowed_misses}
use Rattle.amqp_decoder.proofs.fields.Cursor.required_string.Goals as goal

pub returns-in-Some : goal.returns-in-Some
returns-in-Some c = leaf_takes (λ t. octets Run.Str t) every c.args.self.depth c.args.self.left c.args.self.octets.now c.in-Some.value.now c.in-Some.used c.after.result.depth c.after.result.left c.after.result.octets.now c.in-Some.ensures c.args.self.some refl c.after.ensures

pub returns-in-None : goal.returns-in-None
returns-in-None c = leaf_misses (λ t. octets Run.Str t) every c.args.self.depth c.args.self.left c.args.self.octets.now (borrowed_misses (λ t. octets Run.Str t) c.args.self.octets.now c.in-None.ensures) (λ b. omega arith) (omega arith)
