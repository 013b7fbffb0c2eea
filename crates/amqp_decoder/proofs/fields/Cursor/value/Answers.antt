use Rattle.std.proofs.Common.{refl}
use Rattle.amqp_decoder.proofs.FirstField.{value_passes, spelled_whole}
use Rattle.amqp_decoder.proofs.fields.Cursor.value.Goals as goal

pub invariant_of-result : goal.invariant_of-result
invariant_of-result c = record { whole = spelled_whole c.args.self.depth c.in-Some.ensures.1 _ c.args.self.most c.in-Some.ensures.2 }

pub returns-in-Some : goal.returns-in-Some
returns-in-Some c = value_passes c.args.self.depth c.args.self.left c.args.self.octets.now _ c.in-Some.ensures.1 c.in-Some.used c.after.result.depth c.after.result.left c.after.result.octets.now c.args.self.most c.in-Some.ensures.2 refl c.after.ensures
