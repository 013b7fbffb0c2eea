use Rattle.std.proofs.Common.{arith}
use Rattle.amqp_decoder.proofs.FirstField.{absent_takes, absent_misses}
use Rattle.amqp_decoder.proofs.fields.Cursor.absent.Goals as goal

pub returns-in-Some : goal.returns-in-Some
returns-in-Some c = absent_takes c.args.self.depth c.args.self.left c.args.self.octets.now c.in-Some.used c.after.result.depth c.after.result.left c.after.result.octets.now c.in-Some.ensures c.args.self.some c.after.ensures

pub returns-in-None : goal.returns-in-None
returns-in-None c = absent_misses c.args.self.left c.args.self.octets.now c.in-None.ensures (omega arith)
