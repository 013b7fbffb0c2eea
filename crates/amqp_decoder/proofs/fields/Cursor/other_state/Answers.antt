use Rattle.amqp_decoder.proofs.StateParts.{other_takes, other_misses}
use Rattle.amqp_decoder.proofs.fields.Cursor.other_state.Goals as goal

pub returns-in-Some : goal.returns-in-Some
returns-in-Some c = other_takes c.args.self.depth c.args.self.left c.args.self.octets.now c.in-Some.value.octets.now c.in-Some.others.depth c.in-Some.others.left c.in-Some.others.octets.now c.args.self.most c.requires.present c.requires.other c.in-Some.ensures

pub returns-in-None : goal.returns-in-None
returns-in-None c = other_misses c.args.self.depth c.args.self.left c.args.self.octets.now c.requires.present.some c.in-None.ensures
