use Rattle.amqp_performatives.specs.Bodies.{ulong}
use Rattle.amqp_decoder.specs.Reading.{every}
use Rattle.amqp_decoder.proofs.FirstField.{optional_misses, optional_absent, optional_present}
use Rattle.amqp_decoder.proofs.fields.Cursor.ulong.Goals as goal

pub returns-in-Some : goal.returns-in-Some
returns-in-Some c = optional_absent ulong every c.args.self.depth c.args.self.left c.args.self.octets.now c.in-Some.others.depth c.in-Some.others.left c.in-Some.others.octets.now c.in-Some.ensures

pub returns-in-Some-required_ulong : goal.returns-in-Some-required_ulong
returns-in-Some-required_ulong c = optional_present ulong every c.args.self.depth c.args.self.left c.args.self.octets.now c.in-Some-required_ulong.value c.in-Some-required_ulong.others.depth c.in-Some-required_ulong.others.left c.in-Some-required_ulong.others.octets.now c.in-None.ensures c.in-Some-required_ulong.ensures

pub returns-in-None-required_ulong : goal.returns-in-None-required_ulong
returns-in-None-required_ulong c = optional_misses ulong every c.args.self.depth c.args.self.left c.args.self.octets.now c.in-None.ensures c.in-None-required_ulong.ensures
