use Rattle.amqp_performatives.specs.Bodies.{ushort}
use Rattle.amqp_decoder.specs.Reading.{every}
use Rattle.amqp_decoder.proofs.FirstField.{optional_misses, optional_absent, optional_present}
use Rattle.amqp_decoder.proofs.fields.Cursor.ushort.Goals as goal

pub returns-in-Some : goal.returns-in-Some
returns-in-Some c = optional_absent ushort every c.args.self.depth c.args.self.left c.args.self.octets.now c.in-Some.others.depth c.in-Some.others.left c.in-Some.others.octets.now c.in-Some.ensures

pub returns-in-Some-required_ushort : goal.returns-in-Some-required_ushort
returns-in-Some-required_ushort c = optional_present ushort every c.args.self.depth c.args.self.left c.args.self.octets.now c.in-Some-required_ushort.value c.in-Some-required_ushort.others.depth c.in-Some-required_ushort.others.left c.in-Some-required_ushort.others.octets.now c.in-None.ensures c.in-Some-required_ushort.ensures

pub returns-in-None-required_ushort : goal.returns-in-None-required_ushort
returns-in-None-required_ushort c = optional_misses ushort every c.args.self.depth c.args.self.left c.args.self.octets.now c.in-None.ensures c.in-None-required_ushort.ensures
