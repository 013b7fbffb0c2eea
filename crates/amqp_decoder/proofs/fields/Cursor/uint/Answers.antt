use Rattle.amqp_performatives.specs.Bodies.{uint}
use Rattle.amqp_decoder.specs.Reading.{every}
use Rattle.amqp_decoder.proofs.FirstField.{optional_misses, optional_absent, optional_present}
use Rattle.amqp_decoder.proofs.fields.Cursor.uint.Goals as goal

pub returns-in-Some : goal.returns-in-Some
returns-in-Some c = optional_absent uint every c.args.self.depth c.args.self.left c.args.self.octets.now c.in-Some.others.depth c.in-Some.others.left c.in-Some.others.octets.now c.in-Some.ensures

pub returns-in-Some-required_uint : goal.returns-in-Some-required_uint
returns-in-Some-required_uint c = optional_present uint every c.args.self.depth c.args.self.left c.args.self.octets.now c.in-Some-required_uint.value c.in-Some-required_uint.others.depth c.in-Some-required_uint.others.left c.in-Some-required_uint.others.octets.now c.in-None.ensures c.in-Some-required_uint.ensures

pub returns-in-None-required_uint : goal.returns-in-None-required_uint
returns-in-None-required_uint c = optional_misses uint every c.args.self.depth c.args.self.left c.args.self.octets.now c.in-None.ensures c.in-None-required_uint.ensures
