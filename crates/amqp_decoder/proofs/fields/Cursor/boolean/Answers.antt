use Rattle.amqp_performatives.specs.Bodies.{boolean}
use Rattle.amqp_decoder.specs.Reading.{every}
use Rattle.amqp_decoder.proofs.FirstField.{optional_misses, optional_absent, optional_present}
use Rattle.amqp_decoder.proofs.fields.Cursor.boolean.Goals as goal

pub returns-in-Some : goal.returns-in-Some
returns-in-Some c = optional_absent boolean every c.args.self.depth c.args.self.left c.args.self.octets.now c.in-Some.others.depth c.in-Some.others.left c.in-Some.others.octets.now c.in-Some.ensures

pub returns-in-Some-required_boolean : goal.returns-in-Some-required_boolean
returns-in-Some-required_boolean c = optional_present boolean every c.args.self.depth c.args.self.left c.args.self.octets.now c.in-Some-required_boolean.value c.in-Some-required_boolean.others.depth c.in-Some-required_boolean.others.left c.in-Some-required_boolean.others.octets.now c.in-None.ensures c.in-Some-required_boolean.ensures

pub returns-in-None-required_boolean : goal.returns-in-None-required_boolean
returns-in-None-required_boolean c = optional_misses boolean every c.args.self.depth c.args.self.left c.args.self.octets.now c.in-None.ensures c.in-None-required_boolean.ensures
