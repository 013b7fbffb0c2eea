use Rattle.amqp_performatives.specs.Bodies.{string}
use Rattle.amqp_decoder.specs.Reading.{every}
use Rattle.amqp_decoder.proofs.FirstField.{optional_misses, optional_absent, optional_present}
use Rattle.amqp_decoder.proofs.fields.Cursor.string.Goals as goal

pub returns-in-Some : goal.returns-in-Some
returns-in-Some c = optional_absent string every c.args.self.depth c.args.self.left c.args.self.octets.now c.in-Some.others.depth c.in-Some.others.left c.in-Some.others.octets.now c.in-Some.ensures

pub returns-in-Some-required_string : goal.returns-in-Some-required_string
returns-in-Some-required_string c = optional_present string every c.args.self.depth c.args.self.left c.args.self.octets.now c.in-Some-required_string.value.now c.in-Some-required_string.others.depth c.in-Some-required_string.others.left c.in-Some-required_string.others.octets.now c.in-None.ensures c.in-Some-required_string.ensures

pub returns-in-None-required_string : goal.returns-in-None-required_string
returns-in-None-required_string c = optional_misses string every c.args.self.depth c.args.self.left c.args.self.octets.now c.in-None.ensures c.in-None-required_string.ensures
