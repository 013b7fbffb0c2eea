use Rattle.amqp_performatives.specs.Bodies.{any}
use Rattle.amqp_performatives.specs.Fair.{is_present}
use Rattle.amqp_decoder.proofs.FirstField.{optional_absent, any_takes, value_misses}
use Rattle.amqp_decoder.proofs.fields.Cursor.any.Goals as goal

pub returns-in-Some : goal.returns-in-Some
returns-in-Some c = optional_absent any is_present c.args.self.depth c.args.self.left c.args.self.octets.now c.in-Some.others.depth c.in-Some.others.left c.in-Some.others.octets.now c.in-Some.ensures

pub returns-in-Some-value : goal.returns-in-Some-value
returns-in-Some-value c = any_takes c.args.self.depth c.args.self.left c.args.self.octets.now c.in-Some-value.value.octets.now c.in-Some-value.others.depth c.in-Some-value.others.left c.in-Some-value.others.octets.now c.args.self.most c.in-None.ensures c.in-Some-value.ensures

pub returns-in-None-value : goal.returns-in-None-value
returns-in-None-value c = value_misses any is_present c.args.self.depth c.args.self.left c.args.self.octets.now c.in-None.ensures c.in-None-value.ensures
