use Rattle.amqp_performatives.specs.Bodies.{error}
use Rattle.amqp_performatives.specs.Fair.{is_fair_error}
use Rattle.amqp_decoder.specs.Parts.{error_in}
use Rattle.amqp_decoder.proofs.FirstField.{optional_misses, optional_absent, optional_present}
use Rattle.amqp_decoder.proofs.fields.Cursor.error.Goals as goal

pub returns-in-Some : goal.returns-in-Some
returns-in-Some c = optional_absent error is_fair_error c.args.self.depth c.args.self.left c.args.self.octets.now c.in-Some.others.depth c.in-Some.others.left c.in-Some.others.octets.now c.in-Some.ensures

pub returns-in-Some-required_error : goal.returns-in-Some-required_error
returns-in-Some-required_error c = optional_present error is_fair_error c.args.self.depth c.args.self.left c.args.self.octets.now (error_in c.in-Some-required_error.error) c.in-Some-required_error.others.depth c.in-Some-required_error.others.left c.in-Some-required_error.others.octets.now c.in-None.ensures c.in-Some-required_error.ensures

pub returns-in-None-required_error : goal.returns-in-None-required_error
returns-in-None-required_error c = optional_misses error is_fair_error c.args.self.depth c.args.self.left c.args.self.octets.now c.in-None.ensures c.in-None-required_error.ensures
