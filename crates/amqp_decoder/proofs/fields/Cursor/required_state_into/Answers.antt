use Rattle.amqp_performatives.specs.Bodies.{state}
use Rattle.amqp_performatives.specs.Fair.{is_fair_state}
use Rattle.amqp_decoder.specs.Parts.{state_in}
use Rattle.amqp_decoder.proofs.FirstField.{optional_misses, optional_present}
use Rattle.amqp_decoder.proofs.fields.Cursor.required_state_into.Goals as goal

pub returns-in-Some : goal.returns-in-Some
returns-in-Some c = optional_present state is_fair_state c.args.self.depth c.args.self.left c.args.self.octets.now (state_in c.in-Some.state) c.in-Some.others.depth c.in-Some.others.left c.in-Some.others.octets.now c.requires.present c.in-Some.ensures

pub returns-in-None : goal.returns-in-None
returns-in-None c = optional_misses state is_fair_state c.args.self.depth c.args.self.left c.args.self.octets.now c.requires.present c.in-None.ensures
