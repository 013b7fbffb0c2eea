use Rattle.amqp_performatives.specs.Bodies.{binary}
use Rattle.amqp_performatives.specs.Fair.{is_tag}
use Rattle.amqp_decoder.proofs.FirstField.{optional_misses, optional_absent, optional_present}
use Rattle.amqp_decoder.proofs.fields.Cursor.tag_into.Goals as goal

pub returns-in-Some : goal.returns-in-Some
returns-in-Some c = optional_absent binary is_tag c.args.self.depth c.args.self.left c.args.self.octets.now c.in-Some.others.depth c.in-Some.others.left c.in-Some.others.octets.now c.in-Some.ensures

pub returns-in-Some-required_tag : goal.returns-in-Some-required_tag
returns-in-Some-required_tag c =
    let r = c.in-Some-required_tag in
    rw c.set_tag.ensures (optional_present binary is_tag c.args.self.depth c.args.self.left c.args.self.octets.now r.octets.now r.others.depth r.others.left r.others.octets.now c.in-None.ensures r.ensures.reads)

pub returns-in-None-required_tag : goal.returns-in-None-required_tag
returns-in-None-required_tag c = optional_misses binary is_tag c.args.self.depth c.args.self.left c.args.self.octets.now c.in-None.ensures c.in-None-required_tag.ensures.reads
