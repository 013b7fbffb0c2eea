use Rattle.amqp_performatives.specs.Bodies.{mapping}
use Rattle.amqp_decoder.specs.Reading.{every}
use Rattle.std.proofs.Common.{◌∙◌, sym}
use Rattle.amqp_decoder.proofs.FirstField.{optional_absent, map_takes, map_unfit, value_misses}
use Rattle.amqp_decoder.proofs.fields.Cursor.map.Goals as goal

pub returns-in-Some : goal.returns-in-Some
returns-in-Some c = optional_absent mapping every c.args.self.depth c.args.self.left c.args.self.octets.now c.in-Some.others.depth c.in-Some.others.left c.in-Some.others.octets.now c.in-Some.ensures

pub returns-then-is_map : goal.returns-then-is_map
returns-then-is_map c = map_takes c.args.self.depth c.args.self.left c.args.self.octets.now c.in-Some-value.value.octets.now c.in-Some-value.others.depth c.in-Some-value.others.left c.in-Some-value.others.octets.now (sym c.is_map.ensures ∙ c.if-is_map.true) c.in-Some-value.ensures

pub returns-else-is_map : goal.returns-else-is_map
returns-else-is_map c = map_unfit c.args.self.depth c.args.self.left c.args.self.octets.now c.in-Some-value.value.octets.now c.in-Some-value.others.depth c.in-Some-value.others.left c.in-Some-value.others.octets.now c.in-None.ensures (sym c.is_map.ensures ∙ c.if-is_map.false) c.in-Some-value.ensures

pub returns-in-None-value : goal.returns-in-None-value
returns-in-None-value c = value_misses mapping every c.args.self.depth c.args.self.left c.args.self.octets.now c.in-None.ensures c.in-None-value.ensures
