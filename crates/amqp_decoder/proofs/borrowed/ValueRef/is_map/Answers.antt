use Rattle.std.proofs.Common.{sym, ap, ◌∙◌}
use Rattle.std.proofs.lemmas.List.{nil_from_length}
use Rattle.amqp_decoder.proofs.SeenValues.{is_map_class, map_by_code, not_map_class, not_empty}
use Rattle.amqp_decoder.proofs.borrowed.ValueRef.is_map.Goals as goal

pub returns-in-Map : goal.returns-in-Map
returns-in-Map c = sym (ap is_map_class c.in-Map.is) ∙ map_by_code c.args.self.octets.now c.in-Some.code.now c.in-Some.field-0-1.now c.class_of.result c.args.self.whole c.in-Some.ensures.cases.0 c.class_of.ensures

pub returns-in_default : goal.returns-in_default
returns-in_default c = sym (not_map_class c.class_of.result c.in_default.not-Map) ∙ map_by_code c.args.self.octets.now c.in-Some.code.now c.in-Some.field-0-1.now c.class_of.result c.args.self.whole c.in-Some.ensures.cases.0 c.class_of.ensures

pub returns-in-None : goal.returns-in-None
returns-in-None c = absurd (not_empty c.args.self.octets.now c.args.self.whole (nil_from_length c.args.self.octets.now c.in-None.ensures.cases))
