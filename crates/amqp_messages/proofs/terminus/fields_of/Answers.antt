use Rattle.amqp_types.specs.View.{view, views}
use Rattle.amqp_messages.proofs.Descriptors.{none_parts, none_named, none_listed, list_found}
use Rattle.amqp_messages.proofs.terminus.fields_of.Goals as goal

pub returns-in_default : goal.returns-in_default
returns-in_default c = λ ds l. none_parts (c.args.number, c.args.name.now) (view c.args.value.now) ds c.in_default.ensures l

pub returns-then-not-is_descriptor : goal.returns-then-not-is_descriptor
returns-then-not-is_descriptor c = λ ds l. none_named (c.args.number, c.args.name.now) (view c.args.value.now) (view c.in-Some.descriptor.now) (view c.in-Some.described.now) ds c.is_descriptor.result c.in-Some.ensures c.is_descriptor.ensures c.if-not-is_descriptor.true l

pub returns-in-Some-items_of : goal.returns-in-Some-items_of
returns-in-Some-items_of c = list_found (c.args.number, c.args.name.now) (view c.args.value.now) (view c.in-Some.descriptor.now) (view c.in-Some.described.now) (views c.in-Some-items_of.items.now) c.is_descriptor.result c.in-Some.ensures c.is_descriptor.ensures c.if-not-is_descriptor.false c.in-Some-items_of.ensures

pub returns-in-None : goal.returns-in-None
returns-in-None c = λ ds l. none_listed (c.args.number, c.args.name.now) (view c.args.value.now) (view c.in-Some.descriptor.now) (view c.in-Some.described.now) ds c.in-Some.ensures c.in-None.ensures l
