use Rattle.std.proofs.Common.{drop}
use Rattle.amqp_types.specs.View.{views}
use Rattle.amqp_messages.proofs.FieldLaws.{SameNull}
use Rattle.amqp_messages.proofs.field.are_null.Given as goal

abbrev pub invariant-loop-item : goal.invariant-loop-item
invariant-loop-item l = SameNull (views (drop l.item-index l.items)) (views l.items)
