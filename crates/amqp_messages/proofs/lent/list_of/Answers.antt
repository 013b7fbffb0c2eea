use Rattle.std.proofs.Common.{◌-◌, reverse, ◌∙◌, arith}
use Rattle.amqp_types.specs.View.{views}
use Rattle.amqp_messages.proofs.LendingLaws.{field_before}
use Rattle.amqp_messages.proofs.lent.list_of.Goals as goal

pub loop-i-preserved : goal.loop-i-preserved
loop-i-preserved c =
    c.in_ok-put_field.ensures ∙ field_before c.args.fields.now (c.loop-i.i - 1) c.loop-i.i c.index-fields-i.result (omega arith) (omega arith) c.index-fields-i.is (views (reverse c.loop-i.values.items)) c.loop-i.invariant
