use Rattle.amqp_messages.specs.Lending.{part_of}
use Rattle.amqp_messages.proofs.LendingLaws.{left_off, put_there}
use Rattle.amqp_messages.proofs.lent.put_field.Goals as goal

pub returns-then-is_left_off : goal.returns-then-is_left_off
returns-then-is_left_off c = left_off (part_of c.args.field.now) c.args.values.now.items c.as_slice.result.now c.as_slice.ensures.value (c.is_left_off.ensures.0 c.if-is_left_off.true)

pub returns : goal.returns
returns c = put_there (part_of c.args.field.now) c.args.values.now.items c.as_slice.result.now c.push.new.self.items c.in_ok-value.value c.as_slice.ensures.value (λ h. let q = c.is_left_off.ensures.1 h in let k = c.if-is_left_off.false in cc) c.in_ok-value.ensures c.in_ok-push.ensures.items
