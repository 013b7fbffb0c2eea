use Rattle.amqp_caller.proofs.Writing.{in-front, behind}
use Rattle.amqp_caller.proofs.rest.piece.Goals as goal

pub returns-then-from-head : goal.returns-then-from-head
returns-then-from-head c = in-front c.args.from c.args.head.now c.args.rest.now c.if-from-head.true

pub returns : goal.returns
returns c = behind c.args.from c.args.head.now c.args.rest.now c.if-from-head.false
