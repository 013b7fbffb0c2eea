use Rattle.amqp_world.specs.declared.side.Side.TheVariants.{A, B}
use Rattle.amqp_world.specs.Sides.{of}
use Rattle.amqp_world.proofs.HeardMore.{heard-one, heard-second, rests}
use Rattle.amqp_world.proofs.world.World.hear_any.Goals as goal

pub returns-in-Ok : goal.returns-in-Ok
returns-in-Ok c = (heard-one (of A c.args.self.now) (of B c.args.self.now) (of A c.hear.new.self) c.in-Ok.field-0 c.in-Ok.ensures.given, c.hear.ensures.other, c.laws.ensures.reached A)

pub returns : goal.returns
returns c =
    rests c.args.self.now c.hear.new.self c.hear-2.new.self c.in-Err-Empty.field-0 c.in-Err-Empty-hear.field-0 c.in-Err-Empty.ensures.refusal c.in-Err-Empty.field-0-is c.in-Err-Empty-hear.ensures.refusal c.in-Err-Empty-hear.field-0-is
    c.in-Err-Empty.ensures.err c.in-Err-Empty-hear.ensures.err (c.laws-2.ensures.reached A) (c.laws-2.ensures.reached B)

pub returns-in-Ok-hear : goal.returns-in-Ok-hear
returns-in-Ok-hear c = heard-second c.args.self.now c.hear.new.self c.hear-2.new.self c.in-Ok-hear.field-0 c.in-Err-Empty.ensures.err c.in-Ok-hear.ensures.given c.hear-2.ensures.other (c.laws-in-Ok-hear.ensures.reached A)
