use Rattle.amqp_steps.specs.Disposing.{said_in}
use Rattle.amqp_steps.proofs.Disposing.{none_spoken}
use Rattle.amqp_steps.proofs.dispose.covers_none.Goals as goal

pub returns : goal.returns
returns c = none_spoken (said_in c.args.said) c.args.held.now c.args.span c.is_empty.result c.requires c.is_empty.ensures
