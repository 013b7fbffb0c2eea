use Rattle.amqp_steps.specs.Disposing.{said_in}
use Rattle.amqp_steps.proofs.Disposing.{any_fixed_of}
use Rattle.amqp_steps.proofs.dispose.any_fixed.Goals as goal

pub returns : goal.returns
returns c = any_fixed_of (said_in c.args.said) c.args.held.now c.args.span c.any_fixed.result c.requires c.any_fixed.ensures
