use Rattle.amqp_rules.specs.Dispose.{dispose_body}
use Rattle.amqp_steps.specs.Disposing.{said_in}
use Rattle.amqp_steps.proofs.dispose.dispose_refusal.Goals as goal

pub returns : goal.returns
returns c = c.measured_refusal.ensures c.args.max (dispose_body c.args.role (said_in c.args.said)) (rw c.flag-settled.ensures at (c.measure_disposition.ensures 0))
