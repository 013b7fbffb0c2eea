use Rattle.std.proofs.Common.{None}
use Rattle.amqp_rules.specs.Detach.{detach_body}
use Rattle.amqp_steps.proofs.suspend.parting_refusal.Goals as goal

pub returns : goal.returns
returns c = c.measured_refusal.ensures c.args.max (detach_body c.args.handle None None) (c.measure_detach.ensures 0)
