use Rattle.std.proofs.Common.{Some, true}
use Rattle.amqp_rules.specs.Detach.{detach_body}
use Rattle.amqp_steps.proofs.detach.detach_refusal.Goals as goal

pub returns : goal.returns
returns c = c.measured_refusal.ensures c.args.max (detach_body c.args.handle (Some true) c.args.error.now) (c.measure_detach.ensures 0)
