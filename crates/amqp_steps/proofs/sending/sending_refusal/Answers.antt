use Rattle.std.proofs.Common.{refl}
use Rattle.amqp_rules.specs.Sending.{frame_refused}
use Rattle.amqp_steps.proofs.sending.sending_refusal.Goals as goal

pub returns : goal.returns
unfolding frame_refused
returns c = rw (c.told_refusal.ensures, c.frame_refusal-fault.ensures) refl
