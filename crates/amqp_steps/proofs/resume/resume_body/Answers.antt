use Rattle.std.proofs.Common.{refl}
use Rattle.amqp_steps.proofs.resume.resume_body.Goals as goal

pub returns : goal.returns
returns c = rw (c.in_ok-state.ensures, c.settles.ensures, c.flag.ensures, c.is_partial-partial.ensures) refl
