use Rattle.std.proofs.Common.{ap, ◌∙◌, []}
use Rattle.std.specs.Option.{option_map}
use Rattle.amqp_frames.proofs.Measuring.{refusal_of}
use Rattle.amqp_rules.specs.Sending.{frame_of, frame_refused, told}
use Rattle.amqp_steps.proofs.sending.measured_refusal.Goals as goal

pub returns : goal.returns
unfolding frame_refused
returns c max body h = c.told_refusal.ensures ∙ ap (option_map told) (c.err.ensures.value ∙ refusal_of c.args.measured (frame_of body []) max h)
