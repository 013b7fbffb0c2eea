use Rattle.std.proofs.Common.{refl, ◌∙◌}
use Rattle.amqp_frames.proofs.Measuring.{refusal_of}
use Rattle.amqp_frames.proofs.measured.frame_refusal.Goals as goal

pub returns : goal.returns
returns c = c.err.ensures.value ∙ refusal_of c.measure_frame.result _ c.args.max (c.measure_frame.ensures c.args.channel c.args.payload.now refl)
