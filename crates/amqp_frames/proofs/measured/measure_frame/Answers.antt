use Rattle.std.proofs.Common.{sym, ◌∙◌}
use Rattle.amqp_frames.proofs.Measuring.{measures}
use Rattle.amqp_frames.proofs.measured.measure_frame.Goals as goal

pub returns : goal.returns
returns c channel payload n =
    rw c.in-Some.is (measures c.measure_performative.result c.in-Some.performative channel c.args.max payload (sym c.is_fair.ensures ∙ c.if-not-is_fair.false) (sym (c.may_follow.ensures payload n) ∙ c.if-not-may_follow.false) (c.measure_performative.ensures channel payload n))
