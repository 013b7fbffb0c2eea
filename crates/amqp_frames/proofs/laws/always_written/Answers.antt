use Rattle.amqp_frames.proofs.Brief.{flow_brief, detach_brief, end_brief}
use Rattle.amqp_frames.proofs.laws.always_written.Goals as goal

pub returns : goal.returns
returns c = record { flow = flow_brief; detach = detach_brief; end = end_brief }
