use Rattle.amqp_frames.proofs.Framed.{written_is_framed}
use Rattle.amqp_frames.proofs.written.written_is_framed.Goals as goal

pub returns : goal.returns
returns c = written_is_framed
