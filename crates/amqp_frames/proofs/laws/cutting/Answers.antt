use Rattle.amqp_frames.proofs.Streams.{joined, unfinished_none, faulty_none}
use Rattle.amqp_frames.proofs.OneFrame.{one_stream}
use Rattle.amqp_frames.proofs.laws.cutting.Goals as goal

pub returns : goal.returns
returns c = record { joined = joined; unique = one_stream; unfinished = unfinished_none; faulty = faulty_none }
