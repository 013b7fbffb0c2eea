use Rattle.amqp_frames.proofs.Streams as streams
use Rattle.amqp_frames.proofs.laws.one_answer.Goals as goal

pub returns : goal.returns
returns c = record { unfinished = streams.unfinished_shows; framed = streams.frame_shows; finished = streams.frame_unfinished; one_fault = streams.one_fault; one_front = streams.one_front }
