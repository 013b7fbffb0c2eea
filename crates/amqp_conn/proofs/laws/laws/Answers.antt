use Rattle.amqp_frames.proofs.OneFrame.{one_frame}
use Rattle.amqp_conn.proofs.Cutting as cutting
use Rattle.amqp_conn.proofs.Deciding as deciding
use Rattle.amqp_conn.proofs.Turns as turns
use Rattle.amqp_conn.proofs.Calls as calls
use Rattle.amqp_conn.proofs.Meeting as meeting
use Rattle.amqp_conn.proofs.laws.laws.Goals as goal

pub returns : goal.returns
returns c = record { cut = cutting.cut; one = λ c d e x p q. deciding.one c d e x one_frame p q; none = cutting.none; ends = turns.ends; in_turn = turns.in-turn; peer = meeting.fed-met; one_entry = calls.one-entry; closes = calls.closes-once; writable = calls.writable; plain = calls.plain-writable }
