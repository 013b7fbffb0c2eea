use Rattle.std.proofs.Common.{refl}
use Rattle.amqp_conn.proofs.writing.measure_ours.Goals as goal

pub returns : goal.returns
returns c = let m = c.in_ok-measured.ensures 0 in (refl, m.0, m.1)
