use Rattle.amqp_conn.proofs.Written.{known}
use Rattle.amqp_conn.proofs.writing.write_known.Goals as goal

pub returns : goal.returns
returns c = known c.args.frame.now c.write_measured.result c.write_measured.ensures
