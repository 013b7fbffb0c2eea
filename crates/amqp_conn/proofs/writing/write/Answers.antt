use Rattle.amqp_conn.proofs.Written.{writes}
use Rattle.amqp_conn.proofs.writing.write.Goals as goal

pub returns : goal.returns
returns c = writes c.args.frame.now c.args.max c.write_frame.result c.write_frame.ensures
