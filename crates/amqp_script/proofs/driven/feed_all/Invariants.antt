use Rattle.std.proofs.Common.{◌+◌, length}
use Rattle.amqp_conn.specs.Turning.{room}
use Rattle.amqp_script.proofs.driven.feed_all.Given as goal

abbrev pub decreases-loop-rest : goal.decreases-loop-rest
decreases-loop-rest l = length l.rest + room l.conn
