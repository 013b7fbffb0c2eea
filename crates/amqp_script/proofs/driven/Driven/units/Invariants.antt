use Rattle.std.proofs.Common.{length}
use Rattle.amqp_journal.specs.Units.{waiting}
use Rattle.amqp_script.proofs.driven.Driven.units.Given as goal

abbrev pub decreases-loop-unit : goal.decreases-loop-unit
decreases-loop-unit l = length (waiting l.self.conn.core.log)
