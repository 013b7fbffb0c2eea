-- What a frame concerns, while the connection is running.
use Rattle.std.specs.Prelude.{ℕ, ◌==◌, cond, Option, Some, None}
use Rattle.amqp_performatives.specs.declared.bodies.CloseBody.{CloseBody}
use Rattle.amqp_performatives.specs.declared.performative.Performative.{Performative}
use Rattle.amqp_performatives.specs.declared.performative.Performative.TheVariants as performative
use Rattle.amqp_rules.specs.Sending.{octets_of}
use Rattle.amqp_conn.specs.declared.fault.ConnFault.TheVariants as fault
use Rattle.amqp_conn.specs.declared.phase.Phase.TheVariants as phase
use Rattle.amqp_conn.specs.declared.saying.Kind.{Kind}
use Rattle.amqp_conn.specs.declared.saying.Kind.TheVariants.{Empty, Open, Close, Session}
use Rattle.amqp_conn.specs.Connection.{Core, sending}
use Rattle.amqp_conn.specs.Octets.{close_frame}
use Rattle.amqp_conn.specs.Treating.{Treatment, ended}

abbrev pub kind_of : Option Performative → Kind
kind_of None = Empty
kind_of (Some (performative.Open b)) = Open
kind_of (Some (performative.Close b)) = Close
kind_of (Some p) = Session

-- a frame is to come on channel 0
abbrev pub on_channel : ℕ → Treatment → Treatment
on_channel channel t = cond (channel == 0) t (ended fault.BadChannel)

-- our close went out in return for the peer's
abbrev pub closed_by : Option CloseBody → Core → Core
closed_by parting k = record (sending (octets_of (close_frame None)) k) { phase = phase.Closed; parting = parting }
