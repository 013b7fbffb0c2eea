-- What a connection itself sends (part 2, 2.2, 2.4.1 and 2.4.3): a header, an open and a close.
use Rattle.std.specs.Prelude.{ℕ, false, Option, None, Some, List, [], ◌∷◌, codes}
use Rattle.amqp_performatives.specs.declared.error.AmqpError.{AmqpError}
use Rattle.amqp_performatives.specs.declared.bodies.OpenBody.{OpenBody}
use Rattle.amqp_performatives.specs.declared.performative.Performative.TheVariants.{Open, Close}
use Rattle.amqp_frames.specs.declared.fault.FrameFault.{FrameFault}
use Rattle.amqp_frames.specs.declared.fault.FrameFault.TheVariants.{ShortSize, BadDoff, TooBig, BadKind, BadBody, NoMemory}
use Rattle.amqp_frames.specs.declared.frame.Frame.{Frame}
use Rattle.amqp_rules.specs.Sending.{octets_of}
use Rattle.amqp_rules.specs.ViolationAnswer.{error_of}
use Rattle.amqp_rules.specs.declared.config.Config.{Config as Session}
use Rattle.amqp_conn.specs.declared.config.Config.{Config}
use Rattle.amqp_conn.specs.declared.phase.Phase.{Phase}
use Rattle.amqp_conn.specs.declared.phase.Phase.TheVariants as phase
use Rattle.amqp_conn.specs.declared.fault.ConnFault.{ConnFault}
use Rattle.amqp_conn.specs.declared.fault.ConnFault.TheVariants as fault
use Rattle.amqp_conn.specs.Connection.{Core, sending}
use Rattle.amqp_journal.specs.Log.{new_log}

-- AMQP, protocol id 0, version 1.0.0
abbrev pub header : List ℕ
header = 0x41 ∷ 0x4d ∷ 0x51 ∷ 0x50 ∷ 0 ∷ 1 ∷ 0 ∷ 0 ∷ []

abbrev pub open_body : Config → OpenBody
open_body c =
    record {
      container_id = c.container_id;
      hostname = c.hostname;
      max_frame_size = Some c.max_frame;
      channel_max = Some 0;
      idle_time_out = c.idle_time_out;
      outgoing_locales = None;
      incoming_locales = None;
      offered_capabilities = None;
      desired_capabilities = None;
      properties = None;
    }

-- one session at a time, on channel 0
abbrev pub open_frame : Config → Frame
open_frame c = record { channel = 0; body = Some (Open (open_body c)); payload = [] }

abbrev pub close_frame : Option AmqpError → Frame
close_frame error = record { channel = 0; body = Some (Close (record { error = error })); payload = [] }

-- the condition of the close that a fault leads to (part 2, 2.8.15 and 2.8.16)
abbrev pub framing_condition : FrameFault → List ℕ
framing_condition ShortSize = codes "amqp:connection:framing-error"
framing_condition BadDoff = codes "amqp:connection:framing-error"
framing_condition TooBig = codes "amqp:connection:framing-error"
framing_condition BadKind = codes "amqp:connection:framing-error"
framing_condition BadBody = codes "amqp:decode-error"
framing_condition NoMemory = codes "amqp:connection:framing-error"

abbrev pub condition : ConnFault → List ℕ
condition fault.BadHeader = codes "amqp:connection:framing-error"
condition (fault.Framing e) = framing_condition e
condition fault.OutOfPlace = codes "amqp:not-allowed"
condition fault.BadChannel = codes "amqp:connection:framing-error"
condition fault.JournalFull = codes "amqp:resource-limit-exceeded"
condition fault.Closed = codes "amqp:connection:framing-error"
condition fault.NoMemory = codes "amqp:connection:framing-error"

-- no close goes out before our open did, nor after our close
abbrev pub last_words : Phase → ConnFault → Option (List ℕ)
last_words phase.AwaitHeader e = None
last_words phase.Closing e = None
last_words phase.Closed e = None
last_words phase.AwaitOpen e = Some (octets_of (close_frame (error_of (condition e))))
last_words phase.Running e = Some (octets_of (close_frame (error_of (condition e))))

-- the session's part of the settings
abbrev pub session_of : Config → Session
session_of c = record { first_id = c.first_id; window = c.window; journal_limit = c.journal_limit }

-- at first: our header goes out
abbrev pub new_core : Config → Core
new_core s = sending header (record { config = s; phase = phase.AwaitHeader; log = new_log (session_of s); gathered = false; peer = None; parting = None })
