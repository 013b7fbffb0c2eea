-- What the application's calls do to a connection: it is started, does operations, is closed, and its units go out.
use Rattle.std.specs.Prelude.{ℕ, ◌≡◌, ◌≢◌, ◌≤◌, Option, Result, Ok, Err, IsOk}
use Rattle.amqp_performatives.specs.declared.error.AmqpError.{AmqpError}
use Rattle.amqp_frames.specs.declared.fault.FrameRefusal.TheVariants as frame
use Rattle.amqp_frames.specs.Written.{write_answer}
use Rattle.amqp_rules.specs.Limits.{IsWithinLimits}
use Rattle.amqp_rules.specs.Sending.{octets_of}
use Rattle.amqp_rules.specs.declared.op.Op.{Op}
use Rattle.amqp_rules.specs.declared.reply.Reply.{Reply}
use Rattle.amqp_rules.specs.declared.reply.Given.{Given}
use Rattle.amqp_rules.specs.declared.refusal.Refusal.{Refusal}
use Rattle.amqp_rules.specs.declared.refusal.Refusal.TheVariants as refusal
use Rattle.amqp_laws.specs.declared.entry.Step.TheVariants.{Own}
use Rattle.amqp_laws.specs.Past.{past}
use Rattle.amqp_laws.specs.At.{at}
use Rattle.amqp_journal.specs.Log.{Log, own_due, popping, forgetting, IsRefusal}
use Rattle.amqp_conn.specs.declared.config.Config.{Config}
use Rattle.amqp_conn.specs.declared.phase.Phase.{Phase}
use Rattle.amqp_conn.specs.declared.phase.Phase.TheVariants as phase
use Rattle.amqp_conn.specs.declared.refused.StartFault.{StartFault}
use Rattle.amqp_conn.specs.declared.refused.StartFault.TheVariants as start
use Rattle.amqp_conn.specs.declared.refused.CloseRefusal.{CloseRefusal}
use Rattle.amqp_conn.specs.declared.refused.CloseRefusal.TheVariants as close
use Rattle.amqp_conn.specs.Connection.{Core, Connection, in_phase, sending, stepping}
use Rattle.amqp_conn.specs.Octets.{open_frame, close_frame, session_of}

-- # Starting

-- each setting is within its limits
pub record IsLimited (c : Config) : Type 0 where
  pub frames : 512 ≤ c.max_frame
  pub session : IsWithinLimits (session_of c)

-- Each setting is within its limits, and our open can be written in the 512 octets that every peer takes (part 2,
-- 2.7.1).
pub record IsFit (c : Config) : Type 0 where
  pub limited : IsLimited c
  pub opens : IsOk (write_answer (open_frame c) 512)

abbrev pub IsStartFault : StartFault → Config → Type 0
IsStartFault start.BadConfig c = IsFit c → ⊥
IsStartFault start.NoMemory c = IsFit c

-- # Operations

-- what is due to an operation: it is refused unless the connection is running
abbrev pub due_in : Phase → Log → Op → Result Reply Refusal
due_in phase.AwaitHeader l op = Err refusal.NotRunning
due_in phase.AwaitOpen l op = Err refusal.NotRunning
due_in phase.Running l op = own_due l op
due_in phase.Closing l op = Err refusal.NotRunning
due_in phase.Closed l op = Err refusal.NotRunning

-- the operation has added its entry to the journal, and nothing else has changed; or it was refused, and nothing has
abbrev pub Does : Core → Op → Result Given Refusal → Core → Type 0
Does old op (Ok given) new = (reply : Reply) × (due_in old.phase old.log op ≡ Ok reply) × (given ≡ reply.given) × (new ≡ stepping (Own op) reply old)
Does old op (Err e) new = IsRefusal refusal.NoMemory (due_in old.phase old.log op) e × (new ≡ old)

-- an operation is done, as in Does; what it gave is in the entry alone
abbrev pub Performs : Core → Op → Result (Unit {0}) Refusal → Core → Type 0
Performs old op (Ok done) new = (reply : Reply) × (due_in old.phase old.log op ≡ Ok reply) × (new ≡ stepping (Own op) reply old)
Performs old op (Err e) new = IsRefusal refusal.NoMemory (due_in old.phase old.log op) e × (new ≡ old)

-- # Closing

-- the longest frame that the peer accepts, as its open states
unfoldable pub peer_max : Log → ℕ
peer_max l = (at l.config (past l.journal)).max_frame

-- our close has gone out with the error, and the peer's is awaited (part 2, 2.4.3); or there is no such close, and
-- nothing has changed
abbrev pub Closes : Core → Option AmqpError → Result (Unit {0}) CloseRefusal → Core → Type 0
Closes old error (Ok done) new =
    (old.phase ≡ phase.Running)
    × (write_answer (close_frame error) (peer_max old.log) ≡ Ok (octets_of (close_frame error)))
    × (new ≡ in_phase phase.Closing (sending (octets_of (close_frame error)) old))
Closes old error (Err close.NotOpen) new = (old.phase ≢ phase.Running) × (new ≡ old)
Closes old error (Err close.NotWritable) new = (old.phase ≡ phase.Running) × (write_answer (close_frame error) (peer_max old.log) ≡ Err frame.NotWritable) × (new ≡ old)
Closes old error (Err close.FrameTooBig) new = (old.phase ≡ phase.Running) × (write_answer (close_frame error) (peer_max old.log) ≡ Err frame.FrameTooBig) × (new ≡ old)
Closes old error (Err close.NoMemory) new = (old.phase ≡ phase.Running) × IsOk (write_answer (close_frame error) (peer_max old.log)) × (new ≡ old)

-- # Units

-- one unit more is popped
abbrev pub popped : Connection → Connection
popped c = record c { core = record c.core { log = popping c.core.log } }

-- # The journal

-- the entries so far are forgotten
abbrev pub forgotten : Connection → Connection
forgotten c = record c { core = record c.core { log = forgetting c.core.log } }
