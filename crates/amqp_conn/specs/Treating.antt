-- What a frame does to a connection (part 2, 2.4), and what unread octets do.
use Rattle.std.specs.Prelude.{ℕ, ◌≡◌, ◌≢◌, ◌≤◌, ◌++◌, ◌⊎◌, ◌==◌, IsTrue, Option, Some, None, Result, Ok, Err, List, length, max, cond, unwrap_or}
use Rattle.amqp_performatives.specs.declared.performative.Performative.{Performative}
use Rattle.amqp_performatives.specs.declared.performative.Performative.TheVariants.{Open, Close}
use Rattle.amqp_frames.specs.declared.fault.FrameFault.{FrameFault}
use Rattle.amqp_frames.specs.declared.frame.Frame.{Frame}
use Rattle.amqp_frames.specs.Framing.{IsFrame, Shows}
use Rattle.amqp_rules.specs.declared.op.Op.{Op}
use Rattle.amqp_rules.specs.declared.reply.Reply.{Reply}
use Rattle.amqp_rules.specs.declared.refusal.Refusal.{Refusal}
use Rattle.amqp_rules.specs.declared.violation.Violation.{Violation}
use Rattle.amqp_rules.specs.declared.violation.ViolationKind.{ViolationKind}
use Rattle.amqp_rules.specs.declared.violation.ViolationKind.TheVariants.{JournalFull as Full}
use Rattle.amqp_rules.specs.ViolationAnswer.{violation_answer}
use Rattle.amqp_rules.specs.Opened.{no_reply}
use Rattle.amqp_rules.specs.Sending.{octets_of}
use Rattle.amqp_laws.specs.declared.entry.Step.TheVariants.{Opened, Own, Heard}
use Rattle.amqp_journal.specs.Log.{own_due, heard_due}
use Rattle.amqp_conn.specs.declared.phase.Phase.{Phase}
use Rattle.amqp_conn.specs.declared.phase.Phase.TheVariants as phase
use Rattle.amqp_conn.specs.declared.fault.ConnFault.{ConnFault}
use Rattle.amqp_conn.specs.declared.fault.ConnFault.TheVariants as fault
use Rattle.amqp_conn.specs.Connection.{Core, Connection, reads_frames, in_phase, met, parted, sending, stepping}
use Rattle.amqp_conn.specs.Octets.{header, open_frame, close_frame, last_words}

-- the frame is taken; or it stays, after an answer to what it violates, and is read again; or the connection ends
pub data Treatment : Type 0 where
  taken : Core → Treatment
  again : Core → Treatment
  ended : ConnFault → Treatment

-- the fault of a violation that ends the connection
abbrev pub fault_of : ViolationKind → ConnFault
fault_of Full = fault.JournalFull
fault_of _ = fault.OutOfPlace

-- the longest frame of the peer, if its open does not state one
abbrev pub greatest : ℕ
greatest = 4294967295

abbrev pub await_open : Core → ℕ → Option Performative → Treatment
await_open k channel None = taken k
await_open k channel (Some (Open b)) =
    cond (channel == 0) (taken (met b (stepping (Opened (max 512 (unwrap_or b.max_frame_size greatest))) no_reply k))) (ended fault.BadChannel)
await_open k channel _ = ended fault.OutOfPlace

abbrev pub answering_by : Core → ViolationKind → Op → Result Reply Refusal → Treatment
answering_by k kind op (Ok reply) = again (stepping (Own op) reply k)
answering_by k kind op (Err refusal) = ended (fault_of kind)

-- the violation is answered by this operation, if it is accepted
abbrev pub answering : Core → ViolationKind → Option Op → Treatment
answering k kind None = ended (fault_of kind)
answering k kind (Some op) = answering_by k kind op (own_due k.log op)

abbrev pub hearing : Core → Frame → Result Reply Violation → Treatment
hearing k f (Ok reply) = taken (stepping (Heard f) reply k)
hearing k f (Err v) = answering k v.kind (violation_answer v)

abbrev pub run : Core → Frame → Option Performative → Treatment
run k f None = taken k
run k f (Some (Open b)) = ended fault.OutOfPlace
run k f (Some (Close b)) = cond (f.channel == 0) (taken (parted b (sending (octets_of (close_frame None)) k))) (ended fault.BadChannel)
run k f _ = cond (f.channel == 0) (hearing k f (heard_due k.log f)) (ended fault.BadChannel)

abbrev pub await_close : Core → Option Performative → Treatment
await_close k (Some (Close b)) = taken (parted b k)
await_close k _ = taken k

abbrev pub treat_in : Phase → Core → Frame → Treatment
treat_in phase.AwaitHeader k f = taken k
treat_in phase.AwaitOpen k f = await_open k f.channel f.body
treat_in phase.Running k f = run k f f.body
treat_in phase.Closing k f = await_close k f.body
treat_in phase.Closed k f = taken k

unfoldable pub treat : Core → Frame → Treatment
treat k f = treat_in k.phase k f

-- the peer's header was read: our open goes out
abbrev pub greeted : Core → Core
greeted k = in_phase phase.AwaitOpen (sending (octets_of (open_frame k.config)) k)

abbrev pub sending_last : Option (List ℕ) → Core → Core
sending_last None k = k
sending_last (Some octets) k = sending octets k

-- the connection ends for a fault: a close goes out, if one may
unfoldable pub ending : ConnFault → Core → Core
ending e k = in_phase phase.Closed (sending_last (last_words k.phase e) k)

-- # What the octets in front do

-- eight of them are a header
pub record TakesHeader (c d : Connection) : Type 0 where
  pub phase : c.core.phase ≡ phase.AwaitHeader
  pub front : List ℕ
  pub back : List ℕ
  pub eight : length front ≡ 8
  pub split : c.unread ≡ front ++ back
  pub does : ((front ≡ header) × (d ≡ record { core = greeted c.core; unread = back })) ⊎ ((front ≢ header) × (d ≡ record { core = ending fault.BadHeader c.core; unread = back }))

-- after a frame: the octets behind it are unread, or all if it is read again
abbrev pub after : Core → List ℕ → List ℕ → Treatment → Connection
after k whole back (taken l) = record { core = l; unread = back }
after k whole back (again l) = record { core = l; unread = whole }
after k whole back (ended e) = record { core = ending e k; unread = back }

-- the unread octets begin with a frame
pub record HasFrame (c : Connection) (f : Frame) (front back : List ℕ) : Type 0 where
  pub reads : IsTrue (reads_frames c.core.phase)
  pub framed : IsFrame f front
  pub small : length front ≤ c.core.config.max_frame
  pub split : c.unread ≡ front ++ back

pub record TakesFrame (c d : Connection) : Type 0 where
  pub f : Frame
  pub front : List ℕ
  pub back : List ℕ
  pub has : HasFrame c f front back
  pub does : d ≡ after c.core c.unread back (treat c.core f)

-- they show a fault
pub record TakesFault (c d : Connection) : Type 0 where
  pub reads : IsTrue (reads_frames c.core.phase)
  pub e : FrameFault
  pub shown : Shows e c.core.config.max_frame c.unread
  pub does : d ≡ record { core = ending (fault.Framing e) c.core; unread = c.unread }

abbrev pub Moves : Connection → Connection → Type 0
Moves c d = TakesHeader c d ⊎ (TakesFrame c d ⊎ TakesFault c d)
