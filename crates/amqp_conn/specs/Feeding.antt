-- What octets do to a connection, however they are cut.
use Rattle.std.specs.Prelude.{zero, suc, ℕ, ◌≡◌, ◌≢◌, ◌≤◌, ◌<◌, ◌++◌, ◌⊎◌, IsTrue, Bool, true, false, Option, Some, None, Result, Ok, Err, List, [], ◌∷◌, length, drop, take}
use Rattle.amqp_frames.specs.declared.fault.FrameFault.{FrameFault}
use Rattle.amqp_frames.specs.declared.fault.FrameFault.TheVariants as framing
use Rattle.amqp_frames.specs.declared.frame.Frame.{Frame}
use Rattle.amqp_frames.specs.Framing.{Shows}
use Rattle.amqp_frames.specs.Framer.{Faulty}
use Rattle.amqp_rules.specs.declared.op.Op.{Op}
use Rattle.amqp_rules.specs.declared.reply.Reply.{Reply}
use Rattle.amqp_rules.specs.declared.reply.Given.{Given}
use Rattle.amqp_rules.specs.declared.reply.Given.TheVariants.{Nothing}
use Rattle.amqp_rules.specs.declared.violation.Violation.{Violation}
use Rattle.amqp_rules.specs.ViolationAnswer.{violation_answer}
use Rattle.amqp_laws.specs.declared.entry.Entry.{Entry}
use Rattle.amqp_laws.specs.declared.entry.Step.TheVariants.{Own}
use Rattle.amqp_journal.specs.Log.{own_due, heard_due}
use Rattle.amqp_journal.specs.Units.{units}
use Rattle.amqp_conn.specs.declared.phase.Phase.{Phase}
use Rattle.amqp_conn.specs.declared.phase.Phase.TheVariants as phase
use Rattle.amqp_conn.specs.declared.fault.ConnFault.{ConnFault}
use Rattle.amqp_conn.specs.declared.fault.ConnFault.TheVariants as fault
use Rattle.amqp_conn.specs.declared.fed.Fed.{Fed}
use Rattle.amqp_conn.specs.Connection.{Core, Connection, more, reads_frames, IsQuiet, stepping}
use Rattle.amqp_conn.specs.Octets.{header, last_words}
use Rattle.amqp_conn.specs.Treating.{taken, again, ended, treat, ending, HasFrame, Moves}

-- what the octets in front do, so many times in turn
abbrev pub MovesTimes : ℕ → Connection → Connection → Type 0
MovesTimes zero c d = c ≡ d
MovesTimes (suc n) c d = (m : Connection) × Moves c m × MovesTimes n m d

-- once closed, nothing is unread
abbrev pub kept_in : Phase → List ℕ → List ℕ
kept_in phase.AwaitHeader x = x
kept_in phase.AwaitOpen x = x
kept_in phase.Running x = x
kept_in phase.Closing x = x
kept_in phase.Closed x = []

abbrev pub trimmed : Connection → Connection
trimmed c = record c { unread = kept_in c.core.phase c.unread }

-- d is c after these octets: all that can be read is read
pub record IsFed (c : Connection) (x : List ℕ) (d : Connection) : Type 0 where
  pub times : ℕ
  pub last : Connection
  pub moved : MovesTimes times (more x c) last
  pub is : d ≡ trimmed last
  pub quiet : IsQuiet d

-- # One call

-- the journal has one entry more, which gave this; or it is unchanged
abbrev pub AddsEntry : List Entry → List Entry → Bool → Given → Type 0
AddsEntry before after true given = (e : Entry) × (after ≡ before ++ e ∷ []) × (given ≡ e.reply.given)
AddsEntry before after false given = (after ≡ before) × (given ≡ Nothing)

-- the frame violates this, and is answered by the operation of the table
pub record Answers (k : Core) (f : Frame) (v : Violation) (given : Given) (l : Core) : Type 0 where
  pub violates : heard_due k.log f ≡ Err v
  pub op : Op
  pub due : violation_answer v ≡ Some op
  pub reply : Reply
  pub answered : own_due k.log op ≡ Ok reply
  pub gives : given ≡ reply.given
  pub does : l ≡ stepping (Own op) reply k

-- the frame in front of the octets is not taken, and its violation is answered
pub record IsAnswered (c : Connection) (piece : List ℕ) (v : Violation) (given : Given) (d : Connection) : Type 0 where
  pub f : Frame
  pub front : List ℕ
  pub back : List ℕ
  pub has : HasFrame (more piece c) f front back
  pub treated : treat c.core f ≡ again d.core
  pub answers : Answers c.core f v given d.core
  pub stands : d.unread ≡ c.unread

-- the frame in front ends the connection with this fault
abbrev pub EndsByFrame : ConnFault → Connection → Type 0
EndsByFrame e c = (f : Frame) × (front back : List ℕ) × HasFrame c f front back × (treat c.core f ≡ ended e)

-- when a fault is reported
abbrev pub IsPlace : ConnFault → Connection → Type 0
IsPlace fault.BadHeader c = (c.core.phase ≡ phase.AwaitHeader) × (front back : List ℕ) × (length front ≡ 8) × (front ≢ header) × (c.unread ≡ front ++ back)
IsPlace (fault.Framing e) c = IsTrue (reads_frames c.core.phase) × Shows e c.core.config.max_frame c.unread
IsPlace fault.OutOfPlace c = EndsByFrame fault.OutOfPlace c
IsPlace fault.BadChannel c = EndsByFrame fault.BadChannel c
IsPlace fault.JournalFull c = EndsByFrame fault.JournalFull c
IsPlace fault.Closed c = ⊥
IsPlace fault.NoMemory c = ⊥

-- the connection has ended with this fault
abbrev pub Ends : ConnFault → Connection → Connection → Type 0
Ends e c d = IsPlace e c × (d ≡ record { core = ending e c.core; unread = [] })

-- what is unread shows no fault, and the connection is not closed; a header or a frame that is whole in front is the
-- last of it, and is taken
pub record IsPassed (c : Connection) : Type 0 where
  pub goes_on : c.core.phase ≢ phase.Closed
  pub begins : (front back : List ℕ) → c.core.phase ≡ phase.AwaitHeader → length front ≡ 8 → c.unread ≡ front ++ back → (front ≡ header) × (back ≡ [])
  pub faultless : (e : FrameFault) → IsTrue (reads_frames c.core.phase) → Shows e c.core.config.max_frame c.unread → ⊥
  pub whole : (f : Frame) (front back : List ℕ) → HasFrame c f front back → (back ≡ []) × ((l : Core) × (treat c.core f ≡ taken l))

-- a feed takes these octets, at most to the end of a header or a frame, and they show no fault and no violation
abbrev pub Takes : Connection → List ℕ → Fed → Option Violation → Connection → Type 0
Takes c piece fed None d =
    (fed.used ≤ length piece) × IsFed c (take fed.used piece) d × AddsEntry c.core.log.journal d.core.log.journal fed.stepped fed.given × IsPassed (more (take fed.used piece) c)
Takes c piece fed (Some v) d = (fed.used ≡ 0) × (fed.stepped ≡ true) × IsAnswered c piece v fed.given d

-- a framer may be refused what it needs to keep the octets of a frame, or to read one
abbrev pub WantsFrame : Connection → List ℕ → Type 0
WantsFrame c piece = Faulty framing.NoMemory c.core.config.max_frame c.unread piece

-- the octets show a fault of framing
abbrev pub IsFaulty : Connection → Type 0
IsFaulty c = (e : FrameFault) × Shows e c.core.config.max_frame c.unread

-- When memory is needed: for our open, once the whole header has come; for a frame and what it does; and for the
-- close that states a fault, which is sent in these two phases alone.
abbrev pub NeedsMemory : Phase → Connection → List ℕ → Type 0
NeedsMemory phase.AwaitHeader c piece = (back : List ℕ) × (c.unread ++ piece ≡ header ++ back)
NeedsMemory phase.AwaitOpen c piece = WantsFrame c piece ⊎ IsFaulty (more piece c)
NeedsMemory phase.Running c piece = WantsFrame c piece ⊎ IsFaulty (more piece c)
NeedsMemory phase.Closing c piece = WantsFrame c piece
NeedsMemory phase.Closed c piece = ⊥

-- what one feed of a piece answers, and leaves
abbrev pub Feeds : Connection → List ℕ → Result Fed ConnFault → Connection → Type 0
Feeds c piece (Ok fed) d = Takes c piece fed fed.violation d
Feeds c piece (Err fault.Closed) d = (c.core.phase ≡ phase.Closed) × (d ≡ c)
Feeds c piece (Err fault.NoMemory) d = (c.core.phase ≢ phase.Closed) × NeedsMemory c.core.phase c piece × (d ≡ c)
Feeds c piece (Err e) d = Ends e (more piece c) d

-- an octet was used, or the step was made that answers a violation; unless the call failed
abbrev pub MovesBy : Option Violation → Fed → Type 0
MovesBy None fed = 0 < fed.used
MovesBy (Some v) fed = fed.stepped ≡ true

abbrev pub MovesOn : Result Fed ConnFault → Type 0
MovesOn (Ok fed) = MovesBy fed.violation fed
MovesOn (Err e) = Unit {0}

-- one feed after the other, each of what the one before left of the piece, to its end or to that of the connection;
-- none ran out of memory
abbrev pub FeedsInTurn : List (Result Fed ConnFault) → Connection → List ℕ → Connection → Type 0
FeedsInTurn [] c piece d = ((piece ≡ []) ⊎ (c.core.phase ≡ phase.Closed)) × (d ≡ c)
FeedsInTurn (Ok fed ∷ calls) c piece d = (m : Connection) × Feeds c piece (Ok fed) m × FeedsInTurn calls m (drop fed.used piece) d
FeedsInTurn (Err fault.NoMemory ∷ calls) c piece d = ⊥
FeedsInTurn (Err e ∷ calls) c piece d = Feeds c piece (Err e) d

abbrev pub listed : Option (List ℕ) → List (List ℕ)
listed None = []
listed (Some x) = x ∷ []

-- a connection has ended with this fault: it is closed, with one close queued if one may go out, and no entry more
pub record ClosesOnce (e : ConnFault) (k l : Core) : Type 0 where
  pub closed : l.phase ≡ phase.Closed
  pub journal : l.log.journal ≡ k.log.journal
  pub out : units l.log ≡ units k.log ++ listed (last_words k.phase e)
