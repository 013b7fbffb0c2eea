-- What a call does to a connection, and what it reports.
use Rattle.std.specs.Prelude.{ℕ, ◌≡◌, ◌+◌, ◌++◌, ◌⊎◌, take, drop, min, cond, Bool, Option, Some, None, Result, Ok, Err, MatchResult, List, [], length}
use Rattle.amqp_performatives.specs.declared.error.AmqpError.{AmqpError}
use Rattle.amqp_frames.specs.declared.frame.Frame.{Frame}
use Rattle.amqp_rules.specs.declared.op.Op.{Op}
use Rattle.amqp_rules.specs.declared.reply.Given.{Given}
use Rattle.amqp_rules.specs.declared.reply.Given.TheVariants as given
use Rattle.amqp_rules.specs.declared.reply.Taken.{Taken}
use Rattle.amqp_rules.specs.declared.refusal.Refusal.{Refusal}
use Rattle.amqp_rules.specs.declared.violation.Violation.{Violation}
use Rattle.amqp_rules.specs.RefusalNumbers.{refusal_number}
use Rattle.amqp_rules.specs.ViolationNumbers.{violation_number}
use Rattle.amqp_rules.specs.Take.{taken_in}
use Rattle.amqp_journal.specs.Units.{waiting}
use Rattle.amqp_conn.specs.declared.fault.ConnFault.{ConnFault}
use Rattle.amqp_conn.specs.declared.fed.Fed.{Fed}
use Rattle.amqp_conn.specs.declared.refused.CloseRefusal.{CloseRefusal}
use Rattle.amqp_conn.specs.Numbers.{fault_number, close_number}
use Rattle.amqp_conn.specs.Connection.{Core, Connection}
use Rattle.amqp_conn.specs.Calling.{Does, Closes, popped}
use Rattle.amqp_conn.specs.Feeding.{Feeds}
use Rattle.amqp_conn.specs.Pumping.{joined}
use Rattle.amqp_conn.specs.Saying.{heard_by, newest}
use Rattle.amqp_caller.specs.declared.event.Event.{Event}
use Rattle.amqp_caller.specs.declared.caller.Caller.{Caller}
use Rattle.amqp_caller.specs.Numbers.{frame_handle, frame_number, id_number, phase_number, state_number, verdict_number}

-- the event reports what a step gave
abbrev pub IsTold : Given → Event → Type 0
IsTold given.Nothing e = e.kind ≡ 0
IsTold (given.Link l) e = (e.kind ≡ 1) × (e.link ≡ l)
IsTold (given.Offered l) e = (e.kind ≡ 2) × (e.link ≡ l)
IsTold (given.Attached l) e = (e.kind ≡ 3) × (e.link ≡ l)
IsTold (given.Gone l) e = (e.kind ≡ 4) × (e.link ≡ l)
IsTold (given.Delivery i) e = (e.kind ≡ 5) × (e.id ≡ i)
IsTold (given.Ready l i) e = (e.kind ≡ 6) × (e.link ≡ l) × (e.id ≡ i)
IsTold (given.Taken t) e = (e.kind ≡ 7) × (e.link ≡ t.link) × (e.id ≡ t.id) × (e.format ≡ t.format) × (e.settled ≡ t.settled) × (e.second ≡ t.second) × (take e.tag_len e.tag ≡ t.tag) × (e.payload_len ≡ min (length t.payload) 18446744073709551615)
IsTold (given.Learned t) e = (e.kind ≡ 8) × (e.link ≡ t.link) × (e.id ≡ t.id) × (e.settled ≡ t.settled) × (e.state ≡ state_number t.state) × (take e.tag_len e.tag ≡ t.tag)
IsTold (given.Suspended s) e = e.kind ≡ 9
IsTold (given.Parted l s) e = (e.kind ≡ 10) × (e.link ≡ l)
IsTold (given.Resumed r) e = (e.kind ≡ 11) × (e.verdict ≡ verdict_number r.verdict) × (e.id ≡ id_number r.id) × (e.state ≡ state_number r.state)

-- # Operations

-- the status and the event are those of what the connection answered
abbrev pub Answers : Result Given Refusal → ℕ → Event → Type 0
Answers (Ok g) status e = (status ≡ 0) × IsTold g e
Answers (Err r) status e = (status ≡ 256 + refusal_number r) × (e.kind ≡ 0)

abbrev pub option_or : {A : Type 0} → Option A → Option A → Option A
option_or (Some x) old = Some x
option_or None old = old

-- the delivery that was taken last, whose payload can be read
abbrev pub last_taken : Result Given Refusal → Option Taken → Option Taken
last_taken (Ok g) old = option_or (taken_in g) old
last_taken (Err r) old = old

-- the operation was done or refused by the connection, as the status and the event report
pub record Did (old : Caller) (op : Op) (status : ℕ) (e : Event) (new : Caller) : Type 0 where
  pub answer : Result Given Refusal
  pub does : Does old.conn.core op answer new.conn.core
  pub unread : new.conn.unread ≡ old.conn.unread
  pub rest : new.rest ≡ old.rest
  pub taken : new.taken ≡ last_taken answer old.taken
  pub told : Answers answer status e
  pub phase : e.phase ≡ phase_number new.conn.core.phase

-- the operation that the arguments made was asked for; or they made none, and nothing was asked
abbrev pub DidMade : Result Op ℕ → Caller → ℕ → Event → Caller → Type 0
DidMade (Ok o) old status e new = Did old o status e new
DidMade (Err s) old status e new = (status ≡ s) × (new ≡ old)

-- The arguments made such an operation, which was done or refused. Or they made none, as such a status reports, and nothing has changed.
pub record Asked (IsOp : Op → Type 0) (IsBad : ℕ → Type 0) (old : Caller) (status : ℕ) (e : Event) (new : Caller) : Type 0 where
  pub made : Result Op ℕ
  pub fits : MatchResult made IsOp IsBad
  pub did : DidMade made old status e new

-- # Octets that come in

abbrev pub violation_told : Option Violation → ℕ
violation_told None = 0
violation_told (Some v) = violation_number v.kind

-- the frame that the newest step heard, if one was made
abbrev pub frame_told : Bool → Connection → Option Frame
frame_told stepped c = cond stepped (heard_by (newest c.core.log)) None

-- the status and the event are those of what the connection answered
abbrev pub FedAnswers : Result Fed ConnFault → ℕ → ℕ → Event → Connection → Type 0
FedAnswers (Ok f) used status e new =
    (status ≡ 0)
    × (used ≡ f.used)
    × IsTold f.given e
    × (e.violation ≡ violation_told f.violation)
    × (e.stepped ≡ f.stepped)
    × (e.frame ≡ frame_number (frame_told f.stepped new))
    × (e.handle ≡ frame_handle (frame_told f.stepped new))
FedAnswers (Err x) used status e new = (status ≡ 512 + fault_number x) × (used ≡ 0) × (e.kind ≡ 0)

-- the octets were fed to the connection, as the status and the event report
pub record WasFed (old : Connection) (octets : List ℕ) (used status : ℕ) (e : Event) (new : Connection) : Type 0 where
  pub answer : Result Fed ConnFault
  pub feeds : Feeds old octets answer new
  pub told : FedAnswers answer used status e new
  pub phase : e.phase ≡ phase_number new.core.phase

-- # Closing

abbrev pub CloseAnswers : Result (Unit {0}) CloseRefusal → ℕ → Type 0
CloseAnswers (Ok done) status = status ≡ 0
CloseAnswers (Err r) status = status ≡ 1024 + close_number r

-- our close with this error was sent, or was refused, as the status reports
pub record WasClosed (old : Core) (error : Option AmqpError) (status : ℕ) (new : Core) : Type 0 where
  pub answer : Result (Unit {0}) CloseRefusal
  pub closes : Closes old error answer new
  pub told : CloseAnswers answer status

-- our close with this error was sent or refused; or the arguments made no error, and nothing has changed
abbrev pub Closed : Option AmqpError → Caller → ℕ → Caller → Type 0
Closed error old status new =
    (WasClosed old.conn.core error status new.conn.core × (new.conn.unread ≡ old.conn.unread) × (new.rest ≡ old.rest) × (new.taken ≡ old.taken))
    ⊎ (((status ≡ 2) ⊎ (status ≡ 3)) × (new ≡ old))

-- # Octets that go out

-- the octets of the units that wait, in order
abbrev pub to_come : Connection → List ℕ
to_come c = joined (waiting c.core.log)

-- So many octets were given: those in front of what was left of a unit and of what waits. None is lost, and none comes twice.
pub record Writes (left : List ℕ) (old : Connection) (room : List ℕ) (count : ℕ) (left' : List ℕ) (new : Connection) : Type 0 where
  pub given : take count room ++ (left' ++ to_come new) ≡ left ++ to_come old
  pub only : (new ≡ old) ⊎ (new ≡ popped old)

-- # Payloads

-- octets of the payload of the delivery that was taken last, from a place on
abbrev pub PayloadOf : Option Taken → ℕ → List ℕ → ℕ → Type 0
PayloadOf None from room count = count ≡ 0
PayloadOf (Some t) from room count = take count room ≡ take count (drop from t.payload)

-- octets in front of what the payload of the delivery that was taken last has from a place on
abbrev pub LendsPayload : Option Taken → ℕ → List ℕ → Type 0
LendsPayload None from octets = octets ≡ []
LendsPayload (Some t) from octets = (more : List ℕ) × (octets ++ more ≡ drop from t.payload)
