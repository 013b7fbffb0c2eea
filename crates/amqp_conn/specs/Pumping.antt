-- What a pump does: octets are read and fed, units go out.
use Rattle.std.specs.Prelude.{ℕ, ◌≡◌, ◌≢◌, ◌⊎◌, ◌<◌, ◌≤◌, ◌+◌, List, [], ◌∷◌, ◌++◌, length, slice_get, Option, Some, None, Result, Ok, Err}
use Rattle.std.specs.Io.KnownBytes.{Consumes, Appends, IsAtEnd}
use Rattle.amqp_rules.specs.declared.reply.Given.{Given}
use Rattle.amqp_laws.specs.declared.entry.Entry.{Entry}
use Rattle.amqp_journal.specs.Log.{Log}
use Rattle.amqp_journal.specs.Units.{units, waiting}
use Rattle.amqp_conn.specs.declared.phase.Phase.TheVariants as phase
use Rattle.amqp_conn.specs.declared.fed.Fed.{Fed}
use Rattle.amqp_conn.specs.declared.pumping.PumpEnd.{PumpEnd}
use Rattle.amqp_conn.specs.declared.pumping.PumpEnd.TheVariants as end
use Rattle.amqp_conn.specs.declared.pumping.PumpFault.{PumpFault}
use Rattle.amqp_conn.specs.declared.pumping.PumpFault.TheVariants as fault
use Rattle.amqp_conn.specs.declared.fault.ConnFault.{ConnFault}
use Rattle.amqp_conn.specs.Connection.{Core, Connection}
use Rattle.amqp_conn.specs.Calling.{popped}
use Rattle.amqp_conn.specs.Feeding.{Feeds, IsFed}

-- as if so many units were popped
abbrev pub core_popped : ℕ → Core → Core
core_popped n k = record k { log = record k.log { popped = n } }

abbrev pub as_popped : ℕ → Connection → Connection
as_popped n c = record c { core = core_popped n c.core }

-- octets one after the other
abbrev pub joined : List (List ℕ) → List ℕ
joined [] = []
joined (x ∷ xs) = x ++ joined xs

-- a front of the octets was appended
pub record AppendsFront (old new : Option (List ℕ)) (octets : List ℕ) : Type 0 where
  pub front : List ℕ
  pub back : List ℕ
  pub split : octets ≡ front ++ back
  pub appends : Appends old new front

-- # What is moved

-- what the source returns from here on, the octets that were read and not fed, the connection, and what was written
pub record Line : Type 0 where
  pub source : Option (List ℕ)
  pub rest : List ℕ
  pub conn : Connection
  pub sink : Option (List ℕ)

abbrev pub line : Option (List ℕ) → List ℕ → Connection → Option (List ℕ) → Line
line s x c k = record { source = s; rest = x; conn = c; sink = k }

-- whatever comes after: y and then that lead from d to where x and then that lead from c
abbrev pub Later : Connection → List ℕ → Connection → List ℕ → Type 0
Later c x d y = (z : List ℕ) (e : Connection) → IsFed d (y ++ z) e → IsFed c (x ++ z) e

-- these units went out: those that waited before or were put out since, less those that wait now
pub record WentOut (before after : Log) (out : List (List ℕ)) : Type 0 where
  pub front : List (List ℕ)
  pub popped : length front ≡ before.popped
  pub now : length (front ++ out) ≡ after.popped
  pub all : units after ≡ front ++ out ++ waiting after
  pub more : List (List ℕ)
  pub grown : units after ≡ units before ++ more

-- what a read that is not at the end returns
abbrev pub IsPiece : List ℕ → Type 0
IsPiece x = (0 < length x) × (length x ≤ 4096)

abbrev pub ArePieces : List (List ℕ) → Type 0
ArePieces [] = Unit {0}
ArePieces (x ∷ xs) = IsPiece x × ArePieces xs

-- These pieces were read, one by each read that returned octets. What was kept and then these pieces were fed, but
-- for what is kept now; units were popped; and the octets of the units that went out were written.
pub record Carries (pieces : List (List ℕ)) (p q : Line) : Type 0 where
  pub sized : ArePieces pieces
  pub read : Consumes p.source q.source (joined pieces)
  pub fed : Later p.conn (p.rest ++ joined pieces) (as_popped p.conn.core.log.popped q.conn) q.rest
  pub out : List (List ℕ)
  pub went : WentOut p.conn.core.log q.conn.core.log out
  pub written : Appends p.sink q.sink (joined out)

-- no unit waits
abbrev pub AllWent : Connection → Type 0
AllWent c = waiting c.core.log ≡ []

-- c, but for units that went out
abbrev pub OnlyWrote : Connection → Connection → Type 0
OnlyWrote c d = d ≡ as_popped d.core.log.popped c

-- # How it ends

-- the connection was open, and a feed of what was kept closed it without a fault
pub record Closes (pieces : List (List ℕ)) (p : Line) (d : Connection) : Type 0 where
  pub before : Line
  pub carried : Carries pieces p before
  pub was_open : before.conn.core.phase ≢ phase.Closed
  pub fed : Fed
  pub after : Connection
  pub feeds : Feeds before.conn before.rest (Ok fed) after
  pub closed : after.core.phase ≡ phase.Closed
  pub wrote : OnlyWrote after d

-- a feed of what was kept returned the fault, and that is kept; then all units went out, the last close among them
pub record EndsBy (e : ConnFault) (pieces : List (List ℕ)) (p q : Line) : Type 0 where
  pub before : Line
  pub carried : Carries pieces p before
  pub was_open : before.conn.core.phase ≢ phase.Closed
  pub after : Connection
  pub feeds : Feeds before.conn before.rest (Err e) after
  pub wrote : OnlyWrote after q.conn
  pub whole : Carries pieces p q
  pub rest : q.rest ≡ before.rest
  pub all : AllWent q.conn

-- the unit in front was popped, and a front of its octets written
pub record Breaks (pieces : List (List ℕ)) (p q : Line) : Type 0 where
  pub before : Line
  pub carried : Carries pieces p before
  pub unit : List ℕ
  pub waits : slice_get (units before.conn.core.log) before.conn.core.log.popped ≡ Some unit
  pub popped : q.conn ≡ popped before.conn
  pub written : AppendsFront before.sink q.sink unit
  pub source : q.source ≡ before.source
  pub rest : q.rest ≡ before.rest

-- Why it failed. A read: all units had gone out, and all that was read was fed.
abbrev pub Fails : PumpFault → List (List ℕ) → Line → Line → Type 0
Fails fault.Read pieces p q = Carries pieces p q × AllWent q.conn × (q.rest ≡ []) × (q.conn.core.phase ≢ phase.Closed)
Fails fault.Write pieces p q = Breaks pieces p q
Fails (fault.Conn e) pieces p q = EndsBy e pieces p q

-- Why it stopped: the connection is closed, since before or by a feed without a fault; or the source has ended; or
-- each turn has read a piece. All that was read was fed.
abbrev pub Stops : ℕ → PumpEnd → List (List ℕ) → Line → Line → Type 0
Stops turns end.Closed pieces p q = (q.conn.core.phase ≡ phase.Closed) × AllWent q.conn × ((p.conn.core.phase ≡ phase.Closed) ⊎ Closes pieces p q.conn)
Stops turns end.EndOfInput pieces p q = IsAtEnd q.source × AllWent q.conn × (q.conn.core.phase ≢ phase.Closed)
Stops turns end.TurnsOver pieces p q = length pieces ≡ turns

abbrev pub Ran : ℕ → Result PumpEnd PumpFault → List (List ℕ) → Line → Line → Type 0
Ran turns (Ok end) pieces p q = Carries pieces p q × (q.rest ≡ []) × Stops turns end pieces p q
Ran turns (Err why) pieces p q = Fails why pieces p q

-- what so many turns do
abbrev pub Runs : ℕ → Result PumpEnd PumpFault → Line → Line → Type 0
Runs turns result p q = (pieces : List (List ℕ)) × (length pieces ≤ turns) × Ran turns result pieces p q

-- one read or write has failed if that is reported, and no other has
abbrev pub CountsFailures : {A : Type 0} → Result A PumpFault → ℕ → ℕ → ℕ → ℕ → Type 0
CountsFailures (Ok done) reads reads' writes writes' = (reads' ≡ reads) × (writes' ≡ writes)
CountsFailures (Err fault.Read) reads reads' writes writes' = (reads' ≡ reads + 1) × (writes' ≡ writes)
CountsFailures (Err fault.Write) reads reads' writes writes' = (reads' ≡ reads) × (writes' ≡ writes + 1)
CountsFailures (Err (fault.Conn e)) reads reads' writes writes' = (reads' ≡ reads) × (writes' ≡ writes)

-- # Events of the entries

-- the calls of the handler so far, and then these, if they are known
abbrev pub AddsAll : Option (List Given) → Option (List Given) → List Given → Type 0
AddsAll None new more = Unit {0}
AddsAll (Some old) None more = ⊥
AddsAll (Some old) (Some new) more = new ≡ old ++ more

abbrev pub Adds : Option (List Given) → Option (List Given) → Given → Type 0
Adds old new given = AddsAll old new (given ∷ [])

abbrev pub given_by : List Entry → List Given
given_by [] = []
given_by (e ∷ es) = e.reply.given ∷ given_by es

-- the handler was called with what each new entry of the journal gave, in order, and with nothing else
pub record Tells (before after : List Entry) (heard heard' : Option (List Given)) : Type 0 where
  pub entries : List Entry
  pub added : after ≡ before ++ entries
  pub told : AddsAll heard heard' (given_by entries)
