-- What the parts of a pump do.
use Rattle.std.specs.Prelude.{ℕ, ◌≡◌, ◌≢◌, ◌⊎◌, ◌≤◌, ◌<◌, ◌+◌, ◌-◌, List, [], ◌∷◌, ◌++◌, length, drop, Option, Some, None, Ok, Err}
use Rattle.std.specs.Io.KnownBytes.{IsAtEnd}
use Rattle.amqp_journal.specs.Units.{units}
use Rattle.amqp_conn.specs.declared.phase.Phase.TheVariants as phase
use Rattle.amqp_conn.specs.declared.fed.Fed.{Fed}
use Rattle.amqp_conn.specs.declared.fault.ConnFault.{ConnFault}
use Rattle.amqp_conn.specs.declared.pumping.PumpEnd.{PumpEnd}
use Rattle.amqp_conn.specs.declared.pumping.PumpEnd.TheVariants as end
use Rattle.amqp_conn.specs.declared.pumping.PumpFault.{PumpFault}
use Rattle.amqp_conn.specs.declared.pumping.PumpFault.TheVariants as fault
use Rattle.amqp_conn.specs.Connection.{Connection}
use Rattle.amqp_conn.specs.Feeding.{Feeds}
use Rattle.amqp_conn.specs.Pumping.{Line, line, Later, Carries, Closes, Breaks, Fails, AllWent, OnlyWrote}

-- octets of a buffer, from its start to its end
pub record IsSpan (buffer : List ℕ) (start end : ℕ) : Type 0 where
  pub ordered : start ≤ end
  pub within : end ≤ 4096
  pub sized : length buffer ≡ 4096

-- how many entries more the journal may have
abbrev pub room : Connection → ℕ
room c = c.core.log.config.journal_limit - length c.core.log.journal

-- after a feed of the rest there is less to do
pub record GoesOn (c : Connection) (rest : List ℕ) (used : ℕ) (m : Connection) : Type 0 where
  pub within : used ≤ length rest
  pub less : length (drop used rest) + room m < length rest + room c

-- feeds of x left y: they popped nothing, and units came behind
pub record Took (c : Connection) (x : List ℕ) (d : Connection) (y : List ℕ) : Type 0 where
  pub later : Later c x d y
  pub popped : d.core.log.popped ≡ c.core.log.popped
  pub more : List (List ℕ)
  pub all : units d.core.log ≡ units c.core.log ++ more

-- one feed of x, without a fault
abbrev pub IsTaken : Connection → List ℕ → Connection → Type 0
IsTaken c x d = (fed : Fed) × Feeds c x (Ok fed) d

-- the last feed of x had no fault
pub record ClosedBy (c : Connection) (x : List ℕ) (d : Connection) : Type 0 where
  pub before : Connection
  pub left : List ℕ
  pub took : Took c x before left
  pub was_open : before.core.phase ≢ phase.Closed
  pub fed : Fed
  pub feeds : Feeds before left (Ok fed) d

-- if feeds of x closed the connection, the last had no fault
abbrev pub ClosesWell : Connection → List ℕ → Connection → Type 0
ClosesWell c x d = d.core.phase ≡ phase.Closed → (c.core.phase ≡ phase.Closed) ⊎ ClosedBy c x d

-- the feed after so many octets returned the fault
pub record StoppedBy (c : Connection) (x : List ℕ) (used : ℕ) (e : ConnFault) (d : Connection) : Type 0 where
  pub within : used ≤ length x
  pub before : Connection
  pub took : Took c x before (drop used x)
  pub was_open : before.core.phase ≢ phase.Closed
  pub feeds : Feeds before (drop used x) (Err e) d
  pub kept : Took c x d (drop used x)

-- the first unit went out
abbrev pub WritesOne : Connection → Connection → Option (List ℕ) → Option (List ℕ) → Type 0
WritesOne c d k k' = (s : Option (List ℕ)) (x : List ℕ) → Carries [] (line s x c k) (line s x d k')

-- one of the units that wait did not go out, or not whole
abbrev pub WriteFails : Connection → Connection → Option (List ℕ) → Option (List ℕ) → Type 0
WriteFails c d k k' = (s : Option (List ℕ)) (x : List ℕ) → Breaks [] (line s x c k) (line s x d k')

-- after the fault all units went out, and it is returned; or a write failed
abbrev pub TellsLast : PumpFault → ConnFault → Connection → Connection → Option (List ℕ) → Option (List ℕ) → Type 0
TellsLast fault.Read e c d k k' = ⊥
TellsLast fault.Write e c d k k' = WriteFails c d k k'
TellsLast (fault.Conn told) e c d k k' = (told ≡ e) × WritesOne c d k k' × AllWent d × OnlyWrote c d

abbrev pub CountsWrites : PumpFault → ℕ → ℕ → Type 0
CountsWrites fault.Read writes writes' = ⊥
CountsWrites fault.Write writes writes' = writes' ≡ writes + 1
CountsWrites (fault.Conn e) writes writes' = writes' ≡ writes

-- what was kept is fed, and nothing is kept
abbrev pub FedAll : Line → Line → Type 0
FedAll p q = Carries [] p q × (q.rest ≡ []) × (q.conn.core.phase ≡ phase.Closed → (p.conn.core.phase ≡ phase.Closed) ⊎ Closes [] p q.conn)

-- one turn with nothing kept: the connection was closed; or the source has ended; or a piece was read and fed
abbrev pub TurnEnds : PumpEnd → Line → Line → Type 0
TurnEnds end.Closed p q = Carries [] p q × AllWent q.conn × OnlyWrote p.conn q.conn × (q.conn.core.phase ≡ phase.Closed)
TurnEnds end.EndOfInput p q = Carries [] p q × AllWent q.conn × IsAtEnd q.source × (q.conn.core.phase ≢ phase.Closed)
TurnEnds end.TurnsOver p q = ⊥

abbrev pub Turned : Option PumpEnd → Line → Line → Type 0
Turned (Some e) p q = (q.rest ≡ []) × TurnEnds e p q
Turned None p q =
    (piece : List ℕ) × Carries (piece ∷ []) p q × (q.rest ≡ []) × (q.conn.core.phase ≡ phase.Closed → Closes (piece ∷ []) p q.conn)

-- what one turn does that fails: it has read a piece at most
abbrev pub TurnFails : PumpFault → Line → Line → Type 0
TurnFails e p q = (pieces : List (List ℕ)) × (length pieces ≤ 1) × Fails e pieces p q
