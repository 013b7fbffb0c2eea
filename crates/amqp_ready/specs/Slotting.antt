-- What a slot does: octets are read, fed and written.
use Rattle.std.specs.Prelude.{ℕ, ◌≡◌, ◌++◌, Bool, List, Option}
use Rattle.std.specs.Io.KnownBytes.{Consumes}
use Rattle.amqp_rules.specs.declared.reply.Given.{Given}
use Rattle.amqp_conn.specs.Connection.{Connection}
use Rattle.amqp_ready.specs.declared.fault.SlotFault.{SlotFault}
use Rattle.amqp_ready.specs.Moving.{PassesOn}
use Rattle.amqp_ready.specs.Gathering.{gone}
use Rattle.amqp_ready.specs.Failing.{TellsFailure, EndsSo}
use Rattle.amqp_ready.specs.Serving.{FeedsOn}

-- The octets of units that were popped since came behind what was left to be written. A front of all that came behind
-- what was written, and the rest is left: nothing twice, nothing skipped.
pub record Sent (c d : Connection) (left left' : List ℕ) (sink sink' : Option (List ℕ)) : Type 0 where
  pub more : List ℕ
  pub popped : gone d ≡ gone c ++ more
  pub passes : PassesOn sink sink' (left ++ more) left'

-- what the stream returns from here on, what was read and not fed, the connection, what the handler took, what is
-- left to be written, what was written, and whether the stream has failed
pub record Parts : Type 0 where
  pub source : Option (List ℕ)
  pub unfed : List ℕ
  pub conn : Connection
  pub told : Option (List Given)
  pub left : List ℕ
  pub sink : Option (List ℕ)
  pub failed : Bool

abbrev pub parts : Option (List ℕ) → List ℕ → Connection → Option (List Given) → List ℕ → Option (List ℕ) → Bool → Parts
parts s x c t l k f = record { source = s; unfed = x; conn = c; told = t; left = l; sink = k; failed = f }

-- The octets `piece` were read. What was not fed, and `piece` behind it, is fed from its front on, but for what is
-- not fed now. What was put out is written. The fault is of the stream if the stream failed, and says that its octets
-- have ended only if they have.
pub record Serves (why : Option SlotFault) (p q : Parts) : Type 0 where
  pub piece : List ℕ
  pub read : Consumes p.source q.source piece
  pub fed : FeedsOn why p.conn (p.unfed ++ piece) p.told q.conn q.unfed q.told
  pub sent : Sent p.conn q.conn p.left q.left p.sink q.sink
  pub fails : TellsFailure why p.failed q.failed
  pub ends : EndsSo why q.source
