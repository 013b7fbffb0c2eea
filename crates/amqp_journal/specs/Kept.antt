-- What holds of an endpoint with its journal at all times.
use Rattle.std.specs.Prelude.{ℕ, ◌≡◌, ◌≤◌, ◌+◌, ◌^◌, List, All, length, drop, sum_by}
use Rattle.amqp_rules.specs.Limits.{IsWithinLimits}
use Rattle.amqp_rules.specs.View.{View}
use Rattle.amqp_laws.specs.Past.{past}
use Rattle.amqp_laws.specs.At.{at}
use Rattle.amqp_laws.specs.Lawful.{IsLawful}
use Rattle.amqp_journal.specs.Log.{Log}
use Rattle.amqp_journal.specs.Units.{units, PutWithin}

-- The journal is lawful, the endpoint is what the journal makes it, and the queue has the units that were not popped.
pub record IsKept (l : Log) (endpoint : View) (queue : List (List ℕ)) : Type 0 where
  pub limits : IsWithinLimits l.config
  pub lawful : IsLawful l.config (past l.journal)
  pub is_at : endpoint ≡ at l.config (past l.journal)
  pub queued : queue ≡ drop l.popped (units l)
  -- nothing was put past the end, no more was popped than was put out, and a step puts out one unit at most
  pub within : PutWithin (length l.journal) l.put
  pub some : l.popped ≤ length (units l)
  pub few : length (units l) ≤ length l.journal + length l.put
  pub forgot : l.forgotten ≤ length l.journal

-- The count is that of the octets of all units, each of which has 2 ^ 64 at most.
pub record IsCounted (octets : ℕ) (queue : List (List ℕ)) : Type 0 where
  pub sum : octets ≡ sum_by length queue
  pub short : All (λ u. length u ≤ 2 ^ 64) queue
