-- The units of a connection with their numbers, and what is moved of them to the writer's ring.
use Rattle.std.specs.Prelude.{ℕ, ◌≡◌, ◌≤◌, ◌+◌, List, [], ◌∷◌, take, drop}
use Rattle.amqp_journal.specs.declared.unit.Unit as frame
use Rattle.amqp_journal.specs.Units.{units}
use Rattle.amqp_conn.specs.Connection.{Connection}
use Rattle.amqp_conn.specs.Pumping.{as_popped}

-- a unit's number is its place
abbrev pub numbered_from : ℕ → List (List ℕ) → List frame.Unit
numbered_from n [] = []
numbered_from n (octets ∷ more) = record { number = n; bytes = octets } ∷ numbered_from (n + 1) more

-- all that was put out
abbrev pub units_of : Connection → List frame.Unit
units_of c = numbered_from 0 (units c.core.log)

-- what left the connection
abbrev pub moved_of : Connection → List frame.Unit
moved_of c = take c.core.log.popped (units_of c)

-- the backlog: what waits in the connection
abbrev pub backlog_of : Connection → List frame.Unit
backlog_of c = drop c.core.log.popped (units_of c)

-- the new connection, as if no unit had left it since the old one
abbrev pub unmoved : Connection → Connection → Connection
unmoved old new = as_popped old.core.log.popped new

-- units may have been moved from the backlog to the ring, and nothing else has changed
pub record MovesUnits (old new : Connection) : Type 0 where
  pub rest : unmoved old new ≡ old
  pub more : old.core.log.popped ≤ new.core.log.popped
