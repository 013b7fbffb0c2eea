-- How a connection grows: entries and units are appended, and none is removed.
use Rattle.std.specs.Prelude.{ℕ, ◌≡◌, ◌+◌, ◌++◌, List, length}
use Rattle.amqp_journal.specs.Units.{units}
use Rattle.amqp_conn.specs.Connection.{Core}

pub record Grows (old new : Core) (steps : ℕ) : Type 0 where
  pub popped : new.log.popped ≡ old.log.popped
  pub forgotten : new.log.forgotten ≡ old.log.forgotten
  pub more : List (List ℕ)
  pub all : units new.log ≡ units old.log ++ more
  pub settings : new.log.config ≡ old.log.config
  pub journal : length new.log.journal ≡ length old.log.journal + steps
