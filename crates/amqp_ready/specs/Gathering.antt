-- Units move from a connection to what is to be written.
use Rattle.std.specs.Prelude.{ℕ, ◌≡◌, ◌++◌, List, take}
use Rattle.amqp_journal.specs.Log.{Log}
use Rattle.amqp_journal.specs.Units.{units, waiting}
use Rattle.amqp_conn.specs.Connection.{Connection}
use Rattle.amqp_conn.specs.Pumping.{joined}

-- the octets of the units popped so far, in order
abbrev pub gone_of : Log → List ℕ
gone_of l = joined (take l.popped (units l))

unfoldable pub gone : Connection → List ℕ
gone c = gone_of c.core.log

-- the octets of the units that wait, in order
abbrev pub to_come : Connection → List ℕ
to_come c = joined (waiting c.core.log)

-- the octets of the units that were popped came behind what was left
pub record Gathers (left : List ℕ) (c : Connection) (left' : List ℕ) (d : Connection) : Type 0 where
  pub more : List ℕ
  pub popped : gone d ≡ gone c ++ more
  pub behind : left' ≡ left ++ more
  pub none_lost : left' ++ to_come d ≡ left ++ to_come c
