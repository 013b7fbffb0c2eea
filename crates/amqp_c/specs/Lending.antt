-- What is lent to a program.
use Rattle.std.specs.Prelude.{ℕ, ◌≡◌, ◌++◌, ◌⊎◌, Option, List, length}
use Rattle.amqp_rules.specs.declared.reply.Taken.{Taken}
use Rattle.amqp_conn.specs.Connection.{Connection}
use Rattle.amqp_conn.specs.Calling.{popped}
use Rattle.amqp_caller.specs.Calls.{LendsPayload, to_come}

-- So many octets were lent: some in front of what is left of the unit that is being written. Of what goes out nothing is lost.
pub record Lends (left : List ℕ) (old : Connection) (count : ℕ) (left' : List ℕ) (new : Connection) : Type 0 where
  pub octets : List ℕ
  pub count_is : count ≡ length octets
  pub front : (more : List ℕ) × (octets ++ more ≡ left')
  pub kept : left' ++ to_come new ≡ left ++ to_come old
  pub only : (new ≡ old) ⊎ (new ≡ popped old)

-- so many octets of the payload of the delivery that was taken last, from a place on, were lent
pub record LendsOf (taken : Option Taken) (from count : ℕ) : Type 0 where
  pub octets : List ℕ
  pub count_is : count ≡ length octets
  pub front : LendsPayload taken from octets
