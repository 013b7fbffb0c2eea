-- Octets that answer what was read, and wait to be written.
use Rattle.std.specs.Prelude.{ℕ, ◌+◌, ◌-◌, ◌^◌, ◌==◌, List, length, min, sum_by, cond, nat_le}
use Rattle.amqp_journal.specs.Units.{waiting}
use Rattle.amqp_conn.specs.Connection.{Connection}
use Rattle.amqp_ready.specs.declared.answers.Answers.{Answers}

-- all octets that are not written: those of units that wait in the connection, and what is left of units that were
-- popped
abbrev pub unsent : Connection → List ℕ → ℕ
unsent c left = min (sum_by length (waiting c.core.log) + length left) (2 ^ 64 - 1)

abbrev pub fresh : Answers
fresh = record { most = 1048576; since = 0; ahead = 0 }

-- while octets were fed, this many came behind the mark
abbrev pub added : ℕ → ℕ → Answers → Answers
added before after a = record { most = a.most; since = min (a.since + (after - before)) (2 ^ 64 - 1); ahead = a.ahead }

-- `count` octets were written, and `left` wait: the mark comes nearer, and once it is reached it is set anew behind
-- all that waits
abbrev pub passed : ℕ → ℕ → Answers → Answers
passed count left a =
    cond (nat_le a.ahead count) (record { most = a.most; since = 0; ahead = left }) (record { most = a.most; since = a.since; ahead = a.ahead - count })

abbrev pub written : ℕ → ℕ → Answers → Answers
written before left a = cond (before - left == 0) a (passed (before - left) left a)

-- so many count as many
abbrev pub with_most : ℕ → Answers → Answers
with_most most a = record { most = most; since = a.since; ahead = a.ahead }
