-- What one system call did.
use Rattle.std.specs.Prelude.{ℕ, ◌≡◌, ◌≤◌, List}
use Rattle.amqp_ready.specs.declared.device.Moved.TheVariants.{Waits}
use Rattle.amqp_ready.specs.declared.device.Tried.{Tried}
use Rattle.amqp_ready.specs.declared.device.Tried.TheVariants as tried
use Rattle.amqp_ready.specs.Moving.{count, MovesSome}

-- it moved at most this many octets
abbrev pub IsTried : ℕ → Tried → Type 0
IsTried most (tried.Moved moved) = count moved ≤ most
IsTried most tried.Interrupted = Unit {0}
IsTried most tried.Failed = Unit {0}

abbrev pub TriesSome : List ℕ → Tried → Type 0
TriesSome octets (tried.Moved moved) = MovesSome octets moved
TriesSome octets tried.Interrupted = Unit {0}
TriesSome octets tried.Failed = Unit {0}

-- it moved none, and was not at the end
abbrev pub MovesNone : Tried → Type 0
MovesNone (tried.Moved moved) = moved ≡ Waits
MovesNone tried.Interrupted = Unit {0}
MovesNone tried.Failed = Unit {0}
