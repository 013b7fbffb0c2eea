-- What a call does to what a handle holds.
use Rattle.std.specs.Prelude.{ℕ, ◌≡◌, Option, Some, None, []}
use Rattle.amqp_conn.specs.declared.config.Config.{Config}
use Rattle.amqp_conn.specs.Connection.{connection}
use Rattle.amqp_conn.specs.Octets.{new_core}
use Rattle.amqp_caller.specs.declared.caller.Caller.{Caller}

-- the handle holds a new connection of this configuration
abbrev pub IsNew : Config → Option Caller → Type 0
IsNew c None = ⊥
IsNew c (Some d) = (d.conn ≡ connection (new_core c) []) × (d.rest ≡ []) × (d.taken ≡ None)

-- the handle held a connection, which the call made into another one; or it held none, the call reports 1, and nothing has changed
abbrev pub OnHeld : {C : Type 0} → Option C → Option C → ℕ → (C → C → Type 0) → Type 0
OnHeld None new status P = (new ≡ None) × (status ≡ 1)
OnHeld (Some c) None status P = ⊥
OnHeld (Some c) (Some d) status P = P c d

-- what a call that returns a number does to what the handle holds; the number is 0 if there is no connection
abbrev pub OnHeldOr0 : {C : Type 0} → Option C → Option C → ℕ → (C → C → Type 0) → Type 0
OnHeldOr0 None new answer P = (new ≡ None) × (answer ≡ 0)
OnHeldOr0 (Some c) None answer P = ⊥
OnHeldOr0 (Some c) (Some d) answer P = P c d
