-- The performative in front of octets that lie in two places.
use Rattle.std.specs.Prelude.{◌≡◌, ◌≤◌, Bool, true, false, Option, Some, None, List, ℕ, ◌++◌, length, take}
use Rattle.amqp_performatives.specs.declared.performative.Performative.{Performative}
use Rattle.amqp_performatives.specs.declared.performative.Performative.TheVariants.{Transfer}
use Rattle.amqp_performatives.specs.Spelling.{IsPerformative}
use Rattle.amqp_halves.specs.declared.judge.Found.{Found}

abbrev pub is_transfer : Performative → Bool
is_transfer (Transfer b) = true
is_transfer _ = false

-- how many octets spell it, and whether it is a transfer; None where none is in front
abbrev pub Finds : List ℕ → Option Found → Type 0
Finds octets None = (p : Performative) (x rest : List ℕ) → IsPerformative p x → octets ≡ x ++ rest → ⊥
Finds octets (Some found) = (found.used ≤ length octets) × (p : Performative) × IsPerformative p (take found.used octets) × (found.is_transfer ≡ is_transfer p)
