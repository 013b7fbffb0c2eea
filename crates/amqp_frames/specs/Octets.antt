-- Octets that arrived.
use Rattle.std.specs.Borrow.{Bor}
use Rattle.std.specs.Prelude.{ℕ, ◌≡◌, ◌≤◌, List, Option, Some, None, length, drop}

-- these are the rest of the shared octets from the place on
abbrev pub IsRest : Option (Bor (List ℕ) × ℕ) → List ℕ → Type 0
IsRest None octets = Unit
IsRest (Some (shared, from)) octets = (from ≤ length shared.now) × (octets ≡ drop from shared.now)
