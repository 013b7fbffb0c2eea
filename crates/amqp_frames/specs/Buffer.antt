-- Octets in room of a known size.
use Rattle.std.specs.Prelude.{ℕ, ◌≡◌, ◌≤◌, List}

-- the octets, and the capacity in bytes
pub record Buffered : Type 0 where
  pub octets : List ℕ
  pub room : ℕ

-- The vector is filled to its capacity, and `count` octets at its front are in use.
pub record IsFilled (len capacity count : ℕ) : Type 0 where
  pub full : len ≡ capacity
  pub inside : count ≤ len
