-- Octets in two slices, of which the second may be missing.
use Rattle.std.specs.Prelude.{ℕ, Option, Some, None, List, []}

abbrev pub behind : Option (List ℕ) → List ℕ
behind None = []
behind (Some x) = x
