-- What a read leaves of the octets that are known of a reader.
use Rattle.std.proofs.Common.{◌≡◌, ℕ, ◌≤◌, List, [], Option, Some, None, IfSome, OnSome, ◌∙◌}
use Rattle.std.specs.Io.KnownBytes.{Keeps, IsAtEnd}

-- an empty read is the end
pub at_end : (old new : Option (List ℕ)) (count : ℕ) → Keeps old new → IfSome old (λ xs. count ≡ 0 → xs ≡ []) → count ≡ 0
    → OnSome old (IsAtEnd new)
at_end None new count keeps end none = tt
at_end (Some xs) None count keeps end none = absurd keeps
at_end (Some xs) (Some ys) count keeps end none = keeps ∙ end none
