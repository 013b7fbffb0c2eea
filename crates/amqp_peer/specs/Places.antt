-- A host as it is written, with the port that may stand behind it.
use Rattle.std.specs.Prelude.{ℕ, List, ◌∷◌, [], ◌++◌, Option, None, Some, ◌≡◌, ◌⊎◌}
use Rattle.std.specs.Borrow.{Bor}

-- a host in brackets, without the first of them; a port stands behind a colon
abbrev pub IsBracketed : List ℕ → List ℕ → Option (Bor (List ℕ)) → Type 0
IsBracketed text host None = text ≡ host ++ (93 ∷ [])
IsBracketed text host (Some port) = text ≡ host ++ (93 ∷ (58 ∷ port.now))

-- the text is the host, alone or in brackets; a port stands behind a colon
abbrev pub IsHost : List ℕ → List ℕ → Option (Bor (List ℕ)) → Type 0
IsHost text host None = (text ≡ host) ⊎ (text ≡ 91 ∷ (host ++ (93 ∷ [])))
IsHost text host (Some port) = (text ≡ host ++ (58 ∷ port.now)) ⊎ (text ≡ 91 ∷ (host ++ (93 ∷ (58 ∷ port.now))))
