-- What a call does to what two handles hold.
use Rattle.std.specs.Prelude.{ℕ, ◌≡◌, Option, Some, None}

-- The first handle held a connection, which the call made into another one, and the second held one, which stays; or one of them held none, the call
-- reports 1, and nothing has changed.
abbrev pub OnBoth : {C : Type 0} → Option C → Option C → Option C → Option C → ℕ → (C → C → C → Type 0) → Type 0
OnBoth None new lost lost' status P = (new ≡ None) × (lost' ≡ lost) × (status ≡ 1)
OnBoth (Some c) new None lost' status P = (new ≡ Some c) × (lost' ≡ None) × (status ≡ 1)
OnBoth (Some c) None (Some l) lost' status P = ⊥
OnBoth (Some c) (Some d) (Some l) lost' status P = (lost' ≡ Some l) × P l c d
