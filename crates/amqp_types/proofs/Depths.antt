-- How deep parts are, as a loop looks at them one after the other.
use Rattle.std.proofs.Common.{◌≡◌, ℕ, zero, suc, ◌≤◌, ◌<◌, List, [], ◌∷◌, length, get_or, ap, arith}
use Rattle.amqp_types.specs.declared.value.Value.{Value}
use Rattle.amqp_types.specs.Datum.{Datum, Data, item, depth_of, greatest_depth_of}
use Rattle.amqp_types.specs.View.{view, views, views_of_pairs}

-- both are within the depth or neither is
abbrev pub SameWithin : ℕ → Data → Data → Type 0
SameWithin d a b = (greatest_depth_of a ≤ d → greatest_depth_of b ≤ d) × (greatest_depth_of b ≤ d → greatest_depth_of a ≤ d)

pub past_part : (d : ℕ) (v : Datum) (vs all : Data) → depth_of v ≤ d → SameWithin d (item v vs) all → SameWithin d vs all
past_part d v vs all h s = (λ p. s.0 (omega (arith, h, p)), λ p. omega (arith, s.1 p))

pub deep_part : (d : ℕ) (v : Datum) (vs all : Data) → (depth_of v ≤ d → ⊥) → SameWithin d (item v vs) all → greatest_depth_of all ≤ d → ⊥
deep_part d v vs all h s p = h (omega (arith, s.1 p))

pub shifted : (n d g : ℕ) → n ≡ suc d → (P : Type 0) → (P → g ≤ d) × (g ≤ d → P) → (P → suc g ≤ n) × (suc g ≤ n → P)
shifted n d g e P h = (λ p. omega (arith, h.0 p), λ q. h.1 (omega (arith, q)))

-- ---- a part is less deep

pub depth_in : (vs : List Value) (i : ℕ) (v : Value) → i < length vs → v ≡ get_or vs i v → depth_of (view v) ≤ greatest_depth_of (views vs)
depth_in [] i v h e = absurd (omega arith)
depth_in (u ∷ vs) zero v h e = let k : depth_of (view v) ≡ depth_of (view u) = ap (λ (x : Value). depth_of (view x)) e in omega (arith, k)
depth_in (u ∷ vs) (suc i) v h e = omega (arith, depth_in vs i v (omega (arith, h)) e)

pub depths_in : (ps : List (Value × Value)) (i : ℕ) (p : Value × Value) → i < length ps → p ≡ get_or ps i p → (depth_of (view p.0) ≤ greatest_depth_of (views_of_pairs ps)) × (depth_of (view p.1) ≤ greatest_depth_of (views_of_pairs ps))
depths_in [] i p h e = absurd (omega arith)
depths_in (q ∷ ps) zero p h e =
    let k : depth_of (view p.0) ≡ depth_of (view q.0) = ap (λ (x : Value × Value). depth_of (view x.0)) e in
    let l : depth_of (view p.1) ≡ depth_of (view q.1) = ap (λ (x : Value × Value). depth_of (view x.1)) e in
    (omega (arith, k), omega (arith, l))
depths_in (q ∷ ps) (suc i) p h e = let r = depths_in ps i p (omega (arith, h)) e in (omega (arith, r.0), omega (arith, r.1))
