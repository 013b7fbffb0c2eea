-- Writing parts one after the other, as a loop does.
use Rattle.std.proofs.Common.{◌≡◌, ℕ, suc, ◌+◌, ◌*◌, ◌<◌, List, [], ◌∷◌, ◌++◌, length, get_or, drop, Option, Some, refl, ap, arith, add-one, drop-cons}
use Rattle.amqp_types.specs.declared.value.Value.{Value}
use Rattle.amqp_types.specs.Datum.{item, count_of}
use Rattle.amqp_types.specs.View.{view, views, views_of_pairs}
use Rattle.amqp_types.specs.Reading.{◌>>=◌}

pub count_of-views : (vs : List Value) → count_of (views vs) ≡ length vs
count_of-views [] = refl
count_of-views (v ∷ vs) = ap suc (count_of-views vs)

pub count_of-pairs : (ps : List (Value × Value)) → count_of (views_of_pairs ps) ≡ 2 * length ps
count_of-pairs [] = refl
count_of-pairs (p ∷ ps) = omega (arith, count_of-pairs ps)

-- what was written, and what is still to be
abbrev pub behind : List ℕ → Option (List ℕ) → Option (List ℕ)
behind out form = form >>= λ x. Some (out ++ x)

pub views-drop : (vs : List Value) (i : ℕ) (v : Value) → i < length vs → v ≡ get_or vs i v → views (drop i vs) ≡ item (view v) (views (drop (i + 1) vs))
views-drop vs i v h e = rw (add-one, drop-cons vs i v h, ← e) refl

pub pairs-drop : (ps : List (Value × Value)) (i : ℕ) (p : Value × Value) → i < length ps → p ≡ get_or ps i p → views_of_pairs (drop i ps) ≡ item (view p.0) (item (view p.1) (views_of_pairs (drop (i + 1) ps)))
pairs-drop ps i p h e = rw (add-one, drop-cons ps i p h, ← e) refl
