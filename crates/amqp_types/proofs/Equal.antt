-- Values that `==` finds equal are one value.
use Rattle.std.proofs.Common.{◌≡◌, Bool, true, false, ◌&&◌, ◌==◌, List, [], ◌∷◌, map as list_map, refl, sym, ap, ◌∙◌}
use Rattle.std.specs.Cmp.{unsigned_Decides, signed_Decides, booleans_Decides, first_so, second_so}
use Rattle.std.specs.Cmp.Lexicographic.{pointwise, bytes_decides}
use Rattle.amqp_types.specs.declared.value.Value.{Value}
use Rattle.amqp_types.specs.declared.value.Value.TheOpen.{Value-F}
use Rattle.amqp_types.specs.declared.value.Value.TheBlock as block
use Rattle.amqp_types.specs.declared.value.Value.TheViews as V
use Rattle.amqp_types.specs.declared.value.Value.TheFolds.{map-Value, ind-Value}
use Rattle.amqp_types.specs.contracts.value.ValuePartialEq.TheImpl.{ghosts}
use Rattle.amqp_types.specs.contracts.value.ValuePartialEq.TheImpl.Laws as partial
use Rattle.amqp_types.specs.contracts.value.ValueEq.TheImpl.Laws as whole

abbrev same : Value → Value → Bool
same = ghosts.eq

abbrev IsAlone : Value → Type 0
IsAlone v = (w : Value) → same v w ≡ true → v ≡ w

-- a value that is equal to itself alone
abbrev Alone : Type 0
Alone = (v : Value) × IsAlone v

abbrev bare_list : List Alone → List Value
bare_list = list_map (λ p. p.0)

abbrev bare_pairs : List (Alone × Alone) → List (Value × Value)
bare_pairs = list_map (λ p. (p.0.0, p.1.0))

abbrev bare : Value-F Alone → Value-F Value
bare = map-Value Alone Value (λ p. p.0)

no : {G : Type 0} → false ≡ true → G
no h = absurd cc

both : (s t : Bool) → (s && t) ≡ true → (s ≡ true) × (t ≡ true)
both s t h = (first_so s t h, second_so s t h)

list_same : (ps : List Alone) (ws : List Value) → pointwise same (bare_list ps) ws ≡ true → bare_list ps ≡ ws
list_same [] [] h = refl
list_same [] (w ∷ ws) h = no h
list_same (p ∷ ps) [] h = no h
list_same (p ∷ ps) (w ∷ ws) h =
    let e = both (same p.0 w) (pointwise same (bare_list ps) ws) h in
    λ i. p.1 w e.0 i ∷ list_same ps ws e.1 i

abbrev pair_same : Value × Value → Value × Value → Bool
pair_same p q = same p.0 q.0 && same p.1 q.1

pairs_same : (ps : List (Alone × Alone)) (ws : List (Value × Value)) → pointwise pair_same (bare_pairs ps) ws ≡ true → bare_pairs ps ≡ ws
pairs_same [] [] h = refl
pairs_same [] (w ∷ ws) h = no h
pairs_same (p ∷ ps) [] h = no h
pairs_same (p ∷ ps) (w ∷ ws) h =
    let e = both (pair_same (p.0.0, p.1.0) w) (pointwise pair_same (bare_pairs ps) ws) h in
    let d = both (same p.0.0 w.0) (same p.1.0 w.1) e.0 in
    λ i. (p.0.1 w.0 d.0 i, p.1.1 w.1 d.1 i) ∷ pairs_same ps ws e.1 i

-- values as a Value holds them
abbrev shown : List Value → List Value
shown vs = block.shown-the_row-Value-0 (block.shape-the_row-Value-0 vs) (block.hidden-the_row-Value-0 vs)

abbrev shown_as_pairs : List (Value × Value) → List (Value × Value)
shown_as_pairs ps = block.shown-the_row-Value-Map-0-2-1 (block.shape-the_row-Value-Map-0-2-1 ps) (block.hidden-the_row-Value-Map-0-2-1 ps)

abbrev boxed : Value → Value
boxed v = block.shown-the_row-Value-2 (block.shape-the_row-Value-2 v) (block.hidden-the_row-Value-2 v)

shown_list : (ps : List Alone) (ws : List Value) → pointwise same (shown (bare_list ps)) (shown ws) ≡ true → bare_list ps ≡ ws
shown_list ps ws h = list_same ps ws (sym (λ i. pointwise same (block.seen-the_row-Value-0 (bare_list ps) i) (block.seen-the_row-Value-0 ws i)) ∙ h)

shown_pairs : (ps : List (Alone × Alone)) (ws : List (Value × Value)) → pointwise pair_same (shown_as_pairs (bare_pairs ps)) (shown_as_pairs ws) ≡ true → bare_pairs ps ≡ ws
shown_pairs ps ws h =
    pairs_same ps ws (sym (λ i. pointwise pair_same (block.seen-the_row-Value-Map-0-2-1 (bare_pairs ps) i) (block.seen-the_row-Value-Map-0-2-1 ws i)) ∙ h)

boxed_same : (p : Alone) (w : Value) → same (boxed p.0) (boxed w) ≡ true → p.0 ≡ w
boxed_same p w h = p.1 w (sym (λ i. same (block.seen-the_row-Value-2 p.0 i) (block.seen-the_row-Value-2 w i)) ∙ h)

-- one layer of each, where the values that the first holds are alone
layer : (x : Value-F Alone) (y : Value-F Value) → partial.unfolded (V.roll-Value (bare x)) (V.roll-Value y) ≡ true → bare x ≡ y
unfolding V.roll-Value V.out-Value denote.Hole.Carrier.roll denote.Hole.Carrier.out
layer Value-F.Null Value-F.Null h = refl
layer (Value-F.Bool a) (Value-F.Bool b) h = ap Value-F.Bool ((booleans_Decides a b).0 h)
layer (Value-F.Ubyte a) (Value-F.Ubyte b) h = ap Value-F.Ubyte ((unsigned_Decides a b).0 h)
layer (Value-F.Ushort a) (Value-F.Ushort b) h = ap Value-F.Ushort ((unsigned_Decides a b).0 h)
layer (Value-F.Uint a) (Value-F.Uint b) h = ap Value-F.Uint ((unsigned_Decides a b).0 h)
layer (Value-F.Ulong a) (Value-F.Ulong b) h = ap Value-F.Ulong ((unsigned_Decides a b).0 h)
layer (Value-F.Sbyte a) (Value-F.Sbyte b) h = ap Value-F.Sbyte ((signed_Decides a b).0 h)
layer (Value-F.Short a) (Value-F.Short b) h = ap Value-F.Short ((signed_Decides a b).0 h)
layer (Value-F.Int a) (Value-F.Int b) h = ap Value-F.Int ((signed_Decides a b).0 h)
layer (Value-F.Long a) (Value-F.Long b) h = ap Value-F.Long ((signed_Decides a b).0 h)
layer (Value-F.FloatBits a) (Value-F.FloatBits b) h = ap Value-F.FloatBits ((unsigned_Decides a b).0 h)
layer (Value-F.DoubleBits a) (Value-F.DoubleBits b) h = ap Value-F.DoubleBits ((unsigned_Decides a b).0 h)
layer (Value-F.Dec32 a) (Value-F.Dec32 b) h = ap Value-F.Dec32 ((unsigned_Decides a b).0 h)
layer (Value-F.Dec64 a) (Value-F.Dec64 b) h = ap Value-F.Dec64 ((unsigned_Decides a b).0 h)
layer (Value-F.Dec128 a) (Value-F.Dec128 b) h = ap Value-F.Dec128 ((bytes_decides a b).0 h)
layer (Value-F.Char a) (Value-F.Char b) h = ap Value-F.Char ((unsigned_Decides a b).0 h)
layer (Value-F.Timestamp a) (Value-F.Timestamp b) h = ap Value-F.Timestamp ((signed_Decides a b).0 h)
layer (Value-F.Uuid a) (Value-F.Uuid b) h = ap Value-F.Uuid ((bytes_decides a b).0 h)
layer (Value-F.Binary a) (Value-F.Binary b) h = ap Value-F.Binary ((bytes_decides a b).0 h)
layer (Value-F.Str a) (Value-F.Str b) h = ap Value-F.Str ((bytes_decides a b).0 h)
layer (Value-F.Symbol a) (Value-F.Symbol b) h = ap Value-F.Symbol ((bytes_decides a b).0 h)
layer (Value-F.List a) (Value-F.List b) h = ap Value-F.List (shown_list a b h)
layer (Value-F.Map a) (Value-F.Map b) h = ap Value-F.Map (shown_pairs a b h)
layer (Value-F.Array c ps) (Value-F.Array d ws) h =
    let e = both (c == d) (pointwise same (shown (bare_list ps)) (shown ws)) h in
    λ i. Value-F.Array ((unsigned_Decides c d).0 e.0 i) (shown_list ps ws e.1 i)
layer (Value-F.Described p q) (Value-F.Described v w) h =
    let e = both (same (boxed p.0) (boxed v)) (same (boxed q.0) (boxed w)) h in
    λ i. Value-F.Described (boxed_same p v e.0 i) (boxed_same q w e.1 i)
layer _ _ h = no h

pub equal_same : (v : Value) → IsAlone v
equal_same = ind-Value IsAlone (λ x y is w h.
    let opened = (λ i. partial.unfolded (V.roll-Value (is i)) (V.roll-out-Value w i)) ∙ sym (partial.is (V.roll-Value x) w) ∙ h in
    ap V.roll-Value (sym is ∙ layer y (V.out-Value w) opened) ∙ V.roll-out-Value w)

pub same_equal : (v w : Value) → v ≡ w → same v w ≡ true
same_equal v w e = sym (ap (same v) e) ∙ whole.laws-law.refl v
