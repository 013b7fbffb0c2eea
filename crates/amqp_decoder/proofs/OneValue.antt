-- A value that is spelled is the value of its data, so two of the same octets are one.
use Rattle.std.proofs.Common.{◌≡◌, ℕ, ℤ, pos, negsuc, suc, ◌+◌, ◌-◌, ◌<◌, ◌^◌, ◌⊎◌, inl, inr, Bool, true, false, ltb, List, [], ◌∷◌, map as list_map, Option, Some, None, refl, sym, ap, subst, ◌∙◌, arith}
use Rattle.std.specs.Prelude.{IsTrue}
use Rattle.std.proofs.lemmas.Bool.{ltb-true, le-ltb}
use Rattle.amqp_types.specs.declared.class.Kind.{Kind}
use Rattle.amqp_types.specs.declared.class.Kind.TheVariants as kind
use Rattle.amqp_types.specs.declared.value.Value.{Value}
use Rattle.amqp_types.specs.declared.value.Value.TheVariants.{rolls-List, rolls-Map, rolls-Array, rolls-Described}
use Rattle.amqp_types.specs.declared.value.Value.TheOpen.{Value-F}
use Rattle.amqp_types.specs.declared.value.Value.TheFolds.{fold-roll-Value, map-Value, ind-Value}
use Rattle.amqp_types.specs.declared.value.Value.TheViews as V
use Rattle.amqp_types.specs.Codes.{class_of}
use Rattle.amqp_types.specs.Datum.{Datum, number, list, map, array, described, count_of}
use Rattle.amqp_types.specs.Grammar.{fits, IsPart, IsBody, AreParts, Spells}
use Rattle.amqp_types.specs.View.{view, view_step, views, views_of_pairs, twos}
use Rattle.amqp_types.proofs.Views.{view_list, view_map, view_array}
use Rattle.amqp_types.proofs.Laws.{one_spelling}
use Rattle.amqp_decoder.specs.Borrowed.{signed, number_value, value_of, values_of, value_pairs_of}
use Rattle.amqp_decoder.proofs.SeenValues.{view_described, number_fits, list_parts, map_parts, array_parts, described_parts}

signed_twos : (bits half m : ℕ) → 2 ^ (bits - 1) ≡ half → 2 ^ bits ≡ m → half + half ≡ m → 0 < half → (z : ℤ) → twos bits z < m → signed bits (twos bits z) ≡ z
signed_twos bits half m e f g p (pos n) h = by_pos (ltb n half) refl
  where
    by_pos : (b : Bool) → ltb n half ≡ b → signed bits (twos bits (pos n)) ≡ pos n
    by_pos true t = rw (e, t) (rw t refl)
    by_pos false t = let k : m < m = subst (λ (x : ℕ). x < m) (rw (e, f, t) refl) h in absurd (omega arith)
signed_twos bits half m e f g p (negsuc n) h = by_neg (ltb n half) refl
  where
    by_neg : (b : Bool) → ltb n half ≡ b → signed bits (twos bits (negsuc n)) ≡ negsuc n
    by_neg true t =
        let k : n < half = ltb-true n half t in
        let big : ltb (m - suc n) half ≡ false = le-ltb (m - suc n) half (omega arith) in
        let back : m - suc (m - suc n) ≡ n = omega arith in
        rw (e, f, t) (rw big (ap negsuc back))
    by_neg false t = let k : m < m = subst (λ (x : ℕ). x < m) (rw (e, f, t) refl) h in absurd (omega arith)

-- a value that is the value of its data, where they are spelled
abbrev IsBack : Value → Type 0
IsBack v = (c : ℕ) (os : List ℕ) → IsBody (view v) c os → value_of (view v) ≡ v

abbrev Back : Type 0
Back = (v : Value) × IsBack v

abbrev bare_list : List Back → List Value
bare_list = list_map (λ p. p.0)

abbrev bare_pairs : List (Back × Back) → List (Value × Value)
bare_pairs = list_map (λ p. (p.0.0, p.1.0))

abbrev bare : Value-F Back → Value-F Value
bare = map-Value Back Value (λ p. p.0)

back_by : (v : Value) (d : Datum) → view v ≡ d → ((c : ℕ) (os : List ℕ) → IsBody d c os → value_of d ≡ v) → IsBack v
back_by v d e h c os b = subst (λ (x : Datum). value_of x ≡ v) (sym e) (h c os (subst (λ (x : Datum). IsBody x c os) e b))

part_back : (p : Back) (how : Option ℕ) (os : List ℕ) → IsPart how (IsBody (view p.0)) os → value_of (view p.0) ≡ p.0
part_back p None [] h = absurd h
part_back p None (c ∷ os) h = p.1 c os h
part_back p (Some c) os h = p.1 c os h

parts_back : (ps : List Back) (how : Option ℕ) (os : List ℕ) → AreParts (views (bare_list ps)) how os → values_of (views (bare_list ps)) ≡ bare_list ps
parts_back [] how os h = refl
parts_back (p ∷ ps) how os h = λ i. part_back p how h.0 h.2 i ∷ parts_back ps how h.1 h.3 i

none_back : (ps : List Back) → count_of (views (bare_list ps)) ≡ 0 → values_of (views (bare_list ps)) ≡ bare_list ps
none_back [] h = refl
none_back (p ∷ ps) h = absurd cc

some_back : (ps : List Back) (how : Option ℕ) → (count_of (views (bare_list ps)) ≡ 0) ⊎ ((content : List ℕ) × AreParts (views (bare_list ps)) how content) → values_of (views (bare_list ps)) ≡ bare_list ps
some_back ps how (inl e) = none_back ps e
some_back ps how (inr h) = parts_back ps how h.0 h.1

pairs_back : (ps : List (Back × Back)) (os : List ℕ) → AreParts (views_of_pairs (bare_pairs ps)) None os → value_pairs_of (views_of_pairs (bare_pairs ps)) ≡ bare_pairs ps
pairs_back [] os h = refl
pairs_back (p ∷ ps) os h = λ i. (part_back p.0 None h.0 h.2 i, part_back p.1 None h.3.0 h.3.2 i) ∷ pairs_back ps h.3.1 h.3.3 i

abbrev rolled : Value-F Back → Value
rolled y = V.roll-Value (bare y)

number_back : (y : Value-F Back) (k : Kind) (n : ℕ) → view (rolled y) ≡ number k n → (IsTrue (fits k n) → number_value k n ≡ rolled y) → IsBack (rolled y)
number_back y k n e h = back_by (rolled y) (number k n) e (λ c os b. h (number_fits (class_of c) k n os b))

layer : (y : Value-F Back) → IsBack (rolled y)
unfolding V.roll-Value denote.Hole.Carrier.roll
layer Value-F.Null = number_back Value-F.Null kind.Null 0 (fold-roll-Value Datum view_step Value-F.Null) (λ f. refl)
layer (Value-F.Bool true) = number_back (Value-F.Bool true) kind.Bool 1 (fold-roll-Value Datum view_step (Value-F.Bool true)) (λ f. refl)
layer (Value-F.Bool false) = number_back (Value-F.Bool false) kind.Bool 0 (fold-roll-Value Datum view_step (Value-F.Bool false)) (λ f. refl)
layer (Value-F.Ubyte n) = number_back (Value-F.Ubyte n) kind.Ubyte n (fold-roll-Value Datum view_step (Value-F.Ubyte n)) (λ f. refl)
layer (Value-F.Ushort n) = number_back (Value-F.Ushort n) kind.Ushort n (fold-roll-Value Datum view_step (Value-F.Ushort n)) (λ f. refl)
layer (Value-F.Uint n) = number_back (Value-F.Uint n) kind.Uint n (fold-roll-Value Datum view_step (Value-F.Uint n)) (λ f. refl)
layer (Value-F.Ulong n) = number_back (Value-F.Ulong n) kind.Ulong n (fold-roll-Value Datum view_step (Value-F.Ulong n)) (λ f. refl)
layer (Value-F.Sbyte z) = number_back (Value-F.Sbyte z) kind.Sbyte (twos 8 z) (fold-roll-Value Datum view_step (Value-F.Sbyte z)) (λ f. ap (λ (w : ℤ). V.roll-Value (Value-F.Sbyte w)) (signed_twos 8 (2 ^ 7) (2 ^ 8) refl refl refl (omega arith) z (ltb-true (twos 8 z) (2 ^ 8) f)))
layer (Value-F.Short z) = number_back (Value-F.Short z) kind.Short (twos 16 z) (fold-roll-Value Datum view_step (Value-F.Short z)) (λ f. ap (λ (w : ℤ). V.roll-Value (Value-F.Short w)) (signed_twos 16 (2 ^ 15) (2 ^ 16) refl refl refl (omega arith) z (ltb-true (twos 16 z) (2 ^ 16) f)))
layer (Value-F.Int z) = number_back (Value-F.Int z) kind.Int (twos 32 z) (fold-roll-Value Datum view_step (Value-F.Int z)) (λ f. ap (λ (w : ℤ). V.roll-Value (Value-F.Int w)) (signed_twos 32 (2 ^ 31) (2 ^ 32) refl refl refl (omega arith) z (ltb-true (twos 32 z) (2 ^ 32) f)))
layer (Value-F.Long z) = number_back (Value-F.Long z) kind.Long (twos 64 z) (fold-roll-Value Datum view_step (Value-F.Long z)) (λ f. ap (λ (w : ℤ). V.roll-Value (Value-F.Long w)) (signed_twos 64 (2 ^ 63) (2 ^ 64) refl refl refl (omega arith) z (ltb-true (twos 64 z) (2 ^ 64) f)))
layer (Value-F.FloatBits n) = number_back (Value-F.FloatBits n) kind.FloatBits n (fold-roll-Value Datum view_step (Value-F.FloatBits n)) (λ f. refl)
layer (Value-F.DoubleBits n) = number_back (Value-F.DoubleBits n) kind.DoubleBits n (fold-roll-Value Datum view_step (Value-F.DoubleBits n)) (λ f. refl)
layer (Value-F.Dec32 n) = number_back (Value-F.Dec32 n) kind.Dec32 n (fold-roll-Value Datum view_step (Value-F.Dec32 n)) (λ f. refl)
layer (Value-F.Dec64 n) = number_back (Value-F.Dec64 n) kind.Dec64 n (fold-roll-Value Datum view_step (Value-F.Dec64 n)) (λ f. refl)
layer (Value-F.Char n) = number_back (Value-F.Char n) kind.Char n (fold-roll-Value Datum view_step (Value-F.Char n)) (λ f. refl)
layer (Value-F.Timestamp z) = number_back (Value-F.Timestamp z) kind.Timestamp (twos 64 z) (fold-roll-Value Datum view_step (Value-F.Timestamp z)) (λ f. ap (λ (w : ℤ). V.roll-Value (Value-F.Timestamp w)) (signed_twos 64 (2 ^ 63) (2 ^ 64) refl refl refl (omega arith) z (ltb-true (twos 64 z) (2 ^ 64) f)))
layer (Value-F.Dec128 os) = back_by (rolled (Value-F.Dec128 os)) _ (fold-roll-Value Datum view_step (Value-F.Dec128 os)) (λ c x b. refl)
layer (Value-F.Uuid os) = back_by (rolled (Value-F.Uuid os)) _ (fold-roll-Value Datum view_step (Value-F.Uuid os)) (λ c x b. refl)
layer (Value-F.Binary os) = back_by (rolled (Value-F.Binary os)) _ (fold-roll-Value Datum view_step (Value-F.Binary os)) (λ c x b. refl)
layer (Value-F.Str os) = back_by (rolled (Value-F.Str os)) _ (fold-roll-Value Datum view_step (Value-F.Str os)) (λ c x b. refl)
layer (Value-F.Symbol os) = back_by (rolled (Value-F.Symbol os)) _ (fold-roll-Value Datum view_step (Value-F.Symbol os)) (λ c x b. refl)
layer (Value-F.List ps) =
    let vs = bare_list ps in
    back_by (rolled (Value-F.List ps)) (list (views vs)) (ap view (rolls-List vs) ∙ view_list vs)
    (λ c os b. ap V.List (some_back ps None (list_parts (class_of c) (count_of (views vs)) (AreParts (views vs) None) os b)) ∙ sym (rolls-List vs))
layer (Value-F.Map ps) =
    let vs = bare_pairs ps in
    back_by (rolled (Value-F.Map ps)) (map (views_of_pairs vs)) (ap view (rolls-Map vs) ∙ view_map vs)
    (λ c os b. let m = map_parts (class_of c) (count_of (views_of_pairs vs)) (AreParts (views_of_pairs vs) None) os b in ap V.Map (pairs_back ps m.1 m.2) ∙ sym (rolls-Map vs))
layer (Value-F.Array code ps) =
    let vs = bare_list ps in
    back_by (rolled (Value-F.Array code ps)) (array code (views vs)) (ap view (rolls-Array code vs) ∙ view_array code vs)
    (λ c os b. ap (V.Array code) (some_back ps (Some code) (array_parts (class_of c) code (count_of (views vs)) (AreParts (views vs) (Some code)) os b)) ∙ sym (rolls-Array code vs))
layer (Value-F.Described p q) =
    back_by (rolled (Value-F.Described p q)) (described (view p.0) (view q.0)) (ap view (rolls-Described p.0 q.0) ∙ view_described p.0 q.0)
    (λ c os b.
    let m = described_parts (class_of c) (IsPart None (IsBody (view p.0))) (IsPart None (IsBody (view q.0))) os b in
    (λ i. V.Described (part_back p None m.a m.first i) (part_back q None m.b m.second i)) ∙ sym (rolls-Described p.0 q.0))

all_back : (v : Value) → IsBack v
all_back = ind-Value IsBack (λ x y is. subst (λ (z : Value-F Value). IsBack (V.roll-Value z)) is (layer y))

pub value_back : (v : Value) (x : List ℕ) → Spells (view v) x → value_of (view v) ≡ v
value_back v x h = part_back (v, all_back v) None x h.0

pub one_value : (a b : Value) (x : List ℕ) → Spells (view a) x → Spells (view b) x → a ≡ b
one_value a b x h k = sym (value_back a x h) ∙ ap value_of (one_spelling (view a) (view b) x x [] [] h k refl).0 ∙ value_back b x k

pub value_spelled : (v : Value) (os : List ℕ) → IsPart None (IsBody (view v)) os → value_of (view v) ≡ v
value_spelled v os h = part_back (v, all_back v) None os h

all_pairs : (ps : List (Value × Value)) (os : List ℕ) → AreParts (views_of_pairs ps) None os → value_pairs_of (views_of_pairs ps) ≡ ps
all_pairs [] os h = refl
all_pairs (p ∷ ps) os h = λ i. (value_spelled p.0 h.0 h.2 i, value_spelled p.1 h.3.0 h.3.2 i) ∷ all_pairs ps h.3.1 h.3.3 i

pub pairs_spelled : (ps : List (Value × Value)) (os : List ℕ) → IsPart None (IsBody (map (views_of_pairs ps))) os → value_pairs_of (views_of_pairs ps) ≡ ps
pairs_spelled ps [] h = absurd h
pairs_spelled ps (c ∷ os) h = let m = map_parts (class_of c) (count_of (views_of_pairs ps)) (AreParts (views_of_pairs ps) None) os h in all_pairs ps m.1 m.2
