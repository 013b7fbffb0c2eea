-- A value that is spelled is seen as what is spelled.
use Rattle.std.proofs.Common.{◌≡◌, ℕ, zero, suc, ◌+◌, ◌-◌, ◌≤◌, ◌<◌, ◌^◌, ◌⊎◌, inl, inr, Bool, true, false, not, cond, ltb, eqb, List, [], ◌∷◌, ◌++◌, length, Option, Some, None, refl, sym, ap, subst, ◌∙◌, arith}
use Rattle.std.specs.Prelude.{IsTrue}
use Rattle.std.proofs.lemmas.Bool.{eqb-true, ltb-true, ltb-false, lt-ltb}
use Rattle.std.proofs.lemmas.List.{append-nil, nil_from_length}
use Rattle.amqp_types.specs.declared.class.Class.{Class}
use Rattle.amqp_types.specs.declared.class.Width.{Width}
use Rattle.amqp_types.specs.declared.class.Kind.{Kind}
use Rattle.amqp_types.specs.declared.class.Kind.TheVariants as kind
use Rattle.amqp_types.specs.declared.class.Run.{Run}
use Rattle.amqp_types.specs.declared.class.Run.TheVariants as run
use Rattle.amqp_types.specs.declared.value.Value.{Value}
use Rattle.amqp_types.specs.declared.value.Value.TheVariants.{rolls-Described}
use Rattle.amqp_types.specs.declared.value.Value.TheOpen.{Value-F}
use Rattle.amqp_types.specs.declared.value.Value.TheFolds.{fold-roll-Value}
use Rattle.amqp_types.specs.declared.value.Value.TheViews as V
use Rattle.amqp_types.specs.Codes.{class_of}
use Rattle.amqp_types.specs.Datum.{Datum, number, octets, list, map, array, described, Data, none, item, count_of}
use Rattle.amqp_types.specs.Grammar.{fits, is_even, IsNumberBody, IsOctetsBody, IsListBody, IsMapBody, IsArrayContent, IsArrayBody, IsDescribedBody, IsPart, IsBody, AreParts, SpellsWithin}
use Rattle.amqp_types.specs.View.{view, view_step, views, views_of_pairs, twos}
use Rattle.amqp_types.proofs.Views.{view_list, view_map, view_array}
use Rattle.amqp_types.specs.Reading.{part_at}
use Rattle.amqp_types.proofs.Laws.{read_is_spelled}
use Rattle.amqp_decoder.specs.Borrowed.{value_in, all_read, datum_read, is_whole, datum_in, is_mapping, signed, number_value, octets_value, value_of, values_of, value_pairs_of}

pub view_described : (a b : Value) → view (V.Described a b) ≡ described (view a) (view b)
view_described a b = ap view (sym (rolls-Described a b)) ∙ fold-roll-Value Datum view_step (Value-F.Described a b)

-- ---- numbers

wide : (half m n : ℕ) → half + half ≡ m → half ≤ n → n < m → ltb (m - suc n) half ≡ true
wide half m n e h k = lt-ltb (m - suc n) half (omega arith)

back : (m n : ℕ) → n < m → m - suc (m - suc n) ≡ n
back m n h = omega arith

twos_signed : (bits half m n : ℕ) → 2 ^ (bits - 1) ≡ half → 2 ^ bits ≡ m → half + half ≡ m → n < m → (b : Bool) → ltb n half ≡ b → twos bits (signed bits n) ≡ n
twos_signed bits half m n e f g h true t = rw (e, f, t) (rw (e, f, t) refl)
twos_signed bits half m n e f g h false t = rw (e, f, t) (rw (e, f, wide half m n g (ltb-false n half t) h) (back m n h))

bool_back : (n : ℕ) → ltb n 2 ≡ true → cond (eqb n 1) 1 0 ≡ n
bool_back zero h = refl
bool_back (suc zero) h = refl
bool_back (suc (suc n)) h = let k : suc (suc n) < 2 = ltb-true (suc (suc n)) 2 h in absurd (omega arith)

number_view : (k : Kind) (n : ℕ) → IsTrue (fits k n) → view (number_value k n) ≡ number k n
unfolding V.roll-Value denote.Hole.Carrier.roll
number_view kind.Null n h = fold-roll-Value Datum view_step Value-F.Null ∙ ap (number kind.Null) (sym (eqb-true n 0 h))
number_view kind.Bool n h = fold-roll-Value Datum view_step (Value-F.Bool (eqb n 1)) ∙ ap (number kind.Bool) (bool_back n h)
number_view kind.Ubyte n h = fold-roll-Value Datum view_step (Value-F.Ubyte n)
number_view kind.Ushort n h = fold-roll-Value Datum view_step (Value-F.Ushort n)
number_view kind.Uint n h = fold-roll-Value Datum view_step (Value-F.Uint n)
number_view kind.Ulong n h = fold-roll-Value Datum view_step (Value-F.Ulong n)
number_view kind.Sbyte n h = fold-roll-Value Datum view_step (Value-F.Sbyte (signed 8 n)) ∙ ap (number kind.Sbyte) (twos_signed 8 (2 ^ 7) (2 ^ 8) n refl refl refl (ltb-true n (2 ^ 8) h) (ltb n (2 ^ 7)) refl)
number_view kind.Short n h = fold-roll-Value Datum view_step (Value-F.Short (signed 16 n)) ∙ ap (number kind.Short) (twos_signed 16 (2 ^ 15) (2 ^ 16) n refl refl refl (ltb-true n (2 ^ 16) h) (ltb n (2 ^ 15)) refl)
number_view kind.Int n h = fold-roll-Value Datum view_step (Value-F.Int (signed 32 n)) ∙ ap (number kind.Int) (twos_signed 32 (2 ^ 31) (2 ^ 32) n refl refl refl (ltb-true n (2 ^ 32) h) (ltb n (2 ^ 31)) refl)
number_view kind.Long n h = fold-roll-Value Datum view_step (Value-F.Long (signed 64 n)) ∙ ap (number kind.Long) (twos_signed 64 (2 ^ 63) (2 ^ 64) n refl refl refl (ltb-true n (2 ^ 64) h) (ltb n (2 ^ 63)) refl)
number_view kind.FloatBits n h = fold-roll-Value Datum view_step (Value-F.FloatBits n)
number_view kind.DoubleBits n h = fold-roll-Value Datum view_step (Value-F.DoubleBits n)
number_view kind.Dec32 n h = fold-roll-Value Datum view_step (Value-F.Dec32 n)
number_view kind.Dec64 n h = fold-roll-Value Datum view_step (Value-F.Dec64 n)
number_view kind.Char n h = fold-roll-Value Datum view_step (Value-F.Char n)
number_view kind.Timestamp n h = fold-roll-Value Datum view_step (Value-F.Timestamp (signed 64 n)) ∙ ap (number kind.Timestamp) (twos_signed 64 (2 ^ 63) (2 ^ 64) n refl refl refl (ltb-true n (2 ^ 64) h) (ltb n (2 ^ 63)) refl)

octets_view : (r : Run) (os : List ℕ) → view (octets_value r os) ≡ octets r os
unfolding V.roll-Value denote.Hole.Carrier.roll
octets_view run.Binary os = fold-roll-Value Datum view_step (Value-F.Binary os)
octets_view run.Str os = fold-roll-Value Datum view_step (Value-F.Str os)
octets_view run.Symbol os = fold-roll-Value Datum view_step (Value-F.Symbol os)
octets_view run.Dec128 os = fold-roll-Value Datum view_step (Value-F.Dec128 os)
octets_view run.Uuid os = fold-roll-Value Datum view_step (Value-F.Uuid os)

-- ---- values with parts

not_not : (b : Bool) → not (not b) ≡ b
not_not true = refl
not_not false = refl

pub number_fits : (class : Class) (k : Kind) (n : ℕ) (os : List ℕ) → IsNumberBody class k n os → IsTrue (fits k n)
number_fits (Class.Number k' w r) k n os h = h.3
number_fits _ k n os h = absurd h

pub list_parts : (class : Class) (count : ℕ) (P : List ℕ → Type 0) (os : List ℕ) → IsListBody class count P os → (count ≡ 0) ⊎ ((content : List ℕ) × P content)
list_parts Class.EmptyList count P os h = inl h.0
list_parts (Class.List w) count P os h = inr (h.0, h.1)
list_parts _ count P os h = absurd h

pub map_parts : (class : Class) (count : ℕ) (P : List ℕ → Type 0) (os : List ℕ) → IsMapBody class count P os → IsTrue (is_even count) × (content : List ℕ) × P content
map_parts (Class.Map w) count P os h = (h.0, h.1, h.2)
map_parts _ count P os h = absurd h

content_parts : (code count : ℕ) (P : List ℕ → Type 0) (os : List ℕ) → IsArrayContent code count P os → (count ≡ 0) ⊎ ((content : List ℕ) × P content)
content_parts code count P [] h = inl h.0
content_parts code count P (c ∷ os) h = inr (os, h.2)

pub array_parts : (class : Class) (code count : ℕ) (P : List ℕ → Type 0) (os : List ℕ) → IsArrayBody class code count P os → (count ≡ 0) ⊎ ((content : List ℕ) × P content)
array_parts (Class.Array w) code count P os h = content_parts code count P h.0 h.1
array_parts _ code count P os h = absurd h

pub record IsPair (P Q : List ℕ → Type 0) : Type 0 where
  pub a : List ℕ
  pub b : List ℕ
  pub first : P a
  pub second : Q b

pub described_parts : (class : Class) (P Q : List ℕ → Type 0) (os : List ℕ) → IsDescribedBody class P Q os → IsPair P Q
described_parts Class.Described P Q os h = record { a = h.0; b = h.1; first = h.2; second = h.3 }
described_parts _ P Q os h = absurd h

abbrev Seen : Datum → Type 0
Seen v = (c : ℕ) (os : List ℕ) → IsBody v c os → view (value_of v) ≡ v

part_seen : (v : Datum) → Seen v → (how : Option ℕ) (os : List ℕ) → IsPart how (IsBody v) os → view (value_of v) ≡ v
part_seen v seen None [] h = absurd h
part_seen v seen None (c ∷ os) h = seen c os h
part_seen v seen (Some c) os h = seen c os h

none_counted : (ds : Data) → count_of ds ≡ 0 → ds ≡ none
none_counted none h = refl
none_counted (item v vs) h = absurd cc

abbrev AllSeen : Data → Type 0
AllSeen ds = (how : Option ℕ) (os : List ℕ) → AreParts ds how os → views (values_of ds) ≡ ds

seen_or_none : (ds : Data) → AllSeen ds → (how : Option ℕ) → (count_of ds ≡ 0) ⊎ ((content : List ℕ) × AreParts ds how content) → views (values_of ds) ≡ ds
seen_or_none ds all how (inl e) = rw (none_counted ds e) refl
seen_or_none ds all how (inr h) = all how h.0 h.1

even_less : (n : ℕ) → IsTrue (is_even (suc (suc n))) → IsTrue (is_even n)
even_less n h = sym (not_not (is_even n)) ∙ h

mutual
  body_seen : (v : Datum) → Seen v
  body_seen (number k n) c os h = number_view k n (number_fits (class_of c) k n os h)
  body_seen (octets r text) c os h = octets_view r text
  body_seen (list ds) c os h = view_list (values_of ds) ∙ ap list (seen_or_none ds (parts_seen ds) None (list_parts (class_of c) (count_of ds) (AreParts ds None) os h))
  body_seen (map ds) c os h = let m = map_parts (class_of c) (count_of ds) (AreParts ds None) os h in view_map (value_pairs_of ds) ∙ ap map (pairs_seen ds m.0 m.1 m.2)
  body_seen (array code ds) c os h = view_array code (values_of ds) ∙ ap (array code) (seen_or_none ds (parts_seen ds) (Some code) (array_parts (class_of c) code (count_of ds) (AreParts ds (Some code)) os h))
  body_seen (described d v) c os h =
      let p = described_parts (class_of c) (IsPart None (IsBody d)) (IsPart None (IsBody v)) os h in
      view_described (value_of d) (value_of v) ∙ ap (λ (x : Datum). described x (view (value_of v))) (part_seen d (body_seen d) None p.a p.first) ∙ ap (described d) (part_seen v (body_seen v) None p.b p.second)

  parts_seen : (ds : Data) → AllSeen ds
  parts_seen none how os h = refl
  parts_seen (item v vs) how os h = ap (λ (x : Datum). item x (views (values_of vs))) (part_seen v (body_seen v) how h.0 h.2) ∙ ap (item v) (parts_seen vs how h.1 h.3)

  pairs_seen : (ds : Data) → IsTrue (is_even (count_of ds)) → (os : List ℕ) → AreParts ds None os → views_of_pairs (value_pairs_of ds) ≡ ds
  pairs_seen none e os h = refl
  pairs_seen (item k none) e os h = absurd cc
  pairs_seen (item k (item v ds)) e os h =
      ap (λ (x : Datum). item x (item (view (value_of v)) (views_of_pairs (value_pairs_of ds)))) (part_seen k (body_seen k) None h.0 h.2)
      ∙ ap (λ (x : Datum). item k (item x (views_of_pairs (value_pairs_of ds)))) (part_seen v (body_seen v) None h.3.0 h.3.2)
      ∙ ap (λ (x : Data). item k (item v x)) (pairs_seen ds (even_less (count_of ds) e) h.3.1 h.3.3)

pub spelled_seen : (n : ℕ) (v : Datum) (x : List ℕ) → SpellsWithin n v x → view (value_of v) ≡ v
spelled_seen n v x h = part_seen v (body_seen v) None x h.0

map_content : (ds : Data) (class : Class) (b : List ℕ) → IsMapBody class (count_of ds) (AreParts ds None) b → views_of_pairs (value_pairs_of ds) ≡ ds
map_content ds class b h = let m = map_parts class (count_of ds) (AreParts ds None) b h in pairs_seen ds m.0 m.1 m.2

pub map_seen : (n : ℕ) (ds : Data) (x : List ℕ) → SpellsWithin n (map ds) x → views_of_pairs (value_pairs_of ds) ≡ ds
map_seen n ds [] h = absurd h.0
map_seen n ds (c ∷ b) h = map_content ds (class_of c) b h.0

-- ---- a value's format code says whether it is a map

abbrev pub is_map_class : Class → Bool
is_map_class (Class.Map w) = true
is_map_class _ = false

pub not_map_class : (class : Class) → ((w : Width) → class ≡ Class.Map w → ⊥) → is_map_class class ≡ false
not_map_class (Class.Map w) h = absurd (h w refl)
not_map_class _ h = refl

number_class : (class : Class) (k : Kind) (n : ℕ) (os : List ℕ) → IsNumberBody class k n os → false ≡ is_map_class class
number_class (Class.Number k' w r) k n os h = refl
number_class _ k n os h = absurd h

octets_class : (class : Class) (r : Run) (text os : List ℕ) → IsOctetsBody class r text os → false ≡ is_map_class class
octets_class (Class.Octets r' w) r text os h = refl
octets_class (Class.Sixteen r') r text os h = refl
octets_class _ r text os h = absurd h

list_class : (class : Class) (count : ℕ) (P : List ℕ → Type 0) (os : List ℕ) → IsListBody class count P os → false ≡ is_map_class class
list_class Class.EmptyList count P os h = refl
list_class (Class.List w) count P os h = refl
list_class _ count P os h = absurd h

map_class : (class : Class) (count : ℕ) (P : List ℕ → Type 0) (os : List ℕ) → IsMapBody class count P os → true ≡ is_map_class class
map_class (Class.Map w) count P os h = refl
map_class _ count P os h = absurd h

array_class : (class : Class) (code count : ℕ) (P : List ℕ → Type 0) (os : List ℕ) → IsArrayBody class code count P os → false ≡ is_map_class class
array_class (Class.Array w) code count P os h = refl
array_class _ code count P os h = absurd h

described_class : (class : Class) (P Q : List ℕ → Type 0) (os : List ℕ) → IsDescribedBody class P Q os → false ≡ is_map_class class
described_class Class.Described P Q os h = refl
described_class _ P Q os h = absurd h

body_class : (v : Datum) (c : ℕ) (os : List ℕ) → IsBody v c os → is_mapping v ≡ is_map_class (class_of c)
body_class (number k n) c os h = number_class (class_of c) k n os h
body_class (octets r text) c os h = octets_class (class_of c) r text os h
body_class (list ds) c os h = list_class (class_of c) (count_of ds) (AreParts ds None) os h
body_class (map ds) c os h = map_class (class_of c) (count_of ds) (AreParts ds None) os h
body_class (array code ds) c os h = array_class (class_of c) code (count_of ds) (AreParts ds (Some code)) os h
body_class (described d v) c os h = described_class (class_of c) (IsPart None (IsBody d)) (IsPart None (IsBody v)) os h

-- ---- octets that are whole

read_all : (os : List ℕ) (r : Option (Datum × List ℕ)) → r ≡ part_at 32 None os → all_read r ≡ true → SpellsWithin 32 (datum_read r) os
read_all os None e h = absurd cc
read_all os (Some x) e h =
    let t = read_is_spelled 32 os x.0 x.1 (sym e) in
    let nothing : x.1 ≡ [] = nil_from_length x.1 (eqb-true (length x.1) 0 h) in
    let whole : os ≡ t.0 = t.2 ∙ ap (λ (r : List ℕ). t.0 ++ r) nothing ∙ append-nil t.0 in
    subst (λ (y : List ℕ). SpellsWithin 32 x.0 y) (sym whole) t.1

pub whole_spelled : (os : List ℕ) → is_whole os ≡ true → SpellsWithin 32 (datum_in os) os
unfolding is_whole datum_in
whole_spelled os h = read_all os (part_at 32 None os) refl h

pub map_by_code : (os : List ℕ) (c : ℕ) (rest : List ℕ) (class : Class) → is_whole os ≡ true → os ≡ c ∷ rest → class ≡ class_of c → is_map_class class ≡ is_mapping (datum_in os)
map_by_code os c rest class whole e is =
    let s = subst (λ (y : List ℕ). SpellsWithin 32 (datum_in os) y) e (whole_spelled os whole) in
    ap is_map_class is ∙ sym (body_class (datum_in os) c rest s.0)

pub not_empty : (os : List ℕ) → is_whole os ≡ true → os ≡ [] → ⊥
not_empty os whole e = (subst (λ (y : List ℕ). SpellsWithin 32 (datum_in os) y) e (whole_spelled os whole)).0

pub value_in_seen : (os : List ℕ) → is_whole os ≡ true → view (value_in os) ≡ datum_in os
unfolding value_in
value_in_seen os h = spelled_seen 32 (datum_in os) os (whole_spelled os h)

pub owned_same : (v : Value) (os : List ℕ) → is_whole os ≡ true → view v ≡ datum_in os → view v ≡ view (value_in os)
owned_same v os h e = e ∙ sym (value_in_seen os h)
