-- The canonical spelling is the shortest.
use Rattle.std.proofs.Common.{◌≡◌, ℕ, suc, ◌+◌, ◌-◌, ◌*◌, ◌^◌, ◌<◌, ◌≤◌, Bool, true, false, cond, ltb, leb, eqb, eq-eqb, ◌&&◌, ◌||◌, List, [], ◌∷◌, ◌++◌, length, take, drop, Option, Some, None, refl, sym, ap, subst, ◌∙◌, arith, ◌⊎◌, inl, inr}
use Rattle.std.specs.Int.{to_be_bytes, w8, w16, w32, w64}
use Rattle.std.specs.Prelude.{IsTrue}
use Rattle.std.specs.List.{All, list_all}
use Rattle.std.proofs.lemmas.Bool.{eqb-true, leb-true, ltb-false, lt-ltb, le-ltb}
use Rattle.std.proofs.lemmas.List.{take_at, drop_at, length-append}
use Rattle.std.proofs.lemmas.List.Elements.{All-same, All-take, All-drop, All-head, All-tail}
use Rattle.amqp_types.specs.declared.class.Class.{Class}
use Rattle.amqp_types.specs.declared.class.Kind.{Kind}
use Rattle.amqp_types.specs.declared.class.Run.{Run}
use Rattle.amqp_types.specs.declared.class.Conversion.{Conversion}
use Rattle.amqp_types.specs.declared.class.Width.{Width}
use Rattle.amqp_types.specs.Codes.{table, class_in, class_of, octets_in, kind_index, run_index}
use Rattle.amqp_types.specs.Datum.{Datum, number, octets, list, map, array, described, Data, none, item, count_of, depth_of}
use Rattle.amqp_types.specs.Grammar.{number_from, number_of, read_number, fits, is_run, is_even, is_element, IsField, IsCompound, IsNumberBody, IsOctetsBody, IsListBody, IsMapBody, IsArrayContent, IsArrayBody, IsDescribedBody, IsPart, IsBody, AreParts, Spells}
use Rattle.amqp_types.specs.Reading.{◌>>=◌}
use Rattle.amqp_types.specs.Canon.{unread_number, field, size_field, number_form, octets_head, compound_head, list_head, map_head, array_head, described_head, Draft, number_draft, octets_draft, list_draft, map_draft, array_draft, described_draft, head_of, content_of, draft_form, first_or, first_of, codes, spelled, draft, parts_form, canon}
use Rattle.amqp_types.specs.Shortest.{HasNoEmptyNulls, HaveNoEmptyNulls}
use Rattle.amqp_types.proofs.Compounds.{bind_some, guard_some, some_is}
use Rattle.amqp_types.proofs.Numbers.{grows}
use Rattle.amqp_types.proofs.Fronts.{is_code, class_listed}
use Rattle.amqp_types.proofs.Canonical.{field_is, no_content}

both : (a b : Bool) → (a && b) ≡ true → (a ≡ true) × (b ≡ true)
both true b h = (refl, h)
both false b h = absurd cc

either : (a b : Bool) → (a || b) ≡ true → (a ≡ true) ⊎ (b ≡ true)
either true b h = inl refl
either false b h = inr h

-- ---- octets, and the numbers that they are

abbrev AreOctets : List ℕ → Type 0
AreOctets os = All (λ o. o < 256) os

front_octets : (a b os : List ℕ) → os ≡ a ++ b → AreOctets os → AreOctets a
front_octets a b os e h = All-same (λ o. o < 256) a (take (length a) os) (sym (ap (take (length a)) e ∙ take_at a b (length a) refl)) (All-take (λ o. o < 256) (length a) os h)

back_octets : (a b os : List ℕ) → os ≡ a ++ b → AreOctets os → AreOctets b
back_octets a b os e h = All-same (λ o. o < 256) b (drop (length a) os) (sym (ap (drop (length a)) e ∙ drop_at a b (length a) refl)) (All-drop (λ o. o < 256) (length a) os h)

grown : (os : List ℕ) (n i : ℕ) → n < 256 ^ i → AreOctets os → number_from n os < 256 ^ (i + length os)
grown [] n i h o = let e : i ≡ i + 0 = omega arith in subst (λ (k : ℕ). n < 256 ^ k) e h
grown (b ∷ bs) n i h o =
    let more = grown bs (n * 256 + b) (i + 1) (grows n b i h (All-head (λ o. o < 256) b bs o)) (All-tail (λ o. o < 256) b bs o) in
    let e : (i + 1) + length bs ≡ i + length (b ∷ bs) = omega arith in
    subst (λ (k : ℕ). number_from (n * 256 + b) bs < 256 ^ k) e more

number_small : (os : List ℕ) → AreOctets os → number_of os < 256 ^ length os
unfolding number_of
number_small os o = let e : 0 + length os ≡ length os = omega arith in subst (λ (k : ℕ). number_from 0 os < 256 ^ k) e (grown os 0 0 (omega arith) o)

field_small : (w : Width) (n : ℕ) (os : List ℕ) → IsField w n os → AreOctets os → n < 256 ^ octets_in w
field_small w n os h o = subst (λ (m : ℕ). m < 256 ^ octets_in w) h.1 (subst (λ (k : ℕ). number_of os < 256 ^ k) h.0 (number_small os o))

-- ---- what is spelled so has a form under that code

-- octets that are there, this many
abbrev IsThere : Option (List ℕ) → ℕ → Type 0
IsThere o n = (a : List ℕ) × (o ≡ Some a) × (length a ≡ n)

-- at most this many
abbrev IsWithin : Option (List ℕ) → ℕ → Type 0
IsWithin o n = (a : List ℕ) × (o ≡ Some a) × (length a ≤ n)

field_there : (w : Width) (n : ℕ) → n < 256 ^ octets_in w → IsThere (field w n) (octets_in w)
field_there Width.Zero n h = ([], (let e : eqb n 0 ≡ true = eq-eqb _ _ (omega (arith, h)) in rw e refl), refl)
field_there Width.One n h = (to_be_bytes w8 n, (let e : ltb n (2 ^ 8) ≡ true = lt-ltb _ _ (omega (arith, h)) in rw e refl), refl)
field_there Width.Two n h = (to_be_bytes w16 n, (let e : ltb n (2 ^ 16) ≡ true = lt-ltb _ _ (omega (arith, h)) in rw e refl), refl)
field_there Width.Four n h = (to_be_bytes w32 n, (let e : ltb n (2 ^ 32) ≡ true = lt-ltb _ _ (omega (arith, h)) in rw e refl), refl)
field_there Width.Eight n h = (to_be_bytes w64 n, (let e : ltb n (2 ^ 64) ≡ true = lt-ltb _ _ (omega (arith, h)) in rw e refl), refl)

abbrev is_sized : Width → Bool
is_sized Width.One = true
is_sized Width.Four = true
is_sized _ = false

size_there : (w : Width) (n : ℕ) → is_sized w ≡ true → n < 256 ^ octets_in w → IsThere (size_field w n) (octets_in w)
size_there Width.One n s h = field_there Width.One n h
size_there Width.Four n s h = field_there Width.Four n h
size_there _ n s h = absurd cc

-- the rows of the table: sizes take one octet or four, and what reads as one more has no octets
abbrev is_row : Class → Bool
is_row (Class.Number k w Conversion.One) = eqb (octets_in w) 0
is_row (Class.Octets r w) = is_sized w
is_row (Class.List w) = is_sized w
is_row (Class.Map w) = is_sized w
is_row (Class.Array w) = is_sized w
is_row _ = true

row_chosen : (b : Bool) (x y : Class) → is_row x ≡ true → is_row y ≡ true → is_row (cond b x y) ≡ true
row_chosen true x y h k = h
row_chosen false x y h k = k

row_in : (rows : List (ℕ × Class)) (c : ℕ) → list_all (λ row. is_row row.1) rows ≡ true → is_row (class_in rows c) ≡ true
row_in [] c h = refl
row_in (row ∷ rows) c h = let p = both (is_row row.1) (list_all (λ row. is_row row.1) rows) h in row_chosen (eqb c row.0) row.1 (class_in rows c) p.0 (row_in rows c p.1)

row_of : (c : ℕ) → is_row (class_of c) ≡ true
unfolding class_of
row_of c = row_in table c refl

-- one octet widened, where low is the number that the least negative one has
widened_there : (low m : ℕ) (b : Bool) → ltb m 128 ≡ b → 128 ≤ low → let n = cond b m (m + (low - 128)) in cond (ltb n 128) (Some n) (cond (ltb n low) None (Some (n - (low - 128)))) ≡ Some m
widened_there low m true e wide = rw e refl
widened_there low m false e wide =
    let large : 128 ≤ m = ltb-false _ _ e in
    let past : ltb (m + (low - 128)) 128 ≡ false = le-ltb _ _ (omega (arith, large, wide)) in
    let over : ltb (m + (low - 128)) low ≡ false = le-ltb _ _ (omega (arith, large, wide)) in
    let back : (m + (low - 128)) - (low - 128) ≡ m = omega arith in
    rw (past, over, back) refl

unread_there : (r : Conversion) (k : Kind) (w : Width) (m : ℕ) → is_row (Class.Number k w r) ≡ true → m < 256 ^ octets_in w → unread_number r (read_number r m) ≡ Some m
unread_there Conversion.Plain k w m row h = refl
unread_there Conversion.One k w m row h =
    let one : m < 256 ^ 0 = subst (λ (i : ℕ). m < 256 ^ i) (eqb-true _ _ row) h in
    let nothing : m ≡ 0 = omega (arith, one) in
    rw nothing refl
unread_there Conversion.Widened32 k w m row h = widened_there (2 ^ 32 - 128) m (ltb m 128) refl (omega arith)
unread_there Conversion.Widened64 k w m row h = widened_there (2 ^ 64 - 128) m (ltb m 128) refl (omega arith)

number_there : (class : Class) (k : Kind) (n : ℕ) (b : List ℕ) → is_row class ≡ true → IsNumberBody class k n b → AreOctets b → IsThere (number_form class k n) (length b)
number_there (Class.Number k' w r) k n b row h o =
    let small : number_of b < 256 ^ octets_in w = field_small w (number_of b) b (h.1, refl) o in
    let f = field_there w (number_of b) small in
    let unread : unread_number r n ≡ Some (number_of b) = ap (unread_number r) (sym h.2) ∙ unread_there r k' w (number_of b) row small in
    let same : eqb (kind_index k') (kind_index k) ≡ true = eq-eqb _ _ (ap kind_index h.0) in
    (f.0, rw (same, h.3, unread) f.1, f.2 ∙ sym h.1)
number_there _ k n b row h o = absurd h

with_content : (d : Draft) (class : Class) (n m : ℕ) → IsThere (head_of d class) n → n + length (content_of d) ≤ m → IsWithin (draft_form d class) m
with_content d class n m h le = (h.0 ++ content_of d, rw h.1 refl, omega (arith, length-append h.0 (content_of d), h.2))

number_within : (class : Class) (k : Kind) (n : ℕ) (b : List ℕ) → is_row class ≡ true → IsNumberBody class k n b → AreOctets b → IsWithin (draft_form (number_draft k n) class) (length b)
number_within class k n b row h o = with_content (number_draft k n) class (length b) (length b) (number_there class k n b row h o) (omega arith)

octets_within : (class : Class) (r : Run) (text b : List ℕ) → is_row class ≡ true → IsOctetsBody class r text b → AreOctets b → IsWithin (draft_form (octets_draft r text) class) (length b)
octets_within (Class.Octets r' w) r text b row h o =
    let same : eqb (run_index r') (run_index r) ≡ true = eq-eqb _ _ (ap run_index h.0) in
    let s = size_there w (length text) row (field_small w (length text) h.2 h.3 (front_octets h.2 text b h.4 o)) in
    with_content (octets_draft r text) (Class.Octets r' w) (octets_in w) (length b) (s.0, rw (same, h.1) s.1, s.2) (omega (arith, ap length h.4, length-append h.2 text, h.3.0))
octets_within (Class.Sixteen r') r text b row h o =
    let same : eqb (run_index r') (run_index r) ≡ true = eq-eqb _ _ (ap run_index h.0) in
    let len : eqb (length text) 16 ≡ true = eq-eqb _ _ h.2 in
    with_content (octets_draft r text) (Class.Sixteen r') 0 (length b) ([], rw (same, h.1, len) refl, refl) (omega (arith, ap length h.3))
octets_within _ r text b row h o = absurd h

compound_there : (w : Width) (count size : ℕ) (content b : List ℕ) → is_sized w ≡ true → IsCompound w count content b → AreOctets b → size ≤ length content
    → IsThere (compound_head w count size) (octets_in w + octets_in w) × ((octets_in w + octets_in w) + length content ≡ length b) × AreOctets content
compound_there w count size content b row h o le =
    let after = back_octets h.size_field (h.count_field ++ content) b h.parts o in
    let sized = field_small w (octets_in w + length content) h.size_field h.size_is (front_octets h.size_field (h.count_field ++ content) b h.parts o) in
    let s = size_there w (octets_in w + size) row (omega (arith, sized)) in
    let c = size_there w count row (field_small w count h.count_field h.count_is (front_octets h.count_field content (h.count_field ++ content) refl after)) in (
      (s.0 ++ c.0, rw (s.1, c.1) refl, omega (arith, length-append s.0 c.0, s.2, c.2)),
      omega (arith, ap length h.parts, length-append h.size_field (h.count_field ++ content), length-append h.count_field content, h.size_is.0, h.count_is.0),
      back_octets h.count_field content (h.count_field ++ content) refl after,
    )

-- these are no more octets than any that are so
abbrev IsLeastOf : (List ℕ → Type 0) → List ℕ → Type 0
IsLeastOf P x = (y : List ℕ) → P y → AreOctets y → length x ≤ length y

compound_within : (d : Draft) (class : Class) (w : Width) (count : ℕ) (content b : List ℕ) → is_sized w ≡ true → IsCompound w count content b → AreOctets b
    → head_of d class ≡ compound_head w count (length (content_of d)) → (AreOctets content → length (content_of d) ≤ length content) → IsWithin (draft_form d class) (length b)
compound_within d class w count content b row h o e least =
    let inside = back_octets h.count_field content (h.count_field ++ content) refl (back_octets h.size_field (h.count_field ++ content) b h.parts o) in
    let f = compound_there w count (length (content_of d)) content b row h o (least inside) in
    with_content d class (octets_in w + octets_in w) (length b) (f.0.0, e ∙ f.0.1, f.0.2) (omega (arith, f.1, least inside))

list_within : (class : Class) (count : ℕ) (x b : List ℕ) (P : List ℕ → Type 0) → is_row class ≡ true → IsListBody class count P b → AreOctets b → IsLeastOf P x → (count ≡ 0 → x ≡ []) → IsWithin (draft_form (list_draft count x) class) (length b)
list_within Class.EmptyList count x b P row h o least empty =
    let nothing : eqb count 0 ≡ true = eq-eqb _ _ h.0 in
    with_content (list_draft count x) Class.EmptyList 0 (length b) ([], rw nothing refl, refl) (omega (arith, ap length (empty h.0)))
list_within (Class.List w) count x b P row h o least empty = compound_within (list_draft count x) (Class.List w) w count h.0 b row h.2 o refl (λ i. least h.0 h.1 i)
list_within _ count x b P row h o least empty = absurd h

map_within : (class : Class) (count : ℕ) (x b : List ℕ) (P : List ℕ → Type 0) → is_row class ≡ true → IsMapBody class count P b → AreOctets b → IsLeastOf P x → IsWithin (draft_form (map_draft count x) class) (length b)
map_within (Class.Map w) count x b P row h o least = compound_within (map_draft count x) (Class.Map w) w count h.1 b row h.3 o (rw h.0 refl) (λ i. least h.1 h.2 i)
map_within _ count x b P row h o least = absurd h

-- the content of an array has a constructor, unless there are no items and this is null's
constructed : (code count : ℕ) (x content : List ℕ) (P : List ℕ → Type 0) → (code ≡ 0x40 → count ≡ 0 → ⊥) → IsLeastOf P x → IsArrayContent code count P content → AreOctets content
    → IsTrue (is_element (class_of code) count) × (1 + length x ≤ length content)
constructed code count x [] P some least h o = absurd (some h.1 h.0)
constructed code count x (c ∷ os) P some least h o = (h.1, let le = least os h.2 (All-tail (λ o. o < 256) c os o) in omega (arith, le))

array_within : (class : Class) (code count : ℕ) (x b : List ℕ) (P : List ℕ → Type 0) → is_row class ≡ true → IsArrayBody class code count P b → AreOctets b → (code ≡ 0x40 → count ≡ 0 → ⊥) → IsLeastOf P x
    → IsWithin (draft_form (array_draft code count x) class) (length b)
array_within (Class.Array w) code count x b P row h o some least =
    let inside = back_octets h.2.count_field h.0 (h.2.count_field ++ h.0) refl (back_octets h.2.size_field (h.2.count_field ++ h.0) b h.2.parts o) in
    let c = constructed code count x h.0 P some least h.1 inside in
    let f = compound_there w count (1 + length x) h.0 b row h.2 o c.1 in
    with_content (array_draft code count x) (Class.Array w) ((octets_in w + octets_in w) + 1) (length b)
    (f.0.0 ++ code ∷ [], rw (c.0, f.0.1) refl, omega (arith, length-append f.0.0 (code ∷ []), f.0.2)) (omega (arith, f.1, c.1))
array_within _ code count x b P row h o some least = absurd h

described_within : (class : Class) (x y b : List ℕ) (P Q : List ℕ → Type 0) → IsDescribedBody class P Q b → AreOctets b → IsLeastOf P x → IsLeastOf Q y → IsWithin (draft_form (described_draft (x ++ y)) class) (length b)
described_within Class.Described x y b P Q h o least_d least_v =
    let first = least_d h.0 h.2 (front_octets h.0 h.1 b h.4 o) in
    let second = least_v h.1 h.3 (back_octets h.0 h.1 b h.4 o) in
    with_content (described_draft (x ++ y)) Class.Described 0 (length b) ([], refl, refl) (omega (arith, length-append x y, ap length h.4, length-append h.0 h.1, first, second))
described_within _ x y b P Q h o least_d least_v = absurd h

-- ---- the first form of the table is the shortest

-- codes of one sort spell values of one type
abbrev sort_of : Class → ℕ
sort_of (Class.Number k w r) = kind_index k
sort_of (Class.Octets r w) = 16 + run_index r
sort_of (Class.Sixteen r) = 16 + run_index r
sort_of Class.EmptyList = 21
sort_of (Class.List w) = 21
sort_of (Class.Map w) = 22
sort_of (Class.Array w) = 23
sort_of Class.Described = 24
sort_of Class.Unknown = 25

abbrev sort_of_draft : Draft → ℕ
sort_of_draft (number_draft k n) = kind_index k
sort_of_draft (octets_draft r text) = 16 + run_index r
sort_of_draft (list_draft count content) = 21
sort_of_draft (map_draft count content) = 22
sort_of_draft (array_draft code count content) = 23
sort_of_draft (described_draft content) = 24

-- how many octets stand in front of the content
abbrev head_octets : Class → ℕ
head_octets (Class.Number k w r) = octets_in w
head_octets (Class.Octets r w) = octets_in w
head_octets (Class.List w) = octets_in w + octets_in w
head_octets (Class.Map w) = octets_in w + octets_in w
head_octets (Class.Array w) = (octets_in w + octets_in w) + 1
head_octets _ = 0

size_length : (w : Width) (n : ℕ) (h : List ℕ) → size_field w n ≡ Some h → length h ≡ octets_in w
size_length Width.One n h e = (field_is Width.One n h e).0
size_length Width.Four n h e = (field_is Width.Four n h e).0
size_length _ n h e = absurd cc

compound_length : (w : Width) (count size : ℕ) (h : List ℕ) → compound_head w count size ≡ Some h → length h ≡ octets_in w + octets_in w
compound_length w count size h e =
    let s = bind_some (size_field w (octets_in w + size)) (λ s. size_field w count >>= λ c. Some (s ++ c)) h e in
    let c = bind_some (size_field w count) (λ c. Some (s.0 ++ c)) h s.2 in
    omega (arith, ap length (some_is (s.0 ++ c.0) h c.2), length-append s.0 c.0, size_length w (octets_in w + size) s.0 s.1, size_length w count c.0 c.1)

abbrev IsMeasured : Draft → Class → List ℕ → Type 0
IsMeasured d class h = (sort_of class ≡ sort_of_draft d) × (length h ≡ head_octets class)

number_measured : (k : Kind) (n : ℕ) (class : Class) (h : List ℕ) → number_form class k n ≡ Some h → IsMeasured (number_draft k n) class h
number_measured k n (Class.Number k' w r) h e =
    let g = guard_some (eqb (kind_index k') (kind_index k) && fits k n) (unread_number r n >>= field w) h e in
    let p = both (eqb (kind_index k') (kind_index k)) (fits k n) g.0 in
    let m = bind_some (unread_number r n) (field w) h g.1 in
    (eqb-true _ _ p.0, (field_is w m.0 h m.2).0)
number_measured k n _ h e = absurd cc

octets_measured : (r : Run) (text : List ℕ) (class : Class) (h : List ℕ) → octets_head class r text ≡ Some h → IsMeasured (octets_draft r text) class h
octets_measured r text (Class.Octets r' w) h e =
    let g = guard_some (eqb (run_index r') (run_index r) && is_run r text) (size_field w (length text)) h e in
    let p = both (eqb (run_index r') (run_index r)) (is_run r text) g.0 in
    (ap (λ (i : ℕ). 16 + i) (eqb-true _ _ p.0), size_length w (length text) h g.1)
octets_measured r text (Class.Sixteen r') h e =
    let g = guard_some (eqb (run_index r') (run_index r) && (is_run r text && eqb (length text) 16)) (Some []) h e in
    let p = both (eqb (run_index r') (run_index r)) (is_run r text && eqb (length text) 16) g.0 in
    (ap (λ (i : ℕ). 16 + i) (eqb-true _ _ p.0), ap length (sym (some_is [] h g.1)))
octets_measured r text _ h e = absurd cc

list_measured : (count : ℕ) (content : List ℕ) (class : Class) (h : List ℕ) → list_head class count (length content) ≡ Some h → IsMeasured (list_draft count content) class h
list_measured count content Class.EmptyList h e = let g = guard_some (eqb count 0) (Some []) h e in (refl, ap length (sym (some_is [] h g.1)))
list_measured count content (Class.List w) h e = (refl, compound_length w count (length content) h e)
list_measured count content _ h e = absurd cc

map_measured : (count : ℕ) (content : List ℕ) (class : Class) (h : List ℕ) → map_head class count (length content) ≡ Some h → IsMeasured (map_draft count content) class h
map_measured count content (Class.Map w) h e = let g = guard_some (is_even count) (compound_head w count (length content)) h e in (refl, compound_length w count (length content) h g.1)
map_measured count content _ h e = absurd cc

array_measured : (code count : ℕ) (bodies : List ℕ) (class : Class) (h : List ℕ) → array_head class code count (length bodies) ≡ Some h → IsMeasured (array_draft code count bodies) class h
array_measured code count bodies (Class.Array w) h e =
    let g = guard_some (is_element (class_of code) count) (compound_head w count (1 + length bodies) >>= λ h. Some (h ++ code ∷ [])) h e in
    let f = bind_some (compound_head w count (1 + length bodies)) (λ h. Some (h ++ code ∷ [])) h g.1 in
    (refl, omega (arith, ap length (some_is (f.0 ++ code ∷ []) h f.2), length-append f.0 (code ∷ []), compound_length w count (1 + length bodies) f.0 f.1))
array_measured code count bodies _ h e = absurd cc

described_measured : (content : List ℕ) (class : Class) (h : List ℕ) → described_head class ≡ Some h → IsMeasured (described_draft content) class h
described_measured content Class.Described h e = (refl, ap length (sym (some_is [] h e)))
described_measured content _ h e = absurd cc

head_measured : (d : Draft) (class : Class) (h : List ℕ) → head_of d class ≡ Some h → IsMeasured d class h
head_measured (number_draft k n) class h e = number_measured k n class h e
head_measured (octets_draft r text) class h e = octets_measured r text class h e
head_measured (list_draft count content) class h e = list_measured count content class h e
head_measured (map_draft count content) class h e = map_measured count content class h e
head_measured (array_draft code count bodies) class h e = array_measured code count bodies class h e
head_measured (described_draft content) class h e = described_measured content class h e

form_measured : (d : Draft) (class : Class) (b : List ℕ) → draft_form d class ≡ Some b → (sort_of class ≡ sort_of_draft d) × (length b ≡ head_octets class + length (content_of d))
form_measured d class b e =
    let h = bind_some (head_of d class) (λ h. Some (h ++ content_of d)) b e in
    let m = head_measured d class h.0 h.1 in
    (m.0, omega (arith, m.1, ap length (some_is (h.0 ++ content_of d) b h.2), length-append h.0 (content_of d)))

-- of one sort, the one before has no longer head
abbrev is_before : Class → Class → Bool
is_before a b = cond (eqb (sort_of a) (sort_of b)) (leb (head_octets a) (head_octets b)) true

abbrev in_order : List ℕ → Bool
in_order [] = true
in_order (c ∷ cs) = list_all (λ other. is_before (class_of c) (class_of other)) cs && in_order cs

codes_in_order : in_order codes ≡ true
unfolding class_of
codes_in_order = refl

before_is : (d : Draft) (x y : Class) (a b : List ℕ) → is_before x y ≡ true → draft_form d x ≡ Some a → draft_form d y ≡ Some b → length a ≤ length b
before_is d x y a b h e k =
    let m = form_measured d x a e in
    let n = form_measured d y b k in
    let same : eqb (sort_of x) (sort_of y) ≡ true = eq-eqb _ _ (m.0 ∙ sym n.0) in
    let le : leb (head_octets x) (head_octets y) ≡ true = sym (rw same refl) ∙ h in
    omega (arith, leb-true _ _ le, m.1, n.1)

all_at : (p : ℕ → Bool) (cs : List ℕ) (c : ℕ) → list_all p cs ≡ true → is_code cs c ≡ true → p c ≡ true
all_at p [] c h k = absurd cc
all_at p (c' ∷ cs) c h k =
    let a = both (p c') (list_all p cs) h in
    elim (either (eqb c c') (is_code cs c) k) [
      | inl e ↦ ap p (eqb-true _ _ e) ∙ a.0
      | inr e ↦ all_at p cs c a.1 e
    ]

first_or_least : (o : Option (List ℕ)) (c : ℕ) (others : Option (List ℕ)) (x : List ℕ) (n : ℕ) → ((a : List ℕ) → o ≡ Some a → length a ≤ n) → (o ≡ None → (y : List ℕ) → others ≡ Some y → length y ≤ suc n) → first_or o c others ≡ Some x → length x ≤ suc n
first_or_least None c others x n here later e = later refl x e
first_or_least (Some a) c others x n here later e = omega (arith, here a refl, ap length (some_is (c ∷ a) x e))

first_least : (cs : List ℕ) (d : Draft) (c : ℕ) (b x : List ℕ) → in_order cs ≡ true → is_code cs c ≡ true → draft_form d (class_of c) ≡ Some b → first_of cs d ≡ Some x → length x ≤ suc (length b)
first_least [] d c b x order among form e = absurd cc
first_least (c' ∷ cs) d c b x order among form e =
    let p = both (list_all (λ other. is_before (class_of c') (class_of other)) cs) (in_order cs) order in
    elim (either (eqb c c') (is_code cs c) among) [
      | inl q ↦
          let same : draft_form d (class_of c') ≡ Some b = ap (λ (k : ℕ). draft_form d (class_of k)) (sym (eqb-true _ _ q)) ∙ form in
          first_or_least (draft_form d (class_of c')) c' (first_of cs d) x (length b) (λ a k. omega (arith, ap length (some_is a b (sym k ∙ same)))) (λ k y f. absurd cc) e
      | inr q ↦
          first_or_least (draft_form d (class_of c')) c' (first_of cs d) x (length b)
          (λ a k. before_is d (class_of c') (class_of c) a b (all_at (λ other. is_before (class_of c') (class_of other)) cs c p.0 q) k form) (λ k y f. first_least cs d c b y p.1 q form f) e
    ]

abbrev is_known : Class → Bool
is_known Class.Unknown = false
is_known _ = true

known : (d : Draft) (class : Class) (b : List ℕ) → draft_form d class ≡ Some b → is_known class ≡ true
known (number_draft k n) Class.Unknown b e = absurd cc
known (octets_draft r text) Class.Unknown b e = absurd cc
known (list_draft count content) Class.Unknown b e = absurd cc
known (map_draft count content) Class.Unknown b e = absurd cc
known (array_draft code count bodies) Class.Unknown b e = absurd cc
known (described_draft content) Class.Unknown b e = absurd cc
known d _ b e = refl

listed : (c : ℕ) → is_known (class_of c) ≡ true → is_code codes c ≡ true
unfolding class_of
listed c h = class_listed is_known refl table c h

-- ---- over the value

abbrev IsLeast : Datum → Draft → Type 0
IsLeast v d = (c : ℕ) (b : List ℕ) → IsBody v c b → AreOctets b → IsWithin (draft_form d (class_of c)) (length b)

same_draft : (v : Datum) (d f : Draft) → Some d ≡ Some f → IsLeast v d → IsLeast v f
same_draft v d f e h = subst (λ (g : Draft). IsLeast v g) (let P : d ≡ f = cc in P) h

part_least : (v : Datum) (d : Draft) → IsLeast v d → (how : Option ℕ) (x : List ℕ) → spelled how d ≡ Some x → IsLeastOf (IsPart how (IsBody v)) x
unfolding spelled
part_least v d least None x e [] h o = absurd h
part_least v d least None x e (c ∷ b) h o =
    let f = least c b h (All-tail (λ o. o < 256) c b o) in
    let le = first_least codes d c f.0 x codes_in_order (listed c (known d (class_of c) f.0 f.1)) f.1 e in
    omega (arith, le, f.2)
part_least v d least (Some c) x e y h o =
    let f = least c y h o in
    omega (arith, f.2, ap length (some_is f.0 x (sym f.1 ∙ e)))

mutual
  draft_least : (v : Datum) (d : Draft) → draft v ≡ Some d → HasNoEmptyNulls v → IsLeast v d
  draft_least (number k n) d e full = same_draft (number k n) (number_draft k n) d e (λ c b h o. number_within (class_of c) k n b (row_of c) h o)
  draft_least (octets r text) d e full = same_draft (octets r text) (octets_draft r text) d e (λ c b h o. octets_within (class_of c) r text b (row_of c) h o)
  draft_least (list vs) d e full =
      let x = bind_some (parts_form vs None) (λ x. Some (list_draft (count_of vs) x)) d e in
      same_draft (list vs) (list_draft (count_of vs) x.0) d x.2
      (λ c b h o. list_within (class_of c) (count_of vs) x.0 b (AreParts vs None) (row_of c) h o (parts_least vs None x.0 x.1 full) (no_content vs None x.0 x.1))
  draft_least (map vs) d e full =
      let x = bind_some (parts_form vs None) (λ x. Some (map_draft (count_of vs) x)) d e in
      same_draft (map vs) (map_draft (count_of vs) x.0) d x.2 (λ c b h o. map_within (class_of c) (count_of vs) x.0 b (AreParts vs None) (row_of c) h o (parts_least vs None x.0 x.1 full))
  draft_least (array code vs) d e full =
      let x = bind_some (parts_form vs (Some code)) (λ x. Some (array_draft code (count_of vs) x)) d e in
      same_draft (array code vs) (array_draft code (count_of vs) x.0) d x.2
      (λ c b h o. array_within (class_of c) code (count_of vs) x.0 b (AreParts vs (Some code)) (row_of c) h o full.0 (parts_least vs (Some code) x.0 x.1 full.1))
  draft_least (described w v) d e full =
      let x = bind_some (draft w >>= spelled None) (λ a. (draft v >>= spelled None) >>= λ b. Some (described_draft (a ++ b))) d e in
      let y = bind_some (draft v >>= spelled None) (λ b. Some (described_draft (x.0 ++ b))) d x.2 in
      let p = bind_some (draft w) (spelled None) x.0 x.1 in
      let q = bind_some (draft v) (spelled None) y.0 y.1 in
      same_draft (described w v) (described_draft (x.0 ++ y.0)) d y.2
      (λ c b h o.
      described_within (class_of c) x.0 y.0 b (IsPart None (IsBody w)) (IsPart None (IsBody v)) h o (part_least w p.0 (draft_least w p.0 p.1 full.0) None x.0 p.2) (part_least v q.0 (draft_least v q.0 q.1 full.1) None y.0 q.2))

  parts_least : (vs : Data) (how : Option ℕ) (x : List ℕ) → parts_form vs how ≡ Some x → HaveNoEmptyNulls vs → IsLeastOf (AreParts vs how) x
  parts_least none how x e full y h o = omega (arith, ap length (some_is [] x e))
  parts_least (item v vs) how x e full y h o =
      let a = bind_some (draft v >>= spelled how) (λ a. parts_form vs how >>= λ b. Some (a ++ b)) x e in
      let b = bind_some (parts_form vs how) (λ b. Some (a.0 ++ b)) x a.2 in
      let p = bind_some (draft v) (spelled how) a.0 a.1 in
      let first = part_least v p.0 (draft_least v p.0 p.1 full.0) how a.0 p.2 h.0 h.2 (front_octets h.0 h.1 y h.4 o) in
      let others = parts_least vs how b.0 b.1 full.1 h.1 h.3 (back_octets h.0 h.1 y h.4 o) in
      omega (arith, first, others, ap length (some_is (a.0 ++ b.0) x b.2), length-append a.0 b.0, ap length h.4, length-append h.0 h.1)

pub canon_is_shortest : (v : Datum) (x y : List ℕ) → HasNoEmptyNulls v → canon v ≡ Some x → Spells v y → AreOctets y → length x ≤ length y
unfolding canon
canon_is_shortest v x y full e h o =
    let g = guard_some (leb (depth_of v) 32) (draft v >>= spelled None) x e in
    let p = bind_some (draft v) (spelled None) x g.1 in
    part_least v p.0 (draft_least v p.0 p.1 full) None x p.2 y h.0 o
