-- A value that is read is of the shape that its format code says.
use Rattle.std.proofs.Common.{◌≡◌, ◌≤◌, ◌<◌, ◌-◌, ◌^◌, ℕ, zero, suc, Bool, true, false, cond, ltb, leb, eqb, ◌&&◌, List, [], ◌∷◌, ◌++◌, length, take, drop, Option, Some, None, refl, sym, ap, subst, ◌∙◌, arith}
use Rattle.std.proofs.lemmas.Bool.{eqb-true, ltb-true, lt-ltb}
use Rattle.std.specs.Str.{bytes_eq}
use Rattle.amqp_types.specs.declared.class.Class.{Class}
use Rattle.amqp_types.specs.declared.class.Width.{Width}
use Rattle.amqp_types.specs.declared.class.Conversion.{Conversion}
use Rattle.amqp_types.specs.declared.class.Kind.{Kind}
use Rattle.amqp_types.specs.declared.class.Run.{Run}
use Rattle.amqp_types.specs.Codes.{class_of}
use Rattle.amqp_types.specs.Datum.{Datum, number, octets, list, map, array, described, Data, none}
use Rattle.amqp_types.specs.Grammar.{read_number, fits, is_scalar, is_run, is_even, is_element}
use Rattle.amqp_types.specs.Reading.{◌>>=◌, PartReader, split, field_at, number_at, run_at, octets_at, compound_at, parts_at, all_parts_at, list_at, map_at, array_content_at, array_at, described_at, body_by, part_at, after}
use Rattle.amqp_types.proofs.Bodies.{no_depth, body_is}
use Rattle.amqp_types.proofs.Compounds.{bind_some, guard_some, some_is}
use Rattle.amqp_halves.specs.Leaves.{is_list}

pub from_after : (o : Option (Datum × List ℕ)) (r : List ℕ) → Some r ≡ after o → (x : Datum × List ℕ) × (o ≡ Some x) × (x.1 ≡ r)
from_after (Some x) r e = (x, refl, some_is x.1 r (sym e))
from_after None r e = absurd cc

-- ---- one level

pub record Level (n : ℕ) (class : Class) (body : List ℕ) (x : Datum × List ℕ) : Type 0 where
  pub inner : ℕ
  pub deep : n ≡ suc inner
  pub reads : body_by (part_at inner) class body ≡ Some x

pub level : (n c : ℕ) (os body : List ℕ) (class : Class) (x : Datum × List ℕ) → part_at n None os ≡ Some x → os ≡ c ∷ body → class ≡ class_of c → Level n class body x
level zero c os body class x e s k = let q : None ≡ Some x = sym (no_depth 0 c body refl) ∙ sym (ap (part_at 0 None) s) ∙ e in absurd cc
level (suc m) c os body class x e s k = record { inner = m; deep = refl; reads = sym (body_is (suc m) m c class body refl k) ∙ sym (ap (part_at (suc m) None) s) ∙ e }

pub nothing : (n : ℕ) (os : List ℕ) (x : Datum × List ℕ) → part_at n None os ≡ Some x → os ≡ [] → ⊥
nothing n os x e s = let q : None ≡ Some x = sym (ap (part_at n None) s) ∙ e in cc

-- ---- leaves

scalar_high : (n : ℕ) (a : Bool) → (a && ltb n 0x110000) ≡ true → n < 2 ^ 64
scalar_high n true h = let l = ltb-true n 0x110000 h in omega arith
scalar_high n false h = absurd cc

scalar_low : (n : ℕ) (b : Bool) → ltb n 0xd800 ≡ b → is_scalar n ≡ true → n < 2 ^ 64
scalar_low n true e h = let l = ltb-true n 0xd800 e in omega arith
scalar_low n false e h = scalar_high n (leb 0xe000 n) (rw e at h)

below : (n m : ℕ) → ltb n m ≡ true → m ≤ 2 ^ 64 → n < 2 ^ 64
below n m h k = let l = ltb-true n m h in omega arith

number_low : (k : Kind) (n : ℕ) → fits k n ≡ true → n < 2 ^ 64
number_low Kind.Null n h = let l = eqb-true n 0 h in omega arith
number_low Kind.Bool n h = below n 2 h (omega arith)
number_low Kind.Ubyte n h = below n (2 ^ 8) h (omega arith)
number_low Kind.Ushort n h = below n (2 ^ 16) h (omega arith)
number_low Kind.Uint n h = below n (2 ^ 32) h (omega arith)
number_low Kind.Ulong n h = below n (2 ^ 64) h (omega arith)
number_low Kind.Sbyte n h = below n (2 ^ 8) h (omega arith)
number_low Kind.Short n h = below n (2 ^ 16) h (omega arith)
number_low Kind.Int n h = below n (2 ^ 32) h (omega arith)
number_low Kind.Long n h = below n (2 ^ 64) h (omega arith)
number_low Kind.FloatBits n h = below n (2 ^ 32) h (omega arith)
number_low Kind.DoubleBits n h = below n (2 ^ 64) h (omega arith)
number_low Kind.Dec32 n h = below n (2 ^ 32) h (omega arith)
number_low Kind.Dec64 n h = below n (2 ^ 64) h (omega arith)
number_low Kind.Char n h = scalar_low n (ltb n 0xd800) refl h
number_low Kind.Timestamp n h = below n (2 ^ 64) h (omega arith)

record NumberRead (k : Kind) (r : Conversion) (x : Datum × List ℕ) (m : ℕ) : Type 0 where
  is : x.0 ≡ number k (read_number r m)
  fit : fits k (read_number r m) ≡ true

number_read : (k : Kind) (w : Width) (r : Conversion) (body y : List ℕ) (m : ℕ) (x : Datum × List ℕ) → number_at k w r body ≡ Some x → Some (m, y) ≡ field_at w body → NumberRead k r x m
unfolding number_at
number_read k w r body y m x e f =
    let a = bind_some (field_at w body) (λ (z : ℕ × List ℕ). cond (fits k (read_number r z.0)) (Some (number k (read_number r z.0), z.1)) None) x e in
    let g = guard_some (fits k (read_number r a.0.0)) (Some (number k (read_number r a.0.0), a.0.1)) x a.2 in
    let same : m ≡ a.0.0 = ap (λ (p : ℕ × List ℕ). p.0) (some_is (m, y) a.0 (f ∙ a.1)) in
    subst (λ (z : ℕ). NumberRead k r x z) (sym same) (record { is = ap (λ (p : Datum × List ℕ). p.0) (sym (some_is (number k (read_number r a.0.0), a.0.1) x g.1)); fit = g.0 })

abbrev low_read : Conversion → ℕ → Option ℕ
low_read r m = cond (ltb (read_number r m) (2 ^ 64)) (Some (read_number r m)) None

pub number_leaf : (k : Kind) (w : Width) (r : Conversion) (body y : List ℕ) (m n : ℕ) (x : Datum × List ℕ) → number_at k w r body ≡ Some x → Some (m, y) ≡ field_at w body → Some n ≡ low_read r m → x.0 ≡ number k n
number_leaf k w r body y m n x e f low =
    let g = guard_some (ltb (read_number r m) (2 ^ 64)) (Some (read_number r m)) n (sym low) in
    (number_read k w r body y m x e f).is ∙ ap (number k) (some_is (read_number r m) n g.1)

pub number_high : (k : Kind) (w : Width) (r : Conversion) (body y : List ℕ) (m : ℕ) (x : Datum × List ℕ) → number_at k w r body ≡ Some x → Some (m, y) ≡ field_at w body → None ≡ low_read r m → ⊥
number_high k w r body y m x e f low =
    let t = lt-ltb (read_number r m) (2 ^ 64) (number_low k (read_number r m) (number_read k w r body y m x e f).fit) in
    let q : None ≡ Some (read_number r m) = low ∙ ap (λ (b : Bool). cond b (Some (read_number r m)) None) t in cc

pub no_number : (k : Kind) (w : Width) (r : Conversion) (body : List ℕ) (x : Datum × List ℕ) → number_at k w r body ≡ Some x → None ≡ field_at w body → ⊥
unfolding number_at
no_number k w r body x e f =
    let a = bind_some (field_at w body) (λ (z : ℕ × List ℕ). cond (fits k (read_number r z.0)) (Some (number k (read_number r z.0), z.1)) None) x e in
    let q : None ≡ Some a.0 = f ∙ a.1 in cc

pub run_leaf_is : (r : Run) (count : ℕ) (os text y : List ℕ) (x : Datum × List ℕ) → run_at r count os ≡ Some x → Some (text, y) ≡ split count os → x.0 ≡ octets r text
unfolding run_at
run_leaf_is r count os text y x e f =
    let a = bind_some (split count os) (λ (z : List ℕ × List ℕ). cond (is_run r z.0) (Some (octets r z.0, z.1)) None) x e in
    let g = guard_some (is_run r a.0.0) (Some (octets r a.0.0, a.0.1)) x a.2 in
    ap (λ (p : Datum × List ℕ). p.0) (sym (some_is (octets r a.0.0, a.0.1) x g.1)) ∙ ap (octets r) (sym (ap (λ (p : List ℕ × List ℕ). p.0) (some_is (text, y) a.0 (f ∙ a.1))))

pub no_run : (r : Run) (count : ℕ) (os : List ℕ) (x : Datum × List ℕ) → run_at r count os ≡ Some x → None ≡ split count os → ⊥
unfolding run_at
no_run r count os x e f =
    let a = bind_some (split count os) (λ (z : List ℕ × List ℕ). cond (is_run r z.0) (Some (octets r z.0, z.1)) None) x e in
    let q : None ≡ Some a.0 = f ∙ a.1 in cc

pub sized_run : (r : Run) (w : Width) (os rest : List ℕ) (count : ℕ) (x : Datum × List ℕ) → octets_at r w os ≡ Some x → Some (count, rest) ≡ field_at w os → run_at r count rest ≡ Some x
unfolding octets_at
sized_run r w os rest count x e f =
    let a = bind_some (field_at w os) (λ (z : ℕ × List ℕ). run_at r z.0 z.1) x e in
    ap (λ (p : ℕ × List ℕ). run_at r p.0 p.1) (some_is (count, rest) a.0 (f ∙ a.1)) ∙ a.2

pub no_size : (r : Run) (w : Width) (os : List ℕ) (x : Datum × List ℕ) → octets_at r w os ≡ Some x → None ≡ field_at w os → ⊥
unfolding octets_at
no_size r w os x e f =
    let a = bind_some (field_at w os) (λ (z : ℕ × List ℕ). run_at r z.0 z.1) x e in
    let q : None ≡ Some a.0 = f ∙ a.1 in cc

-- ---- shapes

abbrev pub Shape : Class → Datum → Type 0
Shape (Class.Number k w r) d = (n : ℕ) × (d ≡ number k n)
Shape (Class.Octets r w) d = (os : List ℕ) × (d ≡ octets r os)
Shape (Class.Sixteen r) d = (os : List ℕ) × (d ≡ octets r os)
Shape Class.EmptyList d = (ds : Data) × (d ≡ list ds)
Shape (Class.List w) d = (ds : Data) × (d ≡ list ds)
Shape (Class.Map w) d = (ds : Data) × (d ≡ map ds)
Shape (Class.Array w) d = (c : ℕ) × (ds : Data) × (d ≡ array c ds)
Shape Class.Described d = (a b : Datum) × (d ≡ described a b)
Shape Class.Unknown d = ⊥

pub first_of : (d : Datum) (os : List ℕ) (x : Datum × List ℕ) → Some (d, os) ≡ Some x → x.0 ≡ d
first_of d os x e = ap (λ (p : Datum × List ℕ). p.0) (sym (some_is (d, os) x e))

number_shape : (k : Kind) (w : Width) (r : Conversion) (os : List ℕ) (x : Datum × List ℕ) → number_at k w r os ≡ Some x → (n : ℕ) × (x.0 ≡ number k n)
unfolding number_at
number_shape k w r os x e =
    let a = bind_some (field_at w os) (λ (z : ℕ × List ℕ). cond (fits k (read_number r z.0)) (Some (number k (read_number r z.0), z.1)) None) x e in
    let g = guard_some (fits k (read_number r a.0.0)) (Some (number k (read_number r a.0.0), a.0.1)) x a.2 in
    (read_number r a.0.0, first_of (number k (read_number r a.0.0)) a.0.1 x g.1)

run_shape : (r : Run) (count : ℕ) (os : List ℕ) (x : Datum × List ℕ) → run_at r count os ≡ Some x → (t : List ℕ) × (x.0 ≡ octets r t)
unfolding run_at
run_shape r count os x e =
    let a = bind_some (split count os) (λ (z : List ℕ × List ℕ). cond (is_run r z.0) (Some (octets r z.0, z.1)) None) x e in
    let g = guard_some (is_run r a.0.0) (Some (octets r a.0.0, a.0.1)) x a.2 in
    (a.0.0, first_of (octets r a.0.0) a.0.1 x g.1)

octets_shape : (r : Run) (w : Width) (os : List ℕ) (x : Datum × List ℕ) → octets_at r w os ≡ Some x → (t : List ℕ) × (x.0 ≡ octets r t)
unfolding octets_at
octets_shape r w os x e =
    let a = bind_some (field_at w os) (λ (z : ℕ × List ℕ). run_at r z.0 z.1) x e in
    run_shape r a.0.0 a.0.1 x a.2

pub record ListRead (part : PartReader) (w : Width) (os : List ℕ) (x : Datum × List ℕ) : Type 0 where
  pub found : (ℕ × List ℕ) × List ℕ
  pub at : compound_at w os ≡ Some found
  pub items : Data
  pub all : all_parts_at (part None) found.0.0 found.0.1 ≡ Some items
  pub is : x.0 ≡ list items

pub list_read : (part : PartReader) (w : Width) (os : List ℕ) (x : Datum × List ℕ) → list_at part w os ≡ Some x → ListRead part w os x
unfolding list_at
list_read part w os x e =
    let a = bind_some (compound_at w os) (λ (f : (ℕ × List ℕ) × List ℕ). all_parts_at (part None) f.0.0 f.0.1 >>= λ vs. Some (list vs, f.1)) x e in
    let b = bind_some (all_parts_at (part None) a.0.0.0 a.0.0.1) (λ (vs : Data). Some (list vs, a.0.1)) x a.2 in
    record { found = a.0; at = a.1; items = b.0; all = b.1; is = first_of (list b.0) a.0.1 x b.2 }

map_shape : (part : PartReader) (w : Width) (os : List ℕ) (x : Datum × List ℕ) → map_at part w os ≡ Some x → (ds : Data) × (x.0 ≡ map ds)
unfolding map_at
map_shape part w os x e =
    let a = bind_some (compound_at w os) (λ (f : (ℕ × List ℕ) × List ℕ). cond (is_even f.0.0) (all_parts_at (part None) f.0.0 f.0.1) None >>= λ vs. Some (map vs, f.1)) x e in
    let b = bind_some (cond (is_even a.0.0.0) (all_parts_at (part None) a.0.0.0 a.0.0.1) None) (λ (vs : Data). Some (map vs, a.0.1)) x a.2 in
    (b.0, first_of (map b.0) a.0.1 x b.2)

content_shape : (part : PartReader) (count : ℕ) (os : List ℕ) (d : Datum) → array_content_at part count os ≡ Some d → (c : ℕ) × (ds : Data) × (d ≡ array c ds)
unfolding array_content_at
content_shape part count [] d e = let g = guard_some (eqb count 0) (Some (array 0x40 none)) d e in (0x40, none, sym (some_is (array 0x40 none) d g.1))
content_shape part count (c ∷ os) d e =
    let b = bind_some (cond (is_element (class_of c) count) (all_parts_at (part (Some c)) count os) None) (λ (vs : Data). Some (array c vs)) d e in
    (c, b.0, sym (some_is (array c b.0) d b.2))

array_shape : (part : PartReader) (w : Width) (os : List ℕ) (x : Datum × List ℕ) → array_at part w os ≡ Some x → (c : ℕ) × (ds : Data) × (x.0 ≡ array c ds)
unfolding array_at
array_shape part w os x e =
    let a = bind_some (compound_at w os) (λ (f : (ℕ × List ℕ) × List ℕ). array_content_at part f.0.0 f.0.1 >>= λ v. Some (v, f.1)) x e in
    let b = bind_some (array_content_at part a.0.0.0 a.0.0.1) (λ (v : Datum). Some (v, a.0.1)) x a.2 in
    let s = content_shape part a.0.0.0 a.0.0.1 b.0 b.1 in
    (s.0, s.1, first_of b.0 a.0.1 x b.2 ∙ s.2)

pub record DescribedRead (part : PartReader) (os : List ℕ) (x : Datum × List ℕ) : Type 0 where
  pub descriptor : Datum × List ℕ
  pub first : part None os ≡ Some descriptor
  pub value : Datum × List ℕ
  pub second : part None descriptor.1 ≡ Some value
  pub is : x.0 ≡ described descriptor.0 value.0

pub described_read : (part : PartReader) (os : List ℕ) (x : Datum × List ℕ) → described_at part os ≡ Some x → DescribedRead part os x
unfolding described_at
described_read part os x e =
    let a = bind_some (part None os) (λ (d : Datum × List ℕ). part None d.1 >>= λ v. Some (described d.0 v.0, v.1)) x e in
    let b = bind_some (part None a.0.1) (λ (v : Datum × List ℕ). Some (described a.0.0 v.0, v.1)) x a.2 in
    record { descriptor = a.0; first = a.1; value = b.0; second = b.1; is = first_of (described a.0.0 b.0.0) b.0.1 x b.2 }

pub shape_of : (part : PartReader) (class : Class) (os : List ℕ) (x : Datum × List ℕ) → body_by part class os ≡ Some x → Shape class x.0
shape_of part (Class.Number k w r) os x e = number_shape k w r os x e
shape_of part (Class.Octets r w) os x e = octets_shape r w os x e
shape_of part (Class.Sixteen r) os x e = run_shape r 16 os x e
shape_of part Class.EmptyList os x e = (none, first_of (list none) os x e)
shape_of part (Class.List w) os x e = let l = list_read part w os x e in (l.items, l.is)
shape_of part (Class.Map w) os x e = map_shape part w os x e
shape_of part (Class.Array w) os x e = array_shape part w os x e
shape_of part Class.Described os x e = let d = described_read part os x e in (d.descriptor.0, d.value.0, d.is)
shape_of part Class.Unknown os x e = absurd cc

-- ---- names

next_and : (a b c d : Bool) → d ≡ (b && c) → (a && d) ≡ ((a && b) && c)
next_and true b c d e = e
next_and false b c d e = refl

both_eq : (x y name : List ℕ) → length x ≤ length name → bytes_eq (x ++ y) name ≡ (bytes_eq x (take (length x) name) && bytes_eq y (drop (length x) name))
both_eq [] y name h = refl
both_eq (a ∷ x) y [] h = absurd (omega arith)
both_eq (a ∷ x) y (b ∷ name) h = next_and (eqb a b) (bytes_eq x (take (length x) name)) (bytes_eq y (drop (length x) name)) (bytes_eq (x ++ y) name) (both_eq x y name (omega arith))

pub text_then : (x y name front back : List ℕ) (r : Bool) → length x ≤ length name → front ≡ take (length x) name → back ≡ drop (length x) name → true ≡ bytes_eq x front → r ≡ bytes_eq y back → r ≡ bytes_eq (x ++ y) name
text_then x y name front back r h f g t e =
    let a : bytes_eq x (take (length x) name) ≡ true = ap (bytes_eq x) (sym f) ∙ sym t in
    e ∙ ap (bytes_eq y) g ∙ ap (λ (b : Bool). b && bytes_eq y (drop (length x) name)) (sym a) ∙ sym (both_eq x y name h)

pub text_else : (x y name front : List ℕ) → length x ≤ length name → front ≡ take (length x) name → false ≡ bytes_eq x front → false ≡ bytes_eq (x ++ y) name
text_else x y name front h f t =
    let a : bytes_eq x (take (length x) name) ≡ false = ap (bytes_eq x) (sym f) ∙ sym t in
    ap (λ (b : Bool). b && bytes_eq y (drop (length x) name)) (sym a) ∙ sym (both_eq x y name h)

pub text_short : (x y name : List ℕ) → length name < length x → false ≡ bytes_eq (x ++ y) name
text_short [] y name h = absurd (omega arith)
text_short (a ∷ x) y [] h = refl
text_short (a ∷ x) y (b ∷ name) h = and_false (eqb a b) (bytes_eq (x ++ y) name) (text_short x y name (omega arith))
  where
    and_false : (a b : Bool) → false ≡ b → false ≡ (a && b)
    and_false true b e = e
    and_false false b e = refl

-- ---- lists

pub not_list : (class : Class) (d : Datum) → Shape class d → (class ≡ Class.EmptyList → ⊥) → ((w : Width) → class ≡ Class.List w → ⊥) → is_list d ≡ false
not_list (Class.Number k w r) d s h g = rw s.1 refl
not_list (Class.Octets r w) d s h g = rw s.1 refl
not_list (Class.Sixteen r) d s h g = rw s.1 refl
not_list Class.EmptyList d s h g = absurd (h refl)
not_list (Class.List w) d s h g = absurd (g w refl)
not_list (Class.Map w) d s h g = rw s.1 refl
not_list (Class.Array w) d s h g = rw s.2 refl
not_list Class.Described d s h g = rw s.2 refl
not_list Class.Unknown d s h g = absurd s

pub empty_items : (n : ℕ) (os : List ℕ) → os ≡ [] → all_parts_at (part_at n None) 0 os ≡ Some none
unfolding all_parts_at parts_at
empty_items n os e = rw e refl

pub list_items : (m : ℕ) (w : Width) (os : List ℕ) (x : Datum × List ℕ) (count : ℕ) (content y : List ℕ) → list_at (part_at m) w os ≡ Some x → Some ((count, content), y) ≡ compound_at w os → (ds : Data) × (x.0 ≡ list ds) × (all_parts_at (part_at m None) count content ≡ Some ds)
list_items m w os x count content y e f =
    let l = list_read (part_at m) w os x e in
    let same = some_is ((count, content), y) l.found (f ∙ l.at) in
    (l.items, l.is, ap (λ (p : (ℕ × List ℕ) × List ℕ). all_parts_at (part_at m None) p.0.0 p.0.1) same ∙ l.all)

pub no_items : (part : PartReader) (w : Width) (os : List ℕ) (x : Datum × List ℕ) → list_at part w os ≡ Some x → None ≡ compound_at w os → ⊥
no_items part w os x e f = let l = list_read part w os x e in let q : None ≡ Some l.found = f ∙ l.at in cc

-- ---- described values

abbrev pair : Datum → List ℕ → Datum × List ℕ
pair d os = (d, os)

described_class : (class : Class) (d a b : Datum) → d ≡ described a b → Shape class d → class ≡ Class.Described
described_class (Class.Number k w r) d a b e s = let q : described a b ≡ number k s.0 = sym e ∙ s.1 in absurd cc
described_class (Class.Octets r w) d a b e s = let q : described a b ≡ octets r s.0 = sym e ∙ s.1 in absurd cc
described_class (Class.Sixteen r) d a b e s = let q : described a b ≡ octets r s.0 = sym e ∙ s.1 in absurd cc
described_class Class.EmptyList d a b e s = let q : described a b ≡ list s.0 = sym e ∙ s.1 in absurd cc
described_class (Class.List w) d a b e s = let q : described a b ≡ list s.0 = sym e ∙ s.1 in absurd cc
described_class (Class.Map w) d a b e s = let q : described a b ≡ map s.0 = sym e ∙ s.1 in absurd cc
described_class (Class.Array w) d a b e s = let q : described a b ≡ array s.0 s.1 = sym e ∙ s.2 in absurd cc
described_class Class.Described d a b e s = refl
described_class Class.Unknown d a b e s = absurd s

pub no_depth_read : (n : ℕ) (os : List ℕ) (x : Datum × List ℕ) → n ≡ 0 → part_at n None os ≡ Some x → ⊥
no_depth_read n [] x k e = nothing n [] x e refl
no_depth_read n (c ∷ os) x k e = let l = level n c (c ∷ os) os (class_of c) x e refl refl in omega (arith, l.deep)

pub record Behind (n : ℕ) (body next : List ℕ) (a b : Datum) : Type 0 where
  pub descriptor : part_at n None body ≡ Some (a, next)
  pub after : List ℕ
  pub value : part_at n None next ≡ Some (b, after)

pub behind : (n m c : ℕ) (os body next : List ℕ) (a b : Datum) (rest : List ℕ) → n - 1 ≡ m → part_at n None os ≡ Some (described a b, rest) → os ≡ c ∷ body → Some next ≡ after (part_at m None body) → Behind m body next a b
behind n m c os body next a b rest k e s f =
    let l = level n c os body (class_of c) (described a b, rest) e s refl in
    let is : class_of c ≡ Class.Described = described_class (class_of c) (described a b) a b refl (shape_of (part_at l.inner) (class_of c) body (described a b, rest) l.reads) in
    let r : described_at (part_at l.inner) body ≡ Some (described a b, rest) = subst (λ (class : Class). body_by (part_at l.inner) class body ≡ Some (described a b, rest)) is l.reads in
    let d = described_read (part_at l.inner) body (described a b, rest) r in
    let i : l.inner ≡ m = omega (arith, l.deep, k) in
    let sa : d.descriptor.0 ≡ a = same_first a b d.descriptor.0 d.value.0 d.is in
    let sb : d.value.0 ≡ b = same_second a b d.descriptor.0 d.value.0 d.is in
    let x = from_after (part_at m None body) next f in
    let first : part_at m None body ≡ Some d.descriptor = subst (λ (j : ℕ). part_at j None body ≡ Some d.descriptor) i d.first in
    let second : part_at m None d.descriptor.1 ≡ Some d.value = subst (λ (j : ℕ). part_at j None d.descriptor.1 ≡ Some d.value) i d.second in
    let at : d.descriptor.1 ≡ next = ap (λ (p : Datum × List ℕ). p.1) (some_is d.descriptor x.0 (sym first ∙ x.1)) ∙ x.2 in
    record {
      descriptor = first ∙ ap (λ (p : Datum × List ℕ). Some p) (both d.descriptor.0 a d.descriptor.1 next sa at);
      after = d.value.1;
      value = ap (part_at m None) (sym at) ∙ second ∙ ap (λ (v : Datum). Some (v, d.value.1)) sb;
    }
  where
    same_first : (a b c d : Datum) → described a b ≡ described c d → c ≡ a
    same_first a b c d e = cc

    same_second : (a b c d : Datum) → described a b ≡ described c d → d ≡ b
    same_second a b c d e = cc

    both : (a b : Datum) (x y : List ℕ) → a ≡ b → x ≡ y → pair a x ≡ pair b y
    both a b x y e f = rw (e, f) refl

pub unread : (n m c : ℕ) (os body : List ℕ) (a b : Datum) (rest : List ℕ) → n - 1 ≡ m → part_at n None os ≡ Some (described a b, rest) → os ≡ c ∷ body → None ≡ after (part_at m None body) → ⊥
unread n m c os body a b rest k e s f =
    let l = level n c os body (class_of c) (described a b, rest) e s refl in
    let is : class_of c ≡ Class.Described = described_class (class_of c) (described a b) a b refl (shape_of (part_at l.inner) (class_of c) body (described a b, rest) l.reads) in
    let r : described_at (part_at l.inner) body ≡ Some (described a b, rest) = subst (λ (class : Class). body_by (part_at l.inner) class body ≡ Some (described a b, rest)) is l.reads in
    let d = described_read (part_at l.inner) body (described a b, rest) r in
    let i : l.inner ≡ m = omega (arith, l.deep, k) in
    let first : part_at m None body ≡ Some d.descriptor = subst (λ (j : ℕ). part_at j None body ≡ Some d.descriptor) i d.first in
    let q : None ≡ Some d.descriptor.1 = f ∙ ap after first in cc

pub inner_part : (n m count : ℕ) (content : List ℕ) (ds : Data) → n ≡ suc m → all_parts_at (part_at m None) count content ≡ Some ds → all_parts_at (part_at (n - 1) None) count content ≡ Some ds
inner_part n m count content ds k e = let i : n - 1 ≡ m = omega arith in ap (λ (j : ℕ). all_parts_at (part_at j None) count content) i ∙ e
