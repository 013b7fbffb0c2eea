-- The two laws: what is read is spelled so, and what is spelled so is read.
use Rattle.std.proofs.Common.{◌≡◌, ℕ, zero, suc, ◌-◌, ◌≤◌, cond, eqb, List, [], ◌∷◌, ◌++◌, length, take, Option, Some, None, refl, sym, ap, subst, ◌∙◌, append_assoc, arith}
use Rattle.std.specs.Prelude.{IsTrue}
use Rattle.std.proofs.lemmas.Bool.{eqb-true}
use Rattle.std.proofs.lemmas.Option.{some_pair_parts}
use Rattle.std.proofs.lemmas.List.{append-nil, nil_from_length, length-append, take_at}
use Rattle.amqp_types.specs.declared.class.Class.{Class}
use Rattle.amqp_types.specs.declared.class.Kind.{Kind}
use Rattle.amqp_types.specs.declared.class.Run.{Run}
use Rattle.amqp_types.specs.declared.class.Conversion.{Conversion}
use Rattle.amqp_types.specs.declared.class.Width.{Width}
use Rattle.amqp_types.specs.Codes.{class_of}
use Rattle.amqp_types.specs.Datum.{Datum, number, octets, list, map, array, described, Data, none, item, count_of, depth_of, greatest_depth_of}
use Rattle.amqp_types.specs.Grammar.{number_of, read_number, fits, is_run, is_even, is_element, IsNumberBody, IsOctetsBody, IsListBody, IsMapBody, IsArrayContent, IsArrayBody, IsDescribedBody, IsPart, IsBody, AreParts, SpellsWithin, Spells}
use Rattle.amqp_types.specs.Reading.{◌>>=◌, split, field_at, compound_at, number_at, run_at, octets_at, parts_at, all_parts_at, list_at, map_at, array_content_at, array_at, described_at, body_by, body_at, part_at, PartReader}
use Rattle.amqp_types.proofs.Compounds.{bind_some, guard_some, some_is, split_takes, split_again, field_takes, field_again, compound_takes, compound_again}

-- ---- what is spelled so is read

number_again : (k : Kind) (n : ℕ) (class : Class) (part : PartReader) (b rest : List ℕ) → IsNumberBody class k n b → body_by part class (b ++ rest) ≡ Some (number k n, rest)
unfolding number_at
number_again k n (Class.Number k' w r) part b rest h = rw (field_again w (number_of b) b rest (h.1, refl), h.2, h.0, h.3) refl
number_again k n _ part b rest h = absurd h

run_again : (r : Run) (n : ℕ) (text rest : List ℕ) → IsTrue (is_run r text) → length text ≡ n → run_at r n (text ++ rest) ≡ Some (octets r text, rest)
unfolding run_at
run_again r n text rest ok len = rw (split_again n text rest len, ok) refl

octets_again : (r : Run) (text : List ℕ) (class : Class) (part : PartReader) (b rest : List ℕ) → IsOctetsBody class r text b → body_by part class (b ++ rest) ≡ Some (octets r text, rest)
unfolding octets_at
octets_again r text (Class.Octets r' w) part b rest h =
    let regrouped : b ++ rest ≡ h.2 ++ (text ++ rest) = ap (λ (t : List ℕ). t ++ rest) h.4 ∙ append_assoc h.2 text rest in
    rw (regrouped, field_again w (length text) h.2 (text ++ rest) h.3, h.0) (run_again r (length text) text rest h.1 refl)
octets_again r text (Class.Sixteen r') part b rest h = rw (h.3, h.0) (run_again r 16 text rest h.1 h.2)
octets_again r text _ part b rest h = absurd h

-- the parts are read in front of whatever follows
abbrev PartsRead : PartReader → Option ℕ → Data → (List ℕ → Type 0) → Type 0
PartsRead part how vs P = (x rest : List ℕ) → P x → parts_at (part how) (count_of vs) (x ++ rest) ≡ Some (vs, rest)

all_again : (part : PartReader) (how : Option ℕ) (vs : Data) (P : List ℕ → Type 0) → PartsRead part how vs P → (x : List ℕ) → P x → all_parts_at (part how) (count_of vs) x ≡ Some vs
unfolding all_parts_at
all_again part how vs P reads x h =
    let e : parts_at (part how) (count_of vs) x ≡ Some (vs, []) = ap (parts_at (part how) (count_of vs)) (sym (append-nil x)) ∙ reads x [] h in
    rw e refl

none_from_count : (vs : Data) → count_of vs ≡ 0 → vs ≡ none
none_from_count none h = refl
none_from_count (item v vs) h = absurd cc

list_again : (vs : Data) (P : List ℕ → Type 0) (part : PartReader) → PartsRead part None vs P → (class : Class) (b rest : List ℕ) → IsListBody class (count_of vs) P b → body_by part class (b ++ rest) ≡ Some (list vs, rest)
unfolding list_at
list_again vs P part reads Class.EmptyList b rest h = rw (h.1, none_from_count vs h.0) refl
list_again vs P part reads (Class.List w) b rest h = rw (compound_again w (count_of vs) h.0 b rest h.2, all_again part None vs P reads h.0 h.1) refl
list_again vs P part reads _ b rest h = absurd h

map_again : (vs : Data) (P : List ℕ → Type 0) (part : PartReader) → PartsRead part None vs P → (class : Class) (b rest : List ℕ) → IsMapBody class (count_of vs) P b → body_by part class (b ++ rest) ≡ Some (map vs, rest)
unfolding map_at
map_again vs P part reads (Class.Map w) b rest h = rw (compound_again w (count_of vs) h.1 b rest h.3, h.0, all_again part None vs P reads h.1 h.2) refl
map_again vs P part reads _ b rest h = absurd h

content_again : (code : ℕ) (vs : Data) (P : List ℕ → Type 0) (part : PartReader) → PartsRead part (Some code) vs P → (x : List ℕ) → IsArrayContent code (count_of vs) P x → array_content_at part (count_of vs) x ≡ Some (array code vs)
unfolding array_content_at
content_again code vs P part reads [] h = rw (h.0, h.1, none_from_count vs h.0) refl
content_again code vs P part reads (c ∷ x) h = rw (h.0, h.1, all_again part (Some code) vs P reads x h.2) refl

array_again : (code : ℕ) (vs : Data) (P : List ℕ → Type 0) (part : PartReader) → PartsRead part (Some code) vs P → (class : Class) (b rest : List ℕ) → IsArrayBody class code (count_of vs) P b → body_by part class (b ++ rest) ≡ Some (array code vs, rest)
unfolding array_at
array_again code vs P part reads (Class.Array w) b rest h = rw (compound_again w (count_of vs) h.0 b rest h.2, content_again code vs P part reads h.0 h.1) refl
array_again code vs P part reads _ b rest h = absurd h

abbrev PartRead : PartReader → Option ℕ → Datum → (List ℕ → Type 0) → Type 0
PartRead part how v P = (x rest : List ℕ) → P x → part how (x ++ rest) ≡ Some (v, rest)

described_again : (d v : Datum) (P Q : List ℕ → Type 0) (part : PartReader) → PartRead part None d P → PartRead part None v Q → (class : Class) (b rest : List ℕ) → IsDescribedBody class P Q b → body_by part class (b ++ rest) ≡ Some (described d v, rest)
unfolding described_at
described_again d v P Q part reads_d reads_v Class.Described b rest h =
    let regrouped : b ++ rest ≡ h.0 ++ (h.1 ++ rest) = ap (λ (t : List ℕ). t ++ rest) h.4 ∙ append_assoc h.0 h.1 rest in
    rw (regrouped, reads_d h.0 (h.1 ++ rest) h.2, reads_v h.1 rest h.3) refl
described_again d v P Q part reads_d reads_v _ b rest h = absurd h

abbrev BodyRead : ℕ → Datum → Type 0
BodyRead n v = (c : ℕ) (b rest : List ℕ) → IsBody v c b → body_at n c (b ++ rest) ≡ Some (v, rest)

part_again : (n : ℕ) (v : Datum) → BodyRead n v → (how : Option ℕ) → PartRead (part_at n) how v (IsPart how (IsBody v))
part_again n v reads None [] rest h = absurd h
part_again n v reads None (c ∷ b) rest h = reads c b rest h
part_again n v reads (Some c) b rest h = reads c b rest h

mutual
  unfolding body_at parts_at

  body_again : (v : Datum) (n : ℕ) → depth_of v ≤ n → BodyRead n v
  body_again (number k m) zero d c b rest h = absurd (omega arith)
  body_again (number k m) (suc n) d c b rest h = number_again k m (class_of c) (part_at n) b rest h
  body_again (octets r text) zero d c b rest h = absurd (omega arith)
  body_again (octets r text) (suc n) d c b rest h = octets_again r text (class_of c) (part_at n) b rest h
  body_again (list vs) zero d c b rest h = absurd (omega arith)
  body_again (list vs) (suc n) d c b rest h = list_again vs (AreParts vs None) (part_at n) (parts_again vs n None (omega arith)) (class_of c) b rest h
  body_again (map vs) zero d c b rest h = absurd (omega arith)
  body_again (map vs) (suc n) d c b rest h = map_again vs (AreParts vs None) (part_at n) (parts_again vs n None (omega arith)) (class_of c) b rest h
  body_again (array code vs) zero d c b rest h = absurd (omega arith)
  body_again (array code vs) (suc n) d c b rest h = array_again code vs (AreParts vs (Some code)) (part_at n) (parts_again vs n (Some code) (omega arith)) (class_of c) b rest h
  body_again (described w v) zero d c b rest h = absurd (omega arith)
  body_again (described w v) (suc n) d c b rest h =
      described_again w v (IsPart None (IsBody w)) (IsPart None (IsBody v)) (part_at n) (part_again n w (body_again w n (omega arith)) None) (part_again n v (body_again v n (omega arith)) None) (class_of c) b rest h

  parts_again : (vs : Data) (n : ℕ) (how : Option ℕ) → greatest_depth_of vs ≤ n → PartsRead (part_at n) how vs (AreParts vs how)
  parts_again none n how d x rest h = rw h refl
  parts_again (item v vs) n how d x rest h =
      let regrouped : x ++ rest ≡ h.0 ++ (h.1 ++ rest) = ap (λ (t : List ℕ). t ++ rest) h.4 ∙ append_assoc h.0 h.1 rest in
      rw (regrouped, part_again n v (body_again v n (omega arith)) how h.0 (h.1 ++ rest) h.2, parts_again vs n how (omega arith) h.1 rest h.3) refl

-- ---- what is read is spelled so

record TakesBody (n c : ℕ) (v : Datum) (os rest : List ℕ) : Type 0 where
  text : List ℕ
  body : IsBody v c text
  parts : os ≡ text ++ rest
  depth : depth_of v ≤ n

record TakesPart (n : ℕ) (how : Option ℕ) (v : Datum) (os rest : List ℕ) : Type 0 where
  text : List ℕ
  part : IsPart how (IsBody v) text
  parts : os ≡ text ++ rest
  depth : depth_of v ≤ n

record TakesParts (n : ℕ) (how : Option ℕ) (count : ℕ) (vs : Data) (os rest : List ℕ) : Type 0 where
  text : List ℕ
  are : AreParts vs how text
  parts : os ≡ text ++ rest
  depth : greatest_depth_of vs ≤ n
  counted : count_of vs ≡ count

abbrev BodySound : ℕ → Type 0
BodySound n = (c : ℕ) (os : List ℕ) (x : Datum × List ℕ) → body_at n c os ≡ Some x → TakesBody n c x.0 os x.1

part_takes : (n : ℕ) → BodySound n → (how : Option ℕ) (os : List ℕ) (x : Datum × List ℕ) → part_at n how os ≡ Some x → TakesPart n how x.0 os x.1
part_takes n sound None [] x e = absurd cc
part_takes n sound None (c ∷ os) x e =
    let t = sound c os x e in
    record { text = c ∷ t.text; part = t.body; parts = ap (λ (y : List ℕ). c ∷ y) t.parts; depth = t.depth }
part_takes n sound (Some c) os x e =
    let t = sound c os x e in
    record { text = t.text; part = t.body; parts = t.parts; depth = t.depth }

parts_take : (n : ℕ) → BodySound n → (how : Option ℕ) (count : ℕ) (os : List ℕ) (x : Data × List ℕ) → parts_at (part_at n how) count os ≡ Some x → TakesParts n how count x.0 os x.1
unfolding parts_at
parts_take n sound how zero os x e =
    subst (λ (y : Data × List ℕ). TakesParts n how 0 y.0 os y.1) (some_is (none, os) x e) (record { text = []; are = refl; parts = refl; depth = omega arith; counted = refl })
parts_take n sound how (suc count) os x e =
    let a = bind_some (part_at n how os) (λ v. parts_at (part_at n how) count v.1 >>= λ vs. Some (item v.0 vs.0, vs.1)) x e in
    let b = bind_some (parts_at (part_at n how) count a.0.1) (λ vs. Some (item a.0.0 vs.0, vs.1)) x a.2 in
    let first = part_takes n sound how os a.0 a.1 in
    let others = parts_take n sound how count a.0.1 b.0 b.1 in
    subst (λ (y : Data × List ℕ). TakesParts n how (suc count) y.0 os y.1) (some_is (item a.0.0 b.0.0, b.0.1) x b.2)
    (record {
      text = first.text ++ others.text;
      are = (first.text, others.text, first.part, others.are, refl);
      parts = first.parts ∙ ap (λ (y : List ℕ). first.text ++ y) others.parts ∙ sym (append_assoc first.text others.text b.0.1);
      depth = omega (arith, first.depth, others.depth);
      counted = ap suc others.counted;
    })

record IsAllParts (n : ℕ) (how : Option ℕ) (count : ℕ) (vs : Data) (os : List ℕ) : Type 0 where
  are : AreParts vs how os
  depth : greatest_depth_of vs ≤ n
  counted : count_of vs ≡ count

all_take : (n : ℕ) → BodySound n → (how : Option ℕ) (count : ℕ) (os : List ℕ) (vs : Data) → all_parts_at (part_at n how) count os ≡ Some vs → IsAllParts n how count vs os
unfolding all_parts_at
all_take n sound how count os vs e =
    let a = bind_some (parts_at (part_at n how) count os) (λ x. cond (eqb (length x.1) 0) (Some x.0) None) vs e in
    let g = guard_some (eqb (length a.0.1) 0) (Some a.0.0) vs a.2 in
    let t = parts_take n sound how count os a.0 a.1 in
    let nothing : a.0.1 ≡ [] = nil_from_length a.0.1 (eqb-true _ _ g.0) in
    let whole : os ≡ t.text = t.parts ∙ ap (λ (y : List ℕ). t.text ++ y) nothing ∙ append-nil t.text in
    subst (λ (ws : Data). IsAllParts n how count ws os) (some_is a.0.0 vs g.1) (record { are = subst (λ (y : List ℕ). AreParts a.0.0 how y) (sym whole) t.are; depth = t.depth; counted = t.counted })

number_takes : (n c : ℕ) (k : Kind) (w : Width) (r : Conversion) → class_of c ≡ Class.Number k w r → (os : List ℕ) (x : Datum × List ℕ) → number_at k w r os ≡ Some x → TakesBody (suc n) c x.0 os x.1
unfolding number_at
number_takes n c k w r is os x e =
    let a = bind_some (field_at w os) (λ m. cond (fits k (read_number r m.0)) (Some (number k (read_number r m.0), m.1)) None) x e in
    let g = guard_some (fits k (read_number r a.0.0)) (Some (number k (read_number r a.0.0), a.0.1)) x a.2 in
    let f = field_takes w os a.0 a.1 in
    subst (λ (y : Datum × List ℕ). TakesBody (suc n) c y.0 os y.1) (some_is (number k (read_number r a.0.0), a.0.1) x g.1)
    (record { text = f.head; body = rw is (refl, f.field_is.0, ap (read_number r) f.field_is.1, g.0); parts = f.parts; depth = omega arith })

record TakesRun (r : Run) (count : ℕ) (v : Datum) (os rest : List ℕ) : Type 0 where
  text : List ℕ
  is : v ≡ octets r text
  ok : IsTrue (is_run r text)
  len : length text ≡ count
  parts : os ≡ text ++ rest

run_takes : (r : Run) (count : ℕ) (os : List ℕ) (x : Datum × List ℕ) → run_at r count os ≡ Some x → TakesRun r count x.0 os x.1
unfolding run_at
run_takes r count os x e =
    let a = bind_some (split count os) (λ y. cond (is_run r y.0) (Some (octets r y.0, y.1)) None) x e in
    let g = guard_some (is_run r a.0.0) (Some (octets r a.0.0, a.0.1)) x a.2 in
    let s = split_takes count os a.0 a.1 in
    subst (λ (y : Datum × List ℕ). TakesRun r count y.0 os y.1) (some_is (octets r a.0.0, a.0.1) x g.1)
    (record { text = a.0.0; is = refl; ok = g.0; len = s.1; parts = s.0 })

-- a value in place of an equal one
moved : (n c : ℕ) (v w : Datum) (os rest : List ℕ) → v ≡ w → TakesBody n c w os rest → TakesBody n c v os rest
moved n c v w os rest e t = subst (λ (u : Datum). TakesBody n c u os rest) (sym e) t

octets_take : (n c : ℕ) (r : Run) (w : Width) → class_of c ≡ Class.Octets r w → (os : List ℕ) (x : Datum × List ℕ) → octets_at r w os ≡ Some x → TakesBody (suc n) c x.0 os x.1
unfolding octets_at
octets_take n c r w is os x e =
    let a = bind_some (field_at w os) (λ m. run_at r m.0 m.1) x e in
    let f = field_takes w os a.0 a.1 in
    let t = run_takes r a.0.0 a.0.1 x a.2 in
    moved (suc n) c x.0 (octets r t.text) os x.1 t.is
    (record { text = f.head ++ t.text; body = rw is (refl, t.ok, f.head, (f.field_is.0, f.field_is.1 ∙ sym t.len), refl); parts = f.parts ∙ ap (λ (y : List ℕ). f.head ++ y) t.parts ∙ sym (append_assoc f.head t.text x.1); depth = omega arith })

sixteen_takes : (n c : ℕ) (r : Run) → class_of c ≡ Class.Sixteen r → (os : List ℕ) (x : Datum × List ℕ) → run_at r 16 os ≡ Some x → TakesBody (suc n) c x.0 os x.1
sixteen_takes n c r is os x e =
    let t = run_takes r 16 os x e in
    moved (suc n) c x.0 (octets r t.text) os x.1 t.is (record { text = t.text; body = rw is (refl, t.ok, t.len, refl); parts = t.parts; depth = omega arith })

list_takes : (n c : ℕ) → BodySound n → (w : Width) → class_of c ≡ Class.List w → (os : List ℕ) (x : Datum × List ℕ) → list_at (part_at n) w os ≡ Some x → TakesBody (suc n) c x.0 os x.1
unfolding list_at
list_takes n c sound w is os x e =
    let a = bind_some (compound_at w os) (λ f. all_parts_at (part_at n None) f.0.0 f.0.1 >>= λ vs. Some (list vs, f.1)) x e in
    let b = bind_some (all_parts_at (part_at n None) a.0.0.0 a.0.0.1) (λ vs. Some (list vs, a.0.1)) x a.2 in
    let f = compound_takes w os a.0 a.1 in
    let t = all_take n sound None a.0.0.0 a.0.0.1 b.0 b.1 in
    subst (λ (y : Datum × List ℕ). TakesBody (suc n) c y.0 os y.1) (some_is (list b.0, a.0.1) x b.2)
    (record { text = f.body; body = rw (is, t.counted) (a.0.0.1, t.are, f.compound); parts = f.parts; depth = omega (arith, t.depth) })

map_takes : (n c : ℕ) → BodySound n → (w : Width) → class_of c ≡ Class.Map w → (os : List ℕ) (x : Datum × List ℕ) → map_at (part_at n) w os ≡ Some x → TakesBody (suc n) c x.0 os x.1
unfolding map_at
map_takes n c sound w is os x e =
    let a = bind_some (compound_at w os) (λ f. cond (is_even f.0.0) (all_parts_at (part_at n None) f.0.0 f.0.1) None >>= λ vs. Some (map vs, f.1)) x e in
    let b = bind_some (cond (is_even a.0.0.0) (all_parts_at (part_at n None) a.0.0.0 a.0.0.1) None) (λ vs. Some (map vs, a.0.1)) x a.2 in
    let g = guard_some (is_even a.0.0.0) (all_parts_at (part_at n None) a.0.0.0 a.0.0.1) b.0 b.1 in
    let f = compound_takes w os a.0 a.1 in
    let t = all_take n sound None a.0.0.0 a.0.0.1 b.0 g.1 in
    subst (λ (y : Datum × List ℕ). TakesBody (suc n) c y.0 os y.1) (some_is (map b.0, a.0.1) x b.2)
    (record { text = f.body; body = rw (is, t.counted) (g.0, a.0.0.1, t.are, f.compound); parts = f.parts; depth = omega (arith, t.depth) })

record IsArrayOf (n : ℕ) (count : ℕ) (v : Datum) (os : List ℕ) : Type 0 where
  code : ℕ
  items : Data
  is : v ≡ array code items
  content : IsArrayContent code (count_of items) (AreParts items (Some code)) os
  depth : greatest_depth_of items ≤ n
  counted : count_of items ≡ count

content_takes : (n : ℕ) → BodySound n → (count : ℕ) (os : List ℕ) (v : Datum) → array_content_at (part_at n) count os ≡ Some v → IsArrayOf n count v os
unfolding array_content_at
content_takes n sound count [] v e =
    let g = guard_some (eqb count 0) (Some (array 0x40 none)) v e in
    subst (λ (u : Datum). IsArrayOf n count u []) (some_is (array 0x40 none) v g.1) (record { code = 0x40; items = none; is = refl; content = (refl, refl); depth = omega arith; counted = sym (eqb-true _ _ g.0) })
content_takes n sound count (c ∷ os) v e =
    let b = bind_some (cond (is_element (class_of c) count) (all_parts_at (part_at n (Some c)) count os) None) (λ vs. Some (array c vs)) v e in
    let g = guard_some (is_element (class_of c) count) (all_parts_at (part_at n (Some c)) count os) b.0 b.1 in
    let t = all_take n sound (Some c) count os b.0 g.1 in
    subst (λ (u : Datum). IsArrayOf n count u (c ∷ os)) (some_is (array c b.0) v b.2)
    (record { code = c; items = b.0; is = refl; content = (refl, rw t.counted g.0, t.are); depth = t.depth; counted = t.counted })

array_takes : (n c : ℕ) → BodySound n → (w : Width) → class_of c ≡ Class.Array w → (os : List ℕ) (x : Datum × List ℕ) → array_at (part_at n) w os ≡ Some x → TakesBody (suc n) c x.0 os x.1
unfolding array_at
array_takes n c sound w is os x e =
    let a = bind_some (compound_at w os) (λ f. array_content_at (part_at n) f.0.0 f.0.1 >>= λ v. Some (v, f.1)) x e in
    let b = bind_some (array_content_at (part_at n) a.0.0.0 a.0.0.1) (λ v. Some (v, a.0.1)) x a.2 in
    let f = compound_takes w os a.0 a.1 in
    let t = content_takes n sound a.0.0.0 a.0.0.1 b.0 b.1 in
    subst (λ (y : Datum × List ℕ). TakesBody (suc n) c y.0 os y.1) (some_is (b.0, a.0.1) x b.2)
    (moved (suc n) c b.0 (array t.code t.items) os a.0.1 t.is
    (record { text = f.body; body = rw is (a.0.0.1, t.content, rw t.counted f.compound); parts = f.parts; depth = omega (arith, t.depth) }))

described_takes : (n c : ℕ) → BodySound n → class_of c ≡ Class.Described → (os : List ℕ) (x : Datum × List ℕ) → described_at (part_at n) os ≡ Some x → TakesBody (suc n) c x.0 os x.1
unfolding described_at
described_takes n c sound is os x e =
    let a = bind_some (part_at n None os) (λ d. part_at n None d.1 >>= λ v. Some (described d.0 v.0, v.1)) x e in
    let b = bind_some (part_at n None a.0.1) (λ v. Some (described a.0.0 v.0, v.1)) x a.2 in
    let first = part_takes n sound None os a.0 a.1 in
    let second = part_takes n sound None a.0.1 b.0 b.1 in
    subst (λ (y : Datum × List ℕ). TakesBody (suc n) c y.0 os y.1) (some_is (described a.0.0 b.0.0, b.0.1) x b.2)
    (record {
      text = first.text ++ second.text;
      body = rw is (first.text, second.text, first.part, second.part, refl);
      parts = first.parts ∙ ap (λ (y : List ℕ). first.text ++ y) second.parts ∙ sym (append_assoc first.text second.text b.0.1);
      depth = omega (arith, first.depth, second.depth);
    })

class_takes : (n c : ℕ) → BodySound n → (class : Class) → class_of c ≡ class → (os : List ℕ) (x : Datum × List ℕ) → body_by (part_at n) class os ≡ Some x → TakesBody (suc n) c x.0 os x.1
class_takes n c sound (Class.Number k w r) is os x e = number_takes n c k w r is os x e
class_takes n c sound (Class.Octets r w) is os x e = octets_take n c r w is os x e
class_takes n c sound (Class.Sixteen r) is os x e = sixteen_takes n c r is os x e
class_takes n c sound Class.EmptyList is os x e =
    subst (λ (y : Datum × List ℕ). TakesBody (suc n) c y.0 os y.1) (some_is (list none, os) x e) (record { text = []; body = rw is (refl, refl); parts = refl; depth = omega arith })
class_takes n c sound (Class.List w) is os x e = list_takes n c sound w is os x e
class_takes n c sound (Class.Map w) is os x e = map_takes n c sound w is os x e
class_takes n c sound (Class.Array w) is os x e = array_takes n c sound w is os x e
class_takes n c sound Class.Described is os x e = described_takes n c sound is os x e
class_takes n c sound Class.Unknown is os x e = absurd cc

body_takes : (n : ℕ) → BodySound n
unfolding body_at
body_takes zero c os x e = absurd cc
body_takes (suc n) c os x e = class_takes n c (body_takes n) (class_of c) refl os x e

-- ---- the laws of values

pub spelled_is_read : (n : ℕ) (v : Datum) (x rest : List ℕ) → SpellsWithin n v x → part_at n None (x ++ rest) ≡ Some (v, rest)
spelled_is_read n v x rest h = part_again n v (body_again v n h.1) None x rest h.0

abbrev read : Datum → List ℕ → Option (Datum × List ℕ)
read v os = Some (v, os)

same_read : (v w : Datum) (a b : List ℕ) → read v a ≡ read w b → (v ≡ w) × (a ≡ b)
same_read v w a b e = some_pair_parts v w a b e

pub read_is_spelled : (n : ℕ) (os : List ℕ) (v : Datum) (rest : List ℕ) → part_at n None os ≡ Some (v, rest) → (text : List ℕ) × SpellsWithin n v text × (os ≡ text ++ rest)
read_is_spelled n os v rest e = let t = part_takes n (body_takes n) None os (v, rest) e in (t.text, (t.part, t.depth), t.parts)

pub rest_is_short : (n : ℕ) (os : List ℕ) (v : Datum) (rest : List ℕ) → part_at n None os ≡ Some (v, rest) → length rest ≤ length os
rest_is_short n os v rest e = let t = read_is_spelled n os v rest e in omega (arith, ap length t.2, length-append t.0 rest)

-- what follows a value, and how long its spelling is
pub spelling_taken : (n : ℕ) (os : List ℕ) (v : Datum) (rest : List ℕ) → part_at n None os ≡ Some (v, rest) → SpellsWithin n v (take (length os - length rest) os)
spelling_taken n os v rest e =
    let t = read_is_spelled n os v rest e in
    let len : length t.0 ≡ length os - length rest = omega (arith, ap length t.2, length-append t.0 rest) in
    let k : take (length os - length rest) os ≡ t.0 = ap (take (length os - length rest)) t.2 ∙ take_at t.0 rest (length os - length rest) len in
    subst (λ (x : List ℕ). SpellsWithin n v x) (sym k) t.1

pub only_reading : (n : ℕ) (os : List ℕ) (v : Datum) (rest : List ℕ) → part_at n None os ≡ Some (v, rest) → (w : Datum) (x after : List ℕ) → SpellsWithin n w x → os ≡ x ++ after → (v ≡ w) × (length os - length rest ≡ length x)
only_reading n os v rest e w x after h parts =
    let s = same_read v w rest after (sym e ∙ ap (part_at n None) parts ∙ spelled_is_read n w x after h) in
    (s.0, omega (arith, ap length parts, length-append x after, ap length s.1))

pub nothing_read : (n : ℕ) (os : List ℕ) → part_at n None os ≡ None → (w : Datum) (x after : List ℕ) → SpellsWithin n w x → os ≡ x ++ after → ⊥
nothing_read n os e w x after h parts = let k : read w after ≡ None = sym (spelled_is_read n w x after h) ∙ ap (part_at n None) (sym parts) ∙ e in cc

append_same : (a b x : List ℕ) → a ++ x ≡ b ++ x → a ≡ b
append_same a b x e =
    let len : length a ≡ length b = omega (arith, ap length e, length-append a x, length-append b x) in
    sym (take_at a x (length a) refl) ∙ ap (take (length a)) e ∙ take_at b x (length a) (sym len)

pub one_spelling : (v w : Datum) (a b x y : List ℕ) → Spells v a → Spells w b → a ++ x ≡ b ++ y → (v ≡ w) × (a ≡ b)
one_spelling v w a b x y h k e =
    let s = same_read v w x y (sym (spelled_is_read 32 v a x h) ∙ ap (part_at 32 None) e ∙ spelled_is_read 32 w b y k) in
    (s.0, append_same a b x (e ∙ ap (λ (t : List ℕ). b ++ t) (sym s.1)))
