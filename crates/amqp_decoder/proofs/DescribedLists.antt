-- A described list is a descriptor, a list's head and the list's items.
use Rattle.std.proofs.Common.{◌≡◌, ℕ, suc, ◌+◌, ◌-◌, ◌≤◌, ◌||◌, ◌↔◌, inl, inr, Bool, true, false, eqb, List, [], ◌∷◌, ◌++◌, length, take, drop, Option, Some, None, refl, sym, ap, subst, ◌∙◌, arith, append_assoc}
use Rattle.std.specs.Prelude.{IsTrue}
use Rattle.std.proofs.lemmas.Bool.{eqb-true}
use Rattle.std.proofs.lemmas.List.{nil_from_length, length-append, length-take-le, take_all, drop-drop, take-append-drop}
use Rattle.std.proofs.Math.Seq.{take-add}
use Rattle.std.proofs.lemmas.List.{drop-take, drop_all}
use Rattle.std.proofs.lemmas.Option.{some_pair_parts}
use Rattle.std.proofs.Math.ListN.{length-drop}
use Rattle.amqp_types.specs.declared.class.Class.{Class}
use Rattle.amqp_types.specs.declared.class.Kind.TheVariants as Kind
use Rattle.amqp_types.specs.declared.class.Run.TheVariants as Run
use Rattle.amqp_types.specs.declared.class.Width.{Width}
use Rattle.amqp_types.specs.declared.heads.Descriptor.{Descriptor}
use Rattle.amqp_types.specs.declared.heads.Descriptor.TheVariants as descriptor
use Rattle.amqp_types.specs.Codes.{class_of, table}
use Rattle.amqp_types.specs.Datum.{Datum, number, octets, list, map, array, described, Data, none, item, count_of, depth_of, greatest_depth_of}
use Rattle.amqp_types.specs.Grammar.{AreParts, IsPart, IsBody, IsCompound, IsListBody, IsDescribedBody, IsListWith, SpellsWithin, Spells}
use Rattle.amqp_types.specs.Heads.{IsListHead, HasNoList, datum_of}
use Rattle.amqp_types.specs.Heads.{IsDescriptor as IsDescriptorFront}
use Rattle.amqp_types.specs.Reading.{compound_at}
use Rattle.amqp_types.proofs.Compounds.{compound_again}
use Rattle.amqp_types.proofs.Fronts.{is_code, class_listed}
use Rattle.amqp_types.proofs.ListHeads.{head_of_list, described_from_parts}
use Rattle.amqp_performatives.specs.Part.{Part, Fields, field, composite, FitInOrder, IsDescriptor}
use Rattle.amqp_decoder.specs.Reading.{AreFields, Takes, Misses}
use Rattle.amqp_performatives.specs.Fair.{names_state}
use Rattle.amqp_decoder.specs.Opening.{DescribedBy, NoStateNamed, FindsItems, NoItems, SpellsPart, Opens, NotOpened}
use Rattle.amqp_decoder.proofs.FirstField.{same_front, passes, pass_found, pass_only, front_of}

-- ---- a list's head

abbrev Head : Type 0
Head = Option ((ℕ × List ℕ) × List ℕ)

abbrev headed : ℕ → List ℕ → List ℕ → Head
headed n content rest = Some ((n, content), rest)

abbrev head_at : Class → List ℕ → Head
head_at Class.EmptyList os = headed 0 [] os
head_at (Class.List w) os = compound_at w os
head_at _ os = None

abbrev code_head : List ℕ → Head
code_head [] = None
code_head (c ∷ os) = head_at (class_of c) os

-- what is left of the content where the octets behind the code are none, and where there are some
record AreItems (b content items : List ℕ) : Type 0 where
  empty : b ≡ [] → items ≡ []
  full : (b ≡ [] → ⊥) → items ≡ content

same_items : (w : Width) (count : ℕ) (b content items : List ℕ) → IsCompound w count content b → AreItems b content items → content ≡ items
same_items w count [] content items f i =
    let l : length content ≡ 0 = omega (arith, ap length f.parts, length-append f.size_field (f.count_field ++ content), length-append f.count_field content) in
    nil_from_length content l ∙ sym (i.empty refl)
same_items w count (c ∷ b) content items f i = sym (i.full (λ q. absurd cc))

compound_items : (w : Width) (count : ℕ) (b content items : List ℕ) → IsCompound w count content b → AreItems b content items → IsCompound w count items b
compound_items w count b content items f i = subst (λ (x : List ℕ). IsCompound w count x b) (same_items w count b content items f i) f

of_content : (w : Width) (count : ℕ) (b content : List ℕ) → (content' : List ℕ) × (content' ≡ content) × IsCompound w count content' b → IsCompound w count content b
of_content w count b content h = subst (λ (x : List ℕ). IsCompound w count x b) h.1 h.2

items_read : (class : Class) (count : ℕ) (b content items rest : List ℕ) → IsListBody class count (λ x. x ≡ content) b → AreItems b content items → head_at class (b ++ rest) ≡ headed count items rest
items_read Class.EmptyList count b content items rest h i = rw (h.1, h.0, i.empty h.1) refl
items_read (Class.List w) count b content items rest h i = compound_again w count items b rest (compound_items w count b content items (of_content w count b content h) i)
items_read _ count b content items rest h i = absurd h

items_body : (class : Class) (count : ℕ) (b content items : List ℕ) → IsListBody class count (λ x. x ≡ content) b → AreItems b content items → (ds : Data) → count_of ds ≡ count → AreParts ds None items → IsListBody class (count_of ds) (AreParts ds None) b
items_body Class.EmptyList count b content items h i ds n are = (n ∙ h.0, h.1)
items_body (Class.List w) count b content items h i ds n are = (items, are, subst (λ (k : ℕ). IsCompound w k items b) (sym n) (compound_items w count b content items (of_content w count b content h) i))
items_body _ count b content items h i ds n are = absurd h

no_parts : (ds : Data) → count_of ds ≡ 0 → AreParts ds None []
no_parts none h = refl
no_parts (item v vs) h = absurd cc

record IsRead (ds : Data) (head : List ℕ → Head) : Type 0 where
  content : List ℕ
  are : AreParts ds None content
  again : (rest : List ℕ) → head rest ≡ headed (count_of ds) content rest

list_read : (class : Class) (ds : Data) (b : List ℕ) → IsListBody class (count_of ds) (AreParts ds None) b → IsRead ds (λ rest. head_at class (b ++ rest))
list_read Class.EmptyList ds b h = record { content = []; are = no_parts ds h.0; again = λ rest. rw (h.1, h.0) refl }
list_read (Class.List w) ds b h = record { content = h.0; are = h.1; again = λ rest. compound_again w (count_of ds) h.0 b rest h.2 }
list_read _ ds b h = absurd h

spelled_list : (n : ℕ) (ds : Data) (x : List ℕ) → SpellsWithin n (list ds) x → IsRead ds (λ rest. code_head (x ++ rest))
spelled_list n ds [] h = absurd h.0
spelled_list n ds (c ∷ b) h = list_read (class_of c) ds b h.0

-- ---- where the items lie

record AreItemsOf (front content items : List ℕ) : Type 0 where
  bare : length front ≡ 1 → items ≡ []
  more : (length front ≡ 1 → ⊥) → items ≡ content

inner_items : (c : ℕ) (b content items : List ℕ) → AreItemsOf (c ∷ b) content items → AreItems b content items
inner_items c b content items i = record {
  empty = λ e. i.bare (ap (λ (t : List ℕ). length (c ∷ t)) e);
  full = λ n. i.more (λ k. n (nil_from_length b (omega (arith, k))));
}

front_read : (count : ℕ) (front content items rest : List ℕ) → IsListWith count content front → AreItemsOf front content items → code_head (front ++ rest) ≡ headed count items rest
front_read count [] content items rest h i = absurd h
front_read count (c ∷ b) content items rest h i = items_read (class_of c) count b content items rest h (inner_items c b content items i)

front_body : (count : ℕ) (front content items : List ℕ) → IsListWith count content front → AreItemsOf front content items → (ds : Data) → count_of ds ≡ count → AreParts ds None items → IsPart None (IsBody (list ds)) front
front_body count [] content items h i ds n are = absurd h
front_body count (c ∷ b) content items h i ds n are = items_body (class_of c) count b content items h (inner_items c b content items i) ds n are

same_head : (n m : ℕ) (a b x y : List ℕ) → headed n a x ≡ headed m b y → (n ≡ m) × (a ≡ b) × (x ≡ y)
same_head n m a b x y e = let p = some_pair_parts (n, a) (m, b) x y e in (ap (λ (q : ℕ × List ℕ). q.0) p.0, ap (λ (q : ℕ × List ℕ). q.1) p.0, p.1)

finds : (os : List ℕ) (count used : ℕ) (content items : List ℕ) → used ≤ length os → IsListWith count content (take used os) → AreItemsOf (take used os) content items → FindsItems os count items used
finds os count used content items within h i = record {
  within = within;
  found = λ depth ds n are deep. (front_body count (take used os) content items h i ds n are, omega (arith, deep));
  only = λ depth ds x rest s e.
      let r = spelled_list depth ds x s in
      let same = same_head (count_of ds) count r.content items rest (drop used os) (sym (r.again rest) ∙ ap code_head (sym e ∙ sym (take-append-drop used os)) ∙ front_read count (take used os) content items (drop used os) h i) in
      (same.0, subst (λ (t : List ℕ). AreParts ds None t) same.1 r.are, same.2);
}

taken : (used : ℕ) (os : List ℕ) → used ≤ length os → length (take used os) ≡ used
taken used os h = length-take-le used os h

pub finds_items : (os : List ℕ) (count start end : ℕ) → IsListHead os count start end → (items : List ℕ) → items ≡ drop start (take end os) → FindsItems os count items end
finds_items os count start end h items e =
    let bare : end ≡ 1 → items ≡ [] = λ k. e ∙ drop_all start (take end os) (omega (arith, taken end os h.1, h.3 k)) in
    finds os count end (drop start (take end os)) items h.1 h.2 (record { bare = λ k. bare (sym (taken end os h.1) ∙ k); more = λ _. e })

pub cut_twice : (start end : ℕ) (os : List ℕ) → start ≤ end → take (end - start) (drop start os) ≡ drop start (take end os)
cut_twice start end os h = let e : start + (end - start) ≡ end = omega arith in sym (drop-take start (end - start) os) ∙ ap (λ (k : ℕ). drop start (take k os)) e

pub no_items : (os : List ℕ) → HasNoList os → NoItems os
no_items os h depth ds x rest s e = let l = head_of_list depth ds x s in h (count_of ds) l.0 x rest l.1 e

-- ---- a described value's parts

record Split (n : ℕ) (d v : Datum) (y : List ℕ) : Type 0 where
  a : List ℕ
  b : List ℕ
  first : SpellsWithin n d a
  second : SpellsWithin n v b
  parts : y ≡ 0 ∷ (a ++ b)

abbrev of_described : Class → Bool
of_described Class.Described = true
of_described _ = false

or_false : (b : Bool) → (b || false) ≡ true → b ≡ true
or_false true h = refl
or_false false h = h

only_zero : (c : ℕ) → (eqb c 0 || false) ≡ true → c ≡ 0
only_zero c h = eqb-true c 0 (or_false (eqb c 0) h)

described_code : (c : ℕ) → class_of c ≡ Class.Described → c ≡ 0
unfolding class_of
described_code c e =
    let k : is_code (0 ∷ []) c ≡ true = class_listed of_described refl table c (ap of_described e) in
    only_zero c k

split_body : (n c : ℕ) (class : Class) (d v : Datum) (b : List ℕ) → class_of c ≡ class → IsDescribedBody class (IsPart None (IsBody d)) (IsPart None (IsBody v)) b → depth_of d ≤ n → depth_of v ≤ n → Split n d v (c ∷ b)
split_body n c Class.Described d v b is h e f = record { a = h.0; b = h.1; first = (h.2, e); second = (h.3, f); parts = rw (described_code c is, h.4) refl }
split_body n c _ d v b is h e f = absurd h

split_of : (n : ℕ) (d v : Datum) (y : List ℕ) → SpellsWithin (suc n) (described d v) y → Split n d v y
split_of n d v [] s = absurd s.0
split_of n d v (c ∷ b) s = split_body n c (class_of c) d v b refl s.0 (omega (arith, s.1)) (omega (arith, s.1))

-- ---- a described list

behind : (os x y rest a b : List ℕ) (start : ℕ) → take start os ≡ 0 ∷ x → os ≡ y ++ rest → y ≡ 0 ∷ (a ++ b) → x ++ drop start os ≡ a ++ (b ++ rest)
behind os x y rest a b start t e p =
    let k : 0 ∷ (x ++ drop start os) ≡ 0 ∷ ((a ++ b) ++ rest) = ap (λ (z : List ℕ). z ++ drop start os) (sym t) ∙ take-append-drop start os ∙ e ∙ ap (λ (z : List ℕ). z ++ rest) p in
    let j : x ++ drop start os ≡ (a ++ b) ++ rest = cc in
    j ∙ append_assoc a b rest

both : (os x : List ℕ) (start used : ℕ) → take start os ≡ 0 ∷ x → take (start + used) os ≡ 0 ∷ (x ++ take used (drop start os))
both os x start used t = take-add start used os ∙ ap (λ (z : List ℕ). z ++ take used (drop start os)) t

record IsInside (depth inner start : ℕ) (os : List ℕ) (D : Datum) (type : ℕ × List ℕ) (fs : Fields) (rest : List ℕ) : Type 0 where
  ds : Data
  text : List ℕ
  is : IsDescriptor type D
  fit : FitInOrder fs ds
  spelled : SpellsWithin 32 (list ds) text
  deep : greatest_depth_of ds ≤ inner
  parts : drop start os ≡ text ++ rest

inside : (depth inner start : ℕ) (os x : List ℕ) (D : Datum) (type : ℕ × List ℕ) (fs : Fields) (y rest : List ℕ) → depth ≤ 32 → inner + 2 ≡ depth → Spells D x → take start os ≡ 0 ∷ x → SpellsPart depth (composite type fs) y → os ≡ y ++ rest → IsInside depth inner start os D type fs rest
inside depth inner start os x D type fs y rest low deep s t p e =
    let n : depth ≡ suc (suc inner) = omega arith in
    let whole : SpellsWithin (suc (suc inner)) (described p.fits.0 (list p.fits.1)) y = subst (λ (k : ℕ). SpellsWithin k (described p.fits.0 (list p.fits.1)) y) n (subst (λ (v : Datum). SpellsWithin depth v y) p.fits.4 p.spelled) in
    let q = split_of (suc inner) p.fits.0 (list p.fits.1) y whole in
    let first : SpellsWithin 32 p.fits.0 q.a = (q.first.0, omega (arith, q.first.1)) in
    let same = same_front 32 D p.fits.0 x q.a (drop start os) (q.b ++ rest) (x ++ drop start os) s first refl (behind os x y rest q.a q.b start t e q.parts) in
    record {
      ds = p.fits.1;
      text = q.b;
      is = subst (λ (v : Datum). IsDescriptor type v) (sym same.0) p.fits.2;
      fit = p.fits.3;
      spelled = (q.second.0, omega (arith, q.second.1));
      deep = omega (arith, q.second.1);
      parts = same.1;
    }

same_descriptor : (inner start : ℕ) (os x : List ℕ) (D : Datum) → inner + 2 ≤ 32 → Spells D x → take start os ≡ 0 ∷ x → (d v : Datum) (y rest : List ℕ) → SpellsWithin (suc (suc inner)) (described d v) y → os ≡ y ++ rest → d ≡ D
same_descriptor inner start os x D low s t d v y rest whole e =
    let q = split_of (suc inner) d v y whole in
    let first : SpellsWithin 32 d q.a = (q.first.0, omega (arith, q.first.1)) in
    sym (same_front 32 D d x q.a (drop start os) (q.b ++ rest) (x ++ drop start os) s first refl (behind os x y rest q.a q.b start t e q.parts)).0

-- a value whose first octet is 0 is a described one
zero_body : (v : Datum) (b : List ℕ) → IsBody v 0 b → (d w : Datum) × (v ≡ described d w)
unfolding class_of
zero_body (described d w) b h = (d, w, refl)
zero_body (number k n) b h = absurd h
zero_body (octets r text) b h = absurd h
zero_body (list ds) b h = absurd h
zero_body (map ds) b h = absurd h
zero_body (array code ds) b h = absurd h

zero_front : (v : Datum) (y rest z : List ℕ) → IsPart None (IsBody v) y → y ++ rest ≡ 0 ∷ z → (d w : Datum) × (v ≡ described d w)
zero_front v [] rest z s e = absurd s
zero_front v (c ∷ b) rest z s e = let is : c ≡ 0 = cc in zero_body v b (subst (λ (k : ℕ). IsBody v k b) is s)

described_within : (inner start : ℕ) (os x : List ℕ) (D : Datum) → inner + 2 ≤ 32 → Spells D x → take start os ≡ 0 ∷ x → DescribedBy (suc (suc inner)) os D
described_within inner start os x D low s t v y rest whole e =
    let front : y ++ rest ≡ 0 ∷ (x ++ drop start os) = sym e ∙ sym (take-append-drop start os) ∙ ap (λ (z : List ℕ). z ++ drop start os) t in
    let f = zero_front v y rest (x ++ drop start os) whole.0 front in
    let same : f.0 ≡ D = same_descriptor inner start os x D low s t f.0 f.1 y rest (subst (λ (d : Datum). SpellsWithin (suc (suc inner)) d y) f.2 whole) e in
    (f.1, f.2 ∙ ap (λ (d : Datum). described d f.1) same)

pub described_by : (depth start : ℕ) (os x : List ℕ) (D : Datum) → 3 ≤ depth → depth ≤ 32 → Spells D x → take start os ≡ 0 ∷ x → DescribedBy depth os D
described_by depth start os x D some low s t =
    let n : suc (suc (depth - 2)) ≡ depth = omega arith in
    subst (λ (k : ℕ). DescribedBy k os D) n (described_within (depth - 2) start os x D (omega arith) s t)

pub opens : (depth inner start : ℕ) (os x : List ℕ) (D : Datum) (count : ℕ) (items : List ℕ) (used : ℕ) → depth ≤ 32 → 1 ≤ inner → inner + 2 ≡ depth → start ≤ length os → depth_of D ≡ 1 → Spells D x → take start os ≡ 0 ∷ x → FindsItems (drop start os) count items used → Opens depth os D inner count items (start + used)
opens depth inner start os x D count items used low some deep within flat s t f = record {
  within = omega (arith, f.within, length-drop start os);
  deep = deep;
  found = λ type fs is h.
      let n : suc (suc inner) ≡ depth = omega arith in
      let l : SpellsWithin (suc inner) (list h.values) (take used (drop start os)) = f.found inner h.values h.counted h.spelled h.nested in
      let first : SpellsWithin (suc inner) D x = (s.0, omega arith) in
      record {
        datum = described D (list h.values);
        fits = (D, h.values, is, h.fit, refl);
        spelled = subst (λ (k : ℕ). SpellsWithin k (described D (list h.values)) (take (start + used) os)) n
            (subst (λ (z : List ℕ). SpellsWithin (suc (suc inner)) (described D (list h.values)) z) (sym (both os x start used t)) (described_from_parts (suc inner) D (list h.values) x (take used (drop start os)) first l));
      };
  named = described_by depth start os x D (omega arith) low s t;
  only = λ type fs y rest p e.
      let i = inside depth inner start os x D type fs y rest low deep s t p e in
      let o = f.only 32 i.ds i.text rest i.spelled i.parts in
      (i.is, record { values = i.ds; fit = i.fit; spelled = o.1; counted = o.0; nested = i.deep }, o.2 ∙ drop-drop used start os);
}

pub no_list_opened : (depth inner start : ℕ) (os x : List ℕ) (D : Datum) → depth ≤ 32 → inner + 2 ≡ depth → Spells D x → take start os ≡ 0 ∷ x → NoItems (drop start os) → NotOpened depth os
no_list_opened depth inner start os x D low deep s t none_there type fs y rest p e =
    let i = inside depth inner start os x D type fs y rest low deep s t p e in
    none_there 32 i.ds i.text rest i.spelled i.parts

named_front : (type : ℕ × List ℕ) (d : Datum) (a : List ℕ) → IsDescriptor type d → Spells d a → (D : Descriptor) × Spells (datum_of D) a
named_front type d a (inl e) s = (descriptor.Number type.0, subst (λ (v : Datum). Spells v a) e s)
named_front type d a (inr e) s = (descriptor.Name (record { ref_ptr = (0, 0); now = type.1 }), subst (λ (v : Datum). Spells v a) e s)

pub none_opened : (depth inner : ℕ) (os : List ℕ) → depth ≤ 32 → inner + 2 ≡ depth → IsDescriptorFront os None → NotOpened depth os
none_opened depth inner os low deep front type fs y rest p e =
    let n : depth ≡ suc (suc inner) = omega arith in
    let whole : SpellsWithin (suc (suc inner)) (described p.fits.0 (list p.fits.1)) y = subst (λ (k : ℕ). SpellsWithin k (described p.fits.0 (list p.fits.1)) y) n (subst (λ (v : Datum). SpellsWithin depth v y) p.fits.4 p.spelled) in
    let q = split_of (suc inner) p.fits.0 (list p.fits.1) y whole in
    let d = named_front type p.fits.0 q.a p.fits.2 (q.first.0, omega (arith, q.first.1)) in
    front d.0 q.a (q.b ++ rest) d.1 (e ∙ ap (λ (z : List ℕ). z ++ rest) q.parts ∙ ap (λ (z : List ℕ). 0 ∷ z) (append_assoc q.a q.b rest))

pub flat_descriptor : (D : Descriptor) → depth_of (datum_of D) ≡ 1
flat_descriptor (descriptor.Number n) = refl
flat_descriptor (descriptor.Name text) = refl

-- ---- a field that is a described list

pub composite_takes : {B : Type 0} (type : ℕ × List ℕ) (of : B → Fields) (may : B → Bool) (depth left : ℕ) (os : List ℕ) (D : Datum) (inner count : ℕ) (items : List ℕ) (used : ℕ) (b : B) (depth' left' : ℕ) (os' : List ℕ) → Opens depth os D inner count items used → IsDescriptor type D → IsTrue (may b) × AreFields inner count (of b) items → (depth' ≡ depth) × (left' + 1 ≡ left) × (os' ≡ drop used os) → Takes (λ x. composite type (of x)) may depth left os b depth' left' os'
composite_takes type of may depth left os D inner count items used b depth' left' os' o is h e =
    let f = o.found type (of b) is h.1 in
    let p = passes depth left os f.datum used depth' left' os' f.spelled e in
    record {
      fair = h.0;
      same_depth = e.0;
      found = λ others g. pass_found depth left os (take used os) f.datum depth' left' os' p (composite type (of b)) f.fits others g;
      only = λ c others _ g. (pass_only depth left os (take used os) f.datum depth' left' os' p (composite type (of c)) others g).1;
    }

pub front_part : (depth left : ℕ) (os : List ℕ) (part : Part) (fs : Fields) → 1 ≤ left → AreFields depth left (field part fs) os → (x rest : List ℕ) × SpellsPart depth part x × (os ≡ x ++ rest)
front_part depth left os part fs some h = let x = front_of depth left os part fs some h in (x.1, x.2, record { datum = x.0; fits = x.4; spelled = x.3 }, x.5)

pub composite_unfit : {B : Type 0} (type : ℕ × List ℕ) (of : B → Fields) (may : B → Bool) (depth left : ℕ) (os : List ℕ) (D : Datum) (inner count : ℕ) (items : List ℕ) (used : ℕ) → Opens depth os D inner count items used → 1 ≤ left → ((b : B) → IsTrue (may b) → AreFields inner count (of b) items → ⊥) → Misses (λ x. composite type (of x)) may depth left os
composite_unfit type of may depth left os D inner count items used o some unfit b others fair h =
    let x = front_part depth left os (composite type (of b)) others some h in
    unfit b fair (o.only type (of b) x.0 x.1 x.2 x.3).1

pub composite_other : {B : Type 0} (type : ℕ × List ℕ) (of : B → Fields) (may : B → Bool) (depth left : ℕ) (os : List ℕ) (D : Datum) (inner count : ℕ) (items : List ℕ) (used : ℕ) → Opens depth os D inner count items used → 1 ≤ left → (IsDescriptor type D → ⊥) → Misses (λ x. composite type (of x)) may depth left os
composite_other type of may depth left os D inner count items used o some other b others fair h =
    let x = front_part depth left os (composite type (of b)) others some h in
    other (o.only type (of b) x.0 x.1 x.2 x.3).0

pub composite_missing : {B : Type 0} (type : ℕ × List ℕ) (of : B → Fields) (may : B → Bool) (depth left : ℕ) (os : List ℕ) → NotOpened depth os → 1 ≤ left → Misses (λ x. composite type (of x)) may depth left os
composite_missing type of may depth left os m some b others fair h =
    let x = front_part depth left os (composite type (of b)) others some h in
    m type (of b) x.0 x.1 x.2 x.3

pub not_named : (b : Bool) (P : Type 0) → IsTrue b ↔ P → b ≡ false → P → ⊥
not_named b P d e h = let k : b ≡ true = d.1 h in cc

pub rest_taken : (start : ℕ) (os : List ℕ) → take (length os - start) (drop start os) ≡ drop start os
rest_taken start os = take_all (length os - start) (drop start os) (omega (arith, length-drop start os))

-- ---- which state a descriptor names

same_named : (d v D w : Datum) → described d v ≡ described D w → d ≡ D
same_named d v D w e = cc

unnamed_here : (depth : ℕ) (os : List ℕ) (D : Datum) → DescribedBy depth os D → names_state D ≡ false → NoStateNamed depth os
unnamed_here depth os D named isnt d v x rest s e =
    let w = named (described d v) x rest s e in
    subst (λ (i : Datum). names_state i ≡ false) (sym (same_named d v D w.0 w.1)) isnt

pub unnamed_descriptor : (depth start : ℕ) (os x : List ℕ) (D : Datum) → 3 ≤ depth → depth ≤ 32 → Spells D x → take start os ≡ 0 ∷ x → names_state D ≡ false → NoStateNamed depth os
unnamed_descriptor depth start os x D some low s t isnt = unnamed_here depth os D (described_by depth start os x D some low s t) isnt

unnamed_shape : (d : Datum) (a : List ℕ) → Spells d a → ((D : Descriptor) → datum_of D ≡ d → ⊥) → names_state d ≡ false
unnamed_shape (number Kind.Ulong n) a s h = absurd (h (descriptor.Number n) refl)
unnamed_shape (number _ n) a s h = refl
unnamed_shape (octets Run.Symbol name) a s h = absurd (h (descriptor.Name (record { ref_ptr = (0, 0); now = name })) refl)
unnamed_shape (octets _ name) a s h = refl
unnamed_shape (list ds) a s h = refl
unnamed_shape (map ds) a s h = refl
unnamed_shape (array c ds) a s h = refl
unnamed_shape (described d v) a s h = refl

pub unnamed_none : (depth : ℕ) (os : List ℕ) → 3 ≤ depth → depth ≤ 32 → IsDescriptorFront os None → NoStateNamed depth os
unnamed_none depth os some low front d v x rest s e =
    let n : depth ≡ suc (suc (depth - 2)) = omega arith in
    let q = split_of (suc (depth - 2)) d v x (subst (λ (k : ℕ). SpellsWithin k (described d v) x) n s) in
    let first : Spells d q.a = (q.first.0, omega (arith, q.first.1)) in
    unnamed_shape d q.a first (λ D is. front D q.a (q.b ++ rest) (subst (λ (w : Datum). Spells w q.a) (sym is) first) (e ∙ ap (λ (z : List ℕ). z ++ rest) q.parts ∙ ap (λ (z : List ℕ). 0 ∷ z) (append_assoc q.a q.b rest)))
