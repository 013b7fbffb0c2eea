-- Fields that are read one by one are the fields.
use Rattle.std.proofs.Common.{◌≡◌, ℕ, zero, suc, ◌+◌, ◌≤◌, ◌<◌, Bool, true, false, not, List, [], ◌∷◌, ◌++◌, length, take, drop, Option, Some, None, refl, sym, ap, subst, ◌∙◌, ◌↔◌, arith, rules, tests}
use Rattle.std.specs.Prelude.{IsTrue, nat_le}
use Rattle.std.specs.Borrow.{Bor}
use Rattle.std.proofs.lemmas.Bool.{eqb-true}
use Rattle.std.proofs.lemmas.List.{append-nil}
use Rattle.std.proofs.lemmas.Option.{some_pair_parts}
use Rattle.std.proofs.Math.ListN.{take-append-drop}
use Rattle.amqp_types.specs.declared.class.Class.{Class}
use Rattle.amqp_types.specs.Codes.{class_of}
use Rattle.amqp_types.specs.declared.class.Kind.TheVariants as Kind
use Rattle.amqp_types.specs.declared.class.Run.TheVariants as Run
use Rattle.amqp_types.specs.Datum.{Datum, number, octets, list, map, array, described, Data, none, item, count_of, depth_of, greatest_depth_of}
use Rattle.amqp_types.specs.View.{view, views_of_pairs}
use Rattle.amqp_types.specs.Grammar.{fits, AreParts, IsPart, IsBody, IsNumberBody, SpellsWithin, Spells, IsFront}
use Rattle.amqp_types.specs.Reading.{part_at}
use Rattle.amqp_types.proofs.Laws.{spelled_is_read}
use Rattle.amqp_performatives.specs.Part.{Part, Fields, absent, value, no_field, field, null, Fits, FitInOrder}
use Rattle.amqp_performatives.specs.Bodies.{optional, any, mapping, boolean, role}
use Rattle.amqp_performatives.specs.declared.bodies.Role.{Role}
use Rattle.amqp_performatives.specs.declared.bodies.Role.TheVariants.{Sender, Receiver}
use Rattle.amqp_performatives.specs.Fair.{where_present, is_tag, is_present, is_null}
use Rattle.amqp_decoder.specs.Borrowed.{value_pairs_of, is_whole, datum_in, value_in, pairs_in, is_mapping, pairs_of_datum}
use Rattle.amqp_decoder.proofs.SeenValues.{spelled_seen, map_seen, whole_spelled}
use Rattle.amqp_types.specs.declared.value.Value.{Value}
use Rattle.amqp_decoder.specs.Reading.{AreFields, every, Takes, Misses, TakesAbsent, MissesAbsent, Passes}

-- ---- the first field

pub next_found : (depth left : ℕ) (part : Part) (fs : Fields) (v : Datum) (x rest os : List ℕ) → SpellsWithin depth v x → Fits part v → AreFields depth left fs rest → os ≡ x ++ rest → AreFields depth (suc left) (field part fs) os
next_found depth left part fs v x rest os s fits others e = record {
  values = item v others.values;
  fit = (fits, others.fit);
  spelled = (x, rest, s.0, others.spelled, e);
  counted = ap suc others.counted;
  nested = omega (arith, s.1, others.nested);
}

pub record Next (depth left : ℕ) (part : Part) (fs : Fields) (os : List ℕ) : Type 0 where
  pub datum : Datum
  pub text : List ℕ
  pub rest : List ℕ
  pub spelled : SpellsWithin depth datum text
  pub fits : Fits part datum
  pub parts : os ≡ text ++ rest
  pub others : AreFields depth left fs rest

first_of : (depth left : ℕ) (part : Part) (fs : Fields) (os : List ℕ) (values : Data) → FitInOrder (field part fs) values → AreParts values None os → count_of values ≡ suc left → greatest_depth_of values ≤ depth → Next depth left part fs os
first_of depth left part fs os none fit s n d = absurd cc
first_of depth left part fs os (item v vs) fit s n d = record {
  datum = v;
  text = s.0;
  rest = s.1;
  spelled = (s.2, omega arith);
  fits = fit.0;
  parts = s.4;
  others = record { values = vs; fit = fit.1; spelled = s.3; counted = omega (arith, n); nested = omega arith };
}

pub next_only : (depth left : ℕ) (part : Part) (fs : Fields) (os : List ℕ) → AreFields depth (suc left) (field part fs) os → Next depth left part fs os
next_only depth left part fs os h = first_of depth left part fs os h.values h.fit h.spelled h.counted h.nested

-- ---- one front is one value

abbrev read : Datum → List ℕ → Option (Datum × List ℕ)
read v os = Some (v, os)

pub same_front : (depth : ℕ) (v w : Datum) (x y rest after os : List ℕ) → SpellsWithin depth v x → SpellsWithin depth w y → os ≡ x ++ rest → os ≡ y ++ after → (v ≡ w) × (rest ≡ after)
same_front depth v w x y rest after os s t e f =
    let k : read v rest ≡ read w after = sym (spelled_is_read depth v x rest s) ∙ ap (part_at depth None) (sym e ∙ f) ∙ spelled_is_read depth w y after t in
    some_pair_parts v w rest after k

cut : (used : ℕ) (os : List ℕ) → os ≡ take used os ++ drop used os
cut used os = sym (take-append-drop used os)

pub deeper : (n m : ℕ) (v : Datum) (x : List ℕ) → SpellsWithin n v x → depth_of v ≤ m → SpellsWithin m v x
deeper n m v x s d = (s.0, d)

-- ---- where it was a value

pub passes : (depth left : ℕ) (os : List ℕ) (v : Datum) (used depth' left' : ℕ) (os' : List ℕ) → SpellsWithin depth v (take used os) → (depth' ≡ depth) × (left' + 1 ≡ left) × (os' ≡ drop used os) → Passes depth left os (take used os) v depth' left' os'
passes depth left os v used depth' left' os' s e = record { spelled = s; parts = cut used os ∙ ap (λ (r : List ℕ). take used os ++ r) (sym e.2); same_depth = e.0; one = e.1 }

pub pass_found : (depth left : ℕ) (os text : List ℕ) (v : Datum) (depth' left' : ℕ) (os' : List ℕ) → Passes depth left os text v depth' left' os' → (part : Part) → Fits part v → (fs : Fields) → AreFields depth' left' fs os' → AreFields depth left (field part fs) os
pass_found depth left os text v depth' left' os' p part fits fs others =
    let n : suc left' ≡ left = omega (arith, p.one) in
    subst (λ (k : ℕ). AreFields depth k (field part fs) os) n
    (next_found depth left' part fs v text os' os p.spelled fits (subst (λ (k : ℕ). AreFields k left' fs os') p.same_depth others) p.parts)

pub pass_only : (depth left : ℕ) (os text : List ℕ) (v : Datum) (depth' left' : ℕ) (os' : List ℕ) → Passes depth left os text v depth' left' os' → (part : Part) (fs : Fields) → AreFields depth left (field part fs) os → Fits part v × AreFields depth' left' fs os'
pass_only depth left os text v depth' left' os' p part fs h =
    let n : left ≡ suc left' = omega (arith, p.one) in
    let x = next_only depth left' part fs os (subst (λ (k : ℕ). AreFields depth k (field part fs) os) n h) in
    let same = same_front depth x.datum v x.text text x.rest os' os x.spelled p.spelled x.parts p.parts in
    (subst (λ (w : Datum). Fits part w) same.0 x.fits, subst (λ (k : ℕ). AreFields k left' fs os') (sym p.same_depth) (subst (λ (r : List ℕ). AreFields depth left' fs r) same.1 x.others))

-- what stands in front where one field is there
pub front_of : (depth left : ℕ) (os : List ℕ) (part : Part) (fs : Fields) → 1 ≤ left → AreFields depth left (field part fs) os → (v : Datum) × (x rest : List ℕ) × SpellsWithin depth v x × Fits part v × (os ≡ x ++ rest)
front_of depth zero os part fs some h = absurd (omega arith)
front_of depth (suc left) os part fs some h =
    let x = next_only depth left part fs os h in
    (x.datum, x.text, x.rest, x.spelled, x.fits, x.parts)

-- ---- a field of one type

pub leaf_takes : {A : Type 0} (datum : A → Datum) (may : A → Bool) (depth left : ℕ) (os : List ℕ) (a : A) (used depth' left' : ℕ) (os' : List ℕ) → IsFront datum os (Some (a, used)) → depth_of (datum a) ≤ depth → IsTrue (may a) → (depth' ≡ depth) × (left' + 1 ≡ left) × (os' ≡ drop used os) → Takes (λ b. value (datum b)) may depth left os a depth' left' os'
leaf_takes datum may depth left os a used depth' left' os' front d fair e =
    let p = passes depth left os (datum a) used depth' left' os' (deeper 32 depth (datum a) (take used os) front.1 d) e in
    record {
      fair = fair;
      same_depth = e.0;
      found = λ others h. pass_found depth left os (take used os) (datum a) depth' left' os' p (value (datum a)) refl others h;
      only = λ b others _ h. (pass_only depth left os (take used os) (datum a) depth' left' os' p (value (datum b)) others h).1;
    }

-- another value of the type stands there than may
pub leaf_unfit : {A : Type 0} (datum : A → Datum) (may : A → Bool) (depth left : ℕ) (os : List ℕ) (a : A) (used : ℕ) → IsFront datum os (Some (a, used)) → depth_of (datum a) ≤ depth → 1 ≤ left → ((b : A) → datum a ≡ datum b → IsTrue (may b) → ⊥) → Misses (λ b. value (datum b)) may depth left os
leaf_unfit datum may depth left os a used front d some unfit b others fair h =
    let x = front_of depth left os (value (datum b)) others some h in
    let same = same_front depth (datum a) x.0 (take used os) x.1 (drop used os) x.2 os (deeper 32 depth (datum a) (take used os) front.1 d) x.3 (cut used os) x.5 in
    unfit b (same.0 ∙ x.4) fair

pub leaf_misses : {A : Type 0} (datum : A → Datum) (may : A → Bool) (depth left : ℕ) (os : List ℕ) → IsFront {A = A} datum os None → ((b : A) → depth_of (datum b) ≤ 32) → 1 ≤ left → Misses (λ b. value (datum b)) may depth left os
leaf_misses datum may depth left os front d some b others fair h =
    let x = front_of depth left os (value (datum b)) others some h in
    front b x.1 x.2 (deeper depth 32 (datum b) x.1 (subst (λ (w : Datum). SpellsWithin depth w x.1) x.4 x.3) (d b)) x.5

-- the same for octets behind a reference
pub borrowed_misses : (datum : List ℕ → Datum) (os : List ℕ) → IsFront {A = Bor (List ℕ)} (λ t. datum t.now) os None → IsFront {A = List ℕ} datum os None
borrowed_misses datum os h = λ a x rest s e. h (record { ref_ptr = (0, 0); now = a }) x rest s e

pub least : (n most : ℕ) → n ≤ most → IsTrue (nat_le n most)
least n most h = search (arith, tests)

pub above : (n b most : ℕ) → most < n → number Kind.Ubyte n ≡ number Kind.Ubyte b → IsTrue (nat_le b most) → ⊥
above n b most h e fair = let same : n ≡ b = cc in let low : b ≤ most = search (rules, tests) in omega arith

long_tag : (text b : List ℕ) → 32 < length text → octets Run.Binary text ≡ octets Run.Binary b → IsTrue (is_tag b) → ⊥
long_tag text b h e fair = let same : text ≡ b = cc in let low : length b ≤ 32 = search (rules, tests) in omega (arith, ap length same)

pub tag_takes : (depth left : ℕ) (os text tag : List ℕ) (used depth' left' : ℕ) (os' : List ℕ) → (used ≤ length os) × Spells (octets Run.Binary text) (take used os) → 1 ≤ depth → (tag ≡ text) × (length tag ≤ 32) → (depth' ≡ depth) × (left' + 1 ≡ left) × (os' ≡ drop used os) → Takes (λ t. value (octets Run.Binary t)) is_tag depth left os tag depth' left' os'
tag_takes depth left os text tag used depth' left' os' front d t e =
    leaf_takes (λ t. octets Run.Binary t) is_tag depth left os tag used depth' left' os' (front.0, subst (λ (x : List ℕ). Spells (octets Run.Binary x) (take used os)) (sym t.0) front.1) d (least (length tag) 32 t.1) e

pub tag_unfit : (depth left : ℕ) (os text : List ℕ) (used : ℕ) → (used ≤ length os) × Spells (octets Run.Binary text) (take used os) → 1 ≤ depth → 1 ≤ left → 32 < length text → Misses (λ t. value (octets Run.Binary t)) is_tag depth left os
tag_unfit depth left os text used front d some long =
    leaf_unfit (λ t. octets Run.Binary t) is_tag depth left os text used front d some (λ b e fair. long_tag text b long e fair)

-- ---- a field that is absent

pub absent_takes : (depth left : ℕ) (os : List ℕ) (used depth' left' : ℕ) (os' : List ℕ) → IsFront {A = ℕ} (λ _. null) os (Some (used, used)) → 1 ≤ depth → (depth' ≡ depth) × (left' + 1 ≡ left) × (os' ≡ drop used os) → TakesAbsent depth left os depth' left' os'
absent_takes depth left os used depth' left' os' front d e =
    let p = passes depth left os null used depth' left' os' (deeper 32 depth null (take used os) front.1 d) e in
    record {
      same_depth = e.0;
      found = λ others h. pass_found depth left os (take used os) null depth' left' os' p absent refl others h;
      only = λ part others h. pass_only depth left os (take used os) null depth' left' os' p part others h;
    }

pub absent_misses : (left : ℕ) (os : List ℕ) → IsFront {A = ℕ} (λ _. null) os None → 1 ≤ left → MissesAbsent left os
absent_misses left os front some = record { some = some; not_null = λ x rest s e. front 0 x rest s e }

no_absent : (depth left : ℕ) (os : List ℕ) → MissesAbsent left os → (others : Fields) → AreFields depth left (field absent others) os → ⊥
no_absent depth left os m others h =
    let x = front_of depth left os absent others m.some h in
    m.not_null x.1 x.2 (deeper depth 32 null x.1 (subst (λ (w : Datum). SpellsWithin depth w x.1) x.4 x.3) (omega arith)) x.5

-- ---- a field that is not mandatory

pub optional_misses : {A : Type 0} (of : A → Part) (may : A → Bool) (depth left : ℕ) (os : List ℕ) → MissesAbsent left os → Misses of may depth left os → Misses (optional of) (where_present may) depth left os
optional_misses of may depth left os p q None others fair h = no_absent depth left os p others h
optional_misses of may depth left os p q (Some b) others fair h = q b others fair h

pub optional_absent : {A : Type 0} (of : A → Part) (may : A → Bool) (depth left : ℕ) (os : List ℕ) (depth' left' : ℕ) (os' : List ℕ) → TakesAbsent depth left os depth' left' os' → Takes (optional of) (where_present may) depth left os None depth' left' os'
optional_absent of may depth left os depth' left' os' t = record {
  fair = refl;
  same_depth = t.same_depth;
  found = λ others h. t.found others h;
  only = λ b others fair h. (t.only (optional of b) others h).1;
}

present_only : {A : Type 0} (of : A → Part) (may : A → Bool) (depth left : ℕ) (os : List ℕ) (a : A) (depth' left' : ℕ) (os' : List ℕ) → MissesAbsent left os → Takes of may depth left os a depth' left' os' → (b : Option A) (others : Fields) → IsTrue (where_present may b) → AreFields depth left (field (optional of b) others) os → AreFields depth' left' others os'
present_only of may depth left os a depth' left' os' m t None others fair h = absurd (no_absent depth left os m others h)
present_only of may depth left os a depth' left' os' m t (Some b) others fair h = t.only b others fair h

pub optional_present : {A : Type 0} (of : A → Part) (may : A → Bool) (depth left : ℕ) (os : List ℕ) (a : A) (depth' left' : ℕ) (os' : List ℕ) → MissesAbsent left os → Takes of may depth left os a depth' left' os' → Takes (optional of) (where_present may) depth left os (Some a) depth' left' os'
optional_present of may depth left os a depth' left' os' m t = record {
  fair = t.fair;
  same_depth = t.same_depth;
  found = λ others h. t.found others h;
  only = λ b others fair h. present_only of may depth left os a depth' left' os' m t b others fair h;
}

-- ---- values of whatever type

whole_read : (v : Datum) (x : List ℕ) → Spells v x → part_at 32 None x ≡ read v []
whole_read v x s = ap (part_at 32 None) (sym (append-nil x)) ∙ spelled_is_read 32 v x [] s

pub spelled_whole : (depth : ℕ) (v : Datum) (x : List ℕ) → depth ≤ 32 → SpellsWithin depth v x → is_whole x ≡ true
unfolding is_whole
spelled_whole depth v x low s = rw (whole_read v x (deeper depth 32 v x s (omega (arith, s.1)))) refl

pub spelled_datum : (depth : ℕ) (v : Datum) (x : List ℕ) → depth ≤ 32 → SpellsWithin depth v x → datum_in x ≡ v
unfolding datum_in
spelled_datum depth v x low s = rw (whole_read v x (deeper depth 32 v x s (omega (arith, s.1)))) refl

pub value_passes : (depth left : ℕ) (os text : List ℕ) (v : Datum) (used depth' left' : ℕ) (os' : List ℕ) → depth ≤ 32 → SpellsWithin depth v (take used os) → text ≡ take used os → (depth' ≡ depth) × (left' + 1 ≡ left) × (os' ≡ drop used os) → Passes depth left os text (datum_in text) depth' left' os'
value_passes depth left os text v used depth' left' os' low s is e =
    subst (λ (t : List ℕ). Passes depth left os t (datum_in t) depth' left' os') (sym is)
    (subst (λ (w : Datum). Passes depth left os (take used os) w depth' left' os') (sym (spelled_datum depth v (take used os) low s)) (passes depth left os v used depth' left' os' s e))

pub value_seen : (depth left : ℕ) (os text : List ℕ) (depth' left' : ℕ) (os' : List ℕ) → Passes depth left os text (datum_in text) depth' left' os' → view (value_in text) ≡ datum_in text
unfolding value_in
value_seen depth left os text depth' left' os' p = spelled_seen depth (datum_in text) text p.spelled

null_fits : (class : Class) (n : ℕ) (os : List ℕ) → IsNumberBody class Kind.Null n os → n ≡ 0
null_fits (Class.Number k w r) n os h = eqb-true n 0 h.3
null_fits _ n os h = absurd h

null_number : (n : ℕ) (x : List ℕ) → IsPart None (IsBody (number Kind.Null n)) x → n ≡ 0
null_number n [] h = absurd h
null_number n (c ∷ os) h = null_fits (class_of c) n os h

null_spelled : (v : Datum) (x : List ℕ) → SpellsWithin 32 v x → is_null v ≡ true → v ≡ null
null_spelled (number Kind.Null n) x s h = ap (number Kind.Null) (null_number n x s.0)
null_spelled (number _ n) x s h = absurd cc
null_spelled (octets r os) x s h = absurd cc
null_spelled (list ds) x s h = absurd cc
null_spelled (map ds) x s h = absurd cc
null_spelled (array c ds) x s h = absurd cc
null_spelled (described d v) x s h = absurd cc

not_true : (b : Bool) → (b ≡ true → ⊥) → not b ≡ true
not_true true h = absurd (h refl)
not_true false h = refl

pub value_present : (depth left : ℕ) (os text : List ℕ) (depth' left' : ℕ) (os' : List ℕ) → depth ≤ 32 → MissesAbsent left os → Passes depth left os text (datum_in text) depth' left' os' → is_present (value_in text) ≡ true
value_present depth left os text depth' left' os' low m p =
    rw (value_seen depth left os text depth' left' os' p)
    (not_true (is_null (datum_in text)) (λ e.
    let s = deeper depth 32 (datum_in text) text p.spelled (omega (arith, p.spelled.1)) in
    let is : datum_in text ≡ null = null_spelled (datum_in text) text s e in
    m.not_null text os' (subst (λ (w : Datum). SpellsWithin 32 w text) is s) p.parts))

pub any_takes : (depth left : ℕ) (os text : List ℕ) (depth' left' : ℕ) (os' : List ℕ) → depth ≤ 32 → MissesAbsent left os → Passes depth left os text (datum_in text) depth' left' os' → Takes (optional any) (where_present is_present) depth left os (Some (value_in text)) depth' left' os'
any_takes depth left os text depth' left' os' low m p = record {
  fair = value_present depth left os text depth' left' os' low m p;
  same_depth = p.same_depth;
  found = λ others h. pass_found depth left os text (datum_in text) depth' left' os' p (any (value_in text)) (sym (value_seen depth left os text depth' left' os' p)) others h;
  only = λ b others _ h. (pass_only depth left os text (datum_in text) depth' left' os' p (optional any b) others h).1;
}

pub value_misses : {A : Type 0} (of : A → Part) (may : A → Bool) (depth left : ℕ) (os : List ℕ) → MissesAbsent left os → ((v : Datum) (x rest : List ℕ) → 1 ≤ left → SpellsWithin depth v x → os ≡ x ++ rest → ⊥) → Misses (optional of) (where_present may) depth left os
value_misses of may depth left os m nothing b others fair h =
    let x = front_of depth left os (optional of b) others m.some h in
    nothing x.0 x.1 x.2 m.some x.3 x.5

map_is : (d : Datum) → is_mapping d ≡ true → (ds : Data) × (d ≡ map ds)
map_is (map ds) h = (ds, refl)
map_is (number k n) h = absurd cc
map_is (octets r os) h = absurd cc
map_is (list ds) h = absurd cc
map_is (array c ds) h = absurd cc
map_is (described d v) h = absurd cc

pairs_seen : (depth : ℕ) (text : List ℕ) → SpellsWithin depth (datum_in text) text → is_mapping (datum_in text) ≡ true → datum_in text ≡ map (views_of_pairs (pairs_in text))
unfolding pairs_in
pairs_seen depth text s h =
    let m = map_is (datum_in text) h in
    let e : views_of_pairs (value_pairs_of m.0) ≡ m.0 = map_seen depth m.0 text (subst (λ (w : Datum). SpellsWithin depth w text) m.1 s) in
    m.1 ∙ sym (ap map (ap (λ (w : Datum). views_of_pairs (pairs_of_datum w)) m.1 ∙ e))

pub map_takes : (depth left : ℕ) (os text : List ℕ) (depth' left' : ℕ) (os' : List ℕ) → is_mapping (datum_in text) ≡ true → Passes depth left os text (datum_in text) depth' left' os' → Takes (optional mapping) (where_present every) depth left os (Some (pairs_in text)) depth' left' os'
map_takes depth left os text depth' left' os' is p = record {
  fair = refl;
  same_depth = p.same_depth;
  found = λ others h. pass_found depth left os text (datum_in text) depth' left' os' p (mapping (pairs_in text)) (pairs_seen depth text p.spelled is) others h;
  only = λ b others _ h. (pass_only depth left os text (datum_in text) depth' left' os' p (optional mapping b) others h).1;
}

pub map_unfit : (depth left : ℕ) (os text : List ℕ) (depth' left' : ℕ) (os' : List ℕ) → MissesAbsent left os → is_mapping (datum_in text) ≡ false → Passes depth left os text (datum_in text) depth' left' os' → Misses (optional mapping) (where_present every) depth left os
map_unfit depth left os text depth' left' os' m isnt p None others fair h = no_absent depth left os m others h
map_unfit depth left os text depth' left' os' m isnt p (Some b) others fair h =
    let e : datum_in text ≡ map (views_of_pairs b) = (pass_only depth left os text (datum_in text) depth' left' os' p (mapping b) others h).0 in
    let f : is_mapping (datum_in text) ≡ true = rw e refl in
    cc

-- ---- a field of a type that is seen as another

pub takes_as : {A B : Type 0} (of : A → Part) (may : A → Bool) (of' : B → Part) (may' : B → Bool) (depth left : ℕ) (os : List ℕ) (a : A) (b : B) (depth' left' : ℕ) (os' : List ℕ) → of' b ≡ of a → IsTrue (may' b) → ((c : B) → IsTrue (may' c) → (e : A) × IsTrue (may e) × (of' c ≡ of e)) → Takes of may depth left os a depth' left' os' → Takes of' may' depth left os b depth' left' os'
takes_as of may of' may' depth left os a b depth' left' os' e fair as_one t = record {
  fair = fair;
  same_depth = t.same_depth;
  found = λ others h. subst (λ (p : Part). AreFields depth left (field p others) os) (sym e) (t.found others h);
  only = λ c others f h. let x = as_one c f in t.only x.0 others x.1 (subst (λ (p : Part). AreFields depth left (field p others) os) x.2 h);
}

pub misses_as : {A B : Type 0} (of : A → Part) (may : A → Bool) (of' : B → Part) (may' : B → Bool) (depth left : ℕ) (os : List ℕ) → ((c : B) → IsTrue (may' c) → (e : A) × IsTrue (may e) × (of' c ≡ of e)) → Misses of may depth left os → Misses of' may' depth left os
misses_as of may of' may' depth left os as_one m c others f h = let x = as_one c f in m x.0 others x.1 (subst (λ (p : Part). AreFields depth left (field p others) os) x.2 h)

pub role_boolean : (r : Role) → (b : Bool) × IsTrue (every b) × (role r ≡ boolean b)
role_boolean Sender = (false, refl, refl)
role_boolean Receiver = (true, refl, refl)

-- ---- no field is left

end_absent : (depth left : ℕ) (os : List ℕ) (values : Data) → FitInOrder no_field values → FitInOrder (field absent no_field) values
end_absent depth left os none h = (refl, tt)
end_absent depth left os (item v vs) h = h

absent_end : (depth left : ℕ) (os : List ℕ) (values : Data) → FitInOrder (field absent no_field) values → FitInOrder no_field values
absent_end depth left os none h = tt
absent_end depth left os (item v vs) h = h

pub as_absent : (depth left : ℕ) (os : List ℕ) → AreFields depth left no_field os → AreFields depth left (field absent no_field) os
as_absent depth left os h = record { values = h.values; fit = end_absent depth left os h.values h.fit; spelled = h.spelled; counted = h.counted; nested = h.nested }

from_absent : (depth left : ℕ) (os : List ℕ) → AreFields depth left (field absent no_field) os → AreFields depth left no_field os
from_absent depth left os h = record { values = h.values; fit = absent_end depth left os h.values h.fit; spelled = h.spelled; counted = h.counted; nested = h.nested }

-- one null is passed over
pub null_passed : (depth left : ℕ) (os : List ℕ) (depth' left' : ℕ) (os' : List ℕ) → TakesAbsent depth left os depth' left' os' → AreFields depth' left' no_field os' ↔ AreFields depth left no_field os
null_passed depth left os depth' left' os' t = (λ h. from_absent depth left os (t.found no_field h), λ h. (t.only absent no_field (as_absent depth left os h)).1)

pub no_null : (depth left : ℕ) (os : List ℕ) → MissesAbsent left os → AreFields depth left no_field os → ⊥
no_null depth left os m h = no_absent depth left os m no_field (as_absent depth left os h)

nothing_left : (values : Data) (os : List ℕ) → count_of values ≡ 0 → AreParts values None os → os ≡ []
nothing_left none os n h = h
nothing_left (item v vs) os n h = absurd cc

pub at_end : (depth left : ℕ) (os : List ℕ) → left ≡ 0 → os ≡ [] → AreFields depth left no_field os
at_end depth left os n e = record { values = none; fit = tt; spelled = e; counted = sym n; nested = omega arith }

pub only_end : (depth left : ℕ) (os : List ℕ) → left ≡ 0 → AreFields depth left no_field os → os ≡ []
only_end depth left os n h = nothing_left h.values os (h.counted ∙ n) h.spelled

-- any field that is not mandatory may be what it is
pub always : {A : Type 0} (b : Option A) → IsTrue (where_present every b)
always None = refl
always (Some b) = refl

same_value : (v w : Datum) → value v ≡ value w → v ≡ w
same_value v w e = cc

pub map_owned : (ps : List (Value × Value)) (v : Datum) (os : List ℕ) → is_whole os ≡ true → mapping ps ≡ value v → v ≡ datum_in os → mapping ps ≡ mapping (pairs_in os)
map_owned ps v os whole e s =
    let m : datum_in os ≡ map (views_of_pairs ps) = sym s ∙ sym (same_value (map (views_of_pairs ps)) v e) in
    let is : is_mapping (datum_in os) ≡ true = rw m refl in
    ap value (sym m ∙ pairs_seen 32 os (whole_spelled os whole) is)
