-- The fields' octets are what is written for them.
use Rattle.std.proofs.Common.{◌≡◌, ◌≤◌, ◌<◌, ◌+◌, ◌-◌, ◌^◌, ℕ, suc, max, Bool, true, false, ltb, eqb, Option, Some, None, List, [], ◌∷◌, ◌++◌, length, take, drop, refl, sym, ap, ◌∙◌, subst, arith, length-append, append_assoc}
use Rattle.std.specs.Prelude.{Result, Ok, Err, is_ok, if◌then◌else◌}
use Rattle.amqp_types.specs.declared.class.Kind.TheVariants as Kind
use Rattle.amqp_types.specs.Datum.{Datum, Data, none, item, number, count_of, depth_of, greatest_depth_of}
use Rattle.amqp_types.specs.Reading.{◌>>=◌}
use Rattle.amqp_types.specs.Canon.{part_form, parts_form, canon, capped}
use Rattle.amqp_types.proofs.Canonical.{canon_is}
use Rattle.amqp_performatives.specs.Part.{Part, Fields, absent, value, composite, no_field, field, null, shown, canonical, canonical_fields}
use Rattle.amqp_frames.specs.declared.fault.FrameRefusal.{FrameRefusal}
use Rattle.amqp_frames.specs.declared.fault.FrameRefusal.TheVariants as refusal
use Rattle.amqp_frames.specs.Field.{composite_datum, list_octets, body_answer, header, size_answer}
use Rattle.amqp_frames.specs.Plain.{full, before_others, trim, IsShown, AreShown, Appended, AppendedHead, AppendedSo}
use Rattle.amqp_frames.proofs.Composites.{composite_form, composite_octets}
use Rattle.amqp_frames.proofs.Measuring.{is_there}
use Rattle.amqp_types.specs.declared.class.Run.TheVariants as Run
use Rattle.amqp_performatives.specs.Bodies.{state, role, boolean, optional}
use Rattle.amqp_performatives.specs.declared.bodies.Role.{Role}
use Rattle.amqp_frames.specs.declared.append.PlainState.{PlainState}
use Rattle.amqp_frames.specs.declared.append.PlainState.TheVariants as bare
use Rattle.amqp_frames.specs.Plain.{state_of, bare_octets}
use Rattle.amqp_types.specs.Datum.{octets}
use Rattle.std.proofs.lemmas.Bool.{eqb-true, eqb-false, ltb-true, ltb-false, lt-ltb, ne_eqb}
use Rattle.std.proofs.lemmas.List.{append_cancel_left, length-take-le, take-append-drop}
use Rattle.std.proofs.Math.Seq.{take-append-add}
use Rattle.amqp_frames.specs.Plain.{uint_octets, boolean_octets, ubyte_octets, binary_octets}
use Rattle.amqp_frames.proofs.Leaves.{null_form, true_form, false_form, ubyte_form, uint_zero, uint_small, uint_large, binary_form}

-- octets are put behind others
pub extended : {E : Type 0} (r : Result (Unit {0}) E) (u : Unit {0}) (items a b : List ℕ) → items ≡ (if is_ok r then a ++ b else a) → r ≡ Ok u → items ≡ a ++ b
extended r u items a b e k = e ∙ ap (λ t. if is_ok t then a ++ b else a) k

-- what is written of the values
pub record AreWritten (ds : Data) (os : List (Option (List ℕ))) : Type 0 where
  pub form : parts_form ds None ≡ Some (full os)
  pub counted : count_of ds ≡ length os
  pub nested : greatest_depth_of ds ≤ 3

one_more : (d : Datum) (ds : Data) (x y : List ℕ) → part_form None d ≡ Some x → parts_form ds None ≡ Some y → parts_form (item d ds) None ≡ Some (x ++ y)
one_more d ds x y e f = rw (e, f) refl

absent_more : (ds : Data) (os : List (Option (List ℕ))) → AreWritten ds os → AreWritten (shown absent null ds) (before_others os)
absent_more none [] w = w
absent_more none (o ∷ os) w = let c = w.counted in absurd (omega arith)
absent_more (item d ds) [] w = let c = w.counted in absurd (omega arith)
absent_more (item d ds) (o ∷ os) w = record {
  form = one_more null (item d ds) (0x40 ∷ []) (full (o ∷ os)) null_form w.form;
  counted = ap suc w.counted;
  nested = let n = w.nested in omega arith;
}

value_more : (d : Datum) (ds : Data) (os : List (Option (List ℕ))) (x : List ℕ) → part_form None d ≡ Some x → depth_of d ≤ 3 → AreWritten ds os → AreWritten (item d ds) (Some x ∷ os)
value_more d ds os x e n w = record {
  form = one_more d ds x (full os) e w.form;
  counted = ap suc w.counted;
  nested = let m = w.nested in omega arith;
}

pub are_written : (fs : Fields) (os : List (Option (List ℕ))) → AreShown fs os → AreWritten (canonical_fields fs) (trim os)
are_written no_field [] h = record { form = refl; counted = refl; nested = omega arith }
are_written no_field (o ∷ os) h = absurd h
are_written (field p fs) [] h = absurd h
are_written (field absent fs) (None ∷ os) h = absent_more (canonical_fields fs) (trim os) (are_written fs os h.1)
are_written (field absent fs) (Some x ∷ os) h = absurd h.0
are_written (field (value d) fs) (None ∷ os) h = absurd h.0
are_written (field (value d) fs) (Some x ∷ os) h = value_more d (canonical_fields fs) (trim os) x h.0.0 h.0.1 (are_written fs os h.1)
are_written (field (composite type gs) fs) (None ∷ os) h = absurd h.0
are_written (field (composite type gs) fs) (Some x ∷ os) h = value_more (canonical (composite type gs)) (canonical_fields fs) (trim os) x h.0.0 h.0.1 (are_written fs os h.1)

-- ---- the described list

short_head : (count size : ℕ) → 0 < count → count < 256 → 1 + size < 256 → list_octets count size ≡ Some (0xc0 ∷ (1 + size) ∷ count ∷ [])
short_head count size some few short =
    let e0 : eqb count 0 ≡ false = ne_eqb _ _ (λ z. omega (arith, z)) in
    let e1 : ltb (1 + size) 256 ≡ true = lt-ltb _ _ short in
    let e2 : ltb count 256 ≡ true = lt-ltb _ _ few in
    simp (e0, e1, e2)

pub plain_canon : (code count : ℕ) (ds : Data) (x : List ℕ) → 0 < code → code < 256 → parts_form ds None ≡ Some x → count_of ds ≡ count → greatest_depth_of ds ≤ 3 → 0 < count → count < 256 → 1 + length x < 256
    → canon (composite_datum code ds) ≡ Some (0x00 ∷ 0x53 ∷ code ∷ 0xc0 ∷ (1 + length x) ∷ count ∷ x)
plain_canon code count ds x some small form counted nested one few short =
    let deep : depth_of (composite_datum code ds) ≤ 32 = omega (arith, nested) in
    canon_is (composite_datum code ds) deep ∙ composite_form code ds some small
    ∙ ap (λ (o : Option (List ℕ)). o >>= composite_octets code (count_of ds)) form
    ∙ ap (λ (k : ℕ). composite_octets code k x) counted
    ∙ ap (λ (o : Option (List ℕ)). o >>= λ h. Some (0x00 ∷ 0x53 ∷ code ∷ (h ++ x))) (short_head count (length x) one few short)

-- ---- the frame

same_refused : (e : FrameRefusal) (old new : List ℕ) → new ≡ old → Appended (Err e) (Err e) old new
same_refused refusal.NotWritable old new n = (refl, n)
same_refused refusal.FrameTooBig old new n = (refl, n)
same_refused refusal.NoMemory old new n = (refl, n)

pub refused : (e : FrameRefusal) (answer : Result (List ℕ) FrameRefusal) (old new : List ℕ) → answer ≡ Err e → new ≡ old → Appended (Err e) answer old new
refused e answer old new a n = subst (λ (r : Result (List ℕ) FrameRefusal). Appended (Err e) r old new) (sym a) (same_refused e old new n)

pub no_room : (answer : Result (List ℕ) FrameRefusal) (x old new : List ℕ) → answer ≡ Ok x → new ≡ old → Appended (Err refusal.NoMemory) answer old new
no_room answer x old new a n = subst (λ (r : Result (List ℕ) FrameRefusal). Appended (Err refusal.NoMemory) r old new) (sym a) n

-- ---- the fields

uint_by : (n : ℕ) (b0 b1 : Bool) → n < 2 ^ 32 → eqb n 0 ≡ b0 → ltb n 256 ≡ b1 → part_form None (number Kind.Uint n) ≡ Some (uint_octets n)
uint_by n true b1 l e0 e1 = let z : n ≡ 0 = eqb-true _ _ e0 in rw z uint_zero
uint_by n false true l e0 e1 = simp (e0, e1) (uint_small n (λ z. eqb-false _ _ e0 z) (ltb-true _ _ e1))
uint_by n false false l e0 e1 = simp (e0, e1) (uint_large n (ltb-false _ _ e1) l)

pub uint_shown : (n : ℕ) → n < 2 ^ 32 → part_form None (number Kind.Uint n) ≡ Some (uint_octets n)
uint_shown n l = uint_by n (eqb n 0) (ltb n 256) l refl refl

pub boolean_shown : (b : Bool) → part_form None (number Kind.Bool (if b then 1 else 0)) ≡ Some (boolean_octets b)
boolean_shown true = true_form
boolean_shown false = false_form

pub role_shown : (r : Role) (b : Bool) → role r ≡ boolean b → IsShown (boolean b) (Some (boolean_octets b)) → IsShown (role r) (Some (boolean_octets b))
role_shown r b e h = subst (λ (p : Part). IsShown p (Some (boolean_octets b))) (sym e) h

pub ubyte_shown : (n : ℕ) → n < 2 ^ 8 → part_form None (number Kind.Ubyte n) ≡ Some (ubyte_octets n)
ubyte_shown n l = ubyte_form n l

pub binary_shown : (os : List ℕ) → length os ≤ 32 → part_form None (octets Run.Binary os) ≡ Some (binary_octets os)
binary_shown os l = let e : ltb (length os) 256 ≡ true = lt-ltb _ _ (omega arith) in binary_form os ∙ simp e

bare_shown : (code : ℕ) → 0 < code → code < 256 → part_form None (composite_datum code none) ≡ Some (0x00 ∷ 0x53 ∷ code ∷ 0x45 ∷ [])
bare_shown code some small = composite_form code none some small

pub state_shown : (b : PlainState) → IsShown (optional state (state_of b)) (bare_octets b)
state_shown bare.Absent = tt
state_shown bare.Accepted = (bare_shown 0x24 (omega arith) (omega arith), omega arith)
state_shown bare.Released = (bare_shown 0x26 (omega arith) (omega arith), omega arith)

fewer_by : (os : List (Option (List ℕ))) → length (before_others os) ≤ length os + 1
fewer_by [] = omega arith
fewer_by (o ∷ os) = omega arith

pub fewer : (os : List (Option (List ℕ))) → length (trim os) ≤ length os
fewer [] = omega arith
fewer (Some x ∷ os) = let f = fewer os in omega arith
fewer (None ∷ os) = let f = fewer os in let g = fewer_by (trim os) in omega arith

-- a list whose second field is present
pub second_there : (o : Option (List ℕ)) (x : List ℕ) (os : List (Option (List ℕ))) → 0 < length (trim (o ∷ Some x ∷ os))
second_there None x os = omega arith
second_there (Some y) x os = omega arith

-- ---- behind the other octets

-- the octets in front are others now
front_anew : (end : ℕ) (old front new x : List ℕ) → length front ≡ 14 → 14 ≤ end → 14 ≤ length old → take end old ≡ take 14 old ++ x → new ≡ front ++ drop 14 old → take end new ≡ front ++ x
front_anew end old front new x l e i t n =
    let k : end ≡ length front + (end - 14) = omega arith in
    let m : end ≡ length (take 14 old) + (end - 14) = omega (arith, length-take-le 14 old i) in
    let tail : take (end - 14) (drop 14 old) ≡ x = append_cancel_left (take 14 old) _ _ (sym (take-append-add (take 14 old) (drop 14 old) (end - 14)) ∙ ap (λ j. take j (take 14 old ++ drop 14 old)) (sym m) ∙ ap (take end) (take-append-drop 14 old) ∙ t) in
    ap (take end) n ∙ ap (λ j. take j (front ++ drop 14 old)) k ∙ take-append-add front (drop 14 old) (end - 14) ∙ ap (λ t. front ++ t) tail

-- what is known of the fields in the buffer
pub record IsPlain (code count end : ℕ) (ds : Data) (x head : List ℕ) : Type 0 where
  pub canonical : canon (composite_datum code ds) ≡ Some (0x00 ∷ 0x53 ∷ code ∷ 0xc0 ∷ (1 + length x) ∷ count ∷ x)
  pub size : length x ≡ end - 14

pub is_plain : (code count end : ℕ) (ds : Data) (x head : List ℕ) → 0 < code → code < 256 → 0 < count → count < 256 → 14 ≤ end → end ≤ 96 → 96 ≤ length head → parts_form ds None ≡ Some x → count_of ds ≡ count → greatest_depth_of ds ≤ 3 → take end head ≡ take 14 head ++ x
    → IsPlain code count end ds x head
is_plain code count end ds x head some small one few low high room form counted nested t =
    let size : length x ≡ end - 14 = omega (arith, ap length t, length-append (take 14 head) x, length-take-le 14 head (omega arith), length-take-le end head (omega arith)) in
    record { canonical = plain_canon code count ds x some small form counted nested one few (omega arith); size = size }

pub plain_sized : (code count end : ℕ) (ds : Data) (x head : List ℕ) → 14 ≤ end → end ≤ 96 → IsPlain code count end ds x head → Some (end - 8) ≡ capped (canon (composite_datum code ds))
plain_sized code count end ds x head low high p =
    ap (λ (k : ℕ). let o : Option ℕ = Some k in o) (let s = p.size in omega arith) ∙ sym (ap capped p.canonical)

same_octets : (x y : List ℕ) (form : Option (List ℕ)) → form ≡ Some x → form ≡ Some y → x ≡ y
same_octets x y form e f = let q : Some x ≡ Some y = sym e ∙ f in cc

pub plain_there : (code count end size channel max : ℕ) (ds : Data) (x head head' payload old out : List ℕ) → 14 ≤ end → end ≤ 96 → 96 ≤ length head → IsPlain code count end ds x head → take end head ≡ take 14 head ++ x
    → Ok size ≡ size_answer (8 + ((end - 8) + length payload)) max → length (header size channel) ≡ 8 → head' ≡ (header size channel ++ 0x00 ∷ 0x53 ∷ code ∷ 0xc0 ∷ (end - 13) ∷ count ∷ []) ++ drop 14 head
    → out ≡ old ++ take end head' → AppendedHead payload (Ok tt) (body_answer channel max (canon (composite_datum code ds)) payload) old out
plain_there code count end size channel max ds x head head' payload old out low high room p t s eight h o =
    let front = header size channel ++ 0x00 ∷ 0x53 ∷ code ∷ 0xc0 ∷ (end - 13) ∷ count ∷ [] in
    let there = is_there (end - 8) size channel max (canon (composite_datum code ds)) payload (plain_sized code count end ds x head low high p) s in
    let same : there.0 ≡ 0x00 ∷ 0x53 ∷ code ∷ 0xc0 ∷ (1 + length x) ∷ count ∷ x = same_octets _ _ _ there.1.form_is p.canonical in
    let long : length front ≡ 14 = length-append (header size channel) (0x00 ∷ 0x53 ∷ code ∷ 0xc0 ∷ (end - 13) ∷ count ∷ []) ∙ ap (λ k. k + 6) eight in
    let sized : end - 13 ≡ 1 + length x = let z = p.size in omega arith in
    let written : take end head' ≡ front ++ x = front_anew end head front head' x long low (omega arith) t h in
    let exact : front ++ x ≡ header size channel ++ there.0 = append_assoc (header size channel) (0x00 ∷ 0x53 ∷ code ∷ 0xc0 ∷ (end - 13) ∷ count ∷ []) x ∙ ap (λ k. header size channel ++ 0x00 ∷ 0x53 ∷ code ∷ 0xc0 ∷ k ∷ count ∷ x) sized ∙ ap (λ y. header size channel ++ y) (sym same) in (
      header size channel ++ (there.0 ++ payload),
      there.1.answer,
      ap (λ y. y ++ payload) (o ∙ ap (λ y. old ++ y) (written ∙ exact)) ∙ append_assoc old (header size channel ++ there.0) payload ∙ ap (λ y. old ++ y) (append_assoc (header size channel) there.0 payload),
    )

-- the payload behind what stands before it
pub payload_behind : (u : Unit {0}) (answer : Result (List ℕ) FrameRefusal) (payload old out out' : List ℕ) → AppendedHead payload (Ok u) answer old out → out' ≡ out ++ payload → Appended (Ok u) answer old out'
payload_behind u answer payload old out out' h e = (h.0, h.1, e ∙ h.2)

pub refused_so : (apart : Bool) (payload : List ℕ) (e : FrameRefusal) (answer : Result (List ℕ) FrameRefusal) (old new : List ℕ) → Appended (Err e) answer old new → AppendedSo apart payload (Err e) answer old new
refused_so true payload e answer old new h = h
refused_so false payload e answer old new h = h
