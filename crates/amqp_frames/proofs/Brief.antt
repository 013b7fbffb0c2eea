-- Frames of few numbers and booleans are short.
use Rattle.std.proofs.Common.{◌≡◌, ℕ, ◌+◌, ◌*◌, ◌^◌, ◌<◌, ◌≤◌, Bool, true, false, ltb, leb, eqb, List, [], ◌∷◌, ◌++◌, length, Option, Some, None, refl, sym, ap, subst, ◌∙◌, arith}
use Rattle.std.proofs.lemmas.Bool.{lt-ltb, le-leb, eqb-true, eqb-false, ltb-true, ltb-false}
use Rattle.std.proofs.lemmas.List.{length-append}
use Rattle.amqp_types.specs.Datum.{Data, none, item, count_of, depth_of, greatest_depth_of}
use Rattle.amqp_types.specs.Reading.{◌>>=◌}
use Rattle.amqp_types.specs.Canon.{part_form, parts_form, canon}
use Rattle.amqp_types.proofs.Canonical.{canon_is}
use Rattle.amqp_performatives.specs.declared.performative.Performative.{Performative}
use Rattle.amqp_performatives.specs.declared.performative.Performative.TheVariants.{Flow, Detach, End}
use Rattle.amqp_performatives.specs.declared.bodies.FlowBody.{FlowBody}
use Rattle.amqp_performatives.specs.declared.bodies.DetachBody.{DetachBody}
use Rattle.amqp_performatives.specs.declared.bodies.EndBody.{EndBody}
use Rattle.amqp_performatives.specs.Part.{Part, Fields, absent, value, composite, no_field, field, shown, canonical, canonical_fields}
use Rattle.amqp_performatives.specs.Bodies.{uint, boolean, any, error, optional, fields_of, descriptor_of}
use Rattle.amqp_performatives.specs.Fair.{is_fair, where_present, is_present, is_fair_error}
use Rattle.amqp_frames.specs.Written.{framed, frame_octets, within_size}
use Rattle.amqp_frames.specs.Field.{list_octets, composite_datum, with_payload, header}
use Rattle.amqp_frames.specs.Brief.{Is32, IsBriefFlow, IsBrief}
use Rattle.amqp_frames.proofs.Leaves.{null_form, true_form, false_form, uint_zero, uint_small, uint_large}
use Rattle.amqp_frames.proofs.Composites.{composite_form, composite_octets}
use Rattle.amqp_frames.proofs.Measuring.{opened, framed_whole}

-- ---- fields of at most five octets

pub record IsNarrow (p : Part) : Type 0 where
  octets : List ℕ
  form : part_form None (canonical p) ≡ Some octets
  short : length octets ≤ 5
  flat : depth_of (canonical p) ≤ 1

abbrev AreNarrow : Fields → Type 0
AreNarrow no_field = Unit {0}
AreNarrow (field p fs) = IsNarrow p × AreNarrow fs

abbrev how_many : Fields → ℕ
how_many no_field = 0
how_many (field p fs) = 1 + how_many fs

record AreShort (ds : Data) (n : ℕ) : Type 0 where
  octets : List ℕ
  form : parts_form ds None ≡ Some octets
  short : length octets ≤ 5 * n
  counted : count_of ds ≤ n
  flat : greatest_depth_of ds ≤ 1

one_more : (p : Part) (ds : Data) (n : ℕ) → IsNarrow p → AreShort ds n → AreShort (item (canonical p) ds) (1 + n)
one_more p ds n h k = record {
  octets = h.octets ++ k.octets;
  form = rw (h.form, k.form) refl;
  short = let a = h.short in let b = k.short in omega (arith, length-append h.octets k.octets);
  counted = let a = k.counted in omega arith;
  flat = let a = h.flat in let b = k.flat in omega arith;
}

none_more : (n : ℕ) → AreShort none n → AreShort none (1 + n)
none_more n k = record { octets = k.octets; form = k.form; short = let b = k.short in omega arith; counted = omega arith; flat = k.flat }

shown_more : (p : Part) (ds : Data) (n : ℕ) → IsNarrow p → AreShort ds n → AreShort (shown p (canonical p) ds) (1 + n)
shown_more absent none n h k = none_more n k
shown_more absent (item d ds) n h k = one_more absent (item d ds) n h k
shown_more (value w) ds n h k = one_more (value w) ds n h k
shown_more (composite type fs) ds n h k = one_more (composite type fs) ds n h k

are_short : (fs : Fields) → AreNarrow fs → AreShort (canonical_fields fs) (how_many fs)
are_short no_field h = record { octets = []; form = refl; short = omega arith; counted = omega arith; flat = omega arith }
are_short (field p fs) h = shown_more p (canonical_fields fs) (how_many fs) h.0 (are_short fs h.1)

-- ---- the fields there are

narrow_absent : IsNarrow absent
narrow_absent = record { octets = 0x40 ∷ []; form = null_form; short = omega arith; flat = omega arith }

uint_by : (n : ℕ) (b0 b1 : Bool) → n < 2 ^ 32 → eqb n 0 ≡ b0 → ltb n 256 ≡ b1 → IsNarrow (uint n)
uint_by n true b1 l e0 e1 = record { octets = 0x43 ∷ []; form = (let z : n ≡ 0 = eqb-true _ _ e0 in rw z uint_zero); short = omega arith; flat = omega arith }
uint_by n false true l e0 e1 = record { octets = 0x52 ∷ n ∷ []; form = uint_small n (λ z. eqb-false _ _ e0 z) (ltb-true _ _ e1); short = omega arith; flat = omega arith }
uint_by n false false l e0 e1 = record { octets = _; form = uint_large n (ltb-false _ _ e1) l; short = omega arith; flat = omega arith }

narrow_uint : (n : ℕ) → n < 2 ^ 32 → IsNarrow (uint n)
narrow_uint n l = uint_by n (eqb n 0) (ltb n 256) l refl refl

narrow_optional : (n : Option ℕ) → Is32 n → IsNarrow (optional uint n)
narrow_optional None h = narrow_absent
narrow_optional (Some n) h = narrow_uint n h

narrow_boolean : (b : Option Bool) → IsNarrow (optional boolean b)
narrow_boolean None = narrow_absent
narrow_boolean (Some true) = record { octets = 0x41 ∷ []; form = true_form; short = omega arith; flat = omega arith }
narrow_boolean (Some false) = record { octets = 0x42 ∷ []; form = false_form; short = omega arith; flat = omega arith }

-- ---- a frame of them

head_by : (count size : ℕ) (b : Bool) → eqb count 0 ≡ b → count < 256 → 1 + size < 256 → (h : List ℕ) × (list_octets count size ≡ Some h) × (length h ≤ 3)
head_by count size true e few short = (0x45 ∷ [], simp e, omega arith)
head_by count size false e few short =
    let e1 : ltb (1 + size) 256 ≡ true = lt-ltb _ _ short in
    let e2 : ltb count 256 ≡ true = lt-ltb _ _ few in
    (0xc0 ∷ (1 + size) ∷ count ∷ [], simp (e, e1, e2), omega arith)

list_short : (code : ℕ) (ds : Data) (n : ℕ) → 0 < code → code < 256 → n ≤ 40 → AreShort ds n → (x : List ℕ) × (canon (composite_datum code ds) ≡ Some x) × (length x ≤ 6 + 5 * n)
list_short code ds n some small few k =
    let c = k.counted in
    let s = k.short in
    let g = k.flat in
    let h = head_by (count_of ds) (length k.octets) (eqb (count_of ds) 0) refl (omega arith) (omega arith) in
    let deep : depth_of (composite_datum code ds) ≤ 32 = omega arith in
    let m = h.2 in (
      0x00 ∷ 0x53 ∷ code ∷ (h.0 ++ k.octets),
      canon_is (composite_datum code ds) deep ∙ composite_form code ds some small
          ∙ ap (λ (o : Option (List ℕ)). o >>= composite_octets code (count_of ds)) k.form
          ∙ ap (λ (o : Option (List ℕ)). o >>= λ h. Some (0x00 ∷ 0x53 ∷ code ∷ (h ++ k.octets))) h.1,
      omega (arith, length-append h.0 k.octets),
    )

brief : (p : Performative) → is_fair p ≡ true → 0 < (descriptor_of p).0 → (descriptor_of p).0 < 256 → how_many (fields_of p) ≤ 40 → AreNarrow (fields_of p) → IsBrief p
brief p fair some small few narrow channel max enough =
    let x = list_short (descriptor_of p).0 (canonical_fields (fields_of p)) (how_many (fields_of p)) some small few (are_short (fields_of p) narrow) in
    let contents = x.0 ++ [] in
    let l = x.2 in
    let short : length contents ≤ 206 = omega (arith, length-append x.0 []) in
    let octets = header (8 + length contents) channel ++ contents in
    let long : length octets ≡ 8 + length contents = length-append (header (8 + length contents) channel) contents in
    let fits : leb (length octets) max ≡ true = le-leb _ _ (omega (arith, long)) in
    let there : frame_octets (record { channel = channel; body = Some p; payload = [] }) ≡ Some octets =
    opened p channel [] fair refl ∙ ap (λ (o : Option (List ℕ)). with_payload o [] >>= framed channel) x.1 ∙ framed_whole channel contents (lt-ltb _ _ (omega arith)) in
    (octets, ap (within_size max) there ∙ simp fits, omega (arith, long))

-- ---- the frames

narrow_none : {A : Type 0} → (of : A → Part) (o : Option A) → o ≡ None → IsNarrow (optional of o)
narrow_none of o e = subst (λ o. IsNarrow (optional of o)) (sym e) narrow_absent

pub flow_brief : (b : FlowBody) → IsBriefFlow b → IsBrief (Flow b)
flow_brief b h =
    brief (Flow b) (ap (where_present is_present) h.properties) (omega arith) (omega arith) (omega arith) (
      narrow_optional b.next_incoming_id h.next_incoming_id,
      (
        narrow_uint b.incoming_window h.incoming_window,
        (
          narrow_uint b.next_outgoing_id h.next_outgoing_id,
          (
            narrow_uint b.outgoing_window h.outgoing_window,
            (
              narrow_optional b.handle h.handle,
              (
                narrow_optional b.delivery_count h.delivery_count,
                (
                  narrow_optional b.link_credit h.link_credit,
                  (narrow_optional b.available h.available, (narrow_boolean b.drain, (narrow_boolean b.echo, (narrow_none any b.properties h.properties, tt)))),
                ),
              ),
            ),
          ),
        ),
      ),
    )

pub detach_brief : (b : DetachBody) → b.handle < 2 ^ 32 → b.error ≡ None → IsBrief (Detach b)
detach_brief b h e =
    brief (Detach b) (ap (where_present is_fair_error) e) (omega arith) (omega arith) (omega arith) (narrow_uint b.handle h, (narrow_boolean b.closed, (narrow_none error b.error e, tt)))

pub end_brief : (b : EndBody) → b.error ≡ None → IsBrief (End b)
end_brief b e = brief (End b) (ap (where_present is_fair_error) e) (omega arith) (omega arith) (omega arith) (narrow_none error b.error e, tt)
