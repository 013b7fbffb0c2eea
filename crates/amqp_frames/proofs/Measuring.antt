-- A frame's measure: its size and that it has octets, or why it has none.
use Rattle.std.proofs.Common.{◌≡◌, ℕ, ◌+◌, ◌-◌, ◌^◌, ◌<◌, ◌≤◌, Bool, true, false, cond, ltb, leb, min, List, [], ◌++◌, length, Option, Some, None, refl, sym, ap, subst, ◌∙◌, arith}
use Rattle.std.specs.Prelude.{Result, Ok, Err}
use Rattle.std.specs.Result.{result_err}
use Rattle.std.proofs.lemmas.Bool.{ltb-true, ltb-false, le-ltb, leb-true, le-leb}
use Rattle.std.proofs.lemmas.List.{length-append}
use Rattle.amqp_types.specs.Datum.{Data, count_of}
use Rattle.amqp_types.specs.Reading.{◌>>=◌}
use Rattle.amqp_types.specs.Canon.{canon, capped}
use Rattle.amqp_frames.specs.declared.fault.FrameRefusal.{FrameRefusal}
use Rattle.amqp_frames.specs.declared.fault.FrameRefusal.TheVariants as refusal
use Rattle.amqp_frames.specs.declared.frame.Frame.{Frame}
use Rattle.amqp_frames.specs.declared.measure.Measure.{Measure}
use Rattle.amqp_frames.specs.declared.measured.Measured.{Measured}
use Rattle.amqp_performatives.specs.declared.performative.Performative.{Performative}
use Rattle.amqp_performatives.specs.declared.field.Field.{Field}
use Rattle.amqp_performatives.specs.Part.{Fields, canonical, canonical_fields}
use Rattle.amqp_performatives.specs.Listed.{fields_at, shown_fields}
use Rattle.amqp_performatives.specs.Bodies.{part_of, descriptor_of, fields_of}
use Rattle.amqp_performatives.specs.Fair.{is_fair}
use Rattle.amqp_frames.specs.Written.{Answers, may_follow, framed, frame_octets, within_size, write_answer}
use Rattle.amqp_frames.specs.Field.{measured, forms_within, composite_datum, with_payload, body_answer, size_answer, header}
use Rattle.amqp_frames.specs.Measuring.{IsListMeasure, IsMeasured, IsMeasureOf, Measures, MeasuresList}
use Rattle.amqp_frames.proofs.Composites.{composite_within, size_from}

pub canon_sized : (code : ℕ) (ds : Data) → 0 < code → code < 256 → capped (canon (composite_datum code ds)) ≡ size_from (measured (count_of ds) (forms_within 30 ds))
unfolding canon
canon_sized code ds some small = composite_within code 32 ds some small (omega arith)

pub no_form : (channel max : ℕ) (form : Option (List ℕ)) (payload : List ℕ) → capped form ≡ None → body_answer channel max form payload ≡ Err refusal.NotWritable
no_form channel max (Some x) payload e = absurd cc
no_form channel max None payload e = refl

capped_is : (n : ℕ) (form : Option (List ℕ)) → Some n ≡ capped form → (x : List ℕ) × (form ≡ Some x) × (n ≡ min (length x) (2 ^ 64 - 1))
capped_is n (Some x) e = (x, refl, cc)
capped_is n None e = absurd cc

-- the size that the code has, and that of the contents
size_tests : (n : ℕ) (x payload : List ℕ) → n ≡ min (length x) (2 ^ 64 - 1) → 8 + (n + length payload) < 2 ^ 32 → 8 + (n + length payload) ≡ 8 + length (x ++ payload)
size_tests n x payload s lt = omega (arith, s, lt, length-append x payload)

pub framed_whole : (channel : ℕ) (x : List ℕ) → ltb (8 + length x) (2 ^ 32) ≡ true → framed channel x ≡ Some (header (8 + length x) channel ++ x)
framed_whole channel x e = simp e

-- ---- a refusal

too_big : (channel max : ℕ) (x : List ℕ) → ltb (8 + length x) (2 ^ 32) ≡ true → leb (8 + length x) max ≡ false → within_size max (framed channel x) ≡ Err refusal.FrameTooBig
too_big channel max x e0 e1 = let l : leb (length (header (8 + length x) channel ++ x)) max ≡ false = rw (length-append (header (8 + length x) channel) x) e1 in simp (e0, l)

refused_by : (n channel max : ℕ) (x payload : List ℕ) (e : FrameRefusal) (b0 b1 : Bool) → n ≡ min (length x) (2 ^ 64 - 1) → ltb (8 + (n + length payload)) (2 ^ 32) ≡ b0 → leb (8 + (n + length payload)) max ≡ b1
    → Err e ≡ cond b0 (cond b1 (Ok (8 + (n + length payload))) (Err refusal.FrameTooBig)) (Err refusal.NotWritable) → within_size max (framed channel (x ++ payload)) ≡ Err e
refused_by n channel max x payload e true true s e0 e1 h = absurd cc
refused_by n channel max x payload e true false s e0 e1 h =
    let same = size_tests n x payload s (ltb-true _ _ e0) in
    let q : refusal.FrameTooBig ≡ e = cc in
    too_big channel max (x ++ payload) (ap (λ (k : ℕ). ltb k (2 ^ 32)) (sym same) ∙ e0) (ap (λ (k : ℕ). leb k max) (sym same) ∙ e1) ∙ ap (λ (r : FrameRefusal). Err r) q
refused_by n channel max x payload e false b1 s e0 e1 h =
    let long : ltb (8 + length (x ++ payload)) (2 ^ 32) ≡ false = le-ltb _ _ (omega (arith, s, ltb-false _ _ e0, length-append x payload)) in
    let none : framed channel (x ++ payload) ≡ None = simp long in
    let q : refusal.NotWritable ≡ e = cc in
    ap (within_size max) none ∙ ap (λ (r : FrameRefusal). Err r) q

pub refused_form : (n channel max : ℕ) (form : Option (List ℕ)) (payload : List ℕ) (e : FrameRefusal) → Some n ≡ capped form → Err e ≡ size_answer (8 + (n + length payload)) max → body_answer channel max form payload ≡ Err e
refused_form n channel max form payload e s h =
    let x = capped_is n form s in
    ap (λ (o : Option (List ℕ)). body_answer channel max o payload) x.1 ∙ refused_by n channel max x.0 payload e (ltb (8 + (n + length payload)) (2 ^ 32)) (leb (8 + (n + length payload)) max) x.2 refl refl h

-- ---- a measure

-- the size is that of the octets, and small enough
record IsSize (size channel max : ℕ) (x : List ℕ) : Type 0 where
  whole : framed channel x ≡ Some (header size channel ++ x)
  exact : size ≡ 8 + length x
  small : size ≤ max

sized_by : (n size channel max : ℕ) (x payload : List ℕ) (b0 b1 : Bool) → n ≡ min (length x) (2 ^ 64 - 1) → ltb (8 + (n + length payload)) (2 ^ 32) ≡ b0 → leb (8 + (n + length payload)) max ≡ b1
    → Ok size ≡ cond b0 (cond b1 (Ok (8 + (n + length payload))) (Err refusal.FrameTooBig)) (Err refusal.NotWritable) → IsSize size channel max (x ++ payload)
sized_by n size channel max x payload true true s e0 e1 h =
    let same = size_tests n x payload s (ltb-true _ _ e0) in
    let p : size ≡ 8 + (n + length payload) = cc in
    record {
      whole = framed_whole channel (x ++ payload) (ap (λ (k : ℕ). ltb k (2 ^ 32)) (sym same) ∙ e0) ∙ ap (λ k. Some (header k channel ++ (x ++ payload))) (sym (p ∙ same));
      exact = p ∙ same;
      small = omega (arith, p, leb-true _ _ e1);
    }
sized_by n size channel max x payload true false s e0 e1 h = absurd cc
sized_by n size channel max x payload false b1 s e0 e1 h = absurd cc

-- the frame that there is
pub record IsThere (size channel max : ℕ) (form : Option (List ℕ)) (payload x : List ℕ) : Type 0 where
  pub form_is : form ≡ Some x
  pub answer : body_answer channel max form payload ≡ Ok (header size channel ++ (x ++ payload))

pub is_there : (n size channel max : ℕ) (form : Option (List ℕ)) (payload : List ℕ) → Some n ≡ capped form → Ok size ≡ size_answer (8 + (n + length payload)) max → (x : List ℕ) × IsThere size channel max form payload x
is_there n size channel max form payload s h =
    let x = capped_is n form s in
    let z = sized_by n size channel max x.0 payload (ltb (8 + (n + length payload)) (2 ^ 32)) (leb (8 + (n + length payload)) max) x.2 refl refl h in
    let fits : leb (length (header size channel ++ (x.0 ++ payload))) max ≡ true = le-leb _ _ (let a = z.exact in let b = z.small in omega (arith, length-append (header size channel) (x.0 ++ payload))) in
    let inside : within_size max (Some (header size channel ++ (x.0 ++ payload))) ≡ Ok (header size channel ++ (x.0 ++ payload)) = simp fits in
    (x.0, record { form_is = x.1; answer = ap (λ (o : Option (List ℕ)). body_answer channel max o payload) x.1 ∙ ap (within_size max) z.whole ∙ inside })

pub measured_list : (n size channel max code : ℕ) (ds : Data) (payload : List ℕ) (l : Measure) → Some n ≡ capped (canon (composite_datum code ds)) → Ok size ≡ size_answer (8 + (n + length payload)) max → IsListMeasure 30 l ds
    → MeasuresList (Ok (record { size = size; list = l })) channel max code ds payload
measured_list n size channel max code ds payload l s h m =
    let x = capped_is n (canon (composite_datum code ds)) s in
    let z = sized_by n size channel max x.0 payload (ltb (8 + (n + length payload)) (2 ^ 32)) (leb (8 + (n + length payload)) max) x.2 refl refl h in (
      record {
        octets = header size channel ++ (x.0 ++ payload);
        written = ap (λ (o : Option (List ℕ)). with_payload o payload >>= framed channel) x.1 ∙ z.whole;
        sized = z.exact ∙ sym (length-append (header size channel) (x.0 ++ payload));
        list = m;
      },
      z.small,
    )

-- of a performative that can be read again and that the payload may follow
pub opened : (p : Performative) (channel : ℕ) (payload : List ℕ) → is_fair p ≡ true → may_follow payload p ≡ true → frame_octets (record { channel = channel; body = Some p; payload = payload }) ≡ (with_payload (canon (canonical (part_of p))) payload >>= framed channel)
opened p channel payload fair may = simp (fair, may)

pub measures : (r : Result Measured FrameRefusal) (p : Performative) (channel max : ℕ) (payload : List ℕ) → is_fair p ≡ true → may_follow payload p ≡ true → MeasuresList r channel max (descriptor_of p).0 (canonical_fields (fields_of p)) payload
    → Measures r (record { channel = channel; body = Some p; payload = payload }) max
measures (Ok m) p channel max payload fair may h = (subst (λ (o : Option (List ℕ)). IsMeasured m (canonical_fields (fields_of p)) o) (sym (opened p channel payload fair may)) h.0, h.1)
measures (Err e) p channel max payload fair may h = ap (within_size max) (opened p channel payload fair may) ∙ h

-- of fields that are those of the performative, and no payload
pub measures_lent : (r : Result Measured FrameRefusal) (p : Performative) (channel max : ℕ) (fs : List Field) → true ≡ is_fair p → fields_at fs ≡ fields_of p → MeasuresList r channel max (descriptor_of p).0 (shown_fields fs) []
    → Measures r (record { channel = channel; body = Some p; payload = [] }) max
measures_lent r p channel max fs fair e h = measures r p channel max [] (sym fair) refl (subst (λ (gs : Fields). MeasuresList r channel max (descriptor_of p).0 (canonical_fields gs) []) e h)

-- ---- what is written

pub written_answer : (f : Frame) (max : ℕ) (m : Measured) (x : List ℕ) → IsMeasureOf f m → m.size ≤ max → frame_octets f ≡ Some x → write_answer f max ≡ Ok x
written_answer f max m x w small e =
    let same : Some w.octets ≡ Some x = sym w.written ∙ e in
    let one : w.octets ≡ x = cc in
    let l : leb (length x) max ≡ true = le-leb _ _ (omega (arith, w.sized, ap length one)) in
    ap (within_size max) e ∙ simp l

pub no_memory : (f : Frame) (max : ℕ) (m : Measured) → IsMeasureOf f m → m.size ≤ max → Answers (Err refusal.NoMemory) (write_answer f max)
no_memory f max m w small = subst (λ (r : Result (List ℕ) FrameRefusal). Answers (Err refusal.NoMemory) r) (sym (written_answer f max m w.octets w small w.written)) tt

pub refusal_of : (r : Result Measured FrameRefusal) (f : Frame) (max : ℕ) → Measures r f max → result_err r ≡ result_err (write_answer f max)
refusal_of (Ok m) f max h = sym (ap result_err (written_answer f max m h.0.octets h.0 h.1 h.0.written))
refusal_of (Err e) f max h = sym (ap result_err h)
