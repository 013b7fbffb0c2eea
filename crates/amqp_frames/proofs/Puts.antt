-- What was written behind other octets.
use Rattle.std.proofs.Common.{◌≡◌, ℕ, ◌+◌, ◌-◌, ◌^◌, ◌<◌, Bool, true, false, eqb, ltb, min, List, [], ◌∷◌, ◌++◌, length, Option, Some, None, refl, sym, ap, ◌∙◌, arith, append_assoc}
use Rattle.std.specs.Prelude.{Result, Ok, Err, OnOk, ◌&&◌}
use Rattle.std.proofs.lemmas.Bool.{eqb-true, ltb-true, leb-true}
use Rattle.std.proofs.lemmas.List.{length-append, append-nil}
use Rattle.amqp_types.specs.Datum.{Datum, Data, count_of, depth_of}
use Rattle.amqp_types.specs.Reading.{◌>>=◌}
use Rattle.amqp_types.specs.Canon.{part_form, parts_form, canon, Appends, AppendsCanon}
use Rattle.amqp_types.proofs.Canonical.{canon_is}
use Rattle.amqp_types.proofs.Compounds.{guard_some, bind_some}
use Rattle.amqp_performatives.specs.declared.performative.Performative.{Performative}
use Rattle.amqp_performatives.specs.Part.{canonical}
use Rattle.amqp_performatives.specs.Bodies.{part_of}
use Rattle.amqp_performatives.specs.Fair.{is_fair}
use Rattle.amqp_frames.specs.declared.frame.Frame.{Frame}
use Rattle.amqp_frames.specs.declared.measured.Measured.{Measured}
use Rattle.amqp_frames.specs.Written.{may_follow, contents_octets, framed, frame_octets}
use Rattle.amqp_frames.specs.Measuring.{IsMeasureOf}
use Rattle.amqp_frames.specs.Field.{added, header, list_octets, measured, forms_within, composite_datum, with_payload}
use Rattle.amqp_frames.proofs.Composites.{composite_form, composite_octets, empty_form}

pub on_ok : {A E : Type 0} (r : Result A E) (P Q : Type 0) → (P → Q) → OnOk r P → OnOk r Q
on_ok (Ok a) P Q f p = f p
on_ok (Err e) P Q f p = tt

pub appended : (old new : List ℕ) (form : Option (List ℕ)) → Appends form old new → added old form ≡ Some new
appended old new form h = ap (added old) h.1 ∙ ap (λ (y : List ℕ). let o : Option (List ℕ) = Some y in o) (sym h.2)

pub canon_appended : (d : Datum) (old new : List ℕ) → depth_of d ≡ 1 → AppendsCanon d old new → added old (part_form None d) ≡ Some new
canon_appended d old new one h = ap (added old) (sym (canon_is d (omega (arith, one)))) ∙ appended old new (canon d) h

added_parts : (old new : List ℕ) (a : Option (List ℕ)) → added old a ≡ Some new → (x : List ℕ) × (a ≡ Some x) × (new ≡ old ++ x)
added_parts old new (Some x) e = (x, refl, let q : old ++ x ≡ new = cc in sym q)
added_parts old new None e = absurd cc

-- ---- a described list

same_head_by : (count size : ℕ) (x h : List ℕ) (b0 b1 b3 : Bool) → (count ≡ 0 → x ≡ []) → size ≡ min (length x) (2 ^ 64 - 1) → eqb count 0 ≡ b0 → ltb (1 + size) 256 ≡ b1 → ltb (4 + size) (2 ^ 32) ≡ b3 → list_octets count size ≡ Some h → size ≡ length x
same_head_by count size x h true b1 b3 empty s e0 e1 e3 e = let q : x ≡ [] = empty (eqb-true _ _ e0) in omega (arith, s, ap length q)
same_head_by count size x h false true b3 empty s e0 e1 e3 e = omega (arith, s, ltb-true _ _ e1)
same_head_by count size x h false false true empty s e0 e1 e3 e = omega (arith, s, ltb-true _ _ e3)
same_head_by count size x h false false false empty s e0 e1 e3 e = let q : None ≡ Some h = simp (e0, e1, e3) at e in absurd cc

same_head : (count size : ℕ) (x h : List ℕ) → (count ≡ 0 → x ≡ []) → size ≡ min (length x) (2 ^ 64 - 1) → list_octets count size ≡ Some h → size ≡ length x
same_head count size x h empty s e = same_head_by count size x h (eqb count 0) (ltb (1 + size) 256) (ltb (4 + size) (2 ^ 32)) empty s refl refl refl e

-- what was measured
pub record IsMeasured (count size : ℕ) (ds : Data) (x : List ℕ) : Type 0 where
  pub counted : count ≡ count_of ds
  pub sized : size ≡ min (length x) (2 ^ 64 - 1)
  pub form : parts_form ds None ≡ Some x

measure_parts : (count size n : ℕ) (form : Option (List ℕ)) → Some (count, size) ≡ measured n form → (x : List ℕ) × (form ≡ Some x) × (count ≡ n) × (size ≡ min (length x) (2 ^ 64 - 1))
measure_parts count size n (Some x) e =
    let q : (count, size) ≡ (n, min (length x) (2 ^ 64 - 1)) = cc in
    (x, refl, ap (λ (p : ℕ × ℕ). p.0) q, ap (λ (p : ℕ × ℕ). p.1) q)
measure_parts count size n None e = absurd cc

pub is_measured : (count size depth : ℕ) (ds : Data) → Some (count, size) ≡ measured (count_of ds) (forms_within depth ds) → (x : List ℕ) × IsMeasured count size ds x
is_measured count size depth ds e =
    let m = measure_parts count size (count_of ds) (forms_within depth ds) e in
    let g = guard_some _ (parts_form ds None) m.0 m.1 in
    (m.0, record { counted = m.2; sized = m.3; form = g.1 })

described_from : (code count size : ℕ) (ds : Data) (start named headed end x h : List ℕ) → 0 < code → code < 256 → IsMeasured count size ds x → named ≡ start ++ (0x00 ∷ 0x53 ∷ code ∷ []) → list_octets count size ≡ Some h → headed ≡ named ++ h → end ≡ headed ++ x
    → added start (part_form None (composite_datum code ds)) ≡ Some end
described_from code count size ds start named headed end x h some small m n l s e =
    let same : size ≡ length x = same_head count size x h (λ z. empty_form ds x m.form (sym m.counted ∙ z)) m.sized l in
    let head : list_octets (count_of ds) (length x) ≡ Some h = ap (λ (k : ℕ). list_octets k (length x)) (sym m.counted) ∙ ap (list_octets count) (sym same) ∙ l in
    let form : part_form None (composite_datum code ds) ≡ Some (0x00 ∷ 0x53 ∷ code ∷ (h ++ x)) = composite_form code ds some small ∙ ap (λ (o : Option (List ℕ)). o >>= composite_octets code (count_of ds)) m.form ∙ ap (λ (o : Option (List ℕ)). o >>= λ h. Some (0x00 ∷ 0x53 ∷ code ∷ (h ++ x))) head in
    let parts : start ++ (0x00 ∷ 0x53 ∷ code ∷ (h ++ x)) ≡ end = sym (append_assoc start (0x00 ∷ 0x53 ∷ code ∷ []) (h ++ x)) ∙ ap (λ (y : List ℕ). y ++ (h ++ x)) (sym n) ∙ sym (append_assoc named h x) ∙ ap (λ (y : List ℕ). y ++ x) (sym s) ∙ sym e in
    ap (added start) form ∙ ap (λ (y : List ℕ). let o : Option (List ℕ) = Some y in o) parts

pub described_put : (code count size depth : ℕ) (ds : Data) (start named headed end : List ℕ) → 0 < code → code < 256 → Some (count, size) ≡ measured (count_of ds) (forms_within depth ds) → named ≡ start ++ (0x00 ∷ 0x53 ∷ code ∷ [])
    → added named (list_octets count size) ≡ Some headed → added headed (parts_form ds None) ≡ Some end → added start (part_form None (composite_datum code ds)) ≡ Some end
described_put code count size depth ds start named headed end some small m n l p =
    let measure = is_measured count size depth ds m in
    let head = added_parts named headed (list_octets count size) l in
    let content = added_parts headed end (parts_form ds None) p in
    let same : content.0 ≡ measure.0 = let q : Some content.0 ≡ Some measure.0 = sym content.1 ∙ measure.1.form in cc in
    described_from code count size ds start named headed end measure.0 head.0 some small measure.1 n head.1 head.2 (content.2 ∙ ap (λ (y : List ℕ). headed ++ y) same)

-- ---- a performative

pub canon_measured : (count size code : ℕ) (ds : Data) → Some (count, size) ≡ measured (count_of ds) (forms_within 30 ds) → canon (composite_datum code ds) ≡ part_form None (composite_datum code ds)
canon_measured count size code ds m =
    let x = measure_parts count size (count_of ds) (forms_within 30 ds) m in
    let g = guard_some _ (parts_form ds None) x.0 x.1 in
    canon_is (composite_datum code ds) (omega (arith, leb-true _ _ g.0))

-- ---- a frame

-- the size of the whole, the header and the contents behind others
whole : (channel size : ℕ) (y o old headed end : List ℕ) → framed channel y ≡ Some o → size ≡ length o → headed ≡ old ++ header size channel → headed ++ y ≡ end → old ++ o ≡ end
whole channel size y o old headed end f s h e =
    let g = guard_some (ltb (8 + length y) (2 ^ 32)) (Some (header (8 + length y) channel ++ y)) o f in
    let q : header (8 + length y) channel ++ y ≡ o = cc in
    let long : size ≡ 8 + length y = s ∙ sym (ap length q) ∙ length-append (header (8 + length y) channel) y in
    ap (λ (t : List ℕ). old ++ t) (sym q ∙ ap (λ k. header k channel ++ y) (sym long)) ∙ sym (append_assoc old (header size channel) y) ∙ ap (λ (t : List ℕ). t ++ y) (sym h) ∙ e

-- of a performative with this spelling
whole_body : (p : Performative) (channel size : ℕ) (payload o old headed end : List ℕ) → (contents_octets (Some p) payload >>= framed channel) ≡ Some o → size ≡ length o → headed ≡ old ++ header size channel
    → added headed (with_payload (canon (canonical (part_of p))) payload) ≡ Some end → old ++ o ≡ end
whole_body p channel size payload o old headed end f s h e =
    let c = bind_some (contents_octets (Some p) payload) (framed channel) o f in
    let g = guard_some (is_fair p && may_follow payload p) (with_payload (canon (canonical (part_of p))) payload) c.0 c.1 in
    let q : Some (headed ++ c.0) ≡ Some end = sym (ap (added headed) g.1) ∙ e in
    whole channel size c.0 o old headed end c.2 s h cc

-- of none
whole_empty : (channel size : ℕ) (payload o old end : List ℕ) → (contents_octets None payload >>= framed channel) ≡ Some o → size ≡ length o → end ≡ old ++ header size channel → old ++ o ≡ end
whole_empty channel size [] o old end f s h = whole channel size [] o old end end f s h (append-nil end)
whole_empty channel size (t ∷ payload) o old end f s h = absurd cc

somewhere : (old end : List ℕ) (form : Option (List ℕ)) (o : List ℕ) → form ≡ Some o → old ++ o ≡ end → added old form ≡ Some end
somewhere old end form o f e = ap (added old) f ∙ ap (λ (y : List ℕ). let a : Option (List ℕ) = Some y in a) e

pub frame_put : (f : Frame) (p : Performative) (m : Measured) (old headed end : List ℕ) → IsMeasureOf f m → f.body ≡ Some p → headed ≡ old ++ header m.size f.channel
    → added headed (with_payload (canon (canonical (part_of p))) f.payload) ≡ Some end → added old (frame_octets f) ≡ Some end
frame_put f p m old headed end w b h e =
    let form : (contents_octets (Some p) f.payload >>= framed f.channel) ≡ Some w.octets = ap (λ o. contents_octets o f.payload >>= framed f.channel) (sym b) ∙ w.written in
    somewhere old end (frame_octets f) w.octets w.written (whole_body p f.channel m.size f.payload w.octets old headed end form w.sized h e)

pub empty_put : (f : Frame) (m : Measured) (old end : List ℕ) → IsMeasureOf f m → f.body ≡ None → end ≡ old ++ header m.size f.channel → added old (frame_octets f) ≡ Some end
empty_put f m old end w b h =
    let form : (contents_octets None f.payload >>= framed f.channel) ≡ Some w.octets = ap (λ o. contents_octets o f.payload >>= framed f.channel) (sym b) ∙ w.written in
    somewhere old end (frame_octets f) w.octets w.written (whole_empty f.channel m.size f.payload w.octets old end form w.sized h)
