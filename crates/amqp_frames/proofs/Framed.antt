-- A written frame is a frame of its octets.
use Rattle.std.proofs.Common.{◌≡◌, ℕ, ◌+◌, ◌^◌, ◌<◌, Bool, true, false, ltb, List, [], ◌∷◌, ◌++◌, length, Option, Some, None, refl, sym, ap, ◌∙◌, arith, inl, inr}
use Rattle.std.specs.Prelude.{◌&&◌}
use Rattle.std.proofs.lemmas.Bool.{ltb-true}
use Rattle.std.proofs.lemmas.List.{length-append}
use Rattle.amqp_types.specs.declared.class.Kind.TheVariants as Kind
use Rattle.amqp_types.specs.Datum.{Data, none, item, number}
use Rattle.amqp_types.specs.Reading.{◌>>=◌}
use Rattle.amqp_types.specs.Canon.{canon}
use Rattle.amqp_types.proofs.Compounds.{guard_some, bind_some}
use Rattle.amqp_types.proofs.Canonical.{canon_spells}
use Rattle.amqp_frames.specs.declared.frame.Frame.{Frame}
use Rattle.amqp_performatives.specs.declared.performative.Performative.{Performative}
use Rattle.amqp_performatives.specs.Part.{Part, Fields, absent, value, composite, no_field, field, Fits, FitInOrder, shown, canonical, canonical_fields}
use Rattle.amqp_performatives.specs.Bodies.{part_of}
use Rattle.amqp_performatives.specs.Fair.{is_fair}
use Rattle.amqp_frames.specs.Framing.{MayFollow, AreContents, IsFrame}
use Rattle.amqp_frames.specs.Written.{may_follow, contents_octets, framed, frame_octets}
use Rattle.amqp_frames.specs.Field.{header}

fit_shown : (p : Part) (fs : Fields) (ds : Data) → Fits p (canonical p) → FitInOrder fs ds → FitInOrder (field p fs) (shown p (canonical p) ds)
fit_shown absent fs none f h = (refl, h)
fit_shown absent fs (item d ds) f h = (f, h)
fit_shown (value w) fs ds f h = (f, h)
fit_shown (composite type gs) fs ds f h = (f, h)

mutual
  canonical_fits : (p : Part) → Fits p (canonical p)
  canonical_fits absent = refl
  canonical_fits (value w) = refl
  canonical_fits (composite type fs) = (number Kind.Ulong type.0, canonical_fields fs, inl refl, fields_fit fs, refl)

  fields_fit : (fs : Fields) → FitInOrder fs (canonical_fields fs)
  fields_fit no_field = tt
  fields_fit (field p fs) = fit_shown p fs (canonical_fields fs) (canonical_fits p) (fields_fit fs)

both_true : (a b : Bool) → (a && b) ≡ true → (a ≡ true) × (b ≡ true)
both_true true b e = (refl, e)
both_true false b e = absurd cc

follows : (payload : List ℕ) (p : Performative) → may_follow payload p ≡ true → MayFollow payload p
follows [] p e = inr refl
follows (o ∷ os) p e = inl e

contents_are : (body : Option Performative) (payload x : List ℕ) → contents_octets body payload ≡ Some x → AreContents body payload x
contents_are None [] x e = (refl, let q : [] ≡ x = cc in sym q)
contents_are None (o ∷ os) x e = absurd cc
contents_are (Some p) payload x e =
    let g = guard_some (is_fair p && may_follow payload p) (canon (canonical (part_of p)) >>= (λ y. Some (y ++ payload))) x e in
    let t = both_true (is_fair p) (may_follow payload p) g.0 in
    let c = bind_some (canon (canonical (part_of p))) (λ y. Some (y ++ payload)) x g.1 in
    (c.0, record { fair = t.0; datum = canonical (part_of p); fits = canonical_fits (part_of p); spelled = canon_spells (canonical (part_of p)) c.0 c.1 }, follows payload p t.1, let q : c.0 ++ payload ≡ x = cc in sym q)

framed_is : (f : Frame) (contents x : List ℕ) → f.channel < 2 ^ 16 → AreContents f.body f.payload contents → framed f.channel contents ≡ Some x → IsFrame f x
framed_is f contents x low are e =
    let g = guard_some (ltb (8 + length contents) (2 ^ 32)) (Some (header (8 + length contents) f.channel ++ contents)) x e in
    let q : header (8 + length contents) f.channel ++ contents ≡ x = cc in
    let len : length x ≡ 8 + length contents = ap length (sym q) ∙ length-append (header (8 + length contents) f.channel) contents in
    record {
      doff = 2;
      extended = [];
      contents = contents;
      size = omega (arith, len, ltb-true _ _ g.0);
      offset = refl;
      octet = omega arith;
      channel = low;
      parts = sym q ∙ ap (λ (k : ℕ). header k f.channel ++ contents) (sym len);
      body = are;
    }

pub written_is_framed : (f : Frame) (x : List ℕ) → f.channel < 2 ^ 16 → frame_octets f ≡ Some x → IsFrame f x
written_is_framed f x low e =
    let c = bind_some (contents_octets f.body f.payload) (framed f.channel) x e in
    framed_is f c.0 x low (contents_are f.body f.payload c.0 c.1) c.2
