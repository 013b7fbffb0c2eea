-- Octets are at most one frame.
use Rattle.std.proofs.Common.{◌≡◌, ℕ, List, [], ◌∷◌, ◌++◌, length, take, drop, Option, Some, None, refl, sym, ap, subst, ◌∙◌, arith}
use Rattle.std.specs.Int.{w16, from_be_bytes}
use Rattle.std.proofs.lemmas.Nat.{from_be_bytes-to_be_bytes_2}
use Rattle.amqp_types.proofs.Laws.{one_spelling}
use Rattle.amqp_performatives.specs.declared.performative.Performative.{Performative}
use Rattle.amqp_performatives.specs.Spelling.{IsPerformative}
use Rattle.amqp_decoder.proofs.OnePerformative.{one_performative}
use Rattle.amqp_frames.specs.declared.frame.Frame.{Frame}
use Rattle.amqp_frames.specs.Framing.{IsFrame, AreContents, AreFrames}
use Rattle.amqp_frames.specs.Framer.{BeginsWithFrame}
use Rattle.amqp_frames.proofs.Streams.{one_front, same_rest}
use Rattle.amqp_frames.proofs.Framing.{header_of_frame, frame_contents}

channel_of : List ℕ → ℕ
channel_of x = from_be_bytes w16 (take 2 (drop 6 x))

frame_channel : (f : Frame) (x : List ℕ) (p : IsFrame f x) → channel_of x ≡ f.channel
unfolding channel_of
frame_channel f x p = ap channel_of p.parts ∙ from_be_bytes-to_be_bytes_2 f.channel p.channel

no_spelling : (p : Performative) (x payload : List ℕ) → IsPerformative p x → [] ≡ x ++ payload → ⊥
no_spelling p [] payload h e = absurd h.spelled.0
no_spelling p (o ∷ x) payload h e = absurd cc

contents_same : (b c : Option Performative) (s t x : List ℕ) → AreContents b s x → AreContents c t x → (b ≡ c) × (s ≡ t)
contents_same None None s t x h k = (refl, h.0 ∙ sym k.0)
contents_same None (Some q) s t x h k = absurd (no_spelling q k.0 t k.1 (sym h.1 ∙ k.3))
contents_same (Some p) None s t x h k = absurd (no_spelling p h.0 s h.1 (sym k.1 ∙ h.3))
contents_same (Some p) (Some q) s t x h k =
    let e : h.0 ++ s ≡ k.0 ++ t = sym h.3 ∙ k.3 in
    let same : h.0 ≡ k.0 = (one_spelling h.1.datum k.1.datum h.0 k.0 s t h.1.spelled k.1.spelled e).1 in
    let one : p ≡ q = one_performative p q h.0 h.1 (subst (λ (y : List ℕ). IsPerformative q y) (sym same) k.1) in
    (ap Some one, same_rest h.0 s t (e ∙ ap (λ (y : List ℕ). y ++ t) (sym same)))

pub one_frame : (f g : Frame) (x : List ℕ) → IsFrame f x → IsFrame g x → f ≡ g
one_frame f g x p q =
    let h = header_of_frame g (length x) x q (omega arith) in
    let a = frame_contents f _ (length x) x p h in
    let b = frame_contents g _ (length x) x q h in
    let c = contents_same f.body g.body f.payload g.payload _ a b in
    let d : f.channel ≡ g.channel = sym (frame_channel f x p) ∙ frame_channel g x q in
    λ i. record { channel = d i; body = c.0 i; payload = c.1 i }

-- one stream, up to where no frame is in front
pub one_stream : (max : ℕ) (x r s : List ℕ) (fs gs : List Frame) → AreFrames max x fs r → (BeginsWithFrame max r → ⊥) → AreFrames max x gs s → (BeginsWithFrame max s → ⊥) → (r ≡ s) × (fs ≡ gs)
one_stream max x r s [] [] d u e v = (sym d ∙ e, refl)
one_stream max x r s [] (g ∷ gs) d u e v = absurd (u (g, e.0, e.1, e.2, e.3, sym d ∙ e.4))
one_stream max x r s (f ∷ fs) [] d u e v = absurd (v (f, d.0, d.1, d.2, d.3, sym e ∙ d.4))
one_stream max x r s (f ∷ fs) (g ∷ gs) d u e v =
    let same = one_front f g d.0 e.0 d.1 e.1 d.2 e.2 (sym d.4 ∙ e.4) in
    let back : d.1 ≡ e.1 = same_rest d.0 d.1 e.1 (sym d.4 ∙ e.4 ∙ ap (λ (t : List ℕ). t ++ e.1) (sym same)) in
    let k = one_stream max d.1 r s fs gs d.5 u (subst (λ (t : List ℕ). AreFrames max t gs s) (sym back) e.5) v in
    let first = one_frame f g d.0 d.2 (subst (λ (t : List ℕ). IsFrame g t) (sym same) e.2) in
    (k.0, λ i. first i ∷ k.1 i)
