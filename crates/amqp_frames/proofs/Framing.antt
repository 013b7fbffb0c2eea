-- Frames and their headers: what octets determine.
use Rattle.std.proofs.Common.{◌≡◌, ◌≤◌, ◌<◌, ◌^◌, ◌+◌, ◌-◌, ◌*◌, ℕ, List, [], ◌∷◌, ◌++◌, length, take, drop, sym, ap, ◌∙◌, subst, arith, length-append}
use Rattle.std.proofs.lemmas.List.{take-append-drop, length-take-le}
use Rattle.std.proofs.Math.Seq.{drop-append_seam, drop-append-add}
use Rattle.std.specs.Int.{w16, w32, to_be_bytes}
use Rattle.std.proofs.lemmas.Nat.{from_be_bytes-to_be_bytes_4}
use Rattle.amqp_frames.specs.declared.header.Header.{Header}
use Rattle.amqp_frames.specs.declared.frame.Frame.{Frame}
use Rattle.amqp_frames.specs.Framing.{size_of, doff_of, type_of, IsHeader, IsFrame, AreContents}
use Rattle.amqp_frames.specs.Header.{header_octets, BeginsWith}

-- ---- the header

pub begins_size : (h : Header) (max : ℕ) (x : List ℕ) → BeginsWith h max x → size_of x ≡ h.size
begins_size h max x b = ap size_of b.parts ∙ from_be_bytes-to_be_bytes_4 h.size b.size_fits

pub begins_doff : (h : Header) (max : ℕ) (x : List ℕ) → BeginsWith h max x → doff_of x ≡ h.doff
begins_doff h max x b = ap doff_of b.parts

pub begins_type : (h : Header) (max : ℕ) (x : List ℕ) → BeginsWith h max x → type_of x ≡ 0
begins_type h max x b = ap type_of b.parts

pub header_len : (h : Header) (x : List ℕ) → length (header_octets h ++ x) ≡ 8 + length x
header_len h x = omega arith

pub begins_len : (h : Header) (max : ℕ) (x : List ℕ) → BeginsWith h max x → 8 ≤ length x
begins_len h max x b = omega (arith, ap length b.parts, header_len h b.rest)

pub begins_header : (h : Header) (max : ℕ) (x : List ℕ) → BeginsWith h max x → IsHeader max x
begins_header h max x b =
    let s = begins_size h max x b in
    let d = begins_doff h max x b in
    let low : 2 ≤ h.doff = b.low in
    let high : 4 * h.doff ≤ h.size = b.high in
    let small : h.size ≤ max = b.small in
    record { whole = begins_len h max x b; some = omega arith; low = omega arith; high = omega arith; small = omega arith; kind = begins_type h max x b }

pub begins_append : (h : Header) (max : ℕ) (x y : List ℕ) → BeginsWith h max x → BeginsWith h max (x ++ y)
begins_append h max x y b =
    record { size_fits = b.size_fits; octet = b.octet; channel = b.channel; low = b.low; high = b.high; small = b.small; rest = b.rest ++ y; parts = ap (λ (t : List ℕ). t ++ y) b.parts }

-- ---- a whole frame

frame_len : (f : Frame) (x : List ℕ) (p : IsFrame f x) → length x ≡ 8 + length p.extended + length p.contents
frame_len f x p = ap length p.parts ∙ omega (arith, length-append p.extended p.contents)

pub header_of_frame : (f : Frame) (max : ℕ) (x : List ℕ) (p : IsFrame f x) → length x ≤ max → BeginsWith (record { size = length x; doff = p.doff; channel = f.channel }) max x
header_of_frame f max x p h =
    let n = frame_len f x p in
    let o : 4 * p.doff ≡ 8 + length p.extended = p.offset in
    record { size_fits = p.size; octet = p.octet; channel = p.channel; low = omega arith; high = omega arith; small = h; rest = p.extended ++ p.contents; parts = p.parts }

-- the contents lie where the header says
pub frame_contents : (f : Frame) (h : Header) (max : ℕ) (x : List ℕ) → IsFrame f x → BeginsWith h max x → AreContents f.body f.payload (drop (4 * h.doff) x)
frame_contents f h max x p b =
    let d : p.doff ≡ h.doff = ap doff_of (sym p.parts) ∙ begins_doff h max x b in
    let o : 4 * p.doff ≡ 8 + length p.extended = p.offset in
    let front : List ℕ = (to_be_bytes w32 (length x) ++ (p.doff ∷ 0 ∷ []) ++ to_be_bytes w16 f.channel) ++ p.extended in
    let n : 4 * h.doff ≡ length front = omega arith in
    let e : drop (4 * h.doff) x ≡ p.contents = ap (drop (4 * h.doff)) p.parts ∙ ap (λ (k : ℕ). drop k (front ++ p.contents)) n ∙ drop-append_seam front p.contents in
    subst (λ (t : List ℕ). AreContents f.body f.payload t) (sym e) p.body

-- octets of a good header and good contents are a frame
pub is_frame : (f : Frame) (h : Header) (max : ℕ) (x : List ℕ) → f.channel ≡ h.channel → BeginsWith h max x → length x ≡ h.size → AreContents f.body f.payload (drop (4 * h.doff) x) → IsFrame f x
is_frame f h max x c b n k =
    let low : 2 ≤ h.doff = b.low in
    let high : 4 * h.doff ≤ h.size = b.high in
    let rest_len : length x ≡ 8 + length b.rest = ap length b.parts ∙ header_len h b.rest in
    let over : 4 * h.doff ≡ 8 + (4 * h.doff - 8) = omega arith in
    let over_len : 4 * h.doff - 8 ≤ length b.rest = omega arith in
    let dropped : drop (4 * h.doff) x ≡ drop (4 * h.doff - 8) b.rest = ap (drop (4 * h.doff)) b.parts ∙ ap (λ (m : ℕ). drop m (header_octets h ++ b.rest)) over ∙ drop-append-add (header_octets h) b.rest (4 * h.doff - 8) in
    record {
      doff = h.doff;
      extended = take (4 * h.doff - 8) b.rest;
      contents = drop (4 * h.doff) x;
      size = let s : h.size < 2 ^ 32 = b.size_fits in omega arith;
      offset = let t = length-take-le (4 * h.doff - 8) b.rest over_len in omega arith;
      octet = b.octet;
      channel = let w : h.channel < 2 ^ 16 = b.channel in omega (arith, c);
      parts = b.parts
          ∙ ap (λ (t : List ℕ). header_octets h ++ t) (sym (take-append-drop (4 * h.doff - 8) b.rest))
          ∙ ap (λ (t : List ℕ). header_octets h ++ (take (4 * h.doff - 8) b.rest ++ t)) (sym dropped)
          ∙ ap (λ (m : ℕ). (to_be_bytes w32 m ++ (h.doff ∷ 0 ∷ []) ++ to_be_bytes w16 h.channel) ++ (take (4 * h.doff - 8) b.rest ++ drop (4 * h.doff) x)) (sym n)
          ∙ ap (λ (m : ℕ). (to_be_bytes w32 (length x) ++ (h.doff ∷ 0 ∷ []) ++ to_be_bytes w16 m) ++ (take (4 * h.doff - 8) b.rest ++ drop (4 * h.doff) x)) (sym c);
      body = k;
    }
