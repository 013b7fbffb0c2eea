-- What a framer holds after a piece, and that it is what the piece makes of it.
use Rattle.std.proofs.Common.{◌≡◌, ◌≤◌, ◌<◌, ◌+◌, ◌-◌, ◌*◌, ◌⊎◌, ℕ, min, Bool, true, false, Option, Some, List, [], ◌∷◌, ◌++◌, length, take, drop, refl, sym, ap, ◌∙◌, subst, inl, arith, length-append, length-drop, append_assoc, append-nil, ⊎_elim}
use Rattle.std.specs.Prelude.{option_map, if◌then◌else◌}
use Rattle.std.proofs.lemmas.List.{take_at, take_all, take_min, take-append-drop, take-append-le, length-take-le}
use Rattle.std.proofs.Math.Seq.{take-append-add, drop-append-add, take-length}
use Rattle.std.proofs.lemmas.Slice.{take-put_mid}
use borrow.Rule.Slice.PartMut.{put_mid}
use Rattle.bytes.proofs.Ranges.{drop-take_less}
use Rattle.amqp_frames.specs.declared.header.Header.{Header}
use Rattle.amqp_frames.specs.declared.frame.Frame.{Frame}
use Rattle.amqp_frames.specs.declared.fault.FrameFault.{FrameFault}
use Rattle.amqp_frames.specs.declared.fault.FrameFault.TheVariants.{ShortSize, BadDoff, TooBig, BadKind, BadBody, NoMemory}
use Rattle.amqp_frames.specs.Framing.{size_of, IsFrame, IsUnfinished, AreContents}
use Rattle.amqp_frames.specs.Header.{header_octets, BeginsWith}
use Rattle.amqp_frames.specs.Contents.{AreNoContents}
use Rattle.amqp_frames.specs.Framer.{FramerState, FramerView, HasRoom, IsSound, Faulty, joined}
use Rattle.amqp_frames.proofs.Framing.{begins_size, begins_header, is_frame, frame_contents}

-- ---- what is held

abbrev pub state : ℕ → List ℕ → Option (List ℕ) → FramerState
state m k b = record { max_size = m; kept = k; before = b }

abbrev pub view_max : FramerView → ℕ
view_max v = v.state.max_size

abbrev pub view_kept : FramerView → List ℕ
view_kept v = v.state.kept

abbrev pub view_state : FramerView → FramerState
view_state v = v.state

abbrev pub view_room : FramerView → ℕ
view_room v = v.room

-- what came of a frame of which some was kept
pub joined_some : (kept : List ℕ) (count : ℕ) → 0 < length kept → joined kept count ≡ length kept + count
joined_some [] count h = absurd (omega arith)
joined_some (x ∷ kept) count h = refl

same_state : (m m' : ℕ) (k k' : List ℕ) (b b' : Option (List ℕ)) → m ≡ m' → k ≡ k' → b ≡ b' → state m k b ≡ state m' k' b'
same_state m m' k k' b b' e f g = ap (λ (t : ℕ). state t k b) e ∙ ap (λ (t : List ℕ). state m' t b) f ∙ ap (state m' k') g

-- the kept octets are the front of the buffer
pub kept_front : (is_done : Bool) (items kept : List ℕ) → (if is_done then [] else items) ≡ kept → take (length kept) items ≡ kept
kept_front true items kept e = subst (λ (t : List ℕ). take (length t) items ≡ t) e refl
kept_front false items kept e = subst (λ (t : List ℕ). take (length t) items ≡ t) e (take-length items)

pub not_done : (is_done : Bool) (items kept : List ℕ) → (if is_done then [] else items) ≡ kept → 0 < length kept → items ≡ kept
not_done true items kept e h = let z : 0 ≡ length kept = ap length e in absurd (omega arith)
not_done false items kept e h = e

pub kept_view : (m m' n : ℕ) (items kept piece : List ℕ) → m ≡ m' → items ≡ kept ++ piece → n ≡ length kept → state m items (Some (take n items)) ≡ state m' (kept ++ piece) (Some kept)
kept_view m m' n items kept piece e f k = same_state m m' items (kept ++ piece) (Some (take n items)) (Some kept) e f (ap Some (ap (take n) f ∙ take_at kept piece n (sym k)))

pub done_view : (m m' n : ℕ) (items kept : List ℕ) → m ≡ m' → take n items ≡ kept → state m [] (Some (take n items)) ≡ state m' [] (Some kept)
done_view m m' n items kept e f = same_state m m' [] [] (Some (take n items)) (Some kept) e refl (ap Some f)

more_room : (max a b : ℕ) (x : List ℕ) → a ≤ b → HasRoom max a x → HasRoom max b x
more_room max a b x h r = record { unfinished = r.unfinished; sized = λ n s. let t = r.sized n s in omega arith }

some_same : (a b : List ℕ) → Some a ≡ Some b → a ≡ b
some_same a b e = cc

pub sound_kept : (max old room n : ℕ) (items kept piece : List ℕ) → items ≡ kept ++ piece → n ≡ length kept → HasRoom max old kept → old ≤ room → IsUnfinished max (kept ++ piece) → (8 ≤ length (kept ++ piece) → size_of (kept ++ piece) ≤ 512 → size_of (kept ++ piece) ≤ room) → IsSound max room items (Some (take n items))
sound_kept max old room n items kept piece e k h more u s =
    let front : take n items ≡ kept = ap (take n) e ∙ take_at kept piece n (sym k) in
    record {
      now = record { unfinished = subst (λ (t : List ℕ). IsUnfinished max t) (sym e) u; sized = subst (λ (t : List ℕ). 8 ≤ length t → size_of t ≤ 512 → size_of t ≤ room) (sym e) s };
      then = λ octets f. subst (λ (t : List ℕ). HasRoom max room t) (sym front ∙ some_same (take n items) octets f) (more_room max old room kept more h);
    }

pub sound_more : (max a b : ℕ) (kept : List ℕ) (before : Option (List ℕ)) → a ≤ b → IsSound max a kept before → IsSound max b kept before
sound_more max a b kept before h s = record { now = more_room max a b kept h s.now; then = λ octets e. more_room max a b octets h (s.then octets e) }

-- the same of another buffer with the same octets
pub sound_again : (max a b : ℕ) (is_done : Bool) (before : Option ℕ) (items old : List ℕ) → items ≡ old → a ≤ b → IsSound max a (if is_done then [] else old) (option_map (λ n. take n old) before) → IsSound max b (if is_done then [] else items) (option_map (λ n. take n items) before)
sound_again max a b is_done before items old e h s = subst (λ (t : List ℕ). IsSound max b (if is_done then [] else t) (option_map (λ n. take n t) before)) (sym e) (sound_more max a b _ _ h s)

pub same_view : (m : ℕ) (is_done : Bool) (before : Option ℕ) (items old : List ℕ) → items ≡ old → state m (if is_done then [] else items) (option_map (λ n. take n items) before) ≡ state m (if is_done then [] else old) (option_map (λ n. take n old) before)
same_view m is_done before items old e = ap (λ (t : List ℕ). state m (if is_done then [] else t) (option_map (λ n. take n t) before)) e

pub sound_done : (max old room n : ℕ) (items kept : List ℕ) → take n items ≡ kept → HasRoom max old kept → old ≤ room → IsSound max room [] (Some (take n items))
sound_done max old room n items kept e h more =
    record {
      now = record { unfinished = inl (omega arith); sized = λ t s. absurd (omega arith) };
      then = λ octets f. subst (λ (t : List ℕ). HasRoom max room t) (sym e ∙ some_same (take n items) octets f) (more_room max old room kept more h);
    }

pub room_of : (max room : ℕ) (a b : List ℕ) → a ≡ b → HasRoom max room a → HasRoom max room b
room_of max room a b e h = subst (λ (t : List ℕ). HasRoom max room t) e h

pub unfinished_of : (a b : ℕ) (x : List ℕ) → a ≡ b → IsUnfinished b x → IsUnfinished a x
unfinished_of a b x e h = subst (λ (t : ℕ). IsUnfinished t x) (sym e) h

-- ---- a frame that the piece makes whole

pub begins_front : (h : Header) (max : ℕ) (x z : List ℕ) → BeginsWith h max (x ++ z) → 8 ≤ length x → BeginsWith h max x
begins_front h max x z b n =
    let front : take 8 x ≡ header_octets h = sym (take-append-le 8 x z n) ∙ ap (take 8) b.parts in
    record { size_fits = b.size_fits; octet = b.octet; channel = b.channel; low = b.low; high = b.high; small = b.small; rest = drop 8 x; parts = sym (take-append-drop 8 x) ∙ ap (λ (t : List ℕ). t ++ drop 8 x) front }

-- the octets of the frame
abbrev pub whole : List ℕ → ℕ → List ℕ → List ℕ
whole kept missing piece = kept ++ take missing piece

whole_len : (kept piece : List ℕ) (missing : ℕ) → missing ≤ length piece → length (whole kept missing piece) ≡ length kept + missing
whole_len kept piece missing h = length-append kept (take missing piece) ∙ ap (λ (n : ℕ). length kept + n) (length-take-le missing piece h)

whole_back : (kept piece : List ℕ) (missing : ℕ) → kept ++ piece ≡ whole kept missing piece ++ drop missing piece
whole_back kept piece missing = ap (λ (t : List ℕ). kept ++ t) (sym (take-append-drop missing piece)) ∙ sym (append_assoc kept (take missing piece) (drop missing piece))

whole_begins : (h : Header) (max missing : ℕ) (kept piece : List ℕ) → BeginsWith h max (kept ++ piece) → length kept + missing ≡ h.size → missing ≤ length piece → BeginsWith h max (whole kept missing piece)
whole_begins h max missing kept piece b s n =
    let low : 2 ≤ h.doff = b.low in
    let high : 4 * h.doff ≤ h.size = b.high in
    let len = whole_len kept piece missing n in
    begins_front h max (whole kept missing piece) (drop missing piece) (subst (λ (t : List ℕ). BeginsWith h max t) (whole_back kept piece missing) b) (omega arith)

pub framed : (f : Frame) (h : Header) (max missing : ℕ) (kept piece contents : List ℕ) → BeginsWith h max (kept ++ piece) → length kept + missing ≡ h.size → missing ≤ length piece → drop (4 * h.doff) (whole kept missing piece) ≡ contents
    → f.channel ≡ h.channel → AreContents f.body f.payload contents → IsFrame f (kept ++ take missing piece) × (length (kept ++ take missing piece) ≤ max)
framed f h max missing kept piece contents b s n e c k =
    let w = whole_begins h max missing kept piece b s n in
    let len = whole_len kept piece missing n in
    let small : h.size ≤ max = b.small in
    (is_frame f h max (whole kept missing piece) c w (len ∙ s) (subst (λ (t : List ℕ). AreContents f.body f.payload t) (sym e) k), omega arith)

pub refused : (fault : FrameFault) (h : Header) (max missing : ℕ) (kept piece contents : List ℕ) → BeginsWith h max (kept ++ piece) → length kept + missing ≡ h.size → missing ≤ length piece → drop (4 * h.doff) (whole kept missing piece) ≡ contents
    → AreNoContents fault contents → Faulty fault max kept piece
refused ShortSize h max missing kept piece contents b s n e k = absurd k
refused BadDoff h max missing kept piece contents b s n e k = absurd k
refused TooBig h max missing kept piece contents b s n e k = absurd k
refused BadKind h max missing kept piece contents b s n e k = absurd k
refused BadBody h max missing kept piece contents b s n e k =
    let w = whole_begins h max missing kept piece b s n in
    let len = whole_len kept piece missing n in
    let size : size_of (kept ++ piece) ≡ h.size = begins_size h max (kept ++ piece) b in
    let all = length-append kept piece in
    let front : take (size_of (kept ++ piece)) (kept ++ piece) ≡ whole kept missing piece =
    ap (take (size_of (kept ++ piece))) (whole_back kept piece missing) ∙ take_at (whole kept missing piece) (drop missing piece) (size_of (kept ++ piece)) (len ∙ s ∙ sym size) in (
      begins_header h max (kept ++ piece) b,
      omega arith,
      λ f p. k f.body f.payload (subst (λ (t : List ℕ). AreContents f.body f.payload t) e (frame_contents f h max (whole kept missing piece) (subst (λ (t : List ℕ). IsFrame f t) front p) w)),
    )
refused NoMemory h max missing kept piece contents b s n e (body, payload, k) =
    let p = framed (record { channel = h.channel; body = body; payload = payload }) h max missing kept piece contents b s n e refl k in
    inl (record { channel = h.channel; body = body; payload = payload }, whole kept missing piece, drop missing piece, p.0, p.1, whole_back kept piece missing)

-- where the contents lie: in the piece, or in the octets kept and then those of the piece
pub in_piece : (kept piece : List ℕ) (place start missing count : ℕ) → start ≡ place → count ≡ length kept → count ≤ place → place ≤ count + missing → drop place (whole kept missing piece) ≡ take (missing - (start - count)) (drop (start - count) piece)
in_piece kept piece place start missing count at same h l =
    let n : place ≡ length kept + (place - length kept) = omega arith in
    let m : start - count ≡ place - length kept = omega arith in
    let e : drop place (whole kept missing piece) ≡ take (missing - (place - length kept)) (drop (place - length kept) piece) =
    ap (λ (t : ℕ). drop t (whole kept missing piece)) n ∙ drop-append-add kept (take missing piece) (place - length kept) ∙ drop-take_less piece (place - length kept) missing (omega arith) in
    subst (λ (t : ℕ). drop place (whole kept missing piece) ≡ take (missing - t) (drop t piece)) (sym m) e

in_both : (kept piece items front : List ℕ) (place start missing : ℕ) → start ≡ place → items ≡ kept ++ front → front ≡ take missing piece → drop place (whole kept missing piece) ≡ take (length items - start) (drop start items)
in_both kept piece items front place start missing at e f =
    let all : drop place (whole kept missing piece) ≡ take (length items - place) (drop place items) =
    ap (drop place) (sym (e ∙ ap (λ (t : List ℕ). kept ++ t) f)) ∙ sym (take_all (length items - place) (drop place items) (omega (arith, length-drop place items))) in
    subst (λ (t : ℕ). drop place (whole kept missing piece) ≡ take (length items - t) (drop t items)) (sym at) all

-- the same of so many octets, which are joined
pub in_joined : (kept piece items : List ℕ) (place start size missing : ℕ) → start ≡ place → items ≡ kept ++ take missing piece → missing ≤ length piece → length kept + missing ≡ size → drop place (whole kept missing piece) ≡ take (size - start) (drop start items)
in_joined kept piece items place start size missing at e n s =
    in_both kept piece items (take missing piece) place start missing at e refl ∙ ap (λ (t : ℕ). take (t - start) (drop start items)) (ap length e ∙ whole_len kept piece missing n ∙ s)

-- ---- the first octets

first_many : (most : ℕ) (kept piece : List ℕ) (m n : ℕ) → m ≡ min (length kept) most → n ≡ min (length piece) (most - m) → most ≤ length kept → take m kept ++ take n piece ≡ take most (kept ++ piece)
first_many most kept piece m n e f h =
    let a : m ≡ most = omega arith in
    let b : n ≡ 0 = omega arith in
    ap (λ (t : ℕ). take t kept ++ take n piece) a ∙ ap (λ (t : ℕ). take most kept ++ take t piece) b ∙ append-nil (take most kept) ∙ sym (take-append-le most kept piece h)

first_few : (most : ℕ) (kept piece : List ℕ) (m n : ℕ) → m ≡ min (length kept) most → n ≡ min (length piece) (most - m) → length kept < most → take m kept ++ take n piece ≡ take most (kept ++ piece)
first_few most kept piece m n e f h =
    let a : m ≡ length kept = omega arith in
    let b : n ≡ min (most - length kept) (length piece) = omega arith in
    let c : most ≡ length kept + (most - length kept) = omega arith in
    ap (λ (t : ℕ). take t kept ++ take n piece) a ∙ ap (λ (t : List ℕ). t ++ take n piece) (take-length kept)
    ∙ ap (λ (t : ℕ). kept ++ take t piece) b ∙ ap (λ (t : List ℕ). kept ++ t) (take_min (most - length kept) piece)
    ∙ sym (ap (λ (t : ℕ). take t (kept ++ piece)) c ∙ take-append-add kept piece (most - length kept))

first_split : (most n : ℕ) → (most ≤ n) ⊎ (n < most)
first_split most n = grind arith

pub first_are : (most : ℕ) (kept piece : List ℕ) (m n : ℕ) → m ≡ min (length kept) most → n ≡ min (length piece) (most - m) → take m kept ++ take n piece ≡ take most (kept ++ piece)
first_are most kept piece m n e f = ⊎_elim (first_many most kept piece m n e f) (first_few most kept piece m n e f) (first_split most (length kept))

pub written : (m n : ℕ) (zeros p q x y : List ℕ) → p ≡ take m x → q ≡ take n y → m ≤ length x → n ≤ length y → take (m + n) (put_mid m (m + n - m) (p ++ drop m zeros) q) ≡ take m x ++ take n y
written m n zeros p q x y e f h k =
    let a : length p ≡ m = ap length e ∙ length-take-le m x h in
    let b : length q ≡ n = ap length f ∙ length-take-le n y k in
    take-put_mid m (m + n - m) (p ++ drop m zeros) q (m + n) (omega arith) (omega (arith, length-append p (drop m zeros)))
    ∙ ap (λ (t : List ℕ). t ++ q) (take_at p (drop m zeros) m a ∙ e) ∙ ap (λ (t : List ℕ). take m x ++ t) f

pub front_taken : (items old front k kept : List ℕ) → items ≡ old ++ front → old ≡ kept → k ≡ kept → take (length k) items ≡ kept
front_taken items old front k kept e f g = ap (take (length k)) (e ∙ ap (λ (t : List ℕ). t ++ front) f) ∙ take_at kept front (length k) (sym (ap length g))
