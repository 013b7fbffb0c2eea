-- What octets in a frame's place are, and that cutting does not matter.
use Rattle.std.proofs.Common.{◌≡◌, ◌≤◌, ◌<◌, ◌+◌, ◌*◌, ℕ, List, [], ◌∷◌, ◌++◌, length, take, refl, sym, ap, ◌∙◌, subst, inl, inr, arith, length-append, append_assoc}
use Rattle.std.proofs.lemmas.List.{take_at}
use Rattle.std.specs.Prelude.{◌==◌, nat_lt, ◌||◌, if◌then◌else◌}
use Rattle.std.proofs.lemmas.Bool.Decides.{nat_tests}
use Rattle.amqp_frames.specs.declared.fault.FrameFault.{FrameFault}
use Rattle.amqp_frames.specs.declared.fault.FrameFault.TheVariants.{ShortSize, BadDoff, TooBig, BadKind, BadBody, NoMemory}
use Rattle.amqp_frames.specs.declared.frame.Frame.{Frame}
use Rattle.amqp_frames.specs.Framing.{size_of, doff_of, type_of, IsHeader, IsFrame, Shows, IsUnfinished, AreFrames}
use Rattle.amqp_frames.specs.Framer.{BeginsWithFrame}
use Rattle.amqp_frames.proofs.Framing.{begins_size, begins_header, begins_append, header_of_frame}

-- ---- one answer

-- a frame's header, whatever follows
pub framed_header : (f : Frame) (max : ℕ) (x rest : List ℕ) → IsFrame f x → length x ≤ max → IsHeader max (x ++ rest) × (size_of (x ++ rest) ≡ length x)
framed_header f max x rest p h =
    let b = begins_append (record { size = length x; doff = p.doff; channel = f.channel }) max x rest (header_of_frame f max x p h) in
    (begins_header _ max (x ++ rest) b, begins_size _ max (x ++ rest) b)

-- a good header shows no fault of the header
good_header : (fault : FrameFault) (max : ℕ) (x : List ℕ) → IsHeader max x → Shows fault max x → (size_of x ≤ length x) × ((f : Frame) → IsFrame f (take (size_of x) x) → ⊥)
good_header ShortSize max x h s = let some : 8 ≤ size_of x = h.some in let t : size_of x < 8 = s.1 in absurd (omega arith)
good_header BadDoff max x h (l, m, inl s) = let low : 2 ≤ doff_of x = h.low in absurd (omega arith)
good_header BadDoff max x h (l, m, inr s) = let high : 4 * doff_of x ≤ size_of x = h.high in absurd (omega arith)
good_header TooBig max x h s = let small : size_of x ≤ max = h.small in let t : max < size_of x = s.4 in absurd (omega arith)
good_header BadKind max x h s = absurd (s.5 h.kind)
good_header BadBody max x h s = (s.1, s.2)
good_header NoMemory max x h s = absurd s

shown_len : (fault : FrameFault) (max : ℕ) (x : List ℕ) → Shows fault max x → 4 ≤ length x
shown_len ShortSize max x s = s.0
shown_len BadDoff max x s = let n : 8 ≤ length x = s.0 in omega arith
shown_len TooBig max x s = let n : 8 ≤ length x = s.0 in omega arith
shown_len BadKind max x s = let n : 8 ≤ length x = s.0 in omega arith
shown_len BadBody max x s = let n : 8 ≤ length x = s.0.whole in omega arith
shown_len NoMemory max x s = absurd s

too_short : (fault : FrameFault) (max : ℕ) (x : List ℕ) → length x < 8 → 8 ≤ size_of x → Shows fault max x → ⊥
too_short ShortSize max x h k s = let n : size_of x < 8 = s.1 in omega arith
too_short BadDoff max x h k s = let n : 8 ≤ length x = s.0 in omega arith
too_short TooBig max x h k s = let n : 8 ≤ length x = s.0 in omega arith
too_short BadKind max x h k s = let n : 8 ≤ length x = s.0 in omega arith
too_short BadBody max x h k s = let n : 8 ≤ length x = s.0.whole in omega arith
too_short NoMemory max x h k s = s

not_unfinished : (max : ℕ) (x : List ℕ) → 8 ≤ length x → size_of x ≤ length x → IsUnfinished max x → ⊥
not_unfinished max x h k (inl u) = omega arith
not_unfinished max x h k (inr (inl u)) = let n : length x < 8 = u.1 in omega arith
not_unfinished max x h k (inr (inr u)) = let n : length x < size_of x = u.1 in omega arith

pub same_rest : (x a b : List ℕ) → x ++ a ≡ x ++ b → a ≡ b
same_rest [] a b e = e
same_rest (t ∷ x) a b e = same_rest x a b cc

pub unfinished_shows : (fault : FrameFault) (max : ℕ) (x : List ℕ) → IsUnfinished max x → Shows fault max x → ⊥
unfinished_shows fault max x (inl h) s = let n = shown_len fault max x s in omega arith
unfinished_shows fault max x (inr (inl h)) s = too_short fault max x h.1 h.2 s
unfinished_shows fault max x (inr (inr h)) s = let n = (good_header fault max x h.0 s).0 in let m : length x < size_of x = h.1 in omega arith

pub frame_shows : (fault : FrameFault) (f : Frame) (max : ℕ) (x rest : List ℕ) → IsFrame f x → length x ≤ max → Shows fault max (x ++ rest) → ⊥
frame_shows fault f max x rest p h s =
    let k = framed_header f max x rest p h in
    let e : take (size_of (x ++ rest)) (x ++ rest) ≡ x = take_at x rest (size_of (x ++ rest)) (sym k.1) in
    (good_header fault max (x ++ rest) k.0 s).1 f (subst (λ (t : List ℕ). IsFrame f t) (sym e) p)

pub frame_unfinished : (f : Frame) (max : ℕ) (x rest : List ℕ) → IsFrame f x → IsUnfinished max (x ++ rest) → ⊥
frame_unfinished f max x rest p u =
    let k = framed_header f (length x) x rest p (omega arith) in
    let whole : 8 ≤ length (x ++ rest) = k.0.whole in
    let n : size_of (x ++ rest) ≡ length x = k.1 in
    let m : length (x ++ rest) ≡ length x + length rest = length-append x rest in
    not_unfinished max (x ++ rest) whole (omega arith) u

pub one_front : (f g : Frame) (x y a b : List ℕ) → IsFrame f x → IsFrame g y → x ++ a ≡ y ++ b → x ≡ y
one_front f g x y a b p q e =
    let n : length x ≡ length y = sym (framed_header f (length x) x a p (omega arith)).1 ∙ ap size_of e ∙ (framed_header g (length y) y b q (omega arith)).1 in
    sym (take_at x a (length x) refl) ∙ ap (take (length x)) e ∙ take_at y b (length x) (sym n)

-- the fault that octets show if they show one
first_fault : ℕ → List ℕ → FrameFault
first_fault max x =
    if nat_lt (size_of x) 8 then ShortSize
    else if nat_lt (doff_of x) 2 || nat_lt (size_of x) (4 * doff_of x) then BadDoff
    else if nat_lt max (size_of x) then TooBig
    else if type_of x == 0 then BadBody
    else BadKind

shown_is_first : (fault : FrameFault) (max : ℕ) (x : List ℕ) → Shows fault max x → fault ≡ first_fault max x
unfolding first_fault
shown_is_first ShortSize max x s = grind (arith, nat_tests, s.1)
shown_is_first BadDoff max x (l, m, inl s) = grind (arith, nat_tests, m, s)
shown_is_first BadDoff max x (l, m, inr s) = grind (arith, nat_tests, m, s)
shown_is_first TooBig max x s = grind (arith, nat_tests, s.1, s.2, s.3, s.4)
shown_is_first BadKind max x s = grind (arith, nat_tests, s.1, s.2, s.3, s.4, s.5)
shown_is_first BadBody max x s = let h = s.0 in grind (arith, nat_tests, h.some, h.low, h.high, h.small, h.kind)
shown_is_first NoMemory max x s = absurd s

pub one_fault : (fault other : FrameFault) (max : ℕ) (x : List ℕ) → Shows fault max x → Shows other max x → fault ≡ other
one_fault fault other max x s t = shown_is_first fault max x s ∙ sym (shown_is_first other max x t)

-- ---- cutting

pub joined : (max : ℕ) (x y r s : List ℕ) (fs gs : List Frame) → AreFrames max x fs r → AreFrames max (r ++ y) gs s → AreFrames max (x ++ y) (fs ++ gs) s
joined max x y r s [] gs e h = subst (λ (t : List ℕ). AreFrames max (t ++ y) gs s) (sym e) h
joined max x y r s (f ∷ fs) gs (front, back, p, n, e, t) h =
    (front, back ++ y, p, n, ap (λ (z : List ℕ). z ++ y) e ∙ append_assoc front back y, joined max back y r s fs gs t h)

-- ---- what begins with no frame

pub unfinished_none : (max : ℕ) (x : List ℕ) → IsUnfinished max x → BeginsWithFrame max x → ⊥
unfinished_none max x u (f, front, back, p, n, e) = frame_unfinished f max front back p (subst (λ (t : List ℕ). IsUnfinished max t) e u)

pub faulty_none : (fault : FrameFault) (max : ℕ) (x : List ℕ) → Shows fault max x → BeginsWithFrame max x → ⊥
faulty_none fault max x s (f, front, back, p, n, e) = frame_shows fault f max front back p n (subst (λ (t : List ℕ). Shows fault max t) e s)
