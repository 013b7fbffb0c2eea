-- Frames out of a piece, feed by feed.
use Rattle.std.proofs.Common.{◌≡◌, ◌≢◌, ◌≤◌, ◌<◌, ◌+◌, ◌-◌, ◌*◌, ◌⊎◌, ℕ, max, zero, suc, Option, Some, None, List, [], ◌∷◌, ◌++◌, length, take, drop, refl, sym, ap, subst, ◌∙◌, inl, inr, arith, append_assoc, length-append, length-drop}
use Rattle.std.specs.Prelude.{Result, Ok, Err, IfSome}
use Rattle.std.proofs.lemmas.List.{append-nil, take_all, take-append-drop}
use Rattle.std.proofs.Math.Seq.{drop-nil, drop-length}
use Rattle.amqp_frames.specs.declared.frame.Frame.{Frame}
use Rattle.amqp_frames.specs.declared.fault.FrameFault.{FrameFault}
use Rattle.amqp_frames.specs.declared.fault.FrameFault.TheVariants.{NoMemory}
use Rattle.amqp_frames.specs.Framing.{IsUnfinished, AreFrames}
use Rattle.amqp_frames.specs.Framer.{FramerState, FramerView, keeping, joined, asked, Feeds, Faulty}
use Rattle.amqp_frames.specs.Stream.{Takes, FeedsInto, EndsAFrame}

abbrev kept_of : FramerState → List ℕ
kept_of s = s.kept

abbrev max_of : FramerState → ℕ
max_of s = s.max_size

abbrev before_of : FramerState → Option (List ℕ)
before_of s = s.before

drop_again : (m n : ℕ) (l : List ℕ) → drop n (drop m l) ≡ drop (m + n) l
drop_again zero n l = let e : n ≡ 0 + n = omega arith in ap (λ (k : ℕ). drop k l) e
drop_again (suc m) n [] = drop-nil n ∙ sym (drop-nil (suc m + n))
drop_again (suc m) n (x ∷ l) = let e : suc (m + n) ≡ suc m + n = omega arith in drop_again m n l ∙ ap (λ (k : ℕ). drop k (x ∷ l)) e

chained : (max : ℕ) (x r s : List ℕ) (fs gs : List Frame) → AreFrames max x fs r → AreFrames max r gs s → AreFrames max x (fs ++ gs) s
chained max x r s [] gs e h = subst (λ (t : List ℕ). AreFrames max t gs s) (sym e) h
chained max x r s (f ∷ fs) gs (front, back, p, n, e, t) h = (front, back, p, n, e, chained max back r s fs gs t h)

none_unfinished : (max : ℕ) (x : List ℕ) → x ≡ [] → IsUnfinished max x
none_unfinished max x e = inl (omega (arith, ap length e))

-- ---- one feed

pub took_frame : (old new : FramerState) (piece : List ℕ) (used : ℕ) (f : Frame) (before after : List Frame) → Feeds old piece (Ok (used, Some f)) new → after ≡ before ++ f ∷ [] → FeedsInto old piece before (Ok used) new after
took_frame old new piece used f before after fed put =
    let none : new.kept ≡ [] = ap kept_of fed.3 in
    let parts : old.kept ++ piece ≡ (old.kept ++ take used piece) ++ drop used piece =
    ap (λ (t : List ℕ). old.kept ++ t) (sym (take-append-drop used piece)) ∙ sym (append_assoc old.kept (take used piece) (drop used piece)) in (
      record {
        given = f ∷ [];
        put = put;
        frames = (old.kept ++ take used piece, drop used piece, fed.1, fed.2, parts, sym (ap (λ (t : List ℕ). t ++ drop used piece) none));
        within = fed.0;
        max = ap max_of fed.3;
      },
      none_unfinished old.max_size new.kept none,
      inl none,
    )

pub took_all : (old new : FramerState) (piece : List ℕ) (used : ℕ) (before : List Frame) → Feeds old piece (Ok (used, None)) new → FeedsInto old piece before (Ok used) new before
took_all old new piece used before fed =
    let all : new.kept ≡ old.kept ++ piece = ap kept_of fed.2 in
    let rest : drop used piece ≡ [] = ap (λ (n : ℕ). drop n piece) fed.0 ∙ drop-length piece in (
      record {
        given = [];
        put = sym (append-nil before);
        frames = sym (ap (λ (t : List ℕ). new.kept ++ t) rest ∙ append-nil new.kept ∙ all);
        within = omega (arith, fed.0);
        max = ap max_of fed.2;
      },
      subst (λ (t : List ℕ). IsUnfinished old.max_size t) (sym all) fed.1,
      inr fed.0,
    )

-- what `unread` leaves
abbrev pub Unread : FramerView → FramerView → Option (List ℕ) → Type 0
Unread mid new octets = IfSome octets (λ os. new ≡ record { state = record { max_size = mid.state.max_size; kept = os; before = None }; room = mid.room })

put_back : (old : FramerState) (mid new : FramerView) → mid.state ≡ keeping old [] → (octets : Option (List ℕ)) → octets ≡ mid.state.before → Unread mid new octets → (new.state.kept ≡ old.kept) × (new.state.max_size ≡ old.max_size)
put_back old mid new e None o h = let c : None ≡ Some old.kept = o ∙ ap before_of e in absurd cc
put_back old mid new e (Some os) o h = let c : Some os ≡ Some old.kept = o ∙ ap before_of e in let same : os ≡ old.kept = cc in (ap (λ v. v.state.kept) h ∙ same, ap (λ v. v.state.max_size) h ∙ ap max_of e)

pub no_room : (old : FramerState) (mid new : FramerView) (piece : List ℕ) (used : ℕ) (f : Frame) (before after : List Frame) → Feeds old piece (Ok (used, Some f)) mid.state → after ≡ before → Unread mid new mid.state.before
    → FeedsInto old piece before (Err NoMemory) new.state after
no_room old mid new piece used f before after fed same h =
    let parts : old.kept ++ piece ≡ (old.kept ++ take used piece) ++ drop used piece =
    ap (λ (t : List ℕ). old.kept ++ t) (sym (take-append-drop used piece)) ∙ sym (append_assoc old.kept (take used piece) (drop used piece)) in
    let back = put_back old mid new fed.3 mid.state.before refl h in
    (inl (f, old.kept ++ take used piece, drop used piece, fed.1, fed.2, parts), same, back.0, back.1)

-- ---- the memory for one feed

joined_within : (kept : List ℕ) (count : ℕ) → joined kept count ≤ length kept + count
joined_within [] count = omega arith
joined_within (x ∷ kept) count = omega arith

pub asked_within : (old new : FramerState) (piece : List ℕ) (r : Result (ℕ × Option Frame) FrameFault) → Feeds old piece r new → asked old piece r ≤ max 512 (2 * (length old.kept + length piece))
asked_within old new piece (Ok (used, Some f)) fed = omega (arith, fed.0, joined_within old.kept used)
asked_within old new piece (Ok (used, None)) fed = omega (arith, fed.0)
asked_within old new piece (Err fault) fed = omega (arith, joined_within old.kept (length piece))

-- and what came of a frame grows by what was taken
pub came_within : (old new : FramerState) (piece : List ℕ) (used : ℕ) (frame : Option Frame) → Feeds old piece (Ok (used, frame)) new → length new.kept ≤ length old.kept + used
came_within old new piece used (Some f) fed = let none = ap length (ap kept_of fed.3) in omega arith
came_within old new piece used None fed = omega (arith, fed.0, ap length (ap kept_of fed.2), length-append old.kept piece)

pub unread_room : (mid new : FramerView) (old : FramerState) → mid.state ≡ keeping old [] → (octets : Option (List ℕ)) → octets ≡ mid.state.before → Unread mid new octets → new.room ≡ mid.room
unread_room mid new old e None o h = let c : None ≡ Some old.kept = o ∙ ap before_of e in absurd cc
unread_room mid new old e (Some os) o h = ap (λ v. v.room) h

-- ---- one after the other

-- what a slice from there on has
abbrev tail : List ℕ → ℕ → List ℕ
tail piece used = take (length piece - used) (drop used piece)

tail_is : (piece : List ℕ) (used : ℕ) → tail piece used ≡ drop used piece
tail_is piece used = take_all (length piece - used) (drop used piece) (omega (arith, length-drop used piece))

pub took_more : (old mid new : FramerState) (piece : List ℕ) (used more : ℕ) (before between after : List Frame) → Takes old piece before used mid between → FeedsInto mid (tail piece used) between (Ok more) new after
    → Takes old piece before (used + more) new after × IsUnfinished old.max_size new.kept
took_more old mid new piece used more before between after a fed =
    let b = subst (λ (r : List ℕ). FeedsInto mid r between (Ok more) new after) (tail_is piece used) fed in
    let t = b.0 in
    let n : more ≤ length (drop used piece) = t.within in
    let w : used ≤ length piece = a.within in
    let next : AreFrames old.max_size (mid.kept ++ drop used piece) t.given (new.kept ++ drop (used + more) piece) =
    subst (λ (r : List ℕ). AreFrames old.max_size (mid.kept ++ drop used piece) t.given (new.kept ++ r)) (drop_again used more piece)
    (subst (λ (m : ℕ). AreFrames m (mid.kept ++ drop used piece) t.given (new.kept ++ drop more (drop used piece))) a.max t.frames) in (
      record {
        given = a.given ++ t.given;
        put = t.put ∙ ap (λ (fs : List Frame). fs ++ t.given) a.put ∙ append_assoc before a.given t.given;
        frames = chained old.max_size (old.kept ++ piece) (mid.kept ++ drop used piece) (new.kept ++ drop (used + more) piece) a.given t.given a.frames next;
        within = omega (arith, length-drop used piece);
        max = t.max ∙ a.max;
      },
      subst (λ (m : ℕ). IsUnfinished m new.kept) a.max b.1,
    )

pub tail_length : (piece : List ℕ) (used : ℕ) → length (tail piece used) ≡ length piece - used
tail_length piece used = ap length (tail_is piece used) ∙ length-drop used piece

-- the memory for all feeds so far
pub room_more : (old mid new : FramerView) (piece : List ℕ) (used : ℕ) → used ≤ length piece → length mid.state.kept ≤ length old.state.kept + used
    → mid.room ≤ max old.room (max 512 (2 * (length old.state.kept + length piece))) → new.room ≤ max mid.room (max 512 (2 * (length mid.state.kept + length (tail piece used))))
    → new.room ≤ max old.room (max 512 (2 * (length old.state.kept + length piece)))
room_more old mid new piece used within came so next = omega (arith, within, came, so, next, tail_length piece used)

pub list_more : (between after given : List Frame) (a b c : ℕ) → after ≡ between ++ given → b ≤ max a (max 4 (2 * length between)) → c ≤ max b (max 4 (2 * length after)) → c ≤ max a (max 4 (2 * length after))
list_more between after given a b c put so next = omega (arith, so, next, ap length put, length-append between given)

pub list_same : (between after : List Frame) (a b c : ℕ) → after ≡ between → b ≤ max a (max 4 (2 * length between)) → c ≤ max b (max 4 (2 * length after)) → c ≤ max a (max 4 (2 * length after))
list_same between after a b c put so next = omega (arith, so, next, ap length put)

-- where the piece is not used up, a frame ended
ended_by : (piece kept : List ℕ) (used more : ℕ) → used ≤ length piece → used + more ≢ length piece → (kept ≡ []) ⊎ (more ≡ length (tail piece used)) → kept ≡ []
ended_by piece kept used more within not_all (inl e) = e
ended_by piece kept used more within not_all (inr e) =
    absurd (not_all (omega (arith, within, e, tail_length piece used)))

pub frame_ended : (old mid new : FramerState) (piece : List ℕ) (used more : ℕ) (before between after : List Frame) → Takes old piece before used mid between → FeedsInto mid (tail piece used) between (Ok more) new after → used + more ≢ length piece → EndsAFrame old (used + more) new
frame_ended old mid new piece used more before between after a fed not_all = inr (ended_by piece new.kept used more a.within not_all fed.2)

split : (piece : List ℕ) → (piece ≡ []) ⊎ (piece ≢ [])
split [] = inl refl
split (x ∷ xs) = inr (λ e. absurd cc)

none_left : (piece : List ℕ) (used : ℕ) → piece ≡ [] → tail piece used ≡ []
none_left piece used e = tail_is piece used ∙ ap (drop used) e ∙ drop-nil used

less_by : (piece : List ℕ) (used : ℕ) → used ≤ length piece → (piece ≢ [] → used ≢ length piece) → (tail piece used ≡ [] → ⊥) → (piece ≡ []) ⊎ (piece ≢ []) → used < length piece
less_by piece used within left fed (inl e) = absurd (fed (none_left piece used e))
less_by piece used within left fed (inr some) = let n = left some in omega (arith, within, n)

pub stopped : (old mid new : FramerState) (piece : List ℕ) (used : ℕ) (fault : FrameFault) (before between after : List Frame) → Takes old piece before used mid between → FeedsInto mid (tail piece used) between (Err fault) new after
    → EndsAFrame old used mid → (piece ≢ [] → used ≢ length piece) → (tail piece used ≡ [] → ⊥)
    → Takes old piece before used new after × EndsAFrame old used new × (used < length piece) × Faulty fault old.max_size new.kept (drop used piece)
stopped old mid new piece used fault before between after a fed front left some =
    let b = subst (λ (r : List ℕ). FeedsInto mid r between (Err fault) new after) (tail_is piece used) fed in (
      record {
        given = a.given;
        put = b.1 ∙ a.put;
        frames = subst (λ (k : List ℕ). AreFrames old.max_size (old.kept ++ piece) a.given (k ++ drop used piece)) (sym b.2) a.frames;
        within = a.within;
        max = b.3 ∙ a.max;
      },
      subst (λ (k : List ℕ). ((used ≡ 0) × (k ≡ old.kept)) ⊎ (k ≡ [])) (sym b.2) front,
      less_by piece used a.within left some (split piece),
      subst (λ (k : List ℕ). Faulty fault old.max_size k (drop used piece)) (sym b.2) (subst (λ (m : ℕ). Faulty fault m mid.kept (drop used piece)) a.max b.0),
    )

-- what is left of a piece that is not used up grows shorter
pub shorter : (piece : List ℕ) (used more : ℕ) → used + more ≤ length piece → used + more ≢ length piece → (tail piece used ≢ [] → 0 < more) → length piece - (used + more) < length piece - used
shorter piece used more within not_all progress =
    let some : tail piece used ≢ [] = λ e. let n : length piece - used ≡ 0 = sym (length-drop used piece) ∙ ap length (sym (tail_is piece used) ∙ e) in not_all (omega arith) in
    let p : 0 < more = progress some in
    omega (arith, not_all)
