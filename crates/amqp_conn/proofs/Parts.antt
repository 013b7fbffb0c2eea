-- The parts of a connection after a feed of frames.
use Rattle.std.proofs.Common.{◌≡◌, ◌<◌, ◌≤◌, ℕ, List, [], ◌++◌, length, take, IsTrue, true, false, Option, Some, None, Result, Ok, Err, refl, sym, ap, ◌∙◌, subst, inl, inr, arith}
use Rattle.std.specs.Prelude.{IfOk}
use Rattle.std.proofs.lemmas.List.{take_at, append-nil}
use Rattle.amqp_frames.specs.declared.fault.FrameFault.{FrameFault}
use Rattle.amqp_frames.specs.declared.fault.FrameFault.TheVariants.{ShortSize, BadDoff, TooBig, BadKind, BadBody, NoMemory}
use Rattle.amqp_frames.specs.declared.frame.Frame.{Frame}
use Rattle.amqp_frames.specs.Framing.{IsFrame, IsUnfinished, Shows}
use Rattle.amqp_frames.specs.Framer.{FramerState, keeping, Faulty, Feeds as FramerFeeds}
use Rattle.amqp_frames.specs.declared.filled.Filled.{Filled}
use Rattle.amqp_frames.specs.declared.filled.Filled.TheVariants.{Part, Whole}
use Rattle.amqp_frames.specs.Slots.{used_in, told_with}
use Rattle.amqp_rules.specs.declared.violation.Violation.{Violation}
use Rattle.amqp_rules.specs.declared.reply.Given.TheVariants.{Nothing}
use Rattle.amqp_conn.specs.declared.phase.Phase.{Phase}
use Rattle.amqp_conn.specs.declared.phase.Phase.TheVariants as phase
use Rattle.amqp_conn.specs.declared.fault.ConnFault.{ConnFault}
use Rattle.amqp_conn.specs.declared.fault.ConnFault.TheVariants as fault
use Rattle.amqp_conn.specs.declared.fed.Fed.{Fed}
use Rattle.amqp_conn.specs.Connection.{Core, Connection, connection, more, reads_frames, HasRead, unread_in, IsSetUp}
use Rattle.amqp_conn.specs.Treating.{treat, ending}
use Rattle.amqp_conn.specs.Feeding.{IsFed, IsPassed, Feeds, Takes, MovesBy, MovesOn}
use Rattle.amqp_conn.specs.Treats.{Treats, TreatsBy, PutsBack, PutsBackBy, EndsAll, EndsFor, Acts}
use Rattle.amqp_conn.proofs.Calls.{quiet-none, waits, read-quiet}
use Rattle.amqp_conn.proofs.Passing.{passes-part}
use Rattle.amqp_conn.proofs.Whole.{Given, Leaves, LeavesBy, feeds-whole, left, is_first, Later, goes-taken, goes-again, ending-later, reads-later, later-none, reads-kept, emptied, frame-needs, close-needs, no-closed}

leaves-by : (v : Option Violation) (f h : FramerState) → PutsBackBy v (keeping f []) h → LeavesBy v f.kept h.kept × (h.max_size ≡ f.max_size)
leaves-by None f h p = (ap (λ g. g.kept) p, ap (λ g. g.max_size) p)
leaves-by (Some v) f h p = (ap (λ g. g.kept) p, ap (λ g. g.max_size) p)

leaves-at : (result : Result Fed ConnFault) (f h : FramerState) → PutsBack result (keeping f []) h → Leaves result f.kept h.kept × (h.max_size ≡ f.max_size)
leaves-at (Ok fed) f h p = leaves-by fed.violation f h p
leaves-at (Err fault.NoMemory) f h p = (ap (λ g. g.kept) p, ap (λ g. g.max_size) p)
leaves-at (Err fault.BadHeader) f h p = (ap (λ g. g.kept) p, ap (λ g. g.max_size) p)
leaves-at (Err (fault.Framing e)) f h p = (ap (λ g. g.kept) p, ap (λ g. g.max_size) p)
leaves-at (Err fault.OutOfPlace) f h p = (ap (λ g. g.kept) p, ap (λ g. g.max_size) p)
leaves-at (Err fault.BadChannel) f h p = (ap (λ g. g.kept) p, ap (λ g. g.max_size) p)
leaves-at (Err fault.JournalFull) f h p = (ap (λ g. g.kept) p, ap (λ g. g.max_size) p)
leaves-at (Err fault.Closed) f h p = (ap (λ g. g.kept) p, ap (λ g. g.max_size) p)

pub leaves : (result : Result Fed ConnFault) (f g h : FramerState) → g ≡ keeping f [] → PutsBack result g h → Leaves result f.kept h.kept × (h.max_size ≡ f.max_size)
leaves result f g h e p = leaves-at result f h (subst (λ (x : FramerState). PutsBack result x h) e p)

-- ---- what holds afterwards

first-absurd : (p : Phase) → is_first p ≡ false → p ≡ phase.AwaitHeader → ⊥
first-absurd p h e = let b : true ≡ false = sym (ap is_first e) ∙ h in absurd cc

-- nothing is kept
set-none : (k l : Core) (head : List ℕ) (room max max' : ℕ) (kept kept' : List ℕ) → IsSetUp k head room max kept → Later k l → kept' ≡ [] → max' ≡ max → IsSetUp l head room max' kept'
set-none k l head room max max' kept kept' s h e m =
    record {
      max_is = m ∙ s.max_is ∙ sym (ap (λ x. x.max_frame) h.config);
      read = subst (λ (x : List ℕ). HasRead l.phase max' x) (sym (ap (unread_in l.phase head) e ∙ later-none l.phase head h.later)) (quiet-none l.phase max');
      room_is = s.room_is;
      empty = λ p. e;
    }

-- all is kept
set-same : (k l : Core) (head : List ℕ) (room max max' : ℕ) (kept kept' : List ℕ) → IsSetUp k head room max kept → Later k l → l.phase ≡ k.phase → kept' ≡ kept → max' ≡ max → IsSetUp l head room max' kept'
set-same k l head room max max' kept kept' s h p e m =
    record {
      max_is = m ∙ s.max_is ∙ sym (ap (λ x. x.max_frame) h.config);
      read = subst (λ (n : ℕ). HasRead l.phase n (unread_in l.phase head kept')) (sym m) (subst (λ (x : List ℕ). HasRead l.phase max (unread_in l.phase head x)) (sym e) (subst (λ (q : Phase). HasRead q max (unread_in q head kept)) (sym p) s.read));
      room_is = s.room_is;
      empty = λ q. absurd (first-absurd l.phase h.later q);
    }

set-by : (k l : Core) (f : Frame) (used : ℕ) (fed : Fed) (v : Option Violation) (head : List ℕ) (room max max' : ℕ) (kept kept' : List ℕ) → IsTrue (reads_frames k.phase) → IsSetUp k head room max kept
    → TreatsBy (treat k f) k f used fed v l → LeavesBy v kept kept' → max' ≡ max → IsSetUp l head room max' kept'
set-by k l f used fed None head room max max' kept kept' r s t e m = set-none k l head room max max' kept kept' s (goes-taken k l f r t.0) e m
set-by k l f used fed (Some v) head room max max' kept kept' r s t e m = set-same k l head room max max' kept kept' s (goes-again k l f r t.0) (ap (λ (x : Core). x.phase) t.3.does) e m

later-same : (k l : Core) → IsTrue (reads_frames k.phase) → l ≡ k → Later k l
later-same k l r e = record { config = ap (λ (x : Core). x.config) e; later = ap (λ (x : Core). is_first x.phase) e ∙ reads-later k.phase r }

later-ended : (k l : Core) (e : ConnFault) → l ≡ ending e k → Later k l
later-ended k l e is = subst (λ (x : Core). Later k x) (sym is) (ending-later e k)

pub set-up : (k l : Core) (f : Frame) (used : ℕ) (result : Result Fed ConnFault) (head : List ℕ) (room max max' : ℕ) (kept kept' : List ℕ) → IsTrue (reads_frames k.phase) → IsSetUp k head room max kept
    → Treats k f used result l → Leaves result kept kept' → max' ≡ max → IsSetUp l head room max' kept'
set-up k l f used (Ok fed) head room max max' kept kept' r s t e m = set-by k l f used fed fed.violation head room max max' kept kept' r s t e m
set-up k l f used (Err fault.NoMemory) head room max max' kept kept' r s t e m = set-same k l head room max max' kept kept' s (later-same k l r t) (ap (λ (x : Core). x.phase) t) e m
set-up k l f used (Err fault.BadHeader) head room max max' kept kept' r s t e m = set-none k l head room max max' kept kept' s (later-ended k l fault.BadHeader t.1) e m
set-up k l f used (Err (fault.Framing z)) head room max max' kept kept' r s t e m = set-none k l head room max max' kept kept' s (later-ended k l (fault.Framing z) t.1) e m
set-up k l f used (Err fault.OutOfPlace) head room max max' kept kept' r s t e m = set-none k l head room max max' kept kept' s (later-ended k l fault.OutOfPlace t.1) e m
set-up k l f used (Err fault.BadChannel) head room max max' kept kept' r s t e m = set-none k l head room max max' kept kept' s (later-ended k l fault.BadChannel t.1) e m
set-up k l f used (Err fault.JournalFull) head room max max' kept kept' r s t e m = set-none k l head room max max' kept kept' s (later-ended k l fault.JournalFull t.1) e m
set-up k l f used (Err fault.Closed) head room max max' kept kept' r s t e m = set-none k l head room max max' kept kept' s (later-ended k l fault.Closed t.1) e m

set-stood : (k l : Core) (head : List ℕ) (room : ℕ) (f g : FramerState) → IsTrue (reads_frames k.phase) → IsSetUp k head room f.max_size f.kept → l ≡ k → g ≡ f → IsSetUp l head room g.max_size g.kept
set-stood k l head room f g r s same stands =
    set-same k l head room f.max_size g.max_size f.kept g.kept s (later-same k l r same) (ap (λ (x : Core). x.phase) same) (ap (λ x. x.kept) stands) (ap (λ x. x.max_size) stands)

pub set-ended : (k l : Core) (e told : ConnFault) (head : List ℕ) (room : ℕ) (f g : FramerState) → IsTrue (reads_frames k.phase) → IsSetUp k head room f.max_size f.kept → EndsAll e k f told l g → IsSetUp l head room g.max_size g.kept
set-ended k l e told head room f g r s (inl p) = set-none k l head room f.max_size g.max_size f.kept g.kept s (later-ended k l e p.1) (ap (λ x. x.kept) p.2) (ap (λ x. x.max_size) p.2)
set-ended k l e told head room f g r s (inr p) =
    set-stood k l head room f g r s p.2 p.3

-- ---- what is answered

pub gave : (k : Core) (head : List ℕ) (max : ℕ) (piece kept : List ℕ) (used : ℕ) (f : Frame) → IsTrue (reads_frames k.phase) → max ≡ k.config.max_frame → used ≤ length piece
    → IsFrame f (kept ++ take used piece) → length (kept ++ take used piece) ≤ max → Given (left k head kept) piece used f
gave k head max piece kept used f r m n p q =
    let unread = reads-kept k.phase head kept r in
    record {
      reads = r;
      within = n;
      framed = subst (λ (x : List ℕ). IsFrame f (x ++ take used piece)) (sym unread) p;
      small = subst (λ (x : List ℕ). length (x ++ take used piece) ≤ k.config.max_frame) (sym unread) (subst (λ (y : ℕ). length (kept ++ take used piece) ≤ y) m q);
    }

shown-here : (k : Core) (e : FrameFault) (head piece : List ℕ) (f : FramerState) → IsTrue (reads_frames k.phase) → f.max_size ≡ k.config.max_frame → Shows e f.max_size (f.kept ++ piece)
    → Shows e k.config.max_frame ((left k head f.kept).unread ++ piece)
shown-here k e head piece f r m s =
    subst (λ (x : List ℕ). Shows e k.config.max_frame (x ++ piece)) (sym (reads-kept k.phase head f.kept r)) (subst (λ (n : ℕ). Shows e n (f.kept ++ piece)) m s)

pub shows-end : (k l : Core) (e : FrameFault) (told : ConnFault) (head piece : List ℕ) (f g : FramerState) → IsTrue (reads_frames k.phase) → f.max_size ≡ k.config.max_frame
    → Shows e f.max_size (f.kept ++ piece) → EndsAll (fault.Framing e) k f told l g → Feeds (left k head f.kept) piece (Err told) (left l head g.kept)
shows-end k l e told head piece f g r m s (inl p) =
    let c = left k head f.kept in
    let shown = shown-here k e head piece f r m s in
    let is : left l head g.kept ≡ connection (ending (fault.Framing e) k) [] =
    ap (λ x. left x head g.kept) p.1 ∙ emptied (ending (fault.Framing e) k) head g.kept (ending-later (fault.Framing e) k).later (ap (λ x. x.kept) p.2) in
    let P : ConnFault → Type 0 = λ t. Feeds c piece (Err t) (left l head g.kept) in
    subst P (sym p.0) ((r, shown), is)
shows-end k l e told head piece f g r m s (inr p) =
    let c = left k head f.kept in
    let P : ConnFault → Type 0 = λ t. Feeds c piece (Err t) (left l head g.kept) in
    let same : left l head g.kept ≡ c = λ i. left (p.2 i) head ((p.3 i).kept) in
    subst P (sym p.0) (no-closed k.phase r, close-needs k.phase e c piece r p.1 (shown-here k e head piece f r m s), same)

pub waits-none : (k : Core) (head piece : List ℕ) (used : ℕ) (f g : FramerState) (fed : Fed) → IsTrue (reads_frames k.phase) → f.max_size ≡ k.config.max_frame → used ≡ length piece
    → IsUnfinished f.max_size (f.kept ++ piece) → g ≡ keeping f (f.kept ++ piece) → fed ≡ record { used = used; stepped = false; given = Nothing; violation = None }
    → Takes (left k head f.kept) piece fed fed.violation (left k head g.kept)
waits-none k head piece used f g fed r m n u is e =
    let c = left k head f.kept in
    let unread = reads-kept k.phase head f.kept r in
    let all : take used piece ≡ piece = ap (take used) (sym (append-nil piece)) ∙ take_at piece [] used (sym n) in
    let waiting : IsUnfinished k.config.max_frame (c.unread ++ piece) =
    subst (λ (x : List ℕ). IsUnfinished k.config.max_frame (x ++ piece)) (sym unread) (subst (λ (y : ℕ). IsUnfinished y (f.kept ++ piece)) m u) in
    let fed-is = waits c piece r waiting in
    let there : left k head g.kept ≡ more piece c =
    ap (connection k) (reads-kept k.phase head g.kept r ∙ ap (λ x. x.kept) is ∙ ap (λ x. x ++ piece) (sym unread)) in
    let P : Fed → Type 0 = λ x. Takes c piece x x.violation (left k head g.kept) in
    subst P (sym e) (
      let k : used ≡ length piece = n in omega (arith, k),
      subst (λ (x : List ℕ). IsFed c x (left k head g.kept)) (sym all) (subst (λ (d : Connection). IsFed c piece d) (sym there) fed-is),
      (refl, refl),
      subst (λ (x : List ℕ). IsPassed (more x c)) (sym all) (passes-part c piece r waiting),
    )

stood : (k l : Core) (told : ConnFault) (head piece : List ℕ) (f g : FramerState) → IsTrue (reads_frames k.phase) → f.max_size ≡ k.config.max_frame → Faulty NoMemory f.max_size f.kept piece
    → (told ≡ fault.NoMemory) × (l ≡ k) × (g ≡ f) → Feeds (left k head f.kept) piece (Err told) (left l head g.kept)
stood k l told head piece f g r m w p =
    let wants : Faulty NoMemory k.config.max_frame (unread_in k.phase head f.kept) piece =
    subst (λ (x : List ℕ). Faulty NoMemory k.config.max_frame x piece) (sym (reads-kept k.phase head f.kept r)) (subst (λ (n : ℕ). Faulty NoMemory n f.kept piece) m w) in
    let c = left k head f.kept in
    let P : ConnFault → Type 0 = λ t. Feeds c piece (Err t) (left l head g.kept) in
    let same : left l head g.kept ≡ c = λ i. left (p.1 i) head ((p.2 i).kept) in
    subst P (sym p.0) (no-closed k.phase r, frame-needs k.phase c piece r wants, same)

faulty-end : (k l : Core) (e : FrameFault) (told : ConnFault) (head piece : List ℕ) (f before g : FramerState) → IsTrue (reads_frames k.phase) → f.max_size ≡ k.config.max_frame
    → FramerFeeds f piece (Err e) before → EndsFor e k f told l g → Feeds (left k head f.kept) piece (Err told) (left l head g.kept)
faulty-end k l ShortSize told head piece f before g r m s p = shows-end k l ShortSize told head piece f g r m s.0 p
faulty-end k l BadDoff told head piece f before g r m s p = shows-end k l BadDoff told head piece f g r m s.0 p
faulty-end k l TooBig told head piece f before g r m s p = shows-end k l TooBig told head piece f g r m s.0 p
faulty-end k l BadKind told head piece f before g r m s p = shows-end k l BadKind told head piece f g r m s.0 p
faulty-end k l BadBody told head piece f before g r m s p = shows-end k l BadBody told head piece f g r m s.0 p
faulty-end k l NoMemory told head piece f before g r m s p = stood k l told head piece f g r m s.0 p

pub set-faulty : (k l : Core) (e : FrameFault) (told : ConnFault) (head : List ℕ) (room : ℕ) (f g : FramerState) → IsTrue (reads_frames k.phase) → IsSetUp k head room f.max_size f.kept → EndsFor e k f told l g → IsSetUp l head room g.max_size g.kept
set-faulty k l ShortSize told head room f g r s p = set-ended k l (fault.Framing ShortSize) told head room f g r s p
set-faulty k l BadDoff told head room f g r s p = set-ended k l (fault.Framing BadDoff) told head room f g r s p
set-faulty k l TooBig told head room f g r s p = set-ended k l (fault.Framing TooBig) told head room f g r s p
set-faulty k l BadKind told head room f g r s p = set-ended k l (fault.Framing BadKind) told head room f g r s p
set-faulty k l BadBody told head room f g r s p = set-ended k l (fault.Framing BadBody) told head room f g r s p
set-faulty k l NoMemory told head room f g r s p = set-stood k l head room f g r s p.1 p.2

-- ---- what the framer answered

-- what the framer's answer made of the parts is a feed of the connection
pub acted : (k l : Core) (head piece : List ℕ) (f g h : FramerState) (answer : Result (ℕ × Option Frame) FrameFault) (result : Result Fed ConnFault) → IsTrue (reads_frames k.phase)
    → f.max_size ≡ k.config.max_frame → FramerFeeds f piece answer g → Acts answer k g result l h → Feeds (left k head f.kept) piece result (left l head h.kept)
acted k l head piece f g h (Err e) result r m s (told, is, p) =
    let stood : g ≡ f = s.1 in
    let ends = subst (λ (x : FramerState). EndsFor e k x told l h) stood p in
    let P : Result Fed ConnFault → Type 0 = λ t. Feeds (left k head f.kept) piece t (left l head h.kept) in
    subst P (sym is) (faulty-end k l e told head piece f g h r m s ends)
acted k l head piece f g h (Ok (used, None)) result r m s (is, same, back) =
    let fed : Fed = record { used = used; stepped = false; given = Nothing; violation = None } in
    let made = waits-none k head piece used f g fed r m s.0 s.1 s.2 refl in
    let P : Result Fed ConnFault → Type 0 = λ t. Feeds (left k head f.kept) piece t (left l head h.kept) in
    let there : left l head h.kept ≡ left k head g.kept = λ i. left (same i) head ((back i).kept) in
    subst P (sym is) (subst (λ (d : Connection). Feeds (left k head f.kept) piece (Ok fed) d) (sym there) made)
acted k l head piece f g h (Ok (used, Some frame)) result r m s (treats, back) =
    let e = leaves result f g h s.3 back in
    feeds-whole (left k head f.kept) piece used frame result l head h.kept f.kept
    (gave k head f.max_size piece f.kept used frame r m s.0 s.1 s.2)
    (sym (reads-kept k.phase head f.kept r)) treats e.0

set-waiting : (k l : Core) (head piece : List ℕ) (room : ℕ) (f g h : FramerState) → IsTrue (reads_frames k.phase) → IsSetUp k head room f.max_size f.kept → IsUnfinished f.max_size (f.kept ++ piece)
    → g ≡ keeping f (f.kept ++ piece) → l ≡ k → h ≡ g → IsSetUp l head room h.max_size h.kept
set-waiting k l head piece room f g h r s u is same back =
    let there : h ≡ keeping f (f.kept ++ piece) = back ∙ is in
    let read : HasRead k.phase f.max_size (unread_in k.phase head (f.kept ++ piece)) =
    subst (λ (x : List ℕ). HasRead k.phase f.max_size x) (sym (reads-kept k.phase head (f.kept ++ piece) r)) (read-quiet k.phase f.max_size (f.kept ++ piece) r u) in
    let made : IsSetUp k head room f.max_size (f.kept ++ piece) =
    record { max_is = s.max_is; read = read; room_is = s.room_is; empty = λ q. absurd (first-absurd k.phase (reads-later k.phase r) q) } in
    subst (λ (x : FramerState). IsSetUp l head room x.max_size x.kept) (sym there) (subst (λ (x : Core). IsSetUp x head room f.max_size (f.kept ++ piece)) (sym same) made)

-- the parts agree afterwards
pub acted-set : (k l : Core) (head piece : List ℕ) (room : ℕ) (f g h : FramerState) (answer : Result (ℕ × Option Frame) FrameFault) (result : Result Fed ConnFault) → IsTrue (reads_frames k.phase)
    → IsSetUp k head room f.max_size f.kept → FramerFeeds f piece answer g → Acts answer k g result l h → IsSetUp l head room h.max_size h.kept
acted-set k l head piece room f g h (Err e) result r s t (told, is, p) =
    let stood : g ≡ f = t.1 in
    set-faulty k l e told head room f h r s (subst (λ (x : FramerState). EndsFor e k x told l h) stood p)
acted-set k l head piece room f g h (Ok (used, None)) result r s t (is, same, back) = set-waiting k l head piece room f g h r s t.1 t.2 same back
acted-set k l head piece room f g h (Ok (used, Some frame)) result r s t (treats, back) =
    let e = leaves result f g h t.3 back in
    set-up k l frame used result head room f.max_size h.max_size f.kept h.kept r s treats e.0 e.1

treats-on : (k l : Core) (frame : Frame) (used : ℕ) (result : Result Fed ConnFault) → 0 < used → Treats k frame used result l → MovesOn result
treats-on k l frame used (Ok fed) some t = by fed.violation t
  where
    by : (v : Option Violation) → TreatsBy (treat k frame) k frame used fed v l → MovesBy v fed
    by None t = subst (λ (n : ℕ). 0 < n) (sym t.1) some
    by (Some v) t = t.2
treats-on k l frame used (Err e) some t = tt

-- an octet was used, or a step was made
pub acted-on : (k l : Core) (f h : FramerState) (answer : Result (ℕ × Option Frame) FrameFault) (result : Result Fed ConnFault) → Acts answer k f result l h → IfOk answer (λ fed. 0 < fed.0) → MovesOn result
acted-on k l f h (Err e) result (told, is, p) n = subst MovesOn (sym is) tt
acted-on k l f h (Ok (used, None)) result (is, same, back) n = subst MovesOn (sym is) n
acted-on k l f h (Ok (used, Some frame)) result (treats, back) n = treats-on k l frame used result n treats

pub told-some : (answer : Result Filled FrameFault) (slot : Frame) → IfOk answer (λ filled. 0 < used_in filled) → IfOk (told_with answer slot) (λ fed. 0 < fed.0)
told-some (Ok (Part used)) slot n = n
told-some (Ok (Whole used)) slot n = n
told-some (Err fault) slot n = tt
