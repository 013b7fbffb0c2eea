-- A whole frame in a feed.
use Rattle.std.proofs.Common.{◌≡◌, ◌≤◌, ◌==◌, ℕ, List, [], ◌++◌, length, take, drop, IsTrue, Bool, true, false, cond, Option, Some, None, Result, Ok, Err, refl, sym, ap, ◌∙◌, subst, inl, inr, append_assoc}
use Rattle.std.specs.Prelude.{IsSome}
use Rattle.std.proofs.lemmas.List.{take-append-drop}
use Rattle.amqp_performatives.specs.declared.performative.Performative.{Performative}
use Rattle.amqp_performatives.specs.declared.performative.Performative.TheVariants.{Open, Begin, Attach, Flow, Transfer, Disposition, Detach, End, Close}
use Rattle.amqp_frames.specs.declared.frame.Frame.{Frame}
use Rattle.amqp_frames.specs.declared.fault.FrameFault.{FrameFault}
use Rattle.amqp_frames.specs.Framing.{IsFrame, Shows}
use Rattle.amqp_rules.specs.declared.op.Op.{Op}
use Rattle.amqp_rules.specs.declared.reply.Reply.{Reply}
use Rattle.amqp_rules.specs.declared.refusal.Refusal.{Refusal}
use Rattle.amqp_rules.specs.declared.violation.Violation.{Violation}
use Rattle.amqp_rules.specs.declared.violation.ViolationKind.{ViolationKind}
use Rattle.amqp_rules.specs.declared.violation.ViolationKind.TheVariants as kind
use Rattle.amqp_rules.specs.ViolationAnswer.{violation_answer}
use Rattle.amqp_journal.specs.Log.{own_due, heard_due}
use Rattle.amqp_conn.specs.declared.phase.Phase.{Phase}
use Rattle.amqp_conn.specs.declared.phase.Phase.TheVariants as phase
use Rattle.amqp_conn.specs.declared.fault.ConnFault.{ConnFault}
use Rattle.amqp_conn.specs.declared.fault.ConnFault.TheVariants as fault
use Rattle.amqp_conn.specs.declared.fed.Fed.{Fed}
use Rattle.amqp_conn.specs.Connection.{Core, Connection, connection, more, reads_frames, unread_in}
use Rattle.amqp_conn.specs.Treating.{Treatment, taken, again, ended, treat, treat_in, await_open, await_close, run, hearing, answering, answering_by, fault_of, ending, sending_last, HasFrame}
use Rattle.amqp_conn.specs.Octets.{last_words}
use Rattle.amqp_conn.specs.Feeding.{IsFed, IsPassed, Feeds, Takes, WantsFrame, NeedsMemory}
use Rattle.amqp_conn.specs.Treats.{Treats, TreatsBy}
use Rattle.amqp_conn.proofs.Calls.{takes-frame}
use Rattle.amqp_conn.proofs.Passing.{passes-frame}

abbrev pub is_first : Phase → Bool
is_first phase.AwaitHeader = true
is_first phase.AwaitOpen = false
is_first phase.Running = false
is_first phase.Closing = false
is_first phase.Closed = false

-- the config stand, and the header is not awaited again
pub record Later (k l : Core) : Type 0 where
  pub config : l.config ≡ k.config
  pub later : is_first l.phase ≡ false

abbrev pub OfFrame : ConnFault → Type 0
OfFrame fault.BadHeader = ⊥
OfFrame (fault.Framing e) = ⊥
OfFrame fault.OutOfPlace = Unit {0}
OfFrame fault.BadChannel = Unit {0}
OfFrame fault.JournalFull = Unit {0}
OfFrame fault.Closed = ⊥
OfFrame fault.NoMemory = ⊥

abbrev pub Goes : Core → Treatment → Type 0
Goes k (taken l) = Later k l
Goes k (again l) = Later k l
Goes k (ended e) = OfFrame e

of-kind : (v : ViolationKind) → OfFrame (fault_of v)
of-kind kind.JournalFull = tt
of-kind kind.OutOfSession = tt
of-kind kind.BadHandle = tt
of-kind kind.HandleTaken = tt
of-kind kind.NameTaken = tt
of-kind kind.CountAhead = tt
of-kind kind.Window = tt
of-kind kind.MissingField = tt
of-kind kind.IdOrder = tt
of-kind kind.TagHeld = tt
of-kind kind.Mode = tt
of-kind kind.Credit = tt
of-kind kind.TooLong = tt
of-kind kind.BadRange = tt
of-kind kind.NoMemory = tt

by-channel : (k : Core) (b : Bool) (t : Treatment) → Goes k t → Goes k (cond b t (ended fault.BadChannel))
by-channel k true t g = g
by-channel k false t g = tt

open-goes : (k : Core) (channel : ℕ) (body : Option Performative) → is_first k.phase ≡ false → Goes k (await_open k channel body)
open-goes k channel None h = record { config = refl; later = h }
open-goes k channel (Some (Open b)) h = by-channel k (channel == 0) _ (record { config = refl; later = refl })
open-goes k channel (Some (Begin b)) h = tt
open-goes k channel (Some (Attach b)) h = tt
open-goes k channel (Some (Flow b)) h = tt
open-goes k channel (Some (Transfer b)) h = tt
open-goes k channel (Some (Disposition b)) h = tt
open-goes k channel (Some (Detach b)) h = tt
open-goes k channel (Some (End b)) h = tt
open-goes k channel (Some (Close b)) h = tt

answering-goes : (k : Core) (v : ViolationKind) (op : Option Op) → is_first k.phase ≡ false → Goes k (answering k v op)
answering-goes k v None h = of-kind v
answering-goes k v (Some op) h = by (own_due k.log op)
  where
    by : (r : Result Reply Refusal) → Goes k (answering_by k v op r)
    by (Ok reply) = record { config = refl; later = h }
    by (Err e) = of-kind v

hearing-goes : (k : Core) (f : Frame) (r : Result Reply Violation) → is_first k.phase ≡ false → Goes k (hearing k f r)
hearing-goes k f (Ok reply) h = record { config = refl; later = h }
hearing-goes k f (Err v) h = answering-goes k v.kind (violation_answer v) h

heard-goes : (k : Core) (f : Frame) → is_first k.phase ≡ false → Goes k (cond (f.channel == 0) (hearing k f (heard_due k.log f)) (ended fault.BadChannel))
heard-goes k f h = by-channel k (f.channel == 0) (hearing k f (heard_due k.log f)) (hearing-goes k f (heard_due k.log f) h)

run-goes : (k : Core) (f : Frame) (body : Option Performative) → is_first k.phase ≡ false → Goes k (run k f body)
run-goes k f None h = record { config = refl; later = h }
run-goes k f (Some (Open b)) h = tt
run-goes k f (Some (Close b)) h = by-channel k (f.channel == 0) _ (record { config = refl; later = refl })
run-goes k f (Some (Begin b)) h = heard-goes k f h
run-goes k f (Some (Attach b)) h = heard-goes k f h
run-goes k f (Some (Flow b)) h = heard-goes k f h
run-goes k f (Some (Transfer b)) h = heard-goes k f h
run-goes k f (Some (Disposition b)) h = heard-goes k f h
run-goes k f (Some (Detach b)) h = heard-goes k f h
run-goes k f (Some (End b)) h = heard-goes k f h

close-goes : (k : Core) (body : Option Performative) → is_first k.phase ≡ false → Goes k (await_close k body)
close-goes k None h = record { config = refl; later = h }
close-goes k (Some (Close b)) h = record { config = refl; later = refl }
close-goes k (Some (Open b)) h = record { config = refl; later = h }
close-goes k (Some (Begin b)) h = record { config = refl; later = h }
close-goes k (Some (Attach b)) h = record { config = refl; later = h }
close-goes k (Some (Flow b)) h = record { config = refl; later = h }
close-goes k (Some (Transfer b)) h = record { config = refl; later = h }
close-goes k (Some (Disposition b)) h = record { config = refl; later = h }
close-goes k (Some (Detach b)) h = record { config = refl; later = h }
close-goes k (Some (End b)) h = record { config = refl; later = h }

goes-in : (p : Phase) (k : Core) (f : Frame) → is_first k.phase ≡ false → Goes k (treat_in p k f)
goes-in phase.AwaitHeader k f h = record { config = refl; later = h }
goes-in phase.AwaitOpen k f h = open-goes k f.channel f.body h
goes-in phase.Running k f h = run-goes k f f.body h
goes-in phase.Closing k f h = close-goes k f.body h
goes-in phase.Closed k f h = record { config = refl; later = h }

pub goes : (k : Core) (f : Frame) → is_first k.phase ≡ false → Goes k (treat k f)
unfolding treat
goes k f h = goes-in k.phase k f h

pub ending-later : (e : ConnFault) (k : Core) → Later k (ending e k)
unfolding ending
ending-later e k = record { config = by (last_words k.phase e); later = refl }
  where
    by : (o : Option (List ℕ)) → (sending_last o k).config ≡ k.config
    by None = refl
    by (Some x) = refl

pub reads-later : (p : Phase) → IsTrue (reads_frames p) → is_first p ≡ false
reads-later phase.AwaitHeader r = absurd cc
reads-later phase.AwaitOpen r = refl
reads-later phase.Running r = refl
reads-later phase.Closing r = refl
reads-later phase.Closed r = refl

pub later-none : (p : Phase) (head : List ℕ) → is_first p ≡ false → unread_in p head [] ≡ []
later-none phase.AwaitHeader head h = absurd cc
later-none phase.AwaitOpen head h = refl
later-none phase.Running head h = refl
later-none phase.Closing head h = refl
later-none phase.Closed head h = refl

pub reads-kept : (p : Phase) (head kept : List ℕ) → IsTrue (reads_frames p) → unread_in p head kept ≡ kept
reads-kept phase.AwaitHeader head kept r = absurd cc
reads-kept phase.AwaitOpen head kept r = refl
reads-kept phase.Running head kept r = refl
reads-kept phase.Closing head kept r = refl
reads-kept phase.Closed head kept r = absurd cc

-- ---- a frame that a feed of the framer gave

pub record Given (c : Connection) (piece : List ℕ) (used : ℕ) (f : Frame) : Type 0 where
  pub reads : IsTrue (reads_frames c.core.phase)
  pub within : used ≤ length piece
  pub framed : IsFrame f (c.unread ++ take used piece)
  pub small : length (c.unread ++ take used piece) ≤ c.core.config.max_frame

has-frame : (c : Connection) (piece : List ℕ) (used : ℕ) (f : Frame) → Given c piece used f → HasFrame (more piece c) f (c.unread ++ take used piece) (drop used piece)
has-frame c piece used f g =
    record {
      reads = g.reads;
      framed = g.framed;
      small = g.small;
      split = ap (λ x. c.unread ++ x) (sym (take-append-drop used piece)) ∙ sym (append_assoc c.unread (take used piece) (drop used piece));
    }

-- what is left in the framer: nothing, or what was there
abbrev pub LeavesBy : Option Violation → List ℕ → List ℕ → Type 0
LeavesBy None before kept = kept ≡ []
LeavesBy (Some v) before kept = kept ≡ before

abbrev pub Leaves : Result Fed ConnFault → List ℕ → List ℕ → Type 0
Leaves (Ok fed) before kept = LeavesBy fed.violation before kept
Leaves (Err fault.NoMemory) before kept = kept ≡ before
Leaves (Err fault.BadHeader) before kept = kept ≡ []
Leaves (Err (fault.Framing e)) before kept = kept ≡ []
Leaves (Err fault.OutOfPlace) before kept = kept ≡ []
Leaves (Err fault.BadChannel) before kept = kept ≡ []
Leaves (Err fault.JournalFull) before kept = kept ≡ []
Leaves (Err fault.Closed) before kept = kept ≡ []

-- memory is wanted for a frame that is kept, read or treated
pub frame-needs : (p : Phase) (c : Connection) (piece : List ℕ) → IsTrue (reads_frames p) → WantsFrame c piece → NeedsMemory p c piece
frame-needs phase.AwaitHeader c piece r w = absurd cc
frame-needs phase.AwaitOpen c piece r w = inl w
frame-needs phase.Running c piece r w = inl w
frame-needs phase.Closing c piece r w = w
frame-needs phase.Closed c piece r w = absurd cc

-- and for the close that tells a fault, where one goes out
pub close-needs : (p : Phase) (e : FrameFault) (c : Connection) (piece : List ℕ) → IsTrue (reads_frames p) → IsSome (last_words p (fault.Framing e)) → Shows e c.core.config.max_frame (c.unread ++ piece)
    → NeedsMemory p c piece
close-needs phase.AwaitHeader e c piece r w shown = absurd cc
close-needs phase.AwaitOpen e c piece r w shown = inr (e, shown)
close-needs phase.Running e c piece r w shown = inr (e, shown)
close-needs phase.Closing e c piece r w shown = absurd cc
close-needs phase.Closed e c piece r w shown = absurd cc

pub no-closed : (p : Phase) → IsTrue (reads_frames p) → p ≡ phase.Closed → ⊥
no-closed p r e = let b : false ≡ true = sym (ap reads_frames e) ∙ r in absurd cc

-- the connection that a call leaves
abbrev pub left : Core → List ℕ → List ℕ → Connection
left l head kept = connection l (unread_in l.phase head kept)

pub emptied : (l : Core) (head kept : List ℕ) → is_first l.phase ≡ false → kept ≡ [] → left l head kept ≡ connection l []
emptied l head kept h e = ap (λ x. left l head x) e ∙ ap (connection l) (later-none l.phase head h)

by-frame : (e : ConnFault) (c : Connection) (piece : List ℕ) (used : ℕ) (f : Frame) (l : Core) (head kept : List ℕ) → Given c piece used f
    → (treat c.core f ≡ ended e) × (l ≡ ending e c.core) → kept ≡ [] → left l head kept ≡ connection (ending e c.core) []
by-frame e c piece used f l head kept g t k =
    ap (λ m. left m head kept) t.1 ∙ emptied (ending e c.core) head kept (ending-later e c.core).later k

pub goes-taken : (k l : Core) (f : Frame) → IsTrue (reads_frames k.phase) → treat k f ≡ taken l → Later k l
goes-taken k l f r t = subst (λ (x : Treatment). Goes k x) t (goes k f (reads-later k.phase r))

pub goes-again : (k l : Core) (f : Frame) → IsTrue (reads_frames k.phase) → treat k f ≡ again l → Later k l
goes-again k l f r t = subst (λ (x : Treatment). Goes k x) t (goes k f (reads-later k.phase r))

goes-ended : (k : Core) (e : ConnFault) (f : Frame) → IsTrue (reads_frames k.phase) → treat k f ≡ ended e → OfFrame e
goes-ended k e f r t = subst (λ (x : Treatment). Goes k x) t (goes k f (reads-later k.phase r))

fed-by : (c : Connection) (piece : List ℕ) (used : ℕ) (f : Frame) (fed : Fed) (v : Option Violation) (l : Core) (head kept before : List ℕ) → Given c piece used f → before ≡ c.unread
    → TreatsBy (treat c.core f) c.core f used fed v l → LeavesBy v before kept → Takes c piece fed v (left l head kept)
fed-by c piece used f fed None l head kept before g same t k =
    let later = (goes-taken c.core l f g.reads t.0).later in
    let is = emptied l head kept later k in
    let taking = takes-frame c (take used piece) f l g.reads g.framed g.small t.0 in
    let here : IsFed c (take used piece) (left l head kept) = subst (λ (d : Connection). IsFed c (take used piece) d) (sym is) taking in
    let passes = passes-frame c (take used piece) f l g.reads g.framed g.small t.0 in
    (subst (λ n. n ≤ length piece) (sym t.1) g.within, subst (λ n. IsFed c (take n piece) (left l head kept)) (sym t.1) here, t.2, subst (λ n. IsPassed (more (take n piece) c)) (sym t.1) passes)
fed-by c piece used f fed (Some v) l head kept before g same t k =
    let phase : l.phase ≡ c.core.phase = ap (λ (x : Core). x.phase) t.3.does in
    let reads : IsTrue (reads_frames l.phase) = subst (λ (p : Phase). IsTrue (reads_frames p)) (sym phase) g.reads in (
      t.1,
      t.2,
      record {
        f = f;
        front = c.unread ++ take used piece;
        back = drop used piece;
        has = has-frame c piece used f g;
        treated = t.0;
        answers = t.3;
        stands = reads-kept l.phase head kept reads ∙ k ∙ same;
      },
    )

pub feeds-whole : (c : Connection) (piece : List ℕ) (used : ℕ) (f : Frame) (result : Result Fed ConnFault) (l : Core) (head kept before : List ℕ) → Given c piece used f
    → before ≡ c.unread → Treats c.core f used result l → Leaves result before kept → Feeds c piece result (left l head kept)
feeds-whole c piece used f (Ok fed) l head kept before g same t k = fed-by c piece used f fed fed.violation l head kept before g same t k
feeds-whole c piece used f (Err fault.NoMemory) l head kept before g same t k =
    let unread : unread_in l.phase head kept ≡ c.unread = reads-kept l.phase head kept (subst (λ (m : Core). IsTrue (reads_frames m.phase)) (sym t) g.reads) ∙ k ∙ same in (
      no-closed c.core.phase g.reads,
      frame-needs c.core.phase c piece g.reads (inl (f, c.unread ++ take used piece, drop used piece, g.framed, g.small, (has-frame c piece used f g).split)),
      λ i. connection (t i) (unread i),
    )
feeds-whole c piece used f (Err fault.BadHeader) l head kept before g same t k = absurd (goes-ended c.core fault.BadHeader f g.reads t.0)
feeds-whole c piece used f (Err (fault.Framing e)) l head kept before g same t k = absurd (goes-ended c.core (fault.Framing e) f g.reads t.0)
feeds-whole c piece used f (Err fault.Closed) l head kept before g same t k = absurd (goes-ended c.core fault.Closed f g.reads t.0)
feeds-whole c piece used f (Err fault.OutOfPlace) l head kept before g same t k =
    ((f, c.unread ++ take used piece, drop used piece, has-frame c piece used f g, t.0), by-frame fault.OutOfPlace c piece used f l head kept g t k)
feeds-whole c piece used f (Err fault.BadChannel) l head kept before g same t k =
    ((f, c.unread ++ take used piece, drop used piece, has-frame c piece used f g, t.0), by-frame fault.BadChannel c piece used f l head kept g t k)
feeds-whole c piece used f (Err fault.JournalFull) l head kept before g same t k =
    ((f, c.unread ++ take used piece, drop used piece, has-frame c piece used f g, t.0), by-frame fault.JournalFull c piece used f l head kept g t k)
