-- What one call does.
use Rattle.std.proofs.Common.{◌≡◌, ◌≤◌, ◌<◌, ℕ, List, [], ◌∷◌, ◌++◌, length, IsTrue, Bool, Option, Some, None, Ok, refl, sym, ap, subst, inl, inr, append-nil, arith}
use Rattle.amqp_frames.specs.declared.fault.FrameFault.TheVariants.{ShortSize, BadDoff, TooBig, BadKind, BadBody, NoMemory}
use Rattle.amqp_frames.specs.declared.frame.Frame.{Frame}
use Rattle.amqp_frames.specs.Framing.{IsFrame, IsUnfinished}
use Rattle.amqp_frames.specs.Written.{write_answer}
use Rattle.amqp_rules.specs.Sending.{octets_of}
use Rattle.amqp_rules.specs.ViolationAnswer.{error_of}
use Rattle.amqp_types.specs.Canon.{canon, spelled}
use Rattle.amqp_types.specs.Codes.{class_of}
use Rattle.std.specs.Str.{chars, is_utf8}
use lib.Utf8.{encode}
use Rattle.amqp_laws.specs.declared.entry.Step.TheVariants.{Own}
use Rattle.amqp_journal.specs.Units.{units}
use Rattle.amqp_journal.proofs.UnitLaws.{put-behind}
use Rattle.amqp_conn.specs.declared.phase.Phase.{Phase}
use Rattle.amqp_conn.specs.declared.phase.Phase.TheVariants as phase
use Rattle.amqp_conn.specs.declared.fault.ConnFault.{ConnFault}
use Rattle.amqp_conn.specs.declared.fault.ConnFault.TheVariants as fault
use Rattle.amqp_conn.specs.declared.fed.Fed.{Fed}
use Rattle.amqp_rules.specs.declared.violation.Violation.{Violation}
use Rattle.amqp_conn.specs.Connection.{Core, Connection, connection, more, reads_frames, HasRead}
use Rattle.amqp_conn.specs.Octets.{header, close_frame, condition, last_words}
use Rattle.amqp_conn.specs.Treating.{taken, treat, after, greeted, ending, sending_last, Moves}
use Rattle.amqp_conn.specs.Feeding.{kept_in, IsFed, AddsEntry, Takes, Feeds, listed, ClosesOnce}

-- ---- how a connection ends

pub closes-once : (e : ConnFault) (k : Core) → ClosesOnce e k (ending e k)
unfolding ending
closes-once e k =
    record { closed = refl; journal = by (last_words k.phase e); out = out-of (last_words k.phase e) }
  where
    by : (o : Option (List ℕ)) → (sending_last o k).log.journal ≡ k.log.journal
    by None = refl
    by (Some x) = refl

    out-of : (o : Option (List ℕ)) → units (sending_last o k).log ≡ units k.log ++ listed o
    out-of None = sym (append-nil (units k.log))
    out-of (Some x) = put-behind k.log x

-- each close that a connection sends can be written to any peer
pub writable : (e : ConnFault) → write_answer (close_frame (error_of (condition e))) 512 ≡ Ok (octets_of (close_frame (error_of (condition e))))
unfolding octets_of canon spelled class_of is_utf8 chars encode
writable fault.BadHeader = refl
writable (fault.Framing ShortSize) = refl
writable (fault.Framing BadDoff) = refl
writable (fault.Framing TooBig) = refl
writable (fault.Framing BadKind) = refl
writable (fault.Framing BadBody) = refl
writable (fault.Framing NoMemory) = refl
writable fault.OutOfPlace = refl
writable fault.BadChannel = refl
writable fault.JournalFull = refl
writable fault.Closed = refl
writable fault.NoMemory = refl

pub plain-writable : write_answer (close_frame None) 512 ≡ Ok (octets_of (close_frame None))
unfolding octets_of canon spelled class_of is_utf8 chars encode
plain-writable = refl

-- ---- one entry at most

pub one-entry : (c d : Connection) (piece : List ℕ) (fed : Fed) → Feeds c piece (Ok fed) d → AddsEntry c.core.log.journal d.core.log.journal fed.stepped fed.given
one-entry c d piece fed t = by fed.violation t
  where
    by : (v : Option Violation) → Takes c piece fed v d → AddsEntry c.core.log.journal d.core.log.journal fed.stepped fed.given
    by None t = t.2
    by (Some v) t =
        let a = t.2.answers in
        let journal : d.core.log.journal ≡ c.core.log.journal ++ record { step = Own a.op; reply = a.reply } ∷ [] = ap (λ k. k.log.journal) a.does in
        subst (λ (b : Bool). AddsEntry c.core.log.journal d.core.log.journal b fed.given) (sym t.1) (record { step = Own a.op; reply = a.reply }, journal, a.gives)

-- ---- what is taken

pub quiet-none : (p : Phase) (max : ℕ) → HasRead p max []
quiet-none phase.AwaitHeader max = omega arith
quiet-none phase.AwaitOpen max = inl (omega arith)
quiet-none phase.Running max = inl (omega arith)
quiet-none phase.Closing max = inl (omega arith)
quiet-none phase.Closed max = refl

kept-none : (p : Phase) → kept_in p [] ≡ []
kept-none phase.AwaitHeader = refl
kept-none phase.AwaitOpen = refl
kept-none phase.Running = refl
kept-none phase.Closing = refl
kept-none phase.Closed = refl

-- one thing that leaves nothing
all-read : (c : Connection) (x : List ℕ) (l : Core) → Moves (more x c) (connection l []) → IsFed c x (connection l [])
all-read c x l move =
    record {
      times = 1;
      last = connection l [];
      moved = (connection l [], move, refl);
      is = ap (connection l) (sym (kept-none l.phase));
      quiet = quiet-none l.phase l.config.max_frame;
    }

pub takes-frame : (c : Connection) (x : List ℕ) (f : Frame) (l : Core) → IsTrue (reads_frames c.core.phase) → IsFrame f (c.unread ++ x) → length (c.unread ++ x) ≤ c.core.config.max_frame
    → treat c.core f ≡ taken l → IsFed c x (connection l [])
takes-frame c x f l reads framed small t =
    all-read c x l
    (inr
    (inl
    (record {
      f = f;
      front = c.unread ++ x;
      back = [];
      has = record { reads = reads; framed = framed; small = small; split = sym (append-nil (c.unread ++ x)) };
      does = sym (ap (after c.core (c.unread ++ x) []) t);
    })))

pub takes-header : (c : Connection) (x : List ℕ) → c.core.phase ≡ phase.AwaitHeader → c.unread ++ x ≡ header → IsFed c x (connection (greeted c.core) [])
takes-header c x p e =
    all-read c x (greeted c.core)
    (inl (record { phase = p; front = header; back = []; eight = refl; split = e; does = inl (refl, refl) }))

open-kept : (p : Phase) (x : List ℕ) → IsTrue (reads_frames p) → kept_in p x ≡ x
open-kept phase.AwaitHeader x r = absurd cc
open-kept phase.AwaitOpen x r = refl
open-kept phase.Running x r = refl
open-kept phase.Closing x r = refl
open-kept phase.Closed x r = absurd cc

pub read-quiet : (p : Phase) (max : ℕ) (x : List ℕ) → IsTrue (reads_frames p) → IsUnfinished max x → HasRead p max x
read-quiet phase.AwaitHeader max x r u = absurd cc
read-quiet phase.AwaitOpen max x r u = u
read-quiet phase.Running max x r u = u
read-quiet phase.Closing max x r u = u
read-quiet phase.Closed max x r u = absurd cc

-- octets of a frame that is not whole
pub waits : (c : Connection) (x : List ℕ) → IsTrue (reads_frames c.core.phase) → IsUnfinished c.core.config.max_frame (c.unread ++ x) → IsFed c x (more x c)
waits c x reads u =
    record {
      times = 0;
      last = more x c;
      moved = refl;
      is = ap (connection c.core) (sym (open-kept c.core.phase (c.unread ++ x) reads));
      quiet = read-quiet c.core.phase c.core.config.max_frame (c.unread ++ x) reads u;
    }
