-- What octets do does not hang on how many units were popped.
use Rattle.std.proofs.Common.{◌≡◌, ℕ, zero, suc, List, Bool, true, false, cond, Option, Some, None, Result, Ok, Err, refl, sym, ap, ◌∙◌, inl, inr, ⊎_elim, ◌==◌}
use Rattle.amqp_performatives.specs.declared.performative.Performative.{Performative}
use Rattle.amqp_performatives.specs.declared.performative.Performative.TheVariants.{Open, Begin, Attach, Flow, Transfer, Disposition, Detach, End, Close}
use Rattle.amqp_frames.specs.declared.frame.Frame.{Frame}
use Rattle.amqp_rules.specs.declared.op.Op.{Op}
use Rattle.amqp_rules.specs.declared.reply.Reply.{Reply}
use Rattle.amqp_rules.specs.declared.refusal.Refusal.{Refusal}
use Rattle.amqp_rules.specs.declared.violation.Violation.{Violation}
use Rattle.amqp_rules.specs.declared.violation.ViolationKind.{ViolationKind}
use Rattle.amqp_rules.specs.ViolationAnswer.{violation_answer}
use Rattle.amqp_journal.specs.Log.{own_due, heard_due}
use Rattle.amqp_conn.specs.declared.phase.Phase.{Phase}
use Rattle.amqp_conn.specs.declared.phase.Phase.TheVariants as phase
use Rattle.amqp_conn.specs.declared.fault.ConnFault.{ConnFault}
use Rattle.amqp_conn.specs.declared.fault.ConnFault.TheVariants as fault
use Rattle.amqp_conn.specs.Connection.{Core, Connection, connection, more, in_phase}
use Rattle.amqp_conn.specs.Octets.{last_words}
use Rattle.amqp_conn.specs.Treating.{Treatment, taken, again, ended, treat, treat_in, await_open, await_close, run, hearing, answering, answering_by, ending, sending_last, after, Moves}
use Rattle.amqp_conn.specs.Feeding.{MovesTimes, IsFed}
use Rattle.amqp_conn.specs.Pumping.{core_popped, as_popped}

abbrev also : ℕ → Treatment → Treatment
also n (taken l) = taken (core_popped n l)
also n (again l) = again (core_popped n l)
also n (ended e) = ended e

by-channel : (n : ℕ) (b : Bool) (t u : Treatment) → t ≡ also n u → cond b t (ended fault.BadChannel) ≡ also n (cond b u (ended fault.BadChannel))
by-channel n true t u e = e
by-channel n false t u e = refl

open-also : (n : ℕ) (k : Core) (channel : ℕ) (body : Option Performative) → await_open (core_popped n k) channel body ≡ also n (await_open k channel body)
open-also n k channel None = refl
open-also n k channel (Some (Open b)) = by-channel n (channel == 0) _ _ refl
open-also n k channel (Some (Begin b)) = refl
open-also n k channel (Some (Attach b)) = refl
open-also n k channel (Some (Flow b)) = refl
open-also n k channel (Some (Transfer b)) = refl
open-also n k channel (Some (Disposition b)) = refl
open-also n k channel (Some (Detach b)) = refl
open-also n k channel (Some (End b)) = refl
open-also n k channel (Some (Close b)) = refl

own-also : (n : ℕ) (k : Core) (op : Op) → own_due (core_popped n k).log op ≡ own_due k.log op
unfolding own_due
own-also n k op = refl

heard-also : (n : ℕ) (k : Core) (f : Frame) → heard_due (core_popped n k).log f ≡ heard_due k.log f
unfolding heard_due
heard-also n k f = refl

answering-also : (n : ℕ) (k : Core) (v : ViolationKind) (op : Option Op) → answering (core_popped n k) v op ≡ also n (answering k v op)
answering-also n k v None = refl
answering-also n k v (Some op) = ap (answering_by (core_popped n k) v op) (own-also n k op) ∙ by (own_due k.log op)
  where
    by : (r : Result Reply Refusal) → answering_by (core_popped n k) v op r ≡ also n (answering_by k v op r)
    by (Ok reply) = refl
    by (Err e) = refl

hearing-also : (n : ℕ) (k : Core) (f : Frame) (r : Result Reply Violation) → hearing (core_popped n k) f r ≡ also n (hearing k f r)
hearing-also n k f (Ok reply) = refl
hearing-also n k f (Err v) = answering-also n k v.kind (violation_answer v)

heard-all : (n : ℕ) (k : Core) (f : Frame) → cond (f.channel == 0) (hearing (core_popped n k) f (heard_due (core_popped n k).log f)) (ended fault.BadChannel)
    ≡ also n (cond (f.channel == 0) (hearing k f (heard_due k.log f)) (ended fault.BadChannel))
heard-all n k f = by-channel n (f.channel == 0) _ _ (ap (hearing (core_popped n k) f) (heard-also n k f) ∙ hearing-also n k f (heard_due k.log f))

run-also : (n : ℕ) (k : Core) (f : Frame) (body : Option Performative) → run (core_popped n k) f body ≡ also n (run k f body)
run-also n k f None = refl
run-also n k f (Some (Open b)) = refl
run-also n k f (Some (Close b)) = by-channel n (f.channel == 0) _ _ refl
run-also n k f (Some (Begin b)) = heard-all n k f
run-also n k f (Some (Attach b)) = heard-all n k f
run-also n k f (Some (Flow b)) = heard-all n k f
run-also n k f (Some (Transfer b)) = heard-all n k f
run-also n k f (Some (Disposition b)) = heard-all n k f
run-also n k f (Some (Detach b)) = heard-all n k f
run-also n k f (Some (End b)) = heard-all n k f

close-also : (n : ℕ) (k : Core) (body : Option Performative) → await_close (core_popped n k) body ≡ also n (await_close k body)
close-also n k None = refl
close-also n k (Some (Close b)) = refl
close-also n k (Some (Open b)) = refl
close-also n k (Some (Begin b)) = refl
close-also n k (Some (Attach b)) = refl
close-also n k (Some (Flow b)) = refl
close-also n k (Some (Transfer b)) = refl
close-also n k (Some (Disposition b)) = refl
close-also n k (Some (Detach b)) = refl
close-also n k (Some (End b)) = refl

in-also : (p : Phase) (n : ℕ) (k : Core) (f : Frame) → treat_in p (core_popped n k) f ≡ also n (treat_in p k f)
in-also phase.AwaitHeader n k f = refl
in-also phase.AwaitOpen n k f = open-also n k f.channel f.body
in-also phase.Running n k f = run-also n k f f.body
in-also phase.Closing n k f = close-also n k f.body
in-also phase.Closed n k f = refl

treat-also : (n : ℕ) (k : Core) (f : Frame) → treat (core_popped n k) f ≡ also n (treat k f)
unfolding treat
treat-also n k f = in-also k.phase n k f

ending-also : (n : ℕ) (e : ConnFault) (k : Core) → ending e (core_popped n k) ≡ core_popped n (ending e k)
unfolding ending
ending-also n e k = by (last_words k.phase e)
  where
    by : (o : Option (List ℕ)) → in_phase phase.Closed (sending_last o (core_popped n k)) ≡ core_popped n (in_phase phase.Closed (sending_last o k))
    by None = refl
    by (Some x) = refl

after-also : (n : ℕ) (k : Core) (whole back : List ℕ) (t : Treatment) → after (core_popped n k) whole back (also n t) ≡ as_popped n (after k whole back t)
after-also n k whole back (taken l) = refl
after-also n k whole back (again l) = refl
after-also n k whole back (ended e) = ap (λ x. connection x back) (ending-also n e k)

move-also : (n : ℕ) (c d : Connection) → Moves c d → Moves (as_popped n c) (as_popped n d)
move-also n c d (inl h) =
    inl
    (record {
      phase = h.phase;
      front = h.front;
      back = h.back;
      eight = h.eight;
      split = h.split;
      does =
          ⊎_elim
          (λ p. inl (p.0, ap (as_popped n) p.1))
          (λ p. inr (p.0, ap (as_popped n) p.1 ∙ ap (λ x. connection x h.back) (sym (ending-also n fault.BadHeader c.core))))
          h.does;
    })
move-also n c d (inr (inl h)) =
    inr
    (inl
    (record {
      f = h.f;
      front = h.front;
      back = h.back;
      has = record { reads = h.has.reads; framed = h.has.framed; small = h.has.small; split = h.has.split };
      does = ap (as_popped n) h.does ∙ sym (after-also n c.core c.unread h.back (treat c.core h.f)) ∙ ap (after (core_popped n c.core) c.unread h.back) (sym (treat-also n c.core h.f));
    }))
move-also n c d (inr (inr h)) =
    inr
    (inr
    (record {
      reads = h.reads;
      e = h.e;
      shown = h.shown;
      does = ap (as_popped n) h.does ∙ ap (λ x. connection x c.unread) (sym (ending-also n (fault.Framing h.e) c.core));
    }))

times-also : (n k : ℕ) (c d : Connection) → MovesTimes k c d → MovesTimes k (as_popped n c) (as_popped n d)
times-also n zero c d e = ap (as_popped n) e
times-also n (suc k) c d (m, one, rest) = (as_popped n m, move-also n c m one, times-also n k m d rest)

pub fed-also : (n : ℕ) (c d : Connection) (x : List ℕ) → IsFed c x d → IsFed (as_popped n c) x (as_popped n d)
fed-also n c d x p =
    record {
      times = p.times;
      last = as_popped n p.last;
      moved = times-also n p.times (more x c) p.last p.moved;
      is = ap (as_popped n) p.is;
      quiet = p.quiet;
    }
