-- No octets make a connection forget entries of its journal.
use Rattle.std.proofs.Common.{◌≡◌, ℕ, zero, suc, List, Bool, true, false, cond, Option, Some, None, Result, Ok, Err, refl, sym, ap, ◌∙◌, inl, inr, ⊎_elim, ◌==◌}
use Rattle.amqp_performatives.specs.declared.performative.Performative.{Performative}
use Rattle.amqp_performatives.specs.declared.performative.Performative.TheVariants.{Open, Begin, Attach, Flow, Transfer, Disposition, Detach, End, Close}
use Rattle.amqp_frames.specs.declared.frame.Frame.{Frame}
use Rattle.amqp_rules.specs.declared.op.Op.{Op}
use Rattle.amqp_rules.specs.declared.reply.Reply.{Reply}
use Rattle.amqp_rules.specs.declared.refusal.Refusal.{Refusal}
use Rattle.amqp_rules.specs.declared.violation.Violation.{Violation}
use Rattle.amqp_rules.specs.declared.violation.ViolationKind.{ViolationKind}
use Rattle.amqp_rules.specs.ViolationAnswer.{violation_answer}
use Rattle.amqp_journal.specs.Log.{own_due, heard_due}
use Rattle.amqp_conn.specs.declared.phase.Phase.{Phase}
use Rattle.amqp_conn.specs.declared.phase.Phase.TheVariants as phase
use Rattle.amqp_conn.specs.declared.fault.ConnFault.{ConnFault}
use Rattle.amqp_conn.specs.declared.fault.ConnFault.TheVariants as fault
use Rattle.amqp_conn.specs.Connection.{Core, Connection, more, in_phase}
use Rattle.amqp_conn.specs.Octets.{last_words}
use Rattle.amqp_conn.specs.Treating.{Treatment, taken, again, ended, treat, treat_in, await_open, await_close, run, hearing, answering, answering_by, ending, sending_last, after, Moves}
use Rattle.amqp_conn.specs.Feeding.{MovesTimes, IsFed, trimmed}

abbrev pub Keeps : Core → Core → Type 0
Keeps k l = l.log.forgotten ≡ k.log.forgotten

pub ends-keeps : (e : ConnFault) (k : Core) → Keeps k (ending e k)
unfolding ending
ends-keeps e k = by (last_words k.phase e)
  where
    by : (o : Option (List ℕ)) → Keeps k (in_phase phase.Closed (sending_last o k))
    by None = refl
    by (Some x) = refl

abbrev pub Goes : Core → Treatment → Type 0
Goes k (taken l) = Keeps k l
Goes k (again l) = Keeps k l
Goes k (ended e) = Unit {0}

by-channel : (k : Core) (b : Bool) (t : Treatment) → Goes k t → Goes k (cond b t (ended fault.BadChannel))
by-channel k true t g = g
by-channel k false t g = tt

open-goes : (k : Core) (channel : ℕ) (body : Option Performative) → Goes k (await_open k channel body)
open-goes k channel None = refl
open-goes k channel (Some (Open b)) = by-channel k (channel == 0) _ refl
open-goes k channel (Some (Begin b)) = tt
open-goes k channel (Some (Attach b)) = tt
open-goes k channel (Some (Flow b)) = tt
open-goes k channel (Some (Transfer b)) = tt
open-goes k channel (Some (Disposition b)) = tt
open-goes k channel (Some (Detach b)) = tt
open-goes k channel (Some (End b)) = tt
open-goes k channel (Some (Close b)) = tt

answering-goes : (k : Core) (v : ViolationKind) (op : Option Op) → Goes k (answering k v op)
answering-goes k v None = tt
answering-goes k v (Some op) = by (own_due k.log op)
  where
    by : (r : Result Reply Refusal) → Goes k (answering_by k v op r)
    by (Ok reply) = refl
    by (Err e) = tt

hearing-goes : (k : Core) (f : Frame) (r : Result Reply Violation) → Goes k (hearing k f r)
hearing-goes k f (Ok reply) = refl
hearing-goes k f (Err v) = answering-goes k v.kind (violation_answer v)

heard-goes : (k : Core) (f : Frame) → Goes k (cond (f.channel == 0) (hearing k f (heard_due k.log f)) (ended fault.BadChannel))
heard-goes k f = by-channel k (f.channel == 0) (hearing k f (heard_due k.log f)) (hearing-goes k f (heard_due k.log f))

run-goes : (k : Core) (f : Frame) (body : Option Performative) → Goes k (run k f body)
run-goes k f None = refl
run-goes k f (Some (Open b)) = tt
run-goes k f (Some (Close b)) = by-channel k (f.channel == 0) _ refl
run-goes k f (Some (Begin b)) = heard-goes k f
run-goes k f (Some (Attach b)) = heard-goes k f
run-goes k f (Some (Flow b)) = heard-goes k f
run-goes k f (Some (Transfer b)) = heard-goes k f
run-goes k f (Some (Disposition b)) = heard-goes k f
run-goes k f (Some (Detach b)) = heard-goes k f
run-goes k f (Some (End b)) = heard-goes k f

close-goes : (k : Core) (body : Option Performative) → Goes k (await_close k body)
close-goes k None = refl
close-goes k (Some (Close b)) = refl
close-goes k (Some (Open b)) = refl
close-goes k (Some (Begin b)) = refl
close-goes k (Some (Attach b)) = refl
close-goes k (Some (Flow b)) = refl
close-goes k (Some (Transfer b)) = refl
close-goes k (Some (Disposition b)) = refl
close-goes k (Some (Detach b)) = refl
close-goes k (Some (End b)) = refl

goes-in : (p : Phase) (k : Core) (f : Frame) → Goes k (treat_in p k f)
goes-in phase.AwaitHeader k f = refl
goes-in phase.AwaitOpen k f = open-goes k f.channel f.body
goes-in phase.Running k f = run-goes k f f.body
goes-in phase.Closing k f = close-goes k f.body
goes-in phase.Closed k f = refl

goes : (k : Core) (f : Frame) → Goes k (treat k f)
unfolding treat
goes k f = goes-in k.phase k f

after-keeps : (k : Core) (whole back : List ℕ) (t : Treatment) → Goes k t → Keeps k (after k whole back t).core
after-keeps k whole back (taken l) g = g
after-keeps k whole back (again l) g = g
after-keeps k whole back (ended e) g = ends-keeps e k

to : (k : Core) (d m : Connection) → d ≡ m → Keeps k m.core → Keeps k d.core
to k d m e o = ap (λ (x : Connection). x.core.log.forgotten) e ∙ o

move-keeps : (c d : Connection) → Moves c d → Keeps c.core d.core
move-keeps c d (inl h) =
    ⊎_elim
    (λ p. ap (λ (x : Connection). x.core.log.forgotten) p.1)
    (λ p. to c.core d (record { core = ending fault.BadHeader c.core; unread = h.back }) p.1 (ends-keeps fault.BadHeader c.core))
    h.does
move-keeps c d (inr (inl h)) = to c.core d (after c.core c.unread h.back (treat c.core h.f)) h.does (after-keeps c.core c.unread h.back (treat c.core h.f) (goes c.core h.f))
move-keeps c d (inr (inr h)) = to c.core d (record { core = ending (fault.Framing h.e) c.core; unread = c.unread }) h.does (ends-keeps (fault.Framing h.e) c.core)

times-keeps : (n : ℕ) (c d : Connection) → MovesTimes n c d → Keeps c.core d.core
times-keeps zero c d e = ap (λ (x : Connection). x.core.log.forgotten) (sym e)
times-keeps (suc n) c d (m, one, rest) = times-keeps n m d rest ∙ move-keeps c m one

pub fed-keeps : (c d : Connection) (x : List ℕ) → IsFed c x d → Keeps c.core d.core
fed-keeps c d x p = to c.core d (trimmed p.last) p.is (times-keeps p.times (more x c) p.last p.moved)
