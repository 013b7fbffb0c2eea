-- Once the peer's open was taken, octets do not change it.
use Rattle.std.proofs.Common.{◌≡◌, ℕ, zero, suc, List, Bool, true, false, cond, IsTrue, Option, Some, None, Result, Ok, Err, refl, sym, ap, ◌∙◌, subst, inl, inr, ◌==◌}
use Rattle.amqp_performatives.specs.declared.performative.Performative.{Performative}
use Rattle.amqp_performatives.specs.declared.performative.Performative.TheVariants.{Open, Begin, Attach, Flow, Transfer, Disposition, Detach, End, Close}
use Rattle.amqp_frames.specs.declared.frame.Frame.{Frame}
use Rattle.amqp_rules.specs.declared.op.Op.{Op}
use Rattle.amqp_rules.specs.declared.reply.Reply.{Reply}
use Rattle.amqp_rules.specs.declared.refusal.Refusal.{Refusal}
use Rattle.amqp_rules.specs.declared.violation.Violation.{Violation}
use Rattle.amqp_rules.specs.declared.violation.ViolationKind.{ViolationKind}
use Rattle.amqp_rules.specs.ViolationAnswer.{violation_answer}
use Rattle.amqp_journal.specs.Log.{own_due, heard_due}
use Rattle.amqp_conn.specs.declared.phase.Phase.{Phase}
use Rattle.amqp_conn.specs.declared.phase.Phase.TheVariants as phase
use Rattle.amqp_conn.specs.declared.fault.ConnFault.{ConnFault}
use Rattle.amqp_conn.specs.declared.fault.ConnFault.TheVariants as fault
use Rattle.amqp_conn.specs.Connection.{Core, Connection, more, in_phase}
use Rattle.amqp_conn.specs.Octets.{last_words}
use Rattle.amqp_conn.specs.Saying.{has_met}
use Rattle.amqp_conn.specs.Treating.{Treatment, taken, again, ended, treat, treat_in, await_close, run, hearing, answering, answering_by, ending, sending_last, after, Moves}
use Rattle.amqp_conn.specs.Feeding.{MovesTimes, IsFed, trimmed}

record Stays (k l : Core) : Type 0 where
  pub met : IsTrue (has_met l.phase)
  pub peer : l.peer ≡ k.peer

ends-met : (e : ConnFault) (k : Core) → Stays k (ending e k)
unfolding ending
ends-met e k = by (last_words k.phase e)
  where
    by : (o : Option (List ℕ)) → Stays k (in_phase phase.Closed (sending_last o k))
    by None = record { met = refl; peer = refl }
    by (Some x) = record { met = refl; peer = refl }

abbrev Goes : Core → Treatment → Type 0
Goes k (taken l) = Stays k l
Goes k (again l) = Stays k l
Goes k (ended e) = Unit {0}

by-channel : (k : Core) (b : Bool) (t : Treatment) → Goes k t → Goes k (cond b t (ended fault.BadChannel))
by-channel k true t g = g
by-channel k false t g = tt

answering-met : (k : Core) (v : ViolationKind) (op : Option Op) → IsTrue (has_met k.phase) → Goes k (answering k v op)
answering-met k v None h = tt
answering-met k v (Some op) h = by (own_due k.log op)
  where
    by : (r : Result Reply Refusal) → Goes k (answering_by k v op r)
    by (Ok reply) = record { met = h; peer = refl }
    by (Err e) = tt

hearing-met : (k : Core) (f : Frame) (r : Result Reply Violation) → IsTrue (has_met k.phase) → Goes k (hearing k f r)
hearing-met k f (Ok reply) h = record { met = h; peer = refl }
hearing-met k f (Err v) h = answering-met k v.kind (violation_answer v) h

heard-met : (k : Core) (f : Frame) → IsTrue (has_met k.phase) → Goes k (cond (f.channel == 0) (hearing k f (heard_due k.log f)) (ended fault.BadChannel))
heard-met k f h = by-channel k (f.channel == 0) (hearing k f (heard_due k.log f)) (hearing-met k f (heard_due k.log f) h)

run-met : (k : Core) (f : Frame) (body : Option Performative) → IsTrue (has_met k.phase) → Goes k (run k f body)
run-met k f None h = record { met = h; peer = refl }
run-met k f (Some (Open b)) h = tt
run-met k f (Some (Close b)) h = by-channel k (f.channel == 0) _ (record { met = refl; peer = refl })
run-met k f (Some (Begin b)) h = heard-met k f h
run-met k f (Some (Attach b)) h = heard-met k f h
run-met k f (Some (Flow b)) h = heard-met k f h
run-met k f (Some (Transfer b)) h = heard-met k f h
run-met k f (Some (Disposition b)) h = heard-met k f h
run-met k f (Some (Detach b)) h = heard-met k f h
run-met k f (Some (End b)) h = heard-met k f h

close-met : (k : Core) (body : Option Performative) → IsTrue (has_met k.phase) → Goes k (await_close k body)
close-met k None h = record { met = h; peer = refl }
close-met k (Some (Close b)) h = record { met = refl; peer = refl }
close-met k (Some (Open b)) h = record { met = h; peer = refl }
close-met k (Some (Begin b)) h = record { met = h; peer = refl }
close-met k (Some (Attach b)) h = record { met = h; peer = refl }
close-met k (Some (Flow b)) h = record { met = h; peer = refl }
close-met k (Some (Transfer b)) h = record { met = h; peer = refl }
close-met k (Some (Disposition b)) h = record { met = h; peer = refl }
close-met k (Some (Detach b)) h = record { met = h; peer = refl }
close-met k (Some (End b)) h = record { met = h; peer = refl }

in-met : (p : Phase) (k : Core) (f : Frame) → k.phase ≡ p → IsTrue (has_met p) → Goes k (treat_in p k f)
in-met phase.AwaitHeader k f e h = absurd cc
in-met phase.AwaitOpen k f e h = absurd cc
in-met phase.Running k f e h = run-met k f f.body (ap has_met e)
in-met phase.Closing k f e h = close-met k f.body (ap has_met e)
in-met phase.Closed k f e h = record { met = ap has_met e; peer = refl }

treat-met : (k : Core) (f : Frame) → IsTrue (has_met k.phase) → Goes k (treat k f)
unfolding treat
treat-met k f h = in-met k.phase k f refl h

after-met : (k : Core) (whole back : List ℕ) (t : Treatment) → Goes k t → Stays k (after k whole back t).core
after-met k whole back (taken l) g = g
after-met k whole back (again l) g = g
after-met k whole back (ended e) g = ends-met e k

not-met : (p : Phase) → p ≡ phase.AwaitHeader → IsTrue (has_met p) → ⊥
not-met p e h = let b : false ≡ true = sym (ap has_met e) ∙ h in absurd cc

to : (k : Core) (d m : Connection) → d ≡ m → Stays k m.core → Stays k d.core
to k d m e o = subst (λ (x : Connection). Stays k x.core) (sym e) o

move-met : (c d : Connection) → IsTrue (has_met c.core.phase) → Moves c d → Stays c.core d.core
move-met c d h (inl m) = absurd (not-met c.core.phase m.phase h)
move-met c d h (inr (inl m)) = to c.core d (after c.core c.unread m.back (treat c.core m.f)) m.does (after-met c.core c.unread m.back (treat c.core m.f) (treat-met c.core m.f h))
move-met c d h (inr (inr m)) = to c.core d (record { core = ending (fault.Framing m.e) c.core; unread = c.unread }) m.does (ends-met (fault.Framing m.e) c.core)

times-met : (n : ℕ) (c d : Connection) → IsTrue (has_met c.core.phase) → MovesTimes n c d → Stays c.core d.core
times-met zero c d h e = to c.core d c (sym e) (record { met = h; peer = refl })
times-met (suc n) c d h (m, one, rest) =
    let a = move-met c m h one in
    let b = times-met n m d a.met rest in
    record { met = b.met; peer = b.peer ∙ a.peer }

pub fed-met : (c d : Connection) (x : List ℕ) → IsTrue (has_met c.core.phase) → IsFed c x d → d.core.peer ≡ c.core.peer
fed-met c d x h p = (to c.core d (trimmed p.last) p.is (times-met p.times (more x c) p.last h p.moved)).peer
