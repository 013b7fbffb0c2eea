-- What stands and what grows, whatever octets do: settings and popped units stand, and units only come behind.
use Rattle.std.proofs.Common.{◌≡◌, ℕ, zero, suc, List, [], ◌∷◌, ◌++◌, length, Bool, true, false, cond, Option, Some, None, Result, Ok, Err, refl, sym, ap, ◌∙◌, subst, inl, inr, ⊎_elim, ◌==◌, append_assoc, append-nil}
use Rattle.amqp_performatives.specs.declared.bodies.OpenBody.{OpenBody}
use Rattle.amqp_performatives.specs.declared.bodies.CloseBody.{CloseBody}
use Rattle.amqp_performatives.specs.declared.performative.Performative.{Performative}
use Rattle.amqp_performatives.specs.declared.performative.Performative.TheVariants.{Open, Begin, Attach, Flow, Transfer, Disposition, Detach, End, Close}
use Rattle.amqp_frames.specs.declared.frame.Frame.{Frame}
use Rattle.amqp_rules.specs.declared.op.Op.{Op}
use Rattle.amqp_rules.specs.declared.reply.Reply.{Reply}
use Rattle.amqp_rules.specs.declared.refusal.Refusal.{Refusal}
use Rattle.amqp_rules.specs.declared.violation.Violation.{Violation}
use Rattle.amqp_rules.specs.declared.violation.ViolationKind.{ViolationKind}
use Rattle.amqp_rules.specs.ViolationAnswer.{violation_answer}
use Rattle.amqp_laws.specs.declared.entry.Step.{Step}
use Rattle.amqp_journal.specs.Log.{own_due, heard_due}
use Rattle.amqp_journal.specs.Units.{units, octets_sent, PutWithin}
use Rattle.amqp_journal.proofs.UnitLaws.{logged-behind, logged-within, put-behind, put-within}
use Rattle.amqp_conn.specs.declared.phase.Phase.{Phase}
use Rattle.amqp_conn.specs.declared.phase.Phase.TheVariants as phase
use Rattle.amqp_conn.specs.declared.fault.ConnFault.{ConnFault}
use Rattle.amqp_conn.specs.declared.fault.ConnFault.TheVariants as fault
use Rattle.amqp_conn.specs.Connection.{Core, Connection, more, in_phase, met, parted, sending, stepping}
use Rattle.amqp_rules.specs.Sending.{octets_of}
use Rattle.amqp_conn.specs.Octets.{last_words, open_frame}
use Rattle.amqp_conn.specs.Treating.{Treatment, taken, again, ended, treat, treat_in, await_open, await_close, run, hearing, answering, answering_by, greeted, ending, sending_last, after, Moves}
use Rattle.amqp_conn.specs.Feeding.{MovesTimes, IsFed, trimmed}

abbrev pub Within : Core → Type 0
Within k = PutWithin (length k.log.journal) k.log.put

-- units came behind those that were there
pub record Behind (k l : Core) : Type 0 where
  pub within : Within l
  pub more : List (List ℕ)
  pub all : units l.log ≡ units k.log ++ more

pub record Onward (k l : Core) : Type 0 where
  pub limits : l.log.config ≡ k.log.config
  pub popped : l.log.popped ≡ k.log.popped
  pub behind : Within k → Behind k l

pub stays : (k : Core) → Onward k k
stays k = record { limits = refl; popped = refl; behind = λ w. record { within = w; more = []; all = sym (append-nil (units k.log)) } }

pub then : (k l m : Core) → Onward k l → Onward l m → Onward k m
then k l m p q =
    record {
      limits = q.limits ∙ p.limits;
      popped = q.popped ∙ p.popped;
      behind =
          λ w.
          let a = p.behind w in
          let b = q.behind a.within in
          record { within = b.within; more = a.more ++ b.more; all = b.all ∙ ap (λ x. x ++ b.more) a.all ∙ append_assoc (units k.log) a.more b.more };
    }

phased : (p : Phase) (k : Core) → Onward k (in_phase p k)
phased p k = record { limits = refl; popped = refl; behind = λ w. record { within = w; more = []; all = sym (append-nil (units k.log)) } }

meets : (b : OpenBody) (k : Core) → Onward k (met b k)
meets b k = record { limits = refl; popped = refl; behind = λ w. record { within = w; more = []; all = sym (append-nil (units k.log)) } }

parts : (b : CloseBody) (k : Core) → Onward k (parted b k)
parts b k = record { limits = refl; popped = refl; behind = λ w. record { within = w; more = []; all = sym (append-nil (units k.log)) } }

sent : (x : List ℕ) (k : Core) → Onward k (sending x k)
sent x k = record { limits = refl; popped = refl; behind = λ w. record { within = put-within k.log x w; more = x ∷ []; all = put-behind k.log x } }

stepped : (s : Step) (r : Reply) (k : Core) → Onward k (stepping s r k)
stepped s r k =
    record {
      limits = refl;
      popped = refl;
      behind = λ w. record { within = logged-within k.log (record { step = s; reply = r }) w; more = octets_sent (record { step = s; reply = r }); all = logged-behind k.log (record { step = s; reply = r }) w };
    }

greets : (k : Core) → Onward k (greeted k)
greets k = let x = octets_of (open_frame k.config) in then k (sending x k) (in_phase phase.AwaitOpen (sending x k)) (sent x k) (phased phase.AwaitOpen (sending x k))

pub ends-onward : (e : ConnFault) (k : Core) → Onward k (ending e k)
unfolding ending
ends-onward e k = by (last_words k.phase e)
  where
    by : (o : Option (List ℕ)) → Onward k (in_phase phase.Closed (sending_last o k))
    by None = phased phase.Closed k
    by (Some x) = then k (sending x k) (in_phase phase.Closed (sending x k)) (sent x k) (phased phase.Closed (sending x k))

abbrev pub Goes : Core → Treatment → Type 0
Goes k (taken l) = Onward k l
Goes k (again l) = Onward k l
Goes k (ended e) = Unit {0}

by-channel : (k : Core) (b : Bool) (t : Treatment) → Goes k t → Goes k (cond b t (ended fault.BadChannel))
by-channel k true t g = g
by-channel k false t g = tt

open-goes : (k : Core) (channel : ℕ) (body : Option Performative) → Goes k (await_open k channel body)
open-goes k channel None = stays k
open-goes k channel (Some (Open b)) = by-channel k (channel == 0) _ (then k (stepping _ _ k) (met b (stepping _ _ k)) (stepped _ _ k) (meets b (stepping _ _ k)))
open-goes k channel (Some (Begin b)) = tt
open-goes k channel (Some (Attach b)) = tt
open-goes k channel (Some (Flow b)) = tt
open-goes k channel (Some (Transfer b)) = tt
open-goes k channel (Some (Disposition b)) = tt
open-goes k channel (Some (Detach b)) = tt
open-goes k channel (Some (End b)) = tt
open-goes k channel (Some (Close b)) = tt

answering-goes : (k : Core) (v : ViolationKind) (op : Option Op) → Goes k (answering k v op)
answering-goes k v None = tt
answering-goes k v (Some op) = by (own_due k.log op)
  where
    by : (r : Result Reply Refusal) → Goes k (answering_by k v op r)
    by (Ok reply) = stepped _ reply k
    by (Err e) = tt

hearing-goes : (k : Core) (f : Frame) (r : Result Reply Violation) → Goes k (hearing k f r)
hearing-goes k f (Ok reply) = stepped _ reply k
hearing-goes k f (Err v) = answering-goes k v.kind (violation_answer v)

heard-goes : (k : Core) (f : Frame) → Goes k (cond (f.channel == 0) (hearing k f (heard_due k.log f)) (ended fault.BadChannel))
heard-goes k f = by-channel k (f.channel == 0) (hearing k f (heard_due k.log f)) (hearing-goes k f (heard_due k.log f))

run-goes : (k : Core) (f : Frame) (body : Option Performative) → Goes k (run k f body)
run-goes k f None = stays k
run-goes k f (Some (Open b)) = tt
run-goes k f (Some (Close b)) = by-channel k (f.channel == 0) _ (then k (sending _ k) (parted b (sending _ k)) (sent _ k) (parts b (sending _ k)))
run-goes k f (Some (Begin b)) = heard-goes k f
run-goes k f (Some (Attach b)) = heard-goes k f
run-goes k f (Some (Flow b)) = heard-goes k f
run-goes k f (Some (Transfer b)) = heard-goes k f
run-goes k f (Some (Disposition b)) = heard-goes k f
run-goes k f (Some (Detach b)) = heard-goes k f
run-goes k f (Some (End b)) = heard-goes k f

close-goes : (k : Core) (body : Option Performative) → Goes k (await_close k body)
close-goes k None = stays k
close-goes k (Some (Close b)) = parts b k
close-goes k (Some (Open b)) = stays k
close-goes k (Some (Begin b)) = stays k
close-goes k (Some (Attach b)) = stays k
close-goes k (Some (Flow b)) = stays k
close-goes k (Some (Transfer b)) = stays k
close-goes k (Some (Disposition b)) = stays k
close-goes k (Some (Detach b)) = stays k
close-goes k (Some (End b)) = stays k

goes-in : (p : Phase) (k : Core) (f : Frame) → Goes k (treat_in p k f)
goes-in phase.AwaitHeader k f = stays k
goes-in phase.AwaitOpen k f = open-goes k f.channel f.body
goes-in phase.Running k f = run-goes k f f.body
goes-in phase.Closing k f = close-goes k f.body
goes-in phase.Closed k f = stays k

goes : (k : Core) (f : Frame) → Goes k (treat k f)
unfolding treat
goes k f = goes-in k.phase k f

after-onward : (k : Core) (whole back : List ℕ) (t : Treatment) → Goes k t → Onward k (after k whole back t).core
after-onward k whole back (taken l) g = g
after-onward k whole back (again l) g = g
after-onward k whole back (ended e) g = ends-onward e k

to : (k : Core) (d m : Connection) → d ≡ m → Onward k m.core → Onward k d.core
to k d m e o = subst (λ (x : Connection). Onward k x.core) (sym e) o

move-onward : (c d : Connection) → Moves c d → Onward c.core d.core
move-onward c d (inl h) =
    ⊎_elim
    (λ p. to c.core d (record { core = greeted c.core; unread = h.back }) p.1 (greets c.core))
    (λ p. to c.core d (record { core = ending fault.BadHeader c.core; unread = h.back }) p.1 (ends-onward fault.BadHeader c.core))
    h.does
move-onward c d (inr (inl h)) = to c.core d (after c.core c.unread h.back (treat c.core h.f)) h.does (after-onward c.core c.unread h.back (treat c.core h.f) (goes c.core h.f))
move-onward c d (inr (inr h)) = to c.core d (record { core = ending (fault.Framing h.e) c.core; unread = c.unread }) h.does (ends-onward (fault.Framing h.e) c.core)

times-onward : (n : ℕ) (c d : Connection) → MovesTimes n c d → Onward c.core d.core
times-onward zero c d e = to c.core d c (sym e) (stays c.core)
times-onward (suc n) c d (m, one, rest) = then c.core m.core d.core (move-onward c m one) (times-onward n m d rest)

pub fed-onward : (c d : Connection) (x : List ℕ) → IsFed c x d → Onward c.core d.core
fed-onward c d x p = to c.core d (trimmed p.last) p.is (times-onward p.times (more x c) p.last p.moved)
