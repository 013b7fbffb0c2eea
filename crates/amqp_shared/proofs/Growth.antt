-- What each call adds to a connection.
use Rattle.std.proofs.Common.{◌≡◌, ℕ, ◌+◌, ◌≤◌, List, [], ◌∷◌, length, take, Bool, true, false, cond, Option, Some, None, Result, Ok, Err, refl, sym, ap, ◌∙◌, subst, append-nil, add-zero, length-append}
use Rattle.std.specs.Prelude.{OnOk}
use Rattle.amqp_rules.specs.declared.op.Op.{Op}
use Rattle.amqp_rules.specs.declared.refusal.Refusal.{Refusal}
use Rattle.amqp_rules.specs.declared.reply.Reply.{Reply}
use Rattle.amqp_rules.specs.declared.reply.Given.{Given}
use Rattle.amqp_rules.specs.declared.violation.Violation.{Violation}
use Rattle.amqp_laws.specs.declared.entry.Entry.{Entry}
use Rattle.amqp_laws.specs.declared.entry.Step.{Step}
use Rattle.amqp_laws.specs.declared.entry.Step.TheVariants.{Own}
use Rattle.amqp_journal.specs.Units.{units, octets_sent}
use Rattle.amqp_journal.proofs.UnitLaws.{logged-behind, put-behind}
use Rattle.amqp_conn.specs.declared.fault.ConnFault.{ConnFault}
use Rattle.amqp_conn.specs.declared.fault.ConnFault.TheVariants as fault
use Rattle.amqp_conn.specs.declared.fed.Fed.{Fed}
use Rattle.amqp_conn.specs.declared.phase.Phase.{Phase}
use Rattle.amqp_conn.specs.declared.phase.Phase.TheVariants as phase
use Rattle.amqp_conn.specs.declared.refused.CloseRefusal.{CloseRefusal}
use Rattle.amqp_conn.specs.declared.refused.CloseRefusal.TheVariants as refusal
use Rattle.amqp_performatives.specs.declared.error.AmqpError.{AmqpError}
use Rattle.amqp_rules.specs.Sending.{octets_of}
use Rattle.amqp_conn.specs.Connection.{Core, Connection, more, in_phase, sending, stepping}
use Rattle.amqp_conn.specs.Octets.{close_frame}
use Rattle.amqp_conn.specs.Treating.{ending}
use Rattle.amqp_conn.specs.Feeding.{AddsEntry, Takes, Ends, Feeds}
use Rattle.amqp_conn.specs.Calling.{Does, Closes}
use Rattle.amqp_conn.proofs.Onward.{Onward, Within, fed-onward, ends-onward}
use Rattle.amqp_conn.proofs.Calls.{closes-once}
use Rattle.amqp_shared.specs.Growing.{Grows}
use Rattle.amqp_shared.specs.Passes.{steps_fed}
use Rattle.amqp_shared.specs.Units.{numbered_from}
use Rattle.amqp_shared.proofs.Forgetting.{Keeps, fed-keeps, ends-keeps}
use Rattle.amqp_shared.proofs.Numbering.{taken-append}

pub stands : (k : Core) → Grows k k 0
stands k = record { popped = refl; forgotten = refl; settings = refl; more = []; all = sym (append-nil (units k.log)); journal = sym (add-zero (length k.log.journal)) }

pub stays : (k l : Core) → l ≡ k → Grows k l 0
stays k l e = subst (λ (x : Core). Grows k x 0) (sym e) (stands k)

-- an entry more
pub steps : (k l : Core) (s : Step) (r : Reply) → Within k → l ≡ stepping s r k → Grows k l 1
steps k l s r w e =
    subst (λ (x : Core). Grows k x 1) (sym e)
    (record {
      popped = refl;
      forgotten = refl;
      settings = refl;
      more = octets_sent (record { step = s; reply = r });
      all = logged-behind k.log (record { step = s; reply = r }) w;
      journal = length-append k.log.journal (record { step = s; reply = r } ∷ []);
    })

-- octets put out
pub sends : (k l : Core) (p : Phase) (x : List ℕ) → l ≡ in_phase p (sending x k) → Grows k l 0
sends k l p x e =
    subst (λ (y : Core). Grows k y 0) (sym e)
    (record { popped = refl; forgotten = refl; settings = refl; more = x ∷ []; all = put-behind k.log x; journal = sym (add-zero (length k.log.journal)) })

entries : (before after : List Entry) (b : Bool) (given : Given) → AddsEntry before after b given → length after ≡ length before + cond b 1 0
entries before after true given (e, is, gives) = ap length is ∙ length-append before (e ∷ [])
entries before after false given (same, gives) = ap length same ∙ sym (add-zero (length before))

onward : (k l : Core) (n : ℕ) → Onward k l → Keeps k l → Within k → length l.log.journal ≡ length k.log.journal + n → Grows k l n
onward k l n o f w h =
    let b = o.behind w in
    record { popped = o.popped; forgotten = f; settings = o.limits; more = b.more; all = b.all; journal = h }

-- a feed that takes octets, or answers a violation
fed-grows : (c d : Connection) (piece : List ℕ) (fed : Fed) → Within c.core → Feeds c piece (Ok fed) d → Grows c.core d.core (cond fed.stepped 1 0)
fed-grows c d piece fed w t = by fed.violation t
  where
    by : (v : Option Violation) → Takes c piece fed v d → Grows c.core d.core (cond fed.stepped 1 0)
    by None t = onward c.core d.core (cond fed.stepped 1 0) (fed-onward c d (take fed.used piece) t.1) (fed-keeps c d (take fed.used piece) t.1) w (entries c.core.log.journal d.core.log.journal fed.stepped fed.given t.2)
    by (Some v) t =
        let a = t.2.answers in
        subst (λ (b : Bool). Grows c.core d.core (cond b 1 0)) (sym t.1) (steps c.core d.core (Own a.op) a.reply w a.does)

-- a feed that ends the connection
ends-grows : (e : ConnFault) (k l : Core) → Within k → l ≡ ending e k → Grows k l 0
ends-grows e k l w is =
    let journal : length (ending e k).log.journal ≡ length k.log.journal + 0 = ap length (closes-once e k).journal ∙ sym (add-zero (length k.log.journal)) in
    subst (λ (x : Core). Grows k x 0) (sym is) (onward k (ending e k) 0 (ends-onward e k) (ends-keeps e k) w journal)

ended-grows : (e : ConnFault) (c d : Connection) (piece : List ℕ) → Within c.core → Ends e (more piece c) d → Grows c.core d.core 0
ended-grows e c d piece w t = ends-grows e c.core d.core w (ap (λ (x : Connection). x.core) t.1)

pub feed_grows : (c d : Connection) (piece : List ℕ) (r : Result Fed ConnFault) → Within c.core → Feeds c piece r d → Grows c.core d.core (steps_fed r)
feed_grows c d piece (Ok fed) w t = fed-grows c d piece fed w t
feed_grows c d piece (Err fault.Closed) w t = stays c.core d.core (ap (λ (x : Connection). x.core) t.1)
feed_grows c d piece (Err fault.NoMemory) w t = stays c.core d.core (ap (λ (x : Connection). x.core) t.2)
feed_grows c d piece (Err fault.BadHeader) w t = ended-grows fault.BadHeader c d piece w t
feed_grows c d piece (Err (fault.Framing e)) w t = ended-grows (fault.Framing e) c d piece w t
feed_grows c d piece (Err fault.OutOfPlace) w t = ended-grows fault.OutOfPlace c d piece w t
feed_grows c d piece (Err fault.BadChannel) w t = ended-grows fault.BadChannel c d piece w t
feed_grows c d piece (Err fault.JournalFull) w t = ended-grows fault.JournalFull c d piece w t

pub operation_grows : (k l : Core) (o : Op) (r : Result Given Refusal) → Within k → Does k o r l → OnOk r (Grows k l 1)
operation_grows k l o (Ok given) w (reply, due, gives, is) = steps k l (Own o) reply w is
operation_grows k l o (Err e) w t = tt

pub close_grows : (k l : Core) (error : Option AmqpError) (r : Result (Unit {0}) CloseRefusal) → Closes k error r l → Grows k l 0
close_grows k l error (Ok done) t = sends k l phase.Closing (octets_of (close_frame error)) t.2
close_grows k l error (Err refusal.NotOpen) t = stays k l t.1
close_grows k l error (Err refusal.NotWritable) t = stays k l t.2
close_grows k l error (Err refusal.FrameTooBig) t = stays k l t.2
close_grows k l error (Err refusal.NoMemory) t = stays k l t.2

-- what was pushed stands
pub pushed-stands : (k l : Core) (n : ℕ) → Grows k l n → k.log.popped ≤ length (units k.log)
    → take l.log.popped (numbered_from 0 (units l.log)) ≡ take k.log.popped (numbered_from 0 (units k.log))
pushed-stands k l n g h =
    ap (λ p. take p (numbered_from 0 (units l.log))) g.popped
    ∙ ap (λ us. take k.log.popped (numbered_from 0 us)) g.all
    ∙ taken-append k.log.popped (units k.log) g.more h
