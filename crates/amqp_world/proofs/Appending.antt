-- What an entry that was appended says: there was room, and its reply was due.
use Rattle.std.proofs.Common.{◌≡◌, ◌≤◌, ◌<◌, ◌⊎◌, ℕ, Bool, true, false, cond, Result, Ok, Err, length, inl, inr, arith, refl, sym, nat_le, IsOk}
use Rattle.std.proofs.lemmas.Bool.Decides.{nat_tests}
use Rattle.amqp_frames.specs.declared.frame.Frame.{Frame}
use Rattle.amqp_rules.specs.declared.op.Op.{Op}
use Rattle.amqp_rules.specs.declared.reply.Reply.{Reply}
use Rattle.amqp_rules.specs.declared.reply.Given.{Given}
use Rattle.amqp_rules.specs.declared.refusal.Refusal.TheVariants.{JournalFull}
use Rattle.amqp_rules.specs.declared.violation.Violation.{Violation}
use Rattle.amqp_rules.specs.declared.violation.ViolationKind.TheVariants.{JournalFull as Full}
use Rattle.amqp_rules.specs.Refusing.{unlinked, no_memory}
use Rattle.amqp_rules.specs.Answer.{own_answer, heard_answer}
use Rattle.amqp_laws.specs.declared.entry.Step.{Step}
use Rattle.amqp_laws.specs.declared.entry.Step.TheVariants.{Own, Heard}
use Rattle.amqp_laws.specs.Past.{past}
use Rattle.amqp_laws.specs.At.{at}
use Rattle.amqp_laws.specs.Lawful.{Answers}
use Rattle.amqp_journal.specs.Log.{Log, Appends, IsRefusal, logging, own_due, heard_due}

by-bool : {P : Type 0} (b : Bool) → (b ≡ true → P) → (b ≡ false → P) → P
by-bool true t f = t refl
by-bool false t f = f refl

le-holds : (m n : ℕ) → nat_le m n ≡ true → m ≤ n
le-holds m n h = grind (arith, nat_tests, h)

le-fails : (m n : ℕ) → nat_le m n ≡ false → n < m
le-fails m n h = grind (arith, nat_tests, h)

pub record Appended (l : Log) (step : Step) (new : Log) : Type 0 where
  pub reply : Reply
  pub is : new ≡ logging l step reply
  pub room : length l.journal < l.config.journal_limit
  pub answers : Answers (at l.config (past l.journal)) step reply

by-answer : {E : Type 0} (l new : Log) (step : Step) (given : Given) (r : Result Reply E) → ((reply : Reply) → r ≡ Ok reply → Answers (at l.config (past l.journal)) step reply)
    → length l.journal < l.config.journal_limit → Appends l step r given new → Appended l step new
by-answer l new step given (Ok reply) answers room h = record { reply = reply; is = h.0; room = room; answers = answers reply refl }
by-answer l new step given (Err e) answers room h = absurd h

by-room : {E : Type 0} (l new : Log) (step : Step) (given : Given) (full : E) (r : Result Reply E) → ((reply : Reply) → r ≡ Ok reply → Answers (at l.config (past l.journal)) step reply)
    → Appends l step (cond (nat_le l.config.journal_limit (length l.journal)) (Err full) r) given new → Appended l step new
by-room l new step given full r answers h =
    by-bool (nat_le l.config.journal_limit (length l.journal))
    (λ (t : nat_le l.config.journal_limit (length l.journal) ≡ true). let k = rw t at h in absurd k)
    (λ (f : nat_le l.config.journal_limit (length l.journal) ≡ false).
    let k = rw f at h in
    by-answer l new step given r answers (le-fails l.config.journal_limit (length l.journal) f) k)

pub own-appended : (l new : Log) (op : Op) (given : Given) → Appends l (Own op) (own_due l op) given new → Appended l (Own op) new
unfolding own_due
own-appended l new op given h = by-room l new (Own op) given JournalFull (own_answer (at l.config (past l.journal)) op) (λ reply is. is) h

pub heard-appended : (l new : Log) (f : Frame) (given : Given) → Appends l (Heard f) (heard_due l f) given new → Appended l (Heard f) new
unfolding heard_due
heard-appended l new f given h = by-room l new (Heard f) given (unlinked Full) (heard_answer (at l.config (past l.journal)) f) (λ reply is. is) h

-- # A frame that is no violation

pub record Full' (l : Log) (v : Violation) : Type 0 where
  pub full : l.config.journal_limit ≤ length l.journal
  pub is : v ≡ unlinked Full

pub record Wanting (l : Log) (v : Violation) : Type 0 where
  pub room : length l.journal < l.config.journal_limit
  pub is : v ≡ no_memory

-- what is told then: that the journal is full, or that memory was refused
pub only-these : (l : Log) (f : Frame) (v : Violation) → IsOk (heard_answer (at l.config (past l.journal)) f) → IsRefusal no_memory (heard_due l f) v → Full' l v ⊎ Wanting l v
unfolding heard_due
only-these l f v ok h =
    by-bool (nat_le l.config.journal_limit (length l.journal))
    (λ (t : nat_le l.config.journal_limit (length l.journal) ≡ true).
    let k = rw t at h in
    inl (record { full = le-holds l.config.journal_limit (length l.journal) t; is = told (unlinked Full) k }))
    (λ (u : nat_le l.config.journal_limit (length l.journal) ≡ false).
    let k = rw u at h in
    inr (record { room = le-fails l.config.journal_limit (length l.journal) u; is = wanting (heard_answer (at l.config (past l.journal)) f) ok k }))
  where
    told : (e : Violation) → IsRefusal no_memory (Err e) v → v ≡ e
    told e (inl same) = let k : e ≡ v = cc same in sym k
    told e (inr x) = let bad = x.0 in absurd (cc (bad))

    wanting : (r : Result Reply Violation) → IsOk r → (r ≡ Err v) ⊎ (IsOk r × (v ≡ no_memory)) → v ≡ no_memory
    wanting (Ok reply) ok (inl same) = absurd (cc (same))
    wanting (Ok reply) ok (inr x) = x.1
    wanting (Err e) ok x = absurd (cc (ok))
