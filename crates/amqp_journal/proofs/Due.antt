-- What is due where the journal is not full, and what a plan makes of it.
use Rattle.std.proofs.Common.{◌≡◌, ◌<◌, ◌≤◌, ℕ, true, false, Option, Result, Ok, Err, List, length, refl, sym, ap, ◌∙◌, subst, arith, inl, inr, ◌⊎◌, nat_le}
use Rattle.std.specs.Prelude.{IsOk, unwrap_or}
use Rattle.std.specs.Result.{result_err}
use Rattle.std.proofs.lemmas.Bool.Decides.{nat_tests}
use Rattle.amqp_frames.specs.declared.frame.Frame.{Frame}
use Rattle.amqp_rules.specs.declared.op.Op.{Op}
use Rattle.amqp_rules.specs.declared.refusal.Refusal.{Refusal}
use Rattle.amqp_rules.specs.declared.refusal.Refusal.TheVariants.{JournalFull, NoMemory}
use Rattle.amqp_rules.specs.declared.reply.Reply.{Reply}
use Rattle.amqp_rules.specs.declared.reply.Given.{Given}
use Rattle.amqp_rules.specs.declared.violation.Violation.{Violation}
use Rattle.amqp_rules.specs.declared.violation.ViolationKind.TheVariants.{JournalFull as Full}
use Rattle.amqp_rules.specs.Opened.{no_reply}
use Rattle.amqp_rules.specs.Refusing.{unlinked, no_memory}
use Rattle.amqp_rules.specs.View.{View}
use Rattle.amqp_rules.specs.Answer.{own_answer, heard_answer, next_own, next_heard}
use Rattle.amqp_steps.specs.declared.done.Done.{Done}
use Rattle.amqp_steps.specs.Doing.{IsDone, IsDoneOnce}
use Rattle.amqp_steps.specs.Plan.{IsRefused}
use Rattle.amqp_laws.specs.Lawful.{Answers, next}
use Rattle.amqp_laws.specs.declared.entry.Step.{Step}
use Rattle.amqp_laws.specs.declared.entry.Step.TheVariants.{Own, Heard}
use Rattle.amqp_journal.specs.Log.{Log, opened_due, own_due, heard_due, logging, Appends, Extends, IsRefusal}
use Rattle.amqp_journal.specs.Kept.{IsKept}

not-full : (n limit : ℕ) → n < limit → nat_le limit n ≡ false
not-full n limit h = grind (arith, nat_tests, h)

is-full : (n limit : ℕ) → limit ≤ n → nat_le limit n ≡ true
is-full n limit h = grind (arith, nat_tests, h)

-- where there is room, the endpoint decides
own-open : (l : Log) (v : View) (queue : List (List ℕ)) (op : Op) → IsKept l v queue → length l.journal < l.config.journal_limit → own_due l op ≡ own_answer v op
unfolding own_due
own-open l v queue op k room = rw (not-full (length l.journal) l.config.journal_limit room) (ap (λ (x : View). own_answer x op) (sym k.is_at))

heard-open : (l : Log) (v : View) (queue : List (List ℕ)) (f : Frame) → IsKept l v queue → length l.journal < l.config.journal_limit → heard_due l f ≡ heard_answer v f
unfolding heard_due
heard-open l v queue f k room = rw (not-full (length l.journal) l.config.journal_limit room) (ap (λ (x : View). heard_answer x f) (sym k.is_at))

-- where there is none
pub own-full : (l : Log) (op : Op) → l.config.journal_limit ≤ length l.journal → own_due l op ≡ Err JournalFull
unfolding own_due
own-full l op full = rw (is-full (length l.journal) l.config.journal_limit full) refl

pub heard-full : (l : Log) (f : Frame) → l.config.journal_limit ≤ length l.journal → heard_due l f ≡ Err (unlinked Full)
unfolding heard_due
heard-full l f full = rw (is-full (length l.journal) l.config.journal_limit full) refl

pub opened-full : (l : Log) → l.config.journal_limit ≤ length l.journal → opened_due l ≡ Err JournalFull
unfolding opened_due
opened-full l full = rw (is-full (length l.journal) l.config.journal_limit full) refl

opened-open : (l : Log) → length l.journal < l.config.journal_limit → opened_due l ≡ Ok no_reply
unfolding opened_due
opened-open l room = rw (not-full (length l.journal) l.config.journal_limit room) refl

-- ---- what is answered

-- this refusal is due, or one for want of memory
refused-as : {E : Type 0} (memory e : E) (due answer : Result Reply E) → due ≡ answer → (answer ≡ Err e) ⊎ (IsOk answer × (e ≡ memory)) → IsRefusal memory due e
refused-as {E} memory e due answer same r = subst (λ (x : Result Reply E). IsRefusal memory x e) (sym same) r

-- the refusal that is due, or else want of memory
pub refused-or : {E : Type 0} (memory : E) (answer : Result Reply E) (due : Option E) → due ≡ result_err answer → IsRefused memory answer (unwrap_or due memory)
refused-or {E} memory answer due h = rw h (by answer)
  where
    by : (a : Result Reply E) → IsRefused memory a (unwrap_or (result_err a) memory)
    by (Ok reply) = inr (refl, refl)
    by (Err e) = inl refl

-- a reply is due, and memory is wanting
wanting : {E : Type 0} (memory : E) (due : Result Reply E) (reply : Reply) → due ≡ Ok reply → IsRefusal memory due memory
wanting {E} memory due reply same = inr (subst (λ (x : Result Reply E). IsOk x) (sym same) refl, refl)

appends : {E : Type 0} (old new : Log) (step : Step) (due : Result Reply E) (reply : Reply) (given : Given) → due ≡ Ok reply → new ≡ logging old step reply → given ≡ reply.given → Appends old step due given new
appends {E} old new step due reply given same log g = subst (λ (x : Result Reply E). Appends old step x given new) (sym same) (log, g)

pub opened-wanting : (l : Log) → length l.journal < l.config.journal_limit → IsRefusal NoMemory (opened_due l) NoMemory
opened-wanting l room = wanting NoMemory (opened_due l) no_reply (opened-open l room)

-- ---- of operations

pub own-answers : (v w : View) (op : Op) (step : Step) (reply : Reply) → v ≡ w → step ≡ Own op → own_answer v op ≡ Ok reply → Answers w step reply
own-answers v w op step reply is same due = subst (λ (x : View). Answers x step reply) is (subst (λ (s : Step). Answers v s reply) (sym same) due)

pub own-next : (v w later : View) (op : Op) (step : Step) → v ≡ w → step ≡ Own op → later ≡ next_own v op → later ≡ next w step
own-next v w later op step is same h = h ∙ (λ i. next (is i) (sym same i))

pub own-appends : (l new : Log) (v later : View) (queue : List (List ℕ)) (op : Op) (step : Step) (d : Done) → IsKept l v queue → length l.journal < l.config.journal_limit
    → IsDone (own_answer v op) (next_own v op) later d → step ≡ Own op → new ≡ logging l step d.reply → Appends l (Own op) (own_due l op) d.given new
own-appends l new v later queue op step d k room done same n =
    appends l new (Own op) (own_due l op) d.reply d.given (own-open l v queue op k room ∙ done.due) (n ∙ (λ i. logging l (same i) d.reply)) done.given

extends : {E : Type 0} (old new : Log) (step : Step) (due : Result Reply E) (reply : Reply) → due ≡ Ok reply → new ≡ logging old step reply → Extends old step due new
extends {E} old new step due reply same log = subst (λ (x : Result Reply E). Extends old step x new) (sym same) log

pub own-extends : (l new : Log) (v later : View) (queue : List (List ℕ)) (op : Op) (reply : Reply) (octets : Option (List ℕ)) → IsKept l v queue → length l.journal < l.config.journal_limit
    → IsDoneOnce (own_answer v op) (next_own v op) later reply octets → new ≡ logging l (Own op) reply → Extends l (Own op) (own_due l op) new
own-extends l new v later queue op reply octets k room done n = extends l new (Own op) (own_due l op) reply (own-open l v queue op k room ∙ done.due) n

pub own-refused : (l : Log) (v : View) (queue : List (List ℕ)) (op : Op) (e : Refusal) → IsKept l v queue → length l.journal < l.config.journal_limit
    → (own_answer v op ≡ Err e) ⊎ (IsOk (own_answer v op) × (e ≡ NoMemory)) → IsRefusal NoMemory (own_due l op) e
own-refused l v queue op e k room r = refused-as NoMemory e (own_due l op) (own_answer v op) (own-open l v queue op k room) r

-- ---- of frames

pub heard-answers : (v w : View) (f : Frame) (step : Step) (reply : Reply) → v ≡ w → step ≡ Heard f → heard_answer v f ≡ Ok reply → Answers w step reply
heard-answers v w f step reply is same due = subst (λ (x : View). Answers x step reply) is (subst (λ (s : Step). Answers v s reply) (sym same) due)

pub heard-next : (v w later : View) (f : Frame) (step : Step) → v ≡ w → step ≡ Heard f → later ≡ next_heard v f → later ≡ next w step
heard-next v w later f step is same h = h ∙ (λ i. next (is i) (sym same i))

pub heard-appends : (l new : Log) (v later : View) (queue : List (List ℕ)) (f : Frame) (step : Step) (d : Done) → IsKept l v queue → length l.journal < l.config.journal_limit
    → IsDone (heard_answer v f) (next_heard v f) later d → step ≡ Heard f → new ≡ logging l step d.reply → Appends l (Heard f) (heard_due l f) d.given new
heard-appends l new v later queue f step d k room done same n =
    appends l new (Heard f) (heard_due l f) d.reply d.given (heard-open l v queue f k room ∙ done.due) (n ∙ (λ i. logging l (same i) d.reply)) done.given

pub heard-refused : (l : Log) (v : View) (queue : List (List ℕ)) (f : Frame) (e : Violation) → IsKept l v queue → length l.journal < l.config.journal_limit
    → (heard_answer v f ≡ Err e) ⊎ (IsOk (heard_answer v f) × (e ≡ no_memory)) → IsRefusal no_memory (heard_due l f) e
heard-refused l v queue f e k room r = refused-as no_memory e (heard_due l f) (heard_answer v f) (heard-open l v queue f k room) r
