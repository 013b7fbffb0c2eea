-- A session as callers see it: its settings, its journal, and what was put among the frames that it sends.
use Rattle.std.specs.Prelude.{ℕ, ◌≡◌, ◌⊎◌, ◌+◌, ◌++◌, ◌==◌, Bool, false, nat_le, Result, Ok, Err, IsOk, List, [], ◌∷◌, length, cond}
use Rattle.amqp_performatives.specs.declared.bodies.Role.{Role}
use Rattle.amqp_performatives.specs.declared.bodies.Role.TheVariants.{Sender, Receiver}
use Rattle.amqp_rules.specs.declared.op.Op.{Op}
use Rattle.amqp_rules.specs.declared.reply.Reply.{Reply}
use Rattle.amqp_rules.specs.declared.reply.Given.{Given}
use Rattle.amqp_rules.specs.declared.refusal.Refusal.{Refusal}
use Rattle.amqp_rules.specs.declared.refusal.Refusal.TheVariants.{JournalFull}
use Rattle.amqp_rules.specs.declared.violation.Violation.{Violation}
use Rattle.amqp_rules.specs.declared.violation.ViolationKind.TheVariants.{JournalFull as Full}
use Rattle.amqp_frames.specs.declared.frame.Frame.{Frame}
use Rattle.amqp_rules.specs.declared.config.Config.{Config}
use Rattle.amqp_rules.specs.Opened.{no_reply}
use Rattle.amqp_rules.specs.Refusing.{unlinked}
use Rattle.amqp_rules.specs.Answer.{own_answer, heard_answer}
use Rattle.amqp_rules.specs.View.{View}
use Rattle.amqp_links.specs.declared.left.Left.{Left}
use Rattle.amqp_links.specs.declared.left.Left.TheVariants as thing
use Rattle.amqp_links.specs.Left.{left_on_all}
use Rattle.amqp_endpoint.specs.Left.{left_by_own, left_by_heard}
use Rattle.amqp_laws.specs.declared.entry.Entry.{Entry}
use Rattle.amqp_laws.specs.declared.entry.Step.{Step}
use Rattle.amqp_laws.specs.declared.entry.Step.TheVariants.{Opened, Own, Heard}
use Rattle.amqp_laws.specs.Past.{past}
use Rattle.amqp_laws.specs.At.{at}

pub record Log : Type 0 where
  pub config : Config
  -- all entries, those that were forgotten too
  pub journal : List Entry
  -- how many of them, from the oldest on, were forgotten
  pub forgotten : ℕ
  -- octets that no step sent, each with the number of entries before it
  pub put : List (ℕ × List ℕ)
  -- how many units were popped
  pub popped : ℕ
  -- what links left that are gone, and nobody popped
  pub left : List Left

-- what is due where the peer's longest frame is told: a full journal refuses it
unfoldable pub opened_due : Log → Result Reply Refusal
opened_due l = cond (nat_le l.config.journal_limit (length l.journal)) (Err JournalFull) (Ok no_reply)

-- what is due to an operation: a full journal refuses it, else the view decides
unfoldable pub own_due : Log → Op → Result Reply Refusal
own_due l op = cond (nat_le l.config.journal_limit (length l.journal)) (Err JournalFull) (own_answer (at l.config (past l.journal)) op)

unfoldable pub heard_due : Log → Frame → Result Reply Violation
heard_due l frame = cond (nat_le l.config.journal_limit (length l.journal)) (Err (unlinked Full)) (heard_answer (at l.config (past l.journal)) frame)

abbrev pub new_log : Config → Log
new_log c = record { config = c; journal = []; forgotten = 0; put = []; popped = 0; left = [] }

-- what a step leaves of the links that it makes gone, by the view before it
abbrev pub left_at : View → Step → List Left
left_at v (Opened max) = []
left_at v (Own op) = left_by_own v op
left_at v (Heard f) = left_by_heard v f.body

unfoldable pub left_by : Config → List Entry → Step → List Left
left_by c journal step = left_at (at c (past journal)) step

-- one entry more, and behind what was left what it leaves
abbrev pub logging : Log → Step → Reply → Log
logging l step reply = record l { journal = l.journal ++ record { step = step; reply = reply } ∷ []; left = l.left ++ left_by l.config l.journal step }

-- octets put behind all that was sent so far
abbrev pub putting : Log → List ℕ → Log
putting l octets = record l { put = l.put ++ (length l.journal, octets) ∷ [] }

-- one unit more is popped
abbrev pub popping : Log → Log
popping l = record l { popped = l.popped + 1 }

-- it is a delivery that this link of a receiver left, or what was told of one and this link of a sender left
abbrev pub is_left_by : Role → ℕ → Left → Bool
is_left_by Receiver link (thing.Delivery name taken) = taken.link == link
is_left_by Receiver link (thing.Outcome name learned) = false
is_left_by Sender link (thing.Delivery name taken) = false
is_left_by Sender link (thing.Outcome name learned) = learned.link == link

-- behind what was left comes all that the links have
unfoldable pub left_on_links : Config → List Entry → List Left
left_on_links c journal = left_on_all (at c (past journal)).links

abbrev pub leaving : Log → Log
leaving l = record l { left = l.left ++ left_on_links l.config l.journal }

-- the log has one entry more, with the reply that is due
abbrev pub Appends : {E : Type 0} → Log → Step → Result Reply E → Given → Log → Type 0
Appends old step (Ok reply) given new = (new ≡ logging old step reply) × (given ≡ reply.given)
Appends old step (Err e) given new = ⊥

-- the same where what it gives is told by the entry alone
abbrev pub Extends : {E : Type 0} → Log → Step → Result Reply E → Log → Type 0
Extends old step (Ok reply) new = new ≡ logging old step reply
Extends old step (Err e) new = ⊥

-- this refusal is due, or memory was refused where a reply is due
abbrev pub IsRefusal : {E : Type 0} → E → Result Reply E → E → Type 0
IsRefusal refused_memory answer e = (answer ≡ Err e) ⊎ (IsOk answer × (e ≡ refused_memory))

-- the entries so far are forgotten; all that is said of them stays
abbrev pub forgetting : Log → Log
forgetting l = record l { forgotten = length l.journal }
