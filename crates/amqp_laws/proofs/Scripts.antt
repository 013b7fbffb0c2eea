-- A script is a list of steps and questions; its lines are what the definitions answer, from the empty journal on.
use Rattle.std.proofs.Common.{ℕ, Bool, cond, Option, Some, None, Result, Ok, Err, List, [], ◌∷◌, map, length, nat_le}
use Rattle.amqp_performatives.specs.declared.bodies.Role.{Role}
use Rattle.amqp_rules.specs.declared.reply.Reply.{Reply}
use Rattle.amqp_rules.specs.declared.reply.Given.{Given}
use Rattle.amqp_rules.specs.declared.refusal.Refusal.{Refusal}
use Rattle.amqp_rules.specs.declared.violation.Violation.{Violation}
use Rattle.amqp_rules.specs.declared.status.WindowView.{WindowView}
use Rattle.amqp_rules.specs.declared.status.LinkStatus.{LinkStatus}
use Rattle.amqp_rules.specs.declared.config.Config.{Config}
use Rattle.amqp_events.specs.Event.{Item}
use Rattle.amqp_rules.specs.View.{View}
use Rattle.amqp_rules.specs.Dispose.{held_as}
use Rattle.amqp_rules.specs.Opened.{no_reply}
use Rattle.amqp_rules.specs.Status.{status_of, windows_of}
use Rattle.amqp_rules.specs.RefusalNumbers.{refusal_number}
use Rattle.amqp_rules.specs.ViolationNumbers.{violation_number}
use Rattle.amqp_rules.specs.Answer.{own_answer, heard_answer}
use Rattle.amqp_laws.specs.declared.entry.Entry.{Entry}
use Rattle.amqp_laws.specs.declared.entry.Step.{Step}
use Rattle.amqp_laws.specs.declared.entry.Step.TheVariants.{Opened, Own, Heard}
use Rattle.amqp_laws.specs.At.{at}

-- a line of a script
pub data Query : Type 0 where
  ask : Step → Query
  ask_windows : Query
  ask_link : ℕ → Query
  ask_held : Role → Query

-- what it answers: what is given and ended, with the frames' octets; a refusal's or a violation's number; or what is shown
pub data Line : Type 0 where
  ok : Given → List (Role × ℕ) → List (List ℕ) → Line
  refused : ℕ → Line
  violated : ℕ → Line
  windows : WindowView → Line
  link : Option LinkStatus → Line
  held : List Item → Line

abbrev pub reply_line : Reply → Line
reply_line r = ok r.given r.ended (map (λ s. s.bytes) r.sent)

pub record Told : Type 0 where
  pub line : Line
  pub reply : Option Reply

abbrev pub own_told : Result Reply Refusal → Told
own_told (Ok r) = record { line = reply_line r; reply = Some r }
own_told (Err e) = record { line = refused (refusal_number e); reply = None }

abbrev pub heard_told : Result Reply Violation → Told
heard_told (Ok r) = record { line = reply_line r; reply = Some r }
heard_told (Err e) = record { line = violated (violation_number e.kind); reply = None }

-- a full journal is told first
abbrev pub told_by : Bool → View → Step → Told
told_by full v (Opened told) = record { line = cond full (refused 2) (reply_line no_reply); reply = cond full None (Some no_reply) }
told_by full v (Own op) = cond full (record { line = refused 2; reply = None }) (own_told (own_answer v op))
told_by full v (Heard f) = cond full (record { line = violated 1; reply = None }) (heard_told (heard_answer v f))

-- the past, and the lines so far, both newest first
pub record State : Type 0 where
  pub past : List Entry
  pub lines : List Line

abbrev pub entered : Step → Option Reply → List Entry → List Entry
entered step None past = past
entered step (Some reply) past = record { step = step; reply = reply } ∷ past

abbrev pub advance : Step → Told → State → State
advance step told s = record { past = entered step told.reply s.past; lines = told.line ∷ s.lines }

abbrev pub asked : Config → State → Query → State
asked c s (ask step) = advance step (told_by (nat_le c.journal_limit (length s.past)) (at c s.past) step) s
asked c s ask_windows = record s { lines = windows (windows_of (at c s.past)) ∷ s.lines }
asked c s (ask_held role) = record s { lines = held (held_as (at c s.past) role) ∷ s.lines }
asked c s (ask_link k) = record s { lines = link (status_of (at c s.past) k) ∷ s.lines }

abbrev pub all_asked : Config → State → List Query → List Line
all_asked c s [] = s.lines
all_asked c s (q ∷ qs) = all_asked c (asked c s q) qs

-- the answers to these lines, the last one first
abbrev pub lines_of : Config → List Query → List Line
lines_of c qs = all_asked c (record { past = []; lines = [] }) qs

-- without the octets
abbrev pub short : Line → Line
short (ok given ended frames) = ok given ended (map (λ f. []) frames)
short l = l

abbrev pub short_lines_of : Config → List Query → List Line
short_lines_of c qs = map short (lines_of c qs)
