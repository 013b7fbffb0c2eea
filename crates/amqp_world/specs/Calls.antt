-- What calls on one of two ends answer, and what they make of its journal.
use Rattle.std.specs.Prelude.{◌≡◌, ◌≤◌, ◌<◌, Bool, true, false, Option, None, Some, length, IsSome}
use Rattle.amqp_frames.specs.declared.frame.Frame.{Frame}
use Rattle.amqp_rules.specs.declared.op.Op.{Op}
use Rattle.amqp_rules.specs.declared.op.Op.TheVariants.{Suspend, Rejoin, Resume}
use Rattle.amqp_rules.specs.declared.reply.Given.{Given}
use Rattle.amqp_rules.specs.declared.refusal.Refusal.TheVariants.{NoMemory}
use Rattle.amqp_laws.specs.declared.entry.Step.TheVariants.{Own, Heard}
use Rattle.amqp_laws.specs.Past.{past}
use Rattle.amqp_journal.specs.Log.{Log, Appends, IsRefusal, own_due, heard_due}
use Rattle.amqp_pair_laws.specs.Moves.{count, said_as}
use Rattle.amqp_pair_laws.specs.World.{hears, sends}
use Rattle.amqp_pair_laws.specs.Premise.{KeepsToHeard}
use Rattle.amqp_world.specs.declared.refusal.WorldRefusal.{WorldRefusal}
use Rattle.amqp_world.specs.declared.refusal.WorldRefusal.TheVariants.{ReachesAhead, Resuming, Refused}
use Rattle.amqp_world.specs.declared.refusal.HearRefusal.{HearRefusal}
use Rattle.amqp_world.specs.declared.refusal.HearRefusal.TheVariants as heard

-- # An operation

-- it disposes only what this end has heard
abbrev pub Keeps : Log → Op → Type 0
Keeps mine op = KeepsToHeard (Own op) (past mine.journal)

-- it puts a link aside, brings one back or resumes a delivery
abbrev pub resumes : Op → Bool
resumes (Suspend link) = true
resumes (Rejoin rejoin) = true
resumes (Resume link tag settled) = true
resumes _ = false

-- one entry more, with the reply that is due
abbrev pub Does : Log → Op → Given → Log → Type 0
Does mine op given new = Keeps mine op × (resumes op ≡ false) × Appends mine (Own op) (own_due mine op) given new

abbrev pub IsRefused : Log → Op → WorldRefusal → Type 0
IsRefused mine op ReachesAhead = ¬ (Keeps mine op)
IsRefused mine op Resuming = Keeps mine op × (resumes op ≡ true)
IsRefused mine op (Refused refusal) = Keeps mine op × (resumes op ≡ false) × IsRefusal NoMemory (own_due mine op) refusal

-- # Hearing

-- the first frame with a body that the other end sent and this one has not heard
abbrev pub waiting : Log → Log → Option Frame
waiting mine theirs = said_as sends (count hears (past mine.journal)) (past theirs.journal)

-- one entry more: the frame that waits was heard, with the reply that is due
abbrev pub Hears : Log → Log → Given → Log → Type 0
Hears mine theirs given new = (f : Frame) × (waiting mine theirs ≡ Some f) × Appends mine (Heard f) (heard_due mine f) given new

-- nothing waits; or something does, and the journal is full, or memory was refused
abbrev pub IsUnheard : Log → Log → HearRefusal → Type 0
IsUnheard mine theirs heard.Empty = waiting mine theirs ≡ None
IsUnheard mine theirs heard.JournalFull = IsSome (waiting mine theirs) × (mine.config.journal_limit ≤ length mine.journal)
IsUnheard mine theirs heard.NoMemory = IsSome (waiting mine theirs) × (length mine.journal < mine.config.journal_limit)
