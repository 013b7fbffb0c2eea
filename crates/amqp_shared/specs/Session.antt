-- What the calls on a locked session do.
use Rattle.std.specs.Prelude.{ℕ, ◌≡◌, ◌≢◌, ◌≤◌, ◌<◌, ◌+◌, Some, Result, Ok, Err, List, length, slice_get}
use Rattle.amqp_rules.specs.declared.op.Op.{Op}
use Rattle.amqp_rules.specs.declared.op.Op.TheVariants as op
use Rattle.amqp_rules.specs.declared.reply.Given.{Given}
use Rattle.amqp_rules.specs.declared.reply.Reply.{Reply}
use Rattle.amqp_rules.specs.declared.reply.Given.TheVariants as given
use Rattle.amqp_rules.specs.declared.refusal.Refusal.{Refusal}
use Rattle.amqp_rules.specs.declared.refusal.Refusal.TheVariants as refusal
use Rattle.amqp_laws.specs.declared.entry.Entry.{Entry}
use Rattle.amqp_journal.specs.declared.unit.Unit as frame
use Rattle.amqp_journal.specs.declared.receipt.Receipt.{Receipt}
use Rattle.amqp_journal.specs.Log.{Log, IsRefusal}
use Rattle.amqp_journal.specs.Units.{units, Stands}
use Rattle.amqp_conn.specs.Connection.{Connection}
use Rattle.amqp_conn.specs.Calling.{Does, due_in}
use Rattle.amqp_shared.specs.Ring.{Ring}
use Rattle.amqp_shared.specs.Retaining.{IsRetained}
use Rattle.amqp_shared.specs.declared.retention.Retention.{Retention}
use Rattle.amqp_shared.specs.Units.{moved_of, unmoved}
use Rattle.std.specs.Prelude.{Option}

-- The invariant of the data under the lock: the passes have made the journal's steps; what was pushed is what left the
-- connection; units wait in the connection only if the ring had no free slot when it was last checked; and no entry of
-- the journal was forgotten if all are to be kept. The limit is the journal's.
pub record IsHeld (c : Connection) (total : ℕ) (pushed : List frame.Unit) (free limit : ℕ) (ring own : Option Ring) (parts : ℕ) (retention due : Retention) : Type 0 where
  pub counted : total ≡ length c.core.log.journal
  pub pushed_is : pushed ≡ moved_of c
  pub no_more_moved : c.core.log.popped ≤ length (units c.core.log)
  pub full : c.core.log.popped < length (units c.core.log) → free ≡ 0
  pub ring_is : ring ≡ own
  pub all_parts : parts ≡ 65536
  pub limited : limit ≡ c.core.log.config.journal_limit
  pub retention_is : retention ≡ due
  pub retained : IsRetained due c.core.log

-- the operation was done, and units may have been moved to the ring
pub record Makes (old : Connection) (o : Op) (gives : Given) (new : Connection) : Type 0 where
  pub does : Does old.core o (Ok gives) (unmoved old new).core
  pub unread : new.unread ≡ old.unread
  pub more : old.core.log.popped ≤ new.core.log.popped

-- the receipt is for the operation at the journal's last entry, which is stored, and the entry gave this
pub record IsReceipt (l : Log) (o : Op) (gives : Given) (r : Receipt) : Type 0 where
  pub stands : Stands l o r.place r.link r.id
  pub stored : l.forgotten ≤ r.place
  pub last : r.place + 1 ≡ length l.journal
  pub gave : (e : Entry) × (slice_get l.journal r.place ≡ Some e) × (e.reply.given ≡ gives)

-- this refusal is due to the operation, or a reply is due and memory ran out
abbrev pub IsRefused : Connection → Op → Refusal → Type 0
IsRefused c o e = IsRefusal refusal.NoMemory (due_in c.core.phase c.core.log o) e

-- the operation was done on some session, which is so now
abbrev pub IsDone : Op → Given → Connection → Type 0
IsDone o gives new = (old : Connection) × Makes old o gives new

-- a take returns a delivery of its link
abbrev pub Fits : Op → Given → Type 0
Fits (op.Take link) (given.Taken t) = t.link ≡ link
Fits (op.Take link) given.Nothing = ⊥
Fits (op.Take link) (given.Link k) = ⊥
Fits (op.Take link) (given.Offered k) = ⊥
Fits (op.Take link) (given.Attached k) = ⊥
Fits (op.Take link) (given.Gone k) = ⊥
Fits (op.Take link) (given.Delivery id) = ⊥
Fits (op.Take link) (given.Ready k id) = ⊥
Fits (op.Take link) (given.Learned t) = ⊥
Fits (op.Take link) (given.Suspended s) = ⊥
Fits (op.Take link) (given.Parted k s) = ⊥
Fits (op.Take link) (given.Resumed r) = ⊥
Fits o gives = Unit {0}

-- a call does not wait on such a refusal
abbrev pub EndsWait : Refusal → Type 0
EndsWait e = (e ≢ refusal.NoCredit) × (e ≢ refusal.NoWindow) × (e ≢ refusal.Nothing)

-- nothing that a call waits on is due
abbrev pub IsDueAtOnce : Result Reply Refusal → Type 0
IsDueAtOnce (Ok reply) = Unit {0}
IsDueAtOnce (Err e) = EndsWait e

-- the answer of a call, and the connection after it
abbrev pub Calls : Connection → Op → Result (Receipt × Given) Refusal → Connection → Type 0
Calls old o (Ok r) new = Makes old o r.1 new
Calls old o (Err e) new = IsRefused old o e × (new ≡ old)
