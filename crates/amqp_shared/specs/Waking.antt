-- What a step may bring to the threads that wait, and which of them are woken. A caller waits for credit or a window,
-- for a delivery, or for the peer's state of a delivery; a writer waits for units.
use Rattle.std.specs.Prelude.{ℕ, ◌≡◌, ◌<◌, ◌-◌, ◌||◌, Bool, true, false, IsFalse, cond, nat_le, nat_lt, Option, Some, None, Result, Ok, Err, List, length, drop, slice_get}
use Rattle.amqp_performatives.specs.declared.performative.Performative.{Performative}
use Rattle.amqp_performatives.specs.declared.performative.Performative.TheVariants as says
use Rattle.amqp_rules.specs.declared.op.Op.{Op}
use Rattle.amqp_rules.specs.declared.op.Op.TheVariants as op
use Rattle.amqp_rules.specs.declared.reply.Given.{Given}
use Rattle.amqp_rules.specs.declared.reply.Given.TheVariants as given
use Rattle.amqp_rules.specs.declared.refusal.Refusal.{Refusal}
use Rattle.amqp_rules.specs.declared.refusal.Refusal.TheVariants as refusal
use Rattle.amqp_laws.specs.declared.entry.Entry.{Entry}
use Rattle.amqp_laws.specs.declared.entry.Step.{Step}
use Rattle.amqp_laws.specs.declared.entry.Step.TheVariants.{Opened, Own, Heard}
use Rattle.amqp_journal.specs.Units.{units}
use Rattle.amqp_conn.specs.declared.phase.Phase.{Phase}
use Rattle.amqp_conn.specs.declared.phase.Phase.TheVariants as phase
use Rattle.amqp_conn.specs.declared.fault.ConnFault.{ConnFault}
use Rattle.amqp_conn.specs.declared.fault.ConnFault.TheVariants as fault
use Rattle.amqp_conn.specs.declared.fed.Fed.{Fed}
use Rattle.amqp_conn.specs.Connection.{Connection}
use Rattle.amqp_shared.specs.Session.{IsRefused}
use Rattle.amqp_shared.specs.declared.waiting.Want.{Want}
use Rattle.amqp_shared.specs.declared.waiting.Want.TheVariants.{Room, Delivery, Outcome}
use Rattle.amqp_shared.specs.declared.waiting.Change.{Change}
use Rattle.amqp_shared.specs.declared.waiting.Change.TheVariants.{Nothing, Brings, Ends}
use Rattle.amqp_shared.specs.declared.waiting.Waiters.{Waiters}

-- the data under the lock: the connection, and which threads wait for what
pub record Held : Type 0 where
  pub conn : Connection
  pub waiters : Waiters

-- # What a step may bring

-- Of our operations, a detach, for good or not (part 2, 2.6.6 and 2.6.4), and an end (part 2, 2.5.2) end a link or all
-- of them: what is awaited there does not come any more. No other operation brings anything: credit, a window, a
-- delivery and an outcome come from the peer.
abbrev pub brought_by_op : Op → Change
brought_by_op (op.Detach link error) = Ends
brought_by_op (op.Suspend link) = Ends
brought_by_op (op.End error) = Ends
brought_by_op _ = Nothing

-- Of the peer's frames, a flow brings credit and windows (part 2, 2.6.7 and 2.5.6), and a disposition brings states of
-- deliveries (part 2, 2.7.6). A transfer brings a delivery only if one becomes ready by it. All others begin or end
-- what threads wait on.
abbrev pub brought_by_body : Performative → Change
brought_by_body (says.Flow body) = Brings Room
brought_by_body (says.Disposition body) = Brings Outcome
brought_by_body (says.Transfer body) = Nothing
brought_by_body _ = Ends

-- an empty frame says nothing (part 2, 2.4.5)
abbrev pub brought_by_frame : Option Performative → Change
brought_by_frame None = Nothing
brought_by_frame (Some body) = brought_by_body body

abbrev pub brought_by_step : Step → Change
brought_by_step (Opened max) = Ends
brought_by_step (Own o) = brought_by_op o
brought_by_step (Heard f) = brought_by_frame f.body

-- a step by which a delivery becomes ready brings one
abbrev pub brought_by : Step → Given → Change
brought_by step (given.Ready link id) = Brings Delivery
brought_by step _ = brought_by_step step

abbrev pub brought_in : Option Entry → Given → Change
brought_in None gives = Nothing
brought_in (Some e) gives = brought_by e.step gives

abbrev pub is_ended : Phase → Bool
is_ended phase.Closed = true
is_ended _ = false

-- the entries that were not forgotten: that of a step just made is the last
abbrev pub kept : Connection → List Entry
kept c = drop c.core.log.forgotten c.core.log.journal

-- Octets bring what their step brings. The peer's close and a fault end all; if memory ran out, nothing has changed.
abbrev pub brought_by_feed : Connection → Result Fed ConnFault → Change
brought_by_feed c (Ok fed) =
    cond fed.stepped (brought_in (slice_get (kept c) (length (kept c) - 1)) fed.given) (cond (is_ended c.core.phase) Ends Nothing)
brought_by_feed c (Err fault.NoMemory) = Nothing
brought_by_feed c (Err _) = Ends

-- a full journal refuses all that comes
abbrev pub is_full : Connection → Bool
is_full c = nat_le c.core.log.config.journal_limit (length c.core.log.journal)

abbrev pub brought : Connection → Change → Change
brought c change = cond (is_full c) Ends change

-- # What is awaited

-- what an operation waits for if there is nothing yet: a learn for the peer's state of a delivery, a take for a
-- delivery
abbrev pub awaited_by : Op → Want
awaited_by (op.Learn link) = Outcome
awaited_by _ = Delivery

-- what a call waits for after this refusal; after any other refusal it does not wait
abbrev pub wanted : Op → Refusal → Option Want
wanted o refusal.NoCredit = Some Room
wanted o refusal.NoWindow = Some Room
wanted o refusal.Nothing = Some (awaited_by o)
wanted o e = None

-- a call has to wait for this: it is refused because this is missing
pub record IsAwaited (c : Connection) (o : Op) (want : Want) : Type 0 where
  pub reason : Refusal
  pub refused : IsRefused c o reason
  pub is_wanted : wanted o reason ≡ Some want

abbrev pub waits_for : Want → Waiters → Bool
waits_for Room w = w.room
waits_for Delivery w = w.delivery
waits_for Outcome w = w.outcome

-- whether a caller waits for this, and all else as before
abbrev pub with_want : Want → Bool → Waiters → Waiters
with_want Room waits w = record w { room = waits }
with_want Delivery waits w = record w { delivery = waits }
with_want Outcome waits w = record w { outcome = waits }

abbrev pub least_awaited : Option ℕ → ℕ → ℕ
least_awaited None seen = seen
least_awaited (Some least) seen = cond (nat_le least seen) least seen

-- units past this number are awaited too: the least number of all waiting threads is kept
abbrev pub with_units : ℕ → Waiters → Waiters
with_units seen w = record w { units = Some (least_awaited w.units seen) }

-- the news of a connection for a writer that has seen this many units: how many were put out, and whether the
-- connection has ended; there are more than it has seen, or the connection has ended
pub record IsNews (seen : ℕ) (c : Connection) (told : ℕ × Bool) : Type 0 where
  pub count : told.0 ≡ length (units c.core.log)
  pub ended : told.1 ≡ is_ended c.core.phase
  pub past : IsFalse told.1 → seen < told.0

-- # Which threads are woken

-- there are more units than some thread waits for, or there will be no more
abbrev pub units_came : Connection → Option ℕ → Bool
units_came c None = false
units_came c (Some seen) = nat_lt seen (length (units c.core.log)) || is_ended c.core.phase

-- the threads that wait for units are woken if there are some
abbrev pub told_of_units : Connection → Waiters → Waiters
told_of_units c w = cond (units_came c w.units) (record w { units = None }) w

-- the threads that wait for what the change may bring are woken, and no other
abbrev pub told_of : Change → Waiters → Waiters
told_of Nothing w = w
told_of (Brings want) w = with_want want false w
told_of Ends w = record w { room = false; delivery = false; outcome = false }

-- the threads that wait for what this change brought are woken, and no other: they count as waiting no more
abbrev pub IsTold : Change → Held → Held → Type 0
IsTold change old new = new.waiters ≡ told_of (brought new.conn change) (told_of_units new.conn old.waiters)
