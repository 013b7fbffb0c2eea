-- Slots by key: the stage of each, and what a turn does.
use Rattle.std.specs.Prelude.{ℕ, ◌≡◌, ◌≢◌, ◌⊎◌, Bool, List, [], Option, Some, None, Result, option_map}
use Rattle.slab.specs.Slab.{Slab}
use Rattle.slab.specs.Slab as slab
use Rattle.amqp_rules.specs.declared.op.Op.{Op}
use Rattle.amqp_rules.specs.declared.refusal.Refusal.{Refusal}
use Rattle.amqp_rules.specs.declared.reply.Given.{Given}
use Rattle.amqp_conn.specs.declared.fault.ConnFault.TheVariants as conn
use Rattle.amqp_conn.specs.declared.phase.Phase.TheVariants as phase
use Rattle.amqp_conn.specs.Connection.{Connection, connection, in_phase}
use Rattle.amqp_conn.specs.Calling.{Performs}
use Rattle.amqp_conn.specs.Pumping.{AllWent}
use Rattle.amqp_ready.specs.declared.fault.SlotFault.{SlotFault}
use Rattle.amqp_ready.specs.declared.fault.SlotFault.TheVariants as fault
use Rattle.amqp_ready.specs.declared.slot.Slot.{Slot}
use Rattle.amqp_ready.specs.declared.seat.Seat.{Seat}
use Rattle.amqp_ready.specs.declared.seat.Stage.{Stage}
use Rattle.amqp_ready.specs.declared.seat.Stage.TheVariants as stage
use Rattle.amqp_ready.specs.Answering.{fresh, with_most}
use Rattle.amqp_ready.specs.Slotting.{Parts, parts, Serves}

-- the octets have ended
abbrev pub lost : Connection → Connection
lost c = connection (in_phase phase.Closed c.core) []

-- the fault by which a slot ends, if it ends by one
abbrev pub fault_of : Stage → Option SlotFault
fault_of stage.Works = None
fault_of (stage.Leaves e) = Some e
fault_of (stage.Over why) = why

-- The fault that a turn returned ends the slot, and nothing else does. A refusal of memory ends none.
abbrev pub IsTold : Option SlotFault → Stage → Type 0
IsTold why s = (why ≡ fault_of s) ⊎ ((why ≡ Some (fault.Conn conn.NoMemory)) × (s ≡ stage.Works))

abbrev pub IsOver : Stage → Type 0
IsOver stage.Works = ⊥
IsOver (stage.Leaves e) = ⊥
IsOver (stage.Over why) = Unit {0}

-- the stage of a slot that has taken too long
abbrev pub late : Stage → Stage
late stage.Works = stage.Leaves fault.TimedOut
late (stage.Leaves e) = stage.Over (Some e)
late (stage.Over why) = stage.Over why

-- the time limits were checked
abbrev pub IsTicked : Stage → Stage → Type 0
IsTicked s t = (t ≡ s) ⊎ (t ≡ late s)

-- the connection has ended, and all is written
abbrev pub IsDone : Parts → Type 0
IsDone p = (p.conn.core.phase ≡ phase.Closed) × AllWent p.conn × (p.left ≡ [])

-- a turn of a slot that works
pub record Worked (s : Stage) (p q : Parts) : Type 0 where
  pub why : Option SlotFault
  pub serves : Serves why p q
  pub told : IsTold why s
  pub done : s ≡ stage.Over None → IsDone q

-- One turn. If a slot ends by a fault, what it put out is still written, and the fault stays; a slot that has ended
-- has no turn.
abbrev pub Turns : Stage → Stage → Parts → Parts → Type 0
Turns stage.Works t p q = Worked t p q
Turns (stage.Leaves e) t p q = (why : Option SlotFault) × Serves why p q × (fault_of t ≡ Some e)
Turns (stage.Over why) t p q = (t ≡ stage.Over why) × (q ≡ p)

module _ {S H : Type 0} where
  -- the slot under a key, and its stage
  abbrev pub held : Slab (Seat S H) → ℕ → Option (Slot S H × Stage)
  held s key = option_map (λ seat. (seat.slot, seat.stage)) (slab.get s key)

  abbrev pub AllStay : Slab (Seat S H) → Slab (Seat S H) → Type 0
  AllStay old new = (key : ℕ) → held new key ≡ held old key

  -- every other slot is as it was
  abbrev pub OthersStay : Slab (Seat S H) → Slab (Seat S H) → ℕ → Type 0
  OthersStay old new key = (other : ℕ) → other ≢ key → held new other ≡ held old other

  abbrev pub IsOverAt : Option (Slot S H × Stage) → Type 0
  IsOverAt None = ⊥
  IsOverAt (Some p) = IsOver p.1

  -- a slot that works, of which nothing was read or written
  abbrev pub IsNew : Option (Slot S H × Stage) → S → Connection → H → Type 0
  IsNew None stream conn handler = ⊥
  IsNew (Some p) stream conn handler =
      (p.1 ≡ stage.Works) × (p.0.stream ≡ stream) × (p.0.lent.conn ≡ conn) × (p.0.handler ≡ handler) × (p.0.unfed ≡ []) × (p.0.outbox ≡ [])

  -- a slot of which nothing is counted, and that holds at so many octets
  abbrev pub HoldsAt : ℕ → Option (Slot S H × Stage) → Type 0
  HoldsAt most None = ⊥
  HoldsAt most (Some p) = p.0.answers ≡ with_most most fresh

  -- the operation was performed on the connection under a key with this result, if there is a slot
  abbrev pub PerformsAt : Op → Option (Slot S H × Stage) → Option (Result (Unit {0}) Refusal) → Option (Slot S H × Stage) → Type 0
  PerformsAt op None answer new = answer ≡ None
  PerformsAt op (Some p) None new = ⊥
  PerformsAt op (Some p) (Some result) new = (q : Slot S H × Stage) × (new ≡ Some q) × Performs p.0.lent.conn.core op result q.0.lent.conn.core

  -- this is left of a slot that had ended
  abbrev pub IsLeft : Option (Slot S H × Stage) → S → Connection → H → Option SlotFault → Type 0
  IsLeft None stream conn handler why = ⊥
  IsLeft (Some p) stream conn handler why = (p.1 ≡ stage.Over why) × (stream ≡ p.0.stream) × (conn ≡ lost p.0.lent.conn) × (handler ≡ p.0.handler)

module _ {S H : Type 0} (remaining written : S → Option (List ℕ)) (failed : S → Bool) (told : H → Option (List Given)) where
  abbrev pub parts_of : Slot S H → Parts
  parts_of s = parts (remaining s.stream) s.unfed s.lent.conn (told s.handler) s.outbox (written s.stream) (failed s.stream)

  -- the slot under a key had one turn, if there is one
  abbrev pub TurnsAt : Option (Slot S H × Stage) → Option (Slot S H × Stage) → Type 0
  TurnsAt None new = new ≡ None
  TurnsAt (Some p) new = (q : Slot S H × Stage) × (new ≡ Some q) × Turns p.1 q.1 (parts_of p.0) (parts_of q.0)

  -- the connection under a key was lent, if there is a slot, and its stage is as it was
  abbrev pub LentAt : Option (Slot S H × Stage) → Option (Slot S H × Stage) → Type 0
  LentAt None new = new ≡ None
  LentAt (Some p) new = (q : Slot S H × Stage) × (new ≡ Some q) × (q.1 ≡ p.1) × Serves None (parts_of p.0) (parts_of q.0)

  -- the time limits of the slot under a key were checked, if there is one
  abbrev pub TicksAt : Option (Slot S H × Stage) → Option (Slot S H × Stage) → Type 0
  TicksAt None new = new ≡ None
  TicksAt (Some p) new = (q : Slot S H × Stage) × (new ≡ Some q) × IsTicked p.1 q.1 × Serves None (parts_of p.0) (parts_of q.0)
