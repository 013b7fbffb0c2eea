-- Links that come back on another connection, and what links leave that are gone.
use Rattle.std.specs.Prelude.{ℕ, ◌≡◌, ◌⊎◌, take, slice_get, Option, Some, None, List}
use Rattle.amqp_performatives.specs.declared.bodies.Role.{Role}
use Rattle.amqp_types.specs.declared.value.Value.{Value}
use Rattle.amqp_waiting.specs.declared.item.Verdict.{Verdict}
use Rattle.amqp_rules.specs.declared.op.Op.{Op}
use Rattle.amqp_rules.specs.declared.op.Op.TheVariants as op
use Rattle.amqp_rules.specs.declared.reply.Given.TheVariants as given
use Rattle.amqp_rules.specs.declared.reply.Suspended.{Suspended}
use Rattle.amqp_rules.specs.declared.reply.Taken.{Taken}
use Rattle.amqp_links.specs.Rejoining.{all_aside}
use Rattle.amqp_links.specs.declared.left.Left.{Left}
use Rattle.amqp_links.specs.declared.left.Left.TheVariants as left
use Rattle.amqp_conn.specs.Connection.{Connection}
use Rattle.amqp_conn.specs.Leaving.{Gives}
use Rattle.amqp_caller.specs.declared.arguments.LinkSettings.{LinkSettings}
use Rattle.amqp_caller.specs.declared.aside.LostLink.{LostLink}
use Rattle.amqp_caller.specs.declared.caller.Caller.{Caller}
use Rattle.amqp_caller.specs.declared.event.Event.{Event}
use Rattle.amqp_caller.specs.Arguments.{address}
use Rattle.amqp_caller.specs.Calls.{IsTold}
use Rattle.amqp_caller.specs.Numbers.{role_number, verdict_number}
use Rattle.amqp_caller.specs.Reading.{view_of}

-- # Links that come back

-- the link of the connection, as it would have been put aside
abbrev pub IsAside : LostLink → Connection → Suspended → Type 0
IsAside l c a = (r : Role) × (role_number r ≡ l.role) × (slice_get (all_aside (view_of c) r) l.place ≡ Some a)

-- the operation brings back what was put aside, between these addresses
abbrev pub rejoined : Suspended → Option Value → Option Value → LinkSettings → Op
rejoined a source target s = op.Rejoin (record { name = a.name; role = a.role; snd = s.snd; rcv = s.rcv; source = source; target = target; count = s.count; max_message = s.max_message; items = a.items })

abbrev pub IsRejoin : LostLink → Connection → List ℕ → List ℕ → LinkSettings → Op → Type 0
IsRejoin l c source target s o = (a : Suspended) × IsAside l c a × (o ≡ rejoined a (address 40 source) (address 41 target) s)

-- the event reports a delivery that waits to be resumed; or the status reports that there is none at this place
abbrev pub WaitTold : ℕ → Option (List ℕ × Verdict) → ℕ → Event → Type 0
WaitTold link None status e = (status ≡ 2) × (e.kind ≡ 0)
WaitTold link (Some w) status e = (status ≡ 0) × (e.kind ≡ 12) × (e.link ≡ link) × (take e.tag_len e.tag ≡ w.0) × (e.verdict ≡ verdict_number w.1)

-- # What is left

-- the event of a take or of a learn
abbrev pub LeftTold : Option Left → Event → Type 0
LeftTold None e = e.kind ≡ 0
LeftTold (Some (left.Delivery name t)) e = IsTold (given.Taken t) e
LeftTold (Some (left.Outcome name l)) e = IsTold (given.Learned l) e

abbrev pub left_taken : Option Left → Option Taken → Option Taken
left_taken (Some (left.Delivery name t)) old = Some t
left_taken _ old = old

-- the first of what is left was given, as the event reports
pub record GaveLeft (old : Caller) (e : Event) (new : Caller) : Type 0 where
  pub answer : Option Left
  pub gives : Gives old.conn.core answer new.conn.core
  pub unread : new.conn.unread ≡ old.conn.unread
  pub rest : new.rest ≡ old.rest
  pub taken : new.taken ≡ left_taken answer old.taken
  pub told : LeftTold answer e

-- the same; or memory ran out, and nothing has changed
abbrev pub WasLeft : Caller → ℕ → Event → Caller → Type 0
WasLeft old status e new = ((status ≡ 0) × GaveLeft old e new) ⊎ ((status ≡ 3) × (new ≡ old))
