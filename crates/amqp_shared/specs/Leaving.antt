-- What a call that waited in vain returns of what its link left.
use Rattle.std.specs.Prelude.{ℕ, ◌≡◌, Option, None, Result, Ok, Err}
use Rattle.amqp_performatives.specs.declared.bodies.Role.{Role}
use Rattle.amqp_performatives.specs.declared.bodies.Role.TheVariants.{Sender, Receiver}
use Rattle.amqp_links.specs.declared.left.Left.{Left}
use Rattle.amqp_rules.specs.declared.op.Op.{Op}
use Rattle.amqp_rules.specs.declared.op.Op.TheVariants as op
use Rattle.amqp_rules.specs.declared.refusal.Refusal.{Refusal}
use Rattle.amqp_rules.specs.declared.reply.Given.{Given}
use Rattle.amqp_journal.specs.declared.receipt.Receipt.{Receipt}
use Rattle.amqp_conn.specs.Connection.{Connection}
use Rattle.amqp_conn.specs.Leaving.{GivesOf}

-- the call's own answer
abbrev pub plain : {E : Type 0} → Result (Receipt × Given) (Refusal × E) → Result (Receipt × Given) Refusal
plain (Ok r) = Ok r
plain (Err e) = Err e.0

-- the first thing that the link left, if any, is returned and removed, and nothing else has changed; if memory ran out,
-- nothing has
abbrev pub LeavesOf : {E : Type 0} → Role → ℕ → Connection → Result (Option Left) E → Connection → Type 0
LeavesOf role link c (Ok left) new = GivesOf role link c.core left new.core × (new.unread ≡ c.unread)
LeavesOf role link c (Err _) new = new ≡ c

-- a take gets a delivery that the link left, a learn an outcome
abbrev pub LeavesBehind : {E : Type 0} → Op → Connection → Result (Option Left) E → Connection → Type 0
LeavesBehind (op.Take link) c left new = LeavesOf Receiver link c left new
LeavesBehind (op.Learn link) c left new = LeavesOf Sender link c left new
LeavesBehind o c left new = (left ≡ Ok None) × (new ≡ c)

-- if the operation was done, nothing more has changed; if it was refused, what the link left is returned
abbrev pub HasLeft : {E : Type 0} → Op → Connection → Result (Receipt × Given) (Refusal × Result (Option Left) E) → Connection → Type 0
HasLeft o c (Ok r) new = new ≡ c
HasLeft o c (Err e) new = LeavesBehind o c e.1 new
