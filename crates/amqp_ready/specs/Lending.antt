-- What stays of a connection that is lent, whatever is done with it.
use Rattle.std.specs.Prelude.{ℕ, List, [], ◌∷◌}
use Rattle.amqp_frames.specs.declared.frame.Frame.{Frame}
use Rattle.amqp_laws.specs.declared.entry.Entry.{Entry}
use Rattle.amqp_laws.specs.declared.entry.Step.{Step}
use Rattle.amqp_laws.specs.declared.entry.Step.TheVariants.{Opened, Own, Heard}
use Rattle.amqp_conn.specs.Connection.{Connection}
use Rattle.amqp_ready.specs.Gathering.{gone}

-- these frames behind the one that the step hears, if it hears one
abbrev pub heard_before : Step → List Frame → List Frame
heard_before (Opened max) frames = frames
heard_before (Own op) frames = frames
heard_before (Heard frame) frames = frame ∷ frames

-- the frames that the entries hear, in order
abbrev pub heard_in : List Entry → List Frame
heard_in [] = []
heard_in (e ∷ entries) = heard_before e.step (heard_in entries)

pub record Kept : Type 0 where
  -- the octets that are not read
  pub unread : List ℕ
  -- the octets of the units that were popped
  pub popped : List ℕ
  -- the frames that were heard
  pub heard : List Frame

unfoldable pub kept : Connection → Kept
kept c = record { unread = c.unread; popped = gone c; heard = heard_in c.core.log.journal }

-- what stays even if units are popped
pub record Still : Type 0 where
  pub unread : List ℕ
  pub heard : List Frame

unfoldable pub still : Connection → Still
still c = record { unread = c.unread; heard = heard_in c.core.log.journal }
