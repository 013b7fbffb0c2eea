-- A connection as callers see it.
use Rattle.std.specs.Prelude.{ℕ, ◌≡◌, ◌<◌, ◌≤◌, ◌++◌, Bool, true, false, Option, Some, List, [], length}
use Rattle.amqp_performatives.specs.declared.bodies.OpenBody.{OpenBody}
use Rattle.amqp_performatives.specs.declared.bodies.CloseBody.{CloseBody}
use Rattle.amqp_rules.specs.declared.reply.Reply.{Reply}
use Rattle.amqp_frames.specs.Framing.{IsUnfinished}
use Rattle.amqp_laws.specs.declared.entry.Step.{Step}
use Rattle.amqp_journal.specs.Log.{Log, logging, putting}
use Rattle.amqp_conn.specs.declared.config.Config.{Config}
use Rattle.amqp_conn.specs.declared.phase.Phase.{Phase}
use Rattle.amqp_conn.specs.declared.phase.Phase.TheVariants as phase

-- All but the unread octets: the settings, the phase (part 2, 2.4.6), the session's log, and the peer's open and close.
pub record Core : Type 0 where
  pub config : Config
  pub phase : Phase
  pub log : Log
  -- the links that remained at the end have left their items
  pub gathered : Bool
  -- the peer's open, once it was taken (part 2, 2.7.1)
  pub peer : Option OpenBody
  -- the peer's close, once it was taken (part 2, 2.7.9)
  pub parting : Option CloseBody

pub record Connection : Type 0 where
  pub core : Core
  pub unread : List ℕ

abbrev pub connection : Core → List ℕ → Connection
connection k x = record { core = k; unread = x }

-- these octets come after the unread ones
abbrev pub more : List ℕ → Connection → Connection
more x c = record c { unread = c.unread ++ x }

-- frames are read in these phases
abbrev pub reads_frames : Phase → Bool
reads_frames phase.AwaitHeader = false
reads_frames phase.AwaitOpen = true
reads_frames phase.Running = true
reads_frames phase.Closing = true
reads_frames phase.Closed = false

-- the octets do not begin with a whole header, or with a whole frame of at most max octets; a closed connection has
-- none
abbrev pub HasRead : Phase → ℕ → List ℕ → Type 0
HasRead phase.AwaitHeader max x = length x < 8
HasRead phase.AwaitOpen max x = IsUnfinished max x
HasRead phase.Running max x = IsUnfinished max x
HasRead phase.Closing max x = IsUnfinished max x
HasRead phase.Closed max x = x ≡ []

-- all that can be read is read
abbrev pub IsQuiet : Connection → Type 0
IsQuiet c = HasRead c.core.phase c.core.config.max_frame c.unread

abbrev pub in_phase : Phase → Core → Core
in_phase p k = record k { phase = p }

-- the peer's open is taken
abbrev pub met : OpenBody → Core → Core
met b k = record k { phase = phase.Running; peer = Some b }

-- the peer's close is taken
abbrev pub parted : CloseBody → Core → Core
parted b k = record k { phase = phase.Closed; parting = Some b }

-- octets are queued
abbrev pub sending : List ℕ → Core → Core
sending octets k = record k { log = putting k.log octets }

-- the journal has one entry more
abbrev pub stepping : Step → Reply → Core → Core
stepping step reply k = record k { log = logging k.log step reply }

-- what is unread: octets of a header, or of a frame
abbrev pub unread_in : Phase → List ℕ → List ℕ → List ℕ
unread_in phase.AwaitHeader head kept = head
unread_in phase.AwaitOpen head kept = kept
unread_in phase.Running head kept = kept
unread_in phase.Closing head kept = kept
unread_in phase.Closed head kept = []

-- the parts agree: the framer accepts the frames that the settings allow, no whole header or frame is unread, and
-- there is room for a header
pub record IsSetUp (k : Core) (head : List ℕ) (room max : ℕ) (kept : List ℕ) : Type 0 where
  pub max_is : max ≡ k.config.max_frame
  pub read : HasRead k.phase max (unread_in k.phase head kept)
  pub room_is : 8 ≤ room
  pub empty : k.phase ≡ phase.AwaitHeader → kept ≡ []
