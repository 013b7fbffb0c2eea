-- What the peer sent: its open, its newest frame, and why it ended something.
use Rattle.std.specs.Prelude.{ℕ, ◌-◌, ◌==◌, ◌&&◌, Bool, true, false, Option, Some, None, List, [], length, drop, find, slice_get}
use Rattle.amqp_performatives.specs.declared.bodies.Role.{Role}
use Rattle.amqp_performatives.specs.declared.bodies.OpenBody.{OpenBody}
use Rattle.amqp_performatives.specs.declared.bodies.CloseBody.{CloseBody}
use Rattle.amqp_performatives.specs.declared.error.AmqpError.{AmqpError}
use Rattle.amqp_performatives.specs.declared.performative.Performative.{Performative}
use Rattle.amqp_performatives.specs.declared.performative.Performative.TheVariants.{Open, Detach, End, Close}
use Rattle.amqp_frames.specs.declared.frame.Frame.{Frame}
use Rattle.amqp_rules.specs.declared.reply.Given.{Given}
use Rattle.amqp_rules.specs.declared.reply.Given.TheVariants.{Gone, Parted}
use Rattle.amqp_laws.specs.declared.entry.Entry.{Entry}
use Rattle.amqp_laws.specs.declared.entry.Step.{Step}
use Rattle.amqp_laws.specs.declared.entry.Step.TheVariants.{Opened, Own, Heard}
use Rattle.amqp_journal.specs.Log.{Log}
use Rattle.amqp_conn.specs.declared.phase.Phase.{Phase}
use Rattle.amqp_conn.specs.declared.phase.Phase.TheVariants as phase

-- the peer's open is not awaited any more
abbrev pub has_met : Phase → Bool
has_met phase.AwaitHeader = false
has_met phase.AwaitOpen = false
has_met phase.Running = true
has_met phase.Closing = true
has_met phase.Closed = true

abbrev pub open_in : Option Performative → Option OpenBody
open_in (Some (Open b)) = Some b
open_in _ = None

abbrev pub close_in : Option Performative → Option CloseBody
close_in (Some (Close b)) = Some b
close_in _ = None

-- the error of a close, if it has one
abbrev pub error_of_close : Option CloseBody → Option AmqpError
error_of_close None = None
error_of_close (Some b) = b.error

-- why a frame ends a link, the session or the connection, if it states that
abbrev pub error_in : Option Performative → Option AmqpError
error_in (Some (Detach b)) = b.error
error_in (Some (End b)) = b.error
error_in (Some (Close b)) = b.error
error_in _ = None

-- the newest entry of a journal, unless it was forgotten
abbrev pub newest : Log → Option Entry
newest l = slice_get (drop l.forgotten l.journal) (length (drop l.forgotten l.journal) - 1)

abbrev pub heard_in : Step → Option Frame
heard_in (Opened max) = None
heard_in (Own op) = None
heard_in (Heard f) = Some f

-- the frame that the entry heard
abbrev pub heard_by : Option Entry → Option Frame
heard_by None = None
heard_by (Some e) = heard_in e.step

-- what the entry gave
abbrev pub given_by : Option Entry → Option Given
given_by None = None
given_by (Some e) = Some e.reply.given

-- the deliveries that the entry ended, by role and id
abbrev pub ended_by : Option Entry → List (Role × ℕ)
ended_by None = []
ended_by (Some e) = e.reply.ended

-- what the entry gave says that the link of this number was removed
abbrev pub is_left_by : ℕ → Given → Bool
is_left_by link (Gone k) = k == link
is_left_by link (Parted k s) = k == link
is_left_by link g = false

abbrev pub is_detach : Option Performative → Bool
is_detach (Some (Detach b)) = true
is_detach _ = false

abbrev pub has_detach : Option Frame → Bool
has_detach None = false
has_detach (Some f) = is_detach f.body

-- the entry heard the detach that removed the link of this number
abbrev pub hears_detach : ℕ → Entry → Bool
hears_detach link e = has_detach (heard_in e.step) && is_left_by link e.reply.given

abbrev pub error_heard : Option Frame → Option AmqpError
error_heard None = None
error_heard (Some f) = error_in f.body

-- why the peer detached the link of this number, if its entry is kept: a number has one link alone, so one such detach
abbrev pub detached_by : ℕ → Log → Option AmqpError
detached_by link l = error_heard (heard_by (find (hears_detach link) (drop l.forgotten l.journal)))
