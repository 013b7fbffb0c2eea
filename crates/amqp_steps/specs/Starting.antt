-- What a delivery that begins makes of the unsettled ones.
use Rattle.std.specs.Prelude.{ℕ, ◌+◌, ◌==◌, Bool, true, false, Option, Some, None, List}
use Rattle.amqp_flow.specs.Windows.{windows_sent}
use Rattle.amqp_rules.specs.declared.reply.Given.TheVariants.{Delivery}
use Rattle.amqp_rules.specs.View.{View, next_delivery}
use Rattle.amqp_links.specs.declared.fate.Fate.TheVariants.{Marked}
use Rattle.amqp_steps.specs.declared.start.Starting.{Starting}
use Rattle.amqp_steps.specs.declared.plan.Session.{Session}
use Rattle.amqp_steps.specs.declared.plan.Plan.{Plan}
use Rattle.amqp_steps.specs.Doing.{session_in}
use Rattle.amqp_rules.specs.View.{LinkView, rcv_mode}
use Rattle.amqp_performatives.specs.declared.bodies.Role.TheVariants.{Sender}
use Rattle.amqp_events.specs.Event.{Item}
use Rattle.amqp_deliveries.specs.declared.change.Change.{Change}
use Rattle.amqp_deliveries.specs.declared.change.Change.TheVariants.{Stay, Begins}

-- one more, unless it is sent settled
abbrev pub change_begun : Bool → Item → Change
change_begun true item = Stay
change_begun false item = Begins Sender item

-- the receiver of the link settles second
abbrev pub second_on : Option LinkView → Bool
second_on None = false
second_on (Some l) = rcv_mode l == 1

-- the session with one transfer more, which begins a delivery
abbrev pub started : Session → Session
started s = record s { windows = windows_sent s.windows; deliveries = s.deliveries + 1 }

-- the delivery that begins, as it is held
abbrev pub item_begun : ℕ → ℕ → List ℕ → Bool → Item
item_begun id link tag second = record { id = id; link = link; tag = tag; second = second; local = None; remote = None }

-- the plan of a delivery that begins
abbrev pub start_plan : View → ℕ → List ℕ → Bool → Starting → Plan
start_plan v link tag settled s =
    record {
      session = started (session_in v);
      fate = Marked s.on.key link s.on.marks;
      change = change_begun settled (item_begun (next_delivery v) link tag s.second);
      sent = Some s.sent;
      given = Delivery (next_delivery v);
    }
