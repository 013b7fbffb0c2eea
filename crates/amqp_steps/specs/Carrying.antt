-- What a further transfer makes of the session.
use Rattle.std.specs.Prelude.{ℕ, Some}
use Rattle.amqp_flow.specs.Windows.{windows_sent}
use Rattle.amqp_rules.specs.declared.reply.Given.TheVariants.{Nothing}
use Rattle.amqp_rules.specs.View.{View}
use Rattle.amqp_links.specs.declared.fate.Fate.TheVariants.{Marked}
use Rattle.amqp_deliveries.specs.declared.change.Change.TheVariants.{Stay}
use Rattle.amqp_steps.specs.declared.carry.Carrying.{Carrying}
use Rattle.amqp_steps.specs.declared.plan.Session.{Session}
use Rattle.amqp_steps.specs.declared.plan.Plan.{Plan}
use Rattle.amqp_steps.specs.Doing.{session_in}

-- the session with one transfer more
abbrev pub carried_session : Session → Session
carried_session s = record s { windows = windows_sent s.windows }

-- the plan of a further transfer
abbrev pub carry_plan : View → ℕ → Carrying → Plan
carry_plan v link c = record { session = carried_session (session_in v); fate = Marked c.on.key link c.on.marks; change = Stay; sent = Some c.sent; given = Nothing }
