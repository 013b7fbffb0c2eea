-- Parts of what a heard flow leaves, as the private calls of the endpoint compute them.
use Rattle.std.specs.Prelude.{ℕ, ◌≡◌, ◌⊎◌, ◌&&◌, Bool, true, false, cond, Option, Some, None, []}
use Rattle.amqp_performatives.specs.declared.bodies.FlowBody.{FlowBody}
use Rattle.amqp_flow.specs.Windows.{WindowsView, session_is_ahead, windows_begun, windows_heard, windows_renewed}
use Rattle.amqp_performatives.specs.declared.performative.Performative.TheVariants.{Flow}
use Rattle.amqp_links.specs.declared.credit.Credit.{Credit}
use Rattle.amqp_steps.specs.declared.peer_flow.Flowing.{Flowing}
use Rattle.amqp_steps.specs.declared.plan.Session.{Session}
use Rattle.amqp_steps.specs.declared.plan.Plan.{Plan}
use Rattle.amqp_deliveries.specs.declared.change.Change.TheVariants.{Stay}
use Rattle.amqp_rules.specs.declared.reply.Given.TheVariants as given
use Rattle.amqp_rules.specs.declared.reply.Sent.{Sent}
use Rattle.amqp_rules.specs.Sending.{sent_of}
use Rattle.amqp_rules.specs.Flow.{session_part, asks_echo, count_ahead, credit_heard}
use Rattle.amqp_links.specs.Credits.{role_of, credit_in}
use Rattle.amqp_links.specs.Links.{IsFirst}
use Rattle.amqp_rules.specs.View.{View, LinkView, has_peer_handle}

-- the peer counts further than we have; before our begin there is no count of ours
abbrev pub session_ahead : Bool → FlowBody → WindowsView → Bool
session_ahead begun b w = begun && session_is_ahead (session_part b) w

-- the windows that the flow tells
abbrev pub windows_told_by : Bool → FlowBody → WindowsView → WindowsView
windows_told_by begun b w = cond begun (windows_heard (session_part b) w) (windows_begun b.next_outgoing_id b.incoming_window b.outgoing_window w)

-- a flow is sent in return
abbrev pub sends_echo : Bool → FlowBody → Bool
sends_echo begun b = asks_echo b && begun

abbrev pub session_after : FlowBody → Session → Session
session_after b s =
    record s { windows = cond (sends_echo s.begin_sent b) (windows_renewed (windows_told_by s.begin_sent b s.windows)) (windows_told_by s.begin_sent b s.windows) }

-- the flow names a link that we have left
pub record IsPassed (v : View) (b : FlowBody) : Type 0 where
  pub handle : ℕ
  pub on : LinkView
  pub names : b.handle ≡ Some handle
  pub called : IsFirst (has_peer_handle handle) v.links on
  pub left : on.left ≡ true

-- it names none, or such a one
abbrev pub IsStill : View → FlowBody → Type 0
IsStill v b = (b.handle ≡ None) ⊎ IsPassed v b

-- the credit of a link, whose attach of ours was sent or not
abbrev pub credit_ahead : Bool → FlowBody → Credit → Bool
credit_ahead ours b c = ours && count_ahead (role_of c) b (credit_in c)

abbrev pub IsCreditAfter : Bool → FlowBody → Credit → Credit → Type 0
IsCreditAfter ours b c n = (role_of n ≡ role_of c) × (credit_in n ≡ credit_heard (role_of c) ours b (credit_in c))

-- a flow is sent in return, or none
abbrev pub echo_sent : Bool → FlowBody → Option Sent
echo_sent true body = Some (sent_of (Some (Flow body)) [])
echo_sent false body = None

abbrev pub echo_plan : Flowing → Plan
echo_plan f = record { session = f.session; fate = f.fate; change = Stay; sent = echo_sent f.echo f.body; given = given.Nothing }
