-- The plans of a transfer that is heard, by how it comes.
use Rattle.std.specs.Prelude.{ℕ, ◌≡◌, ◌<◌, ◌^◌, true, false, cond, ◌||◌, find, unwrap_or, List, [], Option, None}
use Rattle.amqp_performatives.specs.declared.bodies.Role.TheVariants.{Receiver}
use Rattle.amqp_performatives.specs.declared.bodies.TransferBody.{TransferBody}
use Rattle.amqp_performatives.specs.declared.state.DeliveryState.{DeliveryState}
use Rattle.amqp_events.specs.Event.{Item}
use Rattle.amqp_rules.specs.Deliveries.{brought_by, item_of, state_brought, transferred}
use Rattle.amqp_rules.specs.Status.{waiting_of}
use Rattle.amqp_waiting.specs.Waiting.{WaitingItem}
use Rattle.amqp_flow.specs.Windows.{windows_received}
use Rattle.amqp_rules.specs.declared.reply.Given.TheVariants.{Nothing}
use Rattle.amqp_rules.specs.declared.violation.Violation.{Violation}
use Rattle.amqp_rules.specs.PeerTransfer.{next_transfer, transfer_answer, transfer_violations}
use Rattle.amqp_rules.specs.Refusing.{first_refusal}
use Rattle.amqp_rules.specs.View.{View, LinkView, has_number, has_peer_handle, takes_frames}
use Rattle.amqp_links.specs.declared.fate.Fate.TheVariants as fate
use Rattle.amqp_links.specs.Links.{IsFirst}
use Rattle.amqp_deliveries.specs.declared.change.Change.{Change}
use Rattle.amqp_deliveries.specs.declared.change.Change.TheVariants.{Stay, Begins, Continues}
use Rattle.amqp_steps.specs.declared.done.Done.{Done}
use Rattle.amqp_steps.specs.declared.arriving.Arriving.{Arriving}
use Rattle.amqp_steps.specs.declared.arriving.Arrival.{Arrival}
use Rattle.amqp_steps.specs.declared.arriving.Arrival.TheVariants.{Passed, Comes}
use Rattle.amqp_steps.specs.declared.plan.Session.{Session}
use Rattle.amqp_steps.specs.declared.plan.Plan.{Plan}
use Rattle.amqp_steps.specs.Doing.{session_in}
use Rattle.amqp_steps.specs.Plan.{IsPlan, IsSound, KeepsApart, plan_reply, planned, quiet_plan}
use Rattle.amqp_steps.specs.Transferring.{given_heard}

-- frames are taken, and a transfer on this link violates nothing
pub record IsHeard (v : View) (b : TransferBody) (payload : List ℕ) (l : LinkView) : Type 0 where
  pub takes : takes_frames v.session ≡ true
  pub found : IsFirst (has_peer_handle b.handle) v.links l
  pub free : first_refusal (transfer_violations v b payload l) ≡ None

-- the plan of the transfer
abbrev pub PlansTransfer : View → TransferBody → List ℕ → Plan → Type 0
PlansTransfer v b payload p = IsPlan {E = Violation} v (transfer_answer v b payload) (next_transfer v b payload) p

-- the session once a transfer was heard
abbrev pub heard_session : Session → Option ℕ → Session
heard_session s expected = record s { windows = windows_received s.windows; expected = expected }

-- the delivery that a first transfer begins, with our state of it
abbrev pub item_back : ℕ → ℕ → TransferBody → Option DeliveryState → Item
item_back number mode b local = record (item_of number (transferred mode b []) b.state) { local = local }

-- that which a first transfer brings in, where it waits on the link with this number
abbrev pub brought_on : View → ℕ → TransferBody → Option WaitingItem
brought_on v number b = brought_by (transferred 0 b []) (waiting_of (find (has_number number) v.links))

abbrev pub item_arriving : View → TransferBody → Arriving → Item
item_arriving v b a = item_back a.number a.mode b (state_brought (brought_on v a.number b))

-- what a transfer makes of the unsettled deliveries that begins none
abbrev pub change_on : TransferBody → Arriving → Change
change_on b a = cond a.first Stay (Continues Receiver a.id b.state (unwrap_or b.settled false || unwrap_or b.aborted false))

-- what a transfer makes of the unsettled deliveries
abbrev pub change_arriving : View → TransferBody → Arriving → Change
change_arriving v b a = cond a.begins (Begins Receiver (item_arriving v b a)) (change_on b a)

abbrev pub passed_plan : View → Option ℕ → Plan
passed_plan v expected = quiet_plan (heard_session (session_in v) expected) fate.Stay Stay Nothing

abbrev pub arriving_plan : View → TransferBody → List ℕ → Arriving → Plan
arriving_plan v b payload a = quiet_plan (heard_session (session_in v) a.expected) (fate.Heard a.key a.number a.marks (transferred a.mode b payload)) (change_arriving v b a) (given_heard a.number a.id a.resumed b)

abbrev pub arrival_plan : View → TransferBody → List ℕ → Arrival → Plan
arrival_plan v b payload (Passed expected) = passed_plan v expected
arrival_plan v b payload (Comes a) = arriving_plan v b payload a

-- the transfer may come so
pub record MayCome (v : View) (b : TransferBody) (payload : List ℕ) (a : Arriving) : Type 0 where
  pub steps : v.steps < 2 ^ 30
  pub window : 0 < v.windows.incoming
  pub sound : IsSound v (arriving_plan v b payload a)
  pub apart : KeepsApart v (planned v (arriving_plan v b payload a))

-- the transfer has come, and gives this
pub record HasCome (v new : View) (b : TransferBody) (payload : List ℕ) (a : Arriving) (d : Done) : Type 0 where
  pub reply : d.reply ≡ plan_reply (arriving_plan v b payload a) v
  pub octets : d.octets ≡ None
  pub given : d.given ≡ d.reply.given
  pub next : new ≡ planned v (arriving_plan v b payload a)
