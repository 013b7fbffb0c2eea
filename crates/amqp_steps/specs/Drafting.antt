-- A step that sends a frame, as it is drafted: before the frame is measured, or written.
use Rattle.std.specs.Prelude.{ℕ, ◌≡◌, Option, Some, Result, Ok, Err, List}
use Rattle.amqp_performatives.specs.declared.bodies.FlowBody.{FlowBody}
use Rattle.amqp_performatives.specs.declared.performative.Performative.{Performative}
use Rattle.amqp_performatives.specs.declared.performative.Performative.TheVariants.{Flow}
use Rattle.amqp_flow.specs.Windows.{windows_renewed}
use Rattle.amqp_links.specs.declared.fate.Fate.{Fate}
use Rattle.amqp_deliveries.specs.declared.change.Change.TheVariants.{Stay}
use Rattle.amqp_rules.specs.declared.refusal.Refusal.{Refusal}
use Rattle.amqp_rules.specs.declared.reply.Reply.{Reply}
use Rattle.amqp_rules.specs.declared.reply.Given.TheVariants.{Nothing}
use Rattle.amqp_rules.specs.View.{View}
use Rattle.amqp_rules.specs.Refusing.{answered}
use Rattle.amqp_rules.specs.Sending.{frame_refused}
use Rattle.amqp_steps.specs.declared.drafting.Draft.{Draft}
use Rattle.amqp_steps.specs.declared.plan.Session.{Session}
use Rattle.amqp_steps.specs.declared.plan.Plan.{Plan}
use Rattle.amqp_steps.specs.Plan.{IsSound, plan_reply, planned, sending_plan}

-- the plan of a step that has this answer, unless the frame with this body and payload is refused, and leaves this view
pub record IsDraft (v : View) (answer : Result Reply Refusal) (after : View) (body : Option Performative) (payload : List ℕ) (p : Plan) : Type 0 where
  pub due : answer ≡ answered (frame_refused v.max_frame body payload) (plan_reply p v)
  pub leaves : after ≡ planned v p
  pub sound : IsSound v p

-- the call drafts that step, whose frame has this payload, or it refuses as the answer does
abbrev pub Drafts : View → Result Reply Refusal → View → List ℕ → Result Draft Refusal → Type 0
Drafts v answer after payload (Ok d) = IsDraft v answer after d.body payload (sending_plan d.session d.fate d.change d.body payload Nothing)
Drafts v answer after payload (Err e) = answer ≡ Err e

-- a step that sends a flow
abbrev pub flow_draft : Session → Fate → FlowBody → Draft
flow_draft s fate told = record { session = record s { windows = windows_renewed s.windows }; fate = fate; change = Stay; body = Some (Flow told) }
