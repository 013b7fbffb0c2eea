-- A step that is done at once: what it gives, and what it leaves.
use Rattle.std.specs.Prelude.{ℕ, ◌≡◌, Bool, true, false, Option, Some, Result, Ok, Err, List, map, option_to_list}
use Rattle.amqp_performatives.specs.declared.performative.Performative.{Performative}
use Rattle.amqp_performatives.specs.declared.performative.Performative.TheVariants.{Transfer}
use Rattle.amqp_rules.specs.declared.op.Op.{Op}
use Rattle.amqp_rules.specs.declared.op.Op.TheVariants.{Start, Carry, Learn, Take}
use Rattle.amqp_rules.specs.declared.reply.Reply.{Reply}
use Rattle.amqp_rules.specs.declared.reply.Taken.{Taken}
use Rattle.amqp_rules.specs.declared.reply.Learned.{Learned}
use Rattle.amqp_rules.specs.declared.reply.Given.TheVariants as given
use Rattle.amqp_rules.specs.View.{View}
use Rattle.amqp_links.specs.declared.fate.Fate.TheVariants as fate
use Rattle.amqp_deliveries.specs.declared.change.Change.TheVariants.{Stay}
use Rattle.amqp_steps.specs.declared.done.Done.{Done}
use Rattle.amqp_steps.specs.declared.plan.Session.{Session}
use Rattle.amqp_steps.specs.declared.plan.Plan.{Plan}
use Rattle.amqp_steps.specs.Plan.{IsRefused, quiet_plan}

-- it has the reply that is due, and leaves the view that is due
pub record IsDone {E : Type 0} (answer : Result Reply E) (after new : View) (d : Done) : Type 0 where
  pub due : answer ≡ Ok d.reply
  pub leaves : new ≡ after
  pub octets : option_to_list d.octets ≡ map (λ s. s.bytes) d.reply.sent
  pub given : d.given ≡ d.reply.given

-- the step is done; or the call refuses as the answer does, or for want of memory
abbrev pub Does : {E : Type 0} → E → Result Reply E → View → View → Result Done E → Type 0
Does no_memory answer after new (Ok d) = IsDone answer after new d
Does no_memory answer after new (Err e) = IsRefused no_memory answer e

-- the same of a step that tells the application by its reply alone
pub record IsDoneOnce {E : Type 0} (answer : Result Reply E) (after new : View) (reply : Reply) (octets : Option (List ℕ)) : Type 0 where
  pub due : answer ≡ Ok reply
  pub leaves : new ≡ after
  pub sends : option_to_list octets ≡ map (λ s. s.bytes) reply.sent

abbrev pub DoesOnce : {E : Type 0} → E → Result Reply E → View → View → Result (Reply × Option (List ℕ)) E → Type 0
DoesOnce no_memory answer after new (Ok both) = IsDoneOnce answer after new both.0 both.1
DoesOnce no_memory answer after new (Err e) = IsRefused no_memory answer e

-- the reply that is due, told before the step is done
abbrev pub Foretells : {E : Type 0} → E → Result Reply E → Result Reply E → Type 0
Foretells no_memory answer (Ok reply) = answer ≡ Ok reply
Foretells no_memory answer (Err e) = IsRefused no_memory answer e

-- the reply that is due, twice
abbrev pub Replies : {E : Type 0} → E → Result Reply E → Result (Reply × Reply) E → Type 0
Replies no_memory answer (Ok both) = (answer ≡ Ok both.0) × (answer ≡ Ok both.1)
Replies no_memory answer (Err e) = IsRefused no_memory answer e

-- the session of a view
abbrev pub session_in : View → Session
session_in v =
    record {
      begin_sent = v.session.begin_sent;
      begin_heard = v.session.begin_heard;
      end_sent = v.session.end_sent;
      end_heard = v.session.end_heard;
      windows = v.windows;
      deliveries = v.deliveries;
      expected = v.expected;
      max_frame = v.max_frame;
      handle_max = v.handle_max;
    }

-- the plan of what is taken on a link, and of what is learnt
abbrev pub take_plan : View → ℕ → ℕ → Taken → Plan
take_plan v key link taken = quiet_plan (session_in v) (fate.Taken key link) Stay (given.Taken taken)

abbrev pub learn_plan : View → ℕ → ℕ → Learned → Plan
learn_plan v key link learned = quiet_plan (session_in v) (fate.Learnt key link) Stay (given.Learned learned)

-- the operations that are done by a plan
abbrev pub is_planned : Op → Bool
is_planned (Start link tag format settled payload more) = false
is_planned (Carry link payload more) = false
is_planned (Learn link) = false
is_planned (Take link) = false
is_planned _ = true

abbrev pub is_transfer : Option Performative → Bool
is_transfer (Some (Transfer b)) = true
is_transfer _ = false
