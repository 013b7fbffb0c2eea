-- Begin: the session is begun, or the peer's begin is answered (part 2, 2.5.1 and 2.7.2).
use Rattle.std.specs.Prelude.{◌+◌, not, Bool, true, Option, Some, None, Result, List, [], ◌∷◌, cond}
use Rattle.amqp_performatives.specs.declared.performative.Performative.{Performative}
use Rattle.amqp_performatives.specs.declared.performative.Performative.TheVariants.{Begin}
use Rattle.amqp_flow.specs.Windows.{next_outgoing, windows_renewed}
use Rattle.amqp_rules.specs.declared.reply.Reply.{Reply}
use Rattle.amqp_rules.specs.declared.reply.Given.TheVariants.{Nothing}
use Rattle.amqp_rules.specs.declared.refusal.Refusal.{Refusal}
use Rattle.amqp_rules.specs.declared.refusal.Refusal.TheVariants.{AlreadyBegun}
use Rattle.amqp_rules.specs.View.{View, may_begin}
use Rattle.amqp_rules.specs.Sending.{sends}

-- it names the peer's channel, which is 0, where it answers
abbrev pub begin_body : View → Option Performative
begin_body v =
    Some (Begin (record {
      remote_channel = cond v.session.begin_heard (Some 0) None;
      next_outgoing_id = next_outgoing v.windows;
      incoming_window = v.windows.window;
      outgoing_window = 2147483647;
      handle_max = None;
      offered_capabilities = None;
      desired_capabilities = None;
      properties = None;
    }))

abbrev pub begin_refusals : View → List (Bool × Refusal)
begin_refusals v = (not (may_begin v.session), AlreadyBegun) ∷ []

abbrev pub begin_answer : View → Result Reply Refusal
begin_answer v = sends v.max_frame (begin_refusals v) (begin_body v) [] Nothing

abbrev pub next_begin : View → View
next_begin v =
    record v { steps = v.steps + 1; session = record v.session { begin_sent = true }; windows = windows_renewed v.windows }
