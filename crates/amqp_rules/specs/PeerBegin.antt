-- A begin that is heard (part 2, 2.5.1 and 2.7.2).
use Rattle.std.specs.Prelude.{◌+◌, not, Bool, true, Result, List, [], ◌∷◌, unwrap_or}
use Rattle.amqp_performatives.specs.declared.bodies.BeginBody.{BeginBody}
use Rattle.amqp_flow.specs.Windows.{windows_begun}
use Rattle.amqp_rules.specs.declared.reply.Reply.{Reply}
use Rattle.amqp_rules.specs.declared.violation.Violation.{Violation}
use Rattle.amqp_rules.specs.declared.violation.ViolationKind.TheVariants.{OutOfSession}
use Rattle.amqp_rules.specs.View.{View, awaits_begin}
use Rattle.amqp_rules.specs.Refusing.{first_refusal, answered, unlinked}
use Rattle.amqp_rules.specs.Opened.{no_reply}

abbrev pub begin_violations : View → List (Bool × Violation)
begin_violations v = (not (awaits_begin v.session), unlinked OutOfSession) ∷ []

abbrev pub begin_heard_answer : View → Result Reply Violation
begin_heard_answer v = answered (first_refusal (begin_violations v)) no_reply

-- an absent handle-max is 4294967295
abbrev pub next_begin_heard : View → BeginBody → View
next_begin_heard v b =
    record v {
      steps = v.steps + 1;
      session = record v.session { begin_heard = true };
      windows = windows_begun b.next_outgoing_id b.incoming_window b.outgoing_window v.windows;
      handle_max = unwrap_or b.handle_max 4294967295;
    }
