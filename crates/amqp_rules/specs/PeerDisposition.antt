-- A disposition that is heard (part 2, 2.6.12 and 2.7.6).
use Rattle.std.specs.Prelude.{◌+◌, not, Bool, Some, Result, List, [], ◌∷◌, map}
use Rattle.amqp_performatives.specs.declared.bodies.DispositionBody.{DispositionBody}
use Rattle.amqp_performatives.specs.declared.performative.Performative.TheVariants as heard
use Rattle.amqp_events.specs.Event.{Event, Disposition}
use Rattle.amqp_events.specs.Unsettled.{next_held}
use Rattle.amqp_events.specs.Told.{SentItem, next_sent_held, next_to_learn}
use Rattle.amqp_rules.specs.declared.reply.Reply.{Reply}
use Rattle.amqp_rules.specs.declared.reply.Given.TheVariants.{Nothing}
use Rattle.amqp_rules.specs.declared.violation.Violation.{Violation}
use Rattle.amqp_rules.specs.declared.violation.ViolationKind.TheVariants.{OutOfSession, BadRange}
use Rattle.amqp_rules.specs.View.{View, LinkView, takes_frames}
use Rattle.amqp_rules.specs.Deliveries.{disposition_of, sent_by_body, received_by_body, ended_by}
use Rattle.amqp_rules.specs.Refusing.{first_refusal, answered, unlinked}
use Rattle.amqp_rules.specs.Dispose.{is_backwards}

abbrev pub disposition_violations : View → Disposition → List (Bool × Violation)
disposition_violations v d = (not (takes_frames v.session), unlinked OutOfSession) ∷ (is_backwards d.first d.last, unlinked BadRange) ∷ []

abbrev pub disposition_reply : View → DispositionBody → Reply
disposition_reply v b =
    record { sent = []; ended = ended_by (sent_by_body v (Some (heard.Disposition b))) (received_by_body v (Some (heard.Disposition b))) v; given = Nothing }

abbrev pub disposition_answer : View → DispositionBody → Result Reply Violation
disposition_answer v b = answered (first_refusal (disposition_violations v (disposition_of b))) (disposition_reply v b)

-- what is told of the link's deliveries is kept to be learnt
abbrev pub told_more : Event → List SentItem → LinkView → LinkView
told_more e items l = record l { told = next_to_learn l.number e items l.told }

abbrev pub next_disposition : View → DispositionBody → View
next_disposition v b =
    record v {
      steps = v.steps + 1;
      links = map (told_more (sent_by_body v (Some (heard.Disposition b))) v.sent) v.links;
      sent = next_sent_held (sent_by_body v (Some (heard.Disposition b))) v.sent;
      received = next_held (received_by_body v (Some (heard.Disposition b))) v.received;
    }
