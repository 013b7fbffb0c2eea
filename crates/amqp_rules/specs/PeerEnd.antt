-- An end that is heard (part 2, 2.5.2 and 2.7.8): the session has ended, and all its links are gone.
use Rattle.std.specs.Prelude.{◌+◌, ◌||◌, not, true, cond, None, Result, [], Ok}
use Rattle.amqp_rules.specs.declared.reply.Reply.{Reply}
use Rattle.amqp_rules.specs.declared.reply.Given.TheVariants.{Nothing}
use Rattle.amqp_rules.specs.declared.violation.Violation.{Violation}
use Rattle.amqp_rules.specs.declared.violation.ViolationKind.TheVariants.{OutOfSession}
use Rattle.amqp_rules.specs.View.{View, is_mapped, is_ending, takes_frames}
use Rattle.amqp_rules.specs.Refusing.{unless, unlinked}
use Rattle.amqp_rules.specs.Sending.{reply_ending}
use Rattle.amqp_events.specs.Event.{Over}
use Rattle.amqp_rules.specs.Deliveries.{ended_by}
use Rattle.amqp_rules.specs.End.{end_body}

-- a mapped session answers it
abbrev pub end_reply : View → Reply
end_reply v =
    cond (is_mapped v.session) (reply_ending (end_body None) [] (ended_by Over Over v) Nothing) (record { sent = []; ended = ended_by Over Over v; given = Nothing })

-- it answers our end, or comes while the peer's frames are taken
abbrev pub end_heard_answer : View → Result Reply Violation
end_heard_answer v = unless (not (is_ending v.session || takes_frames v.session)) (unlinked OutOfSession) (Ok (end_reply v))

abbrev pub next_end_heard : View → View
next_end_heard v = record v { steps = v.steps + 1; session = record v.session { end_heard = true }; links = []; sent = []; received = [] }
