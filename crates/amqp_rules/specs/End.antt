-- End: we end the session, and all its links are gone (part 2, 2.5.2 and 2.7.8).
use Rattle.std.specs.Prelude.{◌+◌, not, true, Option, Some, Result, [], ◌∷◌}
use Rattle.amqp_performatives.specs.declared.error.AmqpError.{AmqpError}
use Rattle.amqp_performatives.specs.declared.performative.Performative.{Performative}
use Rattle.amqp_performatives.specs.declared.performative.Performative.TheVariants.{End}
use Rattle.amqp_rules.specs.declared.reply.Reply.{Reply}
use Rattle.amqp_rules.specs.declared.reply.Given.TheVariants.{Nothing}
use Rattle.amqp_rules.specs.declared.refusal.Refusal.{Refusal}
use Rattle.amqp_rules.specs.declared.refusal.Refusal.TheVariants.{NotMapped}
use Rattle.amqp_rules.specs.View.{View, is_mapped}
use Rattle.amqp_events.specs.Event.{Over}
use Rattle.amqp_rules.specs.Deliveries.{ended_by}
use Rattle.amqp_rules.specs.Sending.{sends_ending}

abbrev pub end_body : Option AmqpError → Option Performative
end_body error = Some (End (record { error = error }))

abbrev pub end_answer : View → Option AmqpError → Result Reply Refusal
end_answer v error = sends_ending v.max_frame ((not (is_mapped v.session), NotMapped) ∷ []) (end_body error) (ended_by Over Over v) Nothing

abbrev pub next_end : View → View
next_end v = record v { steps = v.steps + 1; session = record v.session { end_sent = true }; links = []; sent = []; received = [] }
