-- Beat: an empty frame, by which the peer knows that we are there (part 2, 2.4.5).
use Rattle.std.specs.Prelude.{◌+◌, None, Result, []}
use Rattle.amqp_rules.specs.declared.reply.Reply.{Reply}
use Rattle.amqp_rules.specs.declared.reply.Given.TheVariants.{Nothing}
use Rattle.amqp_rules.specs.declared.refusal.Refusal.{Refusal}
use Rattle.amqp_rules.specs.View.{View}
use Rattle.amqp_rules.specs.Sending.{sends}

abbrev pub beat_answer : View → Result Reply Refusal
beat_answer v = sends v.max_frame [] None [] Nothing

abbrev pub next_beat : View → View
next_beat v = record v { steps = v.steps + 1 }
