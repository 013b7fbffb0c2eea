-- The peer's open told the longest frame that it takes (part 2, 2.7.1): at least 512 octets.
use Rattle.std.specs.Prelude.{ℕ, ◌+◌, [], max}
use Rattle.amqp_rules.specs.declared.reply.Reply.{Reply}
use Rattle.amqp_rules.specs.declared.reply.Given.TheVariants.{Nothing}
use Rattle.amqp_rules.specs.View.{View}

-- nothing is sent, ended or given
abbrev pub no_reply : Reply
no_reply = record { sent = []; ended = []; given = Nothing }

abbrev pub next_opened : View → ℕ → View
next_opened v told = record v { steps = v.steps + 1; max_frame = max 512 told }
