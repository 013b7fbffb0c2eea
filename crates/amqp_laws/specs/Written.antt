-- The frames of all replies have octets (part 2, 2.3 and 2.4.1).
use Rattle.std.specs.Prelude.{◌≡◌, List, ◌∷◌, ◌++◌}
use Rattle.amqp_rules.specs.declared.config.Config.{Config}
use Rattle.amqp_rules.specs.Ranges.{IsBodyInRange, IsOpInRange}
use Rattle.amqp_rules.specs.Sound.{Every}
use Rattle.amqp_rules.specs.Written.{AllWritten}
use Rattle.amqp_laws.specs.declared.entry.Entry.{Entry}
use Rattle.amqp_laws.specs.declared.entry.Step.{Step}
use Rattle.amqp_laws.specs.declared.entry.Step.TheVariants.{Opened, Own, Heard}
use Rattle.amqp_laws.specs.Past.{past}
use Rattle.amqp_laws.specs.At.{at}

-- the numbers of a step that later frames tell are of 32 bits, as their types have it
abbrev pub IsStepInRange : Step → Type 0
IsStepInRange (Opened told) = Unit {0}
IsStepInRange (Own op) = IsOpInRange op
IsStepInRange (Heard f) = IsBodyInRange f.body

abbrev pub AreInRange : List Entry → Type 0
AreInRange past = Every (λ e. IsStepInRange e.step) past

-- each frame of each reply has octets, at most as many as the peer takes by then
abbrev pub RepliesAreWritten : Config → List Entry → Type 0
RepliesAreWritten c journal = (before after : List Entry) (e : Entry) → journal ≡ before ++ e ∷ after → AllWritten (at c (past before)).max_frame e.reply
