-- What of a line was not taken yet.
use Rattle.std.specs.Prelude.{ℕ, List, []}
use Rattle.std.specs.Option.{option_map_or}
use Rattle.amqp_script.specs.declared.words.Words.{Words}
use Rattle.amqp_script.specs.Words.{words}

-- the words that are left
abbrev pub left : Words → List (List ℕ)
left w = option_map_or (λ rest. words rest.now) w.rest []
