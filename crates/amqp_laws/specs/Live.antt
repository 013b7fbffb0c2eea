-- Frames that come after our end, but for the peer's end, are dropped (part 2, 2.5.5). The live journal is without them.
use Rattle.std.specs.Prelude.{◌&&◌, List, [], ◌∷◌, cond}
use Rattle.amqp_laws.specs.declared.entry.Entry.{Entry}
use Rattle.amqp_laws.specs.Past.{some_entry}
use Rattle.amqp_laws.specs.Said.{ends, hears_no_end}

abbrev pub live : List Entry → List Entry
live [] = []
live (e ∷ before) = cond (some_entry ends (live before) && hears_no_end e.step) (live before) (e ∷ live before)
