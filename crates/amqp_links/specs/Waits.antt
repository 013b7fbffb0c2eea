-- What waits on a link to be taken.
use Rattle.std.specs.Prelude.{Option, Some, None, List, [], ◌∷◌}
use Rattle.std.specs.Borrow.{Bor}
use Rattle.amqp_events.specs.Joined.{Delivery}
use Rattle.amqp_events.specs.Told.{Telling}

abbrev pub seen : Bor Delivery → Delivery
seen w = w.now

abbrev pub first_waiting : List Delivery → Option Delivery
first_waiting [] = None
first_waiting (d ∷ ds) = Some d

abbrev pub heard : Bor Telling → Telling
heard t = t.now

abbrev pub first_told : List Telling → Option Telling
first_told [] = None
first_told (t ∷ ts) = Some t
