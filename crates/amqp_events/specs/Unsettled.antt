-- The unsettled deliveries of one direction (part 2, 2.6.12): those that began and that nothing since has ended, each with the last state
-- that either end gave it.
use Rattle.std.specs.Prelude.{◌==◌, ◌&&◌, not, Bool, true, false, Option, None, Some, List, [], ◌∷◌, ◌++◌, map, filter, cond}
use Rattle.std.specs.List.{list_any}
use Rattle.amqp_flow.specs.Serial.{is_inside}
use Rattle.amqp_performatives.specs.declared.state.DeliveryState.{DeliveryState}
use Rattle.amqp_events.specs.Event.{Disposition, Item, Event, Begins, Continues, Says, Hears, Leaves, Over}
use Rattle.amqp_events.specs.Since.{each_since, last_said, or_earlier}

-- # What one event says of a delivery

-- its id is one of those that the disposition speaks of
abbrev pub covers : Disposition → Item → Bool
covers d i = is_inside i.id d.first d.last

-- the delivery that it begins, if it is unsettled
abbrev pub begins : Event → Option Item
begins (Begins item unsettled) = cond unsettled (Some item) None
begins _ = None

-- it ends the delivery: it settles it or aborts it, or its link or its session ends
abbrev pub ends : Event → Item → Bool
ends (Continues id state over) i = over && i.id == id
ends (Says d) i = d.settled && covers d i
ends (Hears d) i = d.settled && covers d i
ends (Leaves link) i = i.link == link
ends Over i = true
ends _ i = false

-- the state that we give it
abbrev pub says_local : Item → Event → Option DeliveryState
says_local i (Says d) = cond (covers d i) d.state None
says_local i _ = None

-- the state that the peer gives it
abbrev pub says_remote : Item → Event → Option DeliveryState
says_remote i (Hears d) = cond (covers d i) d.state None
says_remote i (Continues id state over) = cond (i.id == id) state None
says_remote i _ = None

-- # Over a whole journal

-- the deliveries that began unsettled, in order, each with the events since
abbrev pub begun : List Event → List (Item × List Event)
begun past = each_since begins past

-- no event since has ended it
abbrev pub is_held : Item × List Event → Bool
is_held d = not (list_any (λ e. ends e d.0) d.1)

-- with the last states that were given
abbrev pub shown : Item × List Event → Item
shown d = record d.0 { local = last_said (says_local d.0) d.0.local d.1; remote = last_said (says_remote d.0) d.0.remote d.1 }

-- those of them that are not ended
abbrev pub still_held : List Event → List (Item × List Event)
still_held past = filter is_held (begun past)

-- the unsettled deliveries
abbrev pub held : List Event → List Item
held past = map shown (still_held past)

-- # As single changes

abbrev pub said_to : Event → Item → Item
said_to e i = record i { local = or_earlier (says_local i e) i.local; remote = or_earlier (says_remote i e) i.remote }

abbrev pub added : Option Item → List Item
added None = []
added (Some i) = i ∷ []

abbrev pub next_held : Event → List Item → List Item
next_held e items = map (said_to e) (filter (λ i. not (ends e i)) items) ++ added (begins e)
