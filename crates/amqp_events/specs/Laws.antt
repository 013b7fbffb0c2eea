-- The laws of deliveries, along all events of one direction.
use Rattle.std.specs.Prelude.{ℕ, ◌≡◌, ◌≢◌, ◌<◌, true, List, [], ◌∷◌, length, All, AllPairs}
use Rattle.amqp_flow.specs.Serial.{is_before}
use Rattle.amqp_events.specs.Event.{Item, Event, Learns}
use Rattle.amqp_events.specs.Told.{to_learn}

-- each comes before all that follow it
abbrev pub AreInOrder : List Item → Type 0
AreInOrder items = AllPairs (λ i j. is_before i.id j.id ≡ true) items

-- the id comes after them all
abbrev pub IsPast : ℕ → List Item → Type 0
IsPast id items = All (λ i. is_before i.id id ≡ true) items

abbrev pub AreDistinct : List ℕ → Type 0
AreDistinct ids = AllPairs (λ i j. i ≢ j) ids

-- something is there where the application learns
abbrev pub LearnsSome : Event → List Event → Type 0
LearnsSome (Learns link) past = 0 < length (to_learn link past)
LearnsSome _ past = Unit {0}

abbrev pub AreLearnt : List Event → Type 0
AreLearnt [] = Unit {0}
AreLearnt (e ∷ before) = AreLearnt before × LearnsSome e before
