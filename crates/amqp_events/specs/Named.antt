-- The deliveries that are named as ended.
use Rattle.std.specs.Prelude.{ℕ, ◌==◌, not, Bool, List, [], ◌∷◌, ◌++◌, map, filter}
use Rattle.std.specs.List.{list_any}
use Rattle.amqp_events.specs.Event.{Item, Event}
use Rattle.amqp_events.specs.Unsettled.{begun, held}

abbrev pub ids_of : List Item → List ℕ
ids_of items = map (λ i. i.id) items

abbrev pub has_id : List Item → ℕ → Bool
has_id items id = list_any (λ i. i.id == id) items

-- the ids of those before that are not among those after
abbrev pub ids_gone : List Item → List Item → List ℕ
ids_gone before after = ids_of (filter (λ i. not (has_id after i.id)) before)

-- the ids that an event ends
abbrev pub ended_by : Event → List Event → List ℕ
ended_by e before = ids_gone (held before) (held (e ∷ before))

-- all that were named, in order
abbrev pub named : List Event → List ℕ
named [] = []
named (e ∷ before) = named before ++ ended_by e before

-- the ids of the deliveries that began unsettled, in order
abbrev pub ids_begun : List Event → List ℕ
ids_begun past = map (λ d. d.0.id) (begun past)

abbrev pub is_among : List ℕ → ℕ → Bool
is_among ids id = list_any (λ j. j == id) ids

-- the ids that are not among those
abbrev pub less : List ℕ → List ℕ → List ℕ
less ids gone = filter (λ id. not (is_among gone id)) ids
