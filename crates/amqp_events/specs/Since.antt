-- Things that began along a journal, each with the events since, the newest first.
use Rattle.std.specs.Prelude.{zero, suc, ◌+◌, ℕ, Option, None, Some, List, [], ◌∷◌, ◌++◌, map}
use Rattle.amqp_events.specs.Event.{Event}

-- n and k more
abbrev pub more : ℕ → ℕ → ℕ
more zero n = n
more (suc k) n = more k n + 1

-- a number of each event, added up
abbrev pub total : (Event → ℕ) → List Event → ℕ
total number [] = 0
total number (e ∷ before) = more (number e) (total number before)

-- one event more was since
abbrev pub with_one : {A : Type 0} → Event → A × List Event → A × List Event
with_one e x = (x.0, e ∷ x.1)

-- just now
abbrev pub now : {A : Type 0} → Option A → List (A × List Event)
now None = []
now (Some a) = (a, []) ∷ []

-- what began, in order, each with the events since
abbrev pub each_since : {A : Type 0} → (Event → Option A) → List Event → List (A × List Event)
each_since begins [] = []
each_since begins (e ∷ before) = map (with_one e) (each_since begins before) ++ now (begins e)

-- what was said, or else what was said earlier
abbrev pub or_earlier : {A : Type 0} → Option A → Option A → Option A
or_earlier None earlier = earlier
or_earlier (Some a) earlier = Some a

-- what was said last in these events, or else this
abbrev pub last_said : {A : Type 0} → (Event → Option A) → Option A → List Event → Option A
last_said says first [] = first
last_said says first (e ∷ since) = or_earlier (says e) (last_said says first since)
