-- What the sender is told of its deliveries (part 2, 2.6.12; part 3, 3.4): of each the first disposition, while it is unsettled, that
-- gives an outcome or settles it.
use Rattle.std.specs.Prelude.{ℕ, ◌==◌, ◌&&◌, ◌||◌, not, Bool, false, Option, None, Some, List, [], ◌∷◌, ◌++◌, map, filter, filter_map, cond, drop}
use Rattle.std.specs.List.{list_any}
use Rattle.amqp_performatives.specs.declared.state.DeliveryState.{DeliveryState}
use Rattle.amqp_performatives.specs.Outcome.{is_outcome}
use Rattle.amqp_events.specs.Event.{Disposition, Item, Event, Hears, Learns}
use Rattle.amqp_events.specs.Since.{total, or_earlier}
use Rattle.amqp_events.specs.Unsettled.{covers, shown, still_held, ends, said_to, begins}

-- what the application learns of a delivery: the peer's state of it then, with the disposition that told it
pub record Telling : Type 0 where
  pub id : ℕ
  pub link : ℕ
  pub tag : List ℕ
  pub state : Option DeliveryState
  pub by : Disposition

abbrev pub has_outcome : Option DeliveryState → Bool
has_outcome None = false
has_outcome (Some s) = is_outcome s

abbrev pub tells : Item → Event → Bool
tells i (Hears d) = covers d i && (d.settled || has_outcome d.state)
tells i _ = false

-- it was told before
abbrev pub is_told : Item × List Event → Bool
is_told d = list_any (tells d.0) d.1

abbrev pub telling : Disposition → Item → Telling
telling d i = record { id = i.id; link = i.link; tag = i.tag; state = or_earlier d.state i.remote; by = d }

-- of a delivery as it stands, told or not
abbrev pub tells_now : Event → Item → Bool → Option Telling
tells_now (Hears d) i known = cond (tells i (Hears d) && not known) (Some (telling d i)) None
tells_now _ i known = None

abbrev pub told_of : Event → Item × List Event → Option Telling
told_of e d = tells_now e (shown d) (is_told d)

-- what an event tells, in the order of the deliveries
abbrev pub told_by : Event → List Event → List Telling
told_by e before = filter_map (told_of e) (still_held before)

-- all that was told, in order
abbrev pub told : List Event → List Telling
told [] = []
told (e ∷ before) = told before ++ told_by e before

abbrev pub is_learn : ℕ → Event → Bool
is_learn k (Learns link) = link == k
is_learn k _ = false

abbrev pub learns : ℕ → List Event → ℕ
learns k past = total (λ e. cond (is_learn k e) 1 0) past

-- what was told on the link
abbrev pub told_on : ℕ → List Event → List Telling
told_on k past = filter (λ t. t.link == k) (told past)

-- and is not learnt yet
abbrev pub to_learn : ℕ → List Event → List Telling
to_learn k past = drop (learns k past) (told_on k past)

-- # As single changes

-- an unsettled delivery that we sent, and whether it was told
pub record SentItem : Type 0 where
  pub item : Item
  pub told : Bool

abbrev pub sent_item : Item × List Event → SentItem
sent_item d = record { item = shown d; told = is_told d }

abbrev pub sent_held : List Event → List SentItem
sent_held past = map sent_item (still_held past)

abbrev pub next_sent : Event → SentItem → SentItem
next_sent e s = record { item = said_to e s.item; told = tells s.item e || s.told }

abbrev pub added_sent : Option Item → List SentItem
added_sent None = []
added_sent (Some i) = record { item = i; told = false } ∷ []

abbrev pub next_sent_held : Event → List SentItem → List SentItem
next_sent_held e items = map (next_sent e) (filter (λ s. not (ends e s.item)) items) ++ added_sent (begins e)

-- what the event tells of these
abbrev pub tellings : Event → List SentItem → List Telling
tellings e items = filter_map (λ s. tells_now e s.item s.told) items

abbrev pub learnt : ℕ → Event → List Telling → List Telling
learnt k e ts = cond (is_learn k e) (drop 1 ts) ts

abbrev pub next_to_learn : ℕ → Event → List SentItem → List Telling → List Telling
next_to_learn k e items ts = learnt k e ts ++ filter (λ t. t.link == k) (tellings e items)
