-- The tags of unsettled deliveries (part 2, 2.6.12): no two on a link are the same.
use Rattle.std.specs.Prelude.{ℕ, ◌≡◌, ◌==◌, ◌&&◌, Bool, true, false, List, [], ◌∷◌, AllPairs, nat_eq}
use Rattle.std.specs.List.{list_any}
use Rattle.std.specs.Cmp.Lexicographic.{pointwise}
use Rattle.amqp_events.specs.Event.{Item, Event, Begins}
use Rattle.amqp_events.specs.Unsettled.{held}

-- a delivery on this link with this tag
abbrev pub is_tagged : ℕ → List ℕ → Item → Bool
is_tagged k tag i = i.link == k && pointwise nat_eq tag i.tag

-- an unsettled delivery that begins has a tag that is free on its link
abbrev pub IsFree : Event → List Event → Type 0
IsFree (Begins item true) before = list_any (is_tagged item.link item.tag) (held before) ≡ false
IsFree _ before = Unit {0}

abbrev pub AreFree : List Event → Type 0
AreFree [] = Unit {0}
AreFree (e ∷ before) = AreFree before × IsFree e before

-- no later delivery is on the link of an earlier one with its tag
abbrev pub AreApart : List Item → Type 0
AreApart items = AllPairs (λ i j. is_tagged j.link j.tag i ≡ false) items
