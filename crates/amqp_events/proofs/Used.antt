-- How many ids events have used.
use Rattle.std.proofs.Common.{ℕ, Bool, true, false, Option, List, [], ◌∷◌, cond}
use Rattle.amqp_events.specs.Event.{Event, Begins, PassesOver}
use Rattle.amqp_events.specs.Numbers.{is_expected, expected}
use Rattle.amqp_events.specs.Since.{more}

-- the event uses an id: it begins a delivery, or it is passed over and has the id that is expected
abbrev pub uses : Event → Option ℕ → Bool
uses (Begins item unsettled) next = true
uses (PassesOver id) next = is_expected id next
uses _ next = false

-- how many ids were used
abbrev pub used : List Event → ℕ
used [] = 0
used (e ∷ before) = more (cond (uses e (expected before)) 1 0) (used before)
