-- A disposition of ours, with its state lent, and what the unsettled deliveries refuse to it (part 2, 2.6.12 and 2.7.6).
use Rattle.std.specs.Prelude.{Bool, ◌&&◌, List, [], ◌∷◌, filter}
use Rattle.std.specs.List.{list_any}
use Rattle.amqp_performatives.specs.declared.bodies.Role.{Role}
use Rattle.amqp_events.specs.Event.{Item, Disposition}
use Rattle.amqp_events.specs.Unsettled.{covers}
use Rattle.amqp_events.specs.States.{is_fixed}
use Rattle.amqp_rules.specs.declared.refusal.Refusal.{Refusal}
use Rattle.amqp_rules.specs.declared.refusal.Refusal.TheVariants.{NothingHeld, MustNotSettle, OutcomeFixed}
use Rattle.amqp_rules.specs.Dispose.{is_empty, waits_for_sender}
use Rattle.amqp_steps.specs.declared.dispose.Said.{Said}

-- the rows of the table that speak of deliveries
abbrev pub held_refusals : Role → Disposition → List Item → List (Bool × Refusal)
held_refusals role d items =
    (is_empty (filter (covers d) items), NothingHeld)
    ∷ (d.settled && list_any (waits_for_sender role) (filter (covers d) items), MustNotSettle)
    ∷ (list_any (is_fixed d.state) (filter (covers d) items), OutcomeFixed)
    ∷ []

abbrev pub said_in : Said → Disposition
said_in s = record { first = s.first; last = s.last; settled = s.settled; state = s.state.now }
