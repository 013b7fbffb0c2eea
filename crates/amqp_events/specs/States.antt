-- Outcomes (part 3, 3.4): states that are final, so an end that gave one keeps to it (part 2, 2.6.12).
use Rattle.std.specs.Prelude.{◌&&◌, Bool, false, not, Option, None, Some}
use Rattle.amqp_performatives.specs.declared.state.DeliveryState.{DeliveryState}
use Rattle.amqp_performatives.specs.contracts.state.DeliveryStatePartialEq.TheImpl.{ghosts}
use Rattle.amqp_performatives.specs.Outcome.{is_outcome}
use Rattle.amqp_events.specs.Event.{Item}

-- the two are one state, as == says
abbrev pub same_state : DeliveryState → DeliveryState → Bool
same_state = ghosts.eq

-- an outcome was given, and not this state
abbrev pub has_other : DeliveryState → Option DeliveryState → Bool
has_other state None = false
has_other state (Some given) = is_outcome given && not (same_state given state)

-- we gave the delivery an outcome, and not the state that is asked for
abbrev pub is_fixed : Option DeliveryState → Item → Bool
is_fixed None i = false
is_fixed (Some state) i = has_other state i.local
