-- The states that end a delivery's work (OASIS AMQP 1.0, part 3, 3.4).
use Rattle.std.specs.Prelude.{Bool, true, false}
use Rattle.amqp_performatives.specs.declared.state.DeliveryState.{DeliveryState}
use Rattle.amqp_performatives.specs.declared.state.DeliveryState.TheVariants.{Received, Other}

-- a state that does not change any more
abbrev pub is_outcome : DeliveryState → Bool
is_outcome (Received _ _) = false
is_outcome (Other _) = false
is_outcome _ = true
