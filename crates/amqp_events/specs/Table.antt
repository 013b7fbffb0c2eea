-- The words of a table of unsettled deliveries: which of them a range covers, and one whose state was told.
use Rattle.std.specs.Prelude.{ℕ, Bool, Some}
use Rattle.amqp_flow.specs.Serial.{is_inside}
use Rattle.amqp_performatives.specs.declared.state.DeliveryState.{DeliveryState}
use Rattle.amqp_events.specs.Event.{Item}

-- its id is one of those from first to last
abbrev pub in_range : ℕ → ℕ → Item → Bool
in_range first last i = is_inside i.id first last

abbrev pub with_local : DeliveryState → Item → Item
with_local state i = record i { local = Some state }

abbrev pub with_remote : DeliveryState → Item → Item
with_remote state i = record i { remote = Some state }
