-- What is told of unsettled deliveries, at places of the table (OASIS AMQP 1.0, part 2, 2.6.12).
use Rattle.std.specs.Prelude.{Bool, ◌||◌, cond, Option, Some, None}
use Rattle.amqp_performatives.specs.declared.state.DeliveryState.{DeliveryState}
use Rattle.amqp_events.specs.Event.{Item, Disposition}
use Rattle.amqp_events.specs.Told.{SentItem, Telling, telling}
use Rattle.amqp_events.specs.Table.{with_local, with_remote}
use Rattle.amqp_deliveries.specs.declared.item.Side.{Side}
use Rattle.amqp_deliveries.specs.declared.item.Side.TheVariants.{Local, Remote}

-- it with a state that one end gave it
abbrev pub with_state : Side → DeliveryState → Item → Item
with_state Local state i = with_local state i
with_state Remote state i = with_remote state i

-- the same, and it is told where that tells it
abbrev pub stated : Side → Bool → DeliveryState → SentItem → SentItem
stated side tells state s = record { item = with_state side state s.item; told = tells || s.told }

-- what is told of it, where it was not told before
abbrev pub told_first : Disposition → SentItem → Option Telling
told_first d s = cond s.told None (Some (telling d s.item))
