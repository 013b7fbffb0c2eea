-- What a disposition asks of the deliveries that it covers (OASIS AMQP 1.0, part 2, 2.7.6 and 2.8.3).
use Rattle.std.specs.Prelude.{Bool, Option, List}
use Rattle.std.specs.List.{list_any}
use Rattle.amqp_performatives.specs.declared.state.DeliveryState.{DeliveryState}
use Rattle.amqp_events.specs.States.{is_fixed}
use Rattle.amqp_events.specs.Told.{SentItem}

-- of one of them at least
abbrev pub any_second : List SentItem → Bool
any_second items = list_any (λ s. s.item.second) items

abbrev pub any_fixed : Option DeliveryState → List SentItem → Bool
any_fixed state items = list_any (λ s. is_fixed state s.item) items
