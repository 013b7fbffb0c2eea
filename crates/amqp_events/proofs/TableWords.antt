-- What an event does to unsettled deliveries, as a call of a table.
use Rattle.std.proofs.Common.{◌≡◌, true, List, [], ◌∷◌, ◌++◌, map, refl}
use Rattle.amqp_events.specs.Event.{Item, Begins}
use Rattle.amqp_events.specs.Unsettled.{ends, said_to, next_held}
use Rattle.amqp_events.proofs.Gone.{keeps-all}

map-itself : (f : Item → Item) → ((i : Item) → f i ≡ i) → (items : List Item) → map f items ≡ items
map-itself f h [] = refl
map-itself f h (i ∷ items) = rw (h i, map-itself f h items) refl

pub begin-adds : (item : Item) (items : List Item) → next_held (Begins item true) items ≡ items ++ item ∷ []
begin-adds item items = rw (keeps-all (ends (Begins item true)) items (λ i. refl), map-itself (said_to (Begins item true)) (λ i. refl) items) refl
