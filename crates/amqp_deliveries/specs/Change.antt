-- What a step makes of the unsettled deliveries of both roles (OASIS AMQP 1.0, part 2, 2.6.12), and what it ends.
use Rattle.std.specs.Prelude.{ℕ, ◌≡◌, Bool, true, None, List, [], ◌++◌, map}
use Rattle.amqp_performatives.specs.declared.bodies.Role.{Role}
use Rattle.amqp_performatives.specs.declared.bodies.Role.TheVariants.{Sender, Receiver}
use Rattle.amqp_events.specs.Event as event
use Rattle.amqp_events.specs.Event.{Event, Item}
use Rattle.amqp_events.specs.Unsettled.{begins, ends, next_held}
use Rattle.amqp_events.specs.Named.{ids_gone}
use Rattle.amqp_events.specs.Told.{SentItem, next_sent_held}
use Rattle.amqp_events.specs.Tags.{is_tagged}
use Rattle.amqp_deliveries.specs.declared.change.Change.{Change}
use Rattle.amqp_deliveries.specs.declared.change.Change.TheVariants.{Stay, Begins, Continues, Says, Hears, Leaves, Over}
use Rattle.amqp_deliveries.specs.Held.{items_of}

-- the unsettled deliveries that we sent, and those that we received, in order
pub record TablesView : Type 0 where
  pub sent : List SentItem
  pub received : List Item

-- those of which we have this role
abbrev pub held_items : Role → TablesView → List Item
held_items Sender t = items_of t.sent
held_items Receiver t = t.received

-- on the link of this one, with its tag
abbrev pub is_tagged_as : Item → Item → Bool
is_tagged_as i j = is_tagged i.link i.tag j

-- what the change says of those that we sent, and of those that we received
abbrev pub sent_event : Change → Event
sent_event Stay = event.Nothing
sent_event (Begins Sender i) = event.Begins i true
sent_event (Begins Receiver i) = event.Nothing
sent_event (Continues Sender id state over) = event.Continues id state over
sent_event (Continues Receiver id state over) = event.Nothing
sent_event (Says Sender d) = event.Says d
sent_event (Says Receiver d) = event.Nothing
sent_event (Hears Sender d) = event.Hears d
sent_event (Hears Receiver d) = event.Nothing
sent_event (Leaves link) = event.Leaves link
sent_event Over = event.Over

abbrev pub received_event : Change → Event
received_event Stay = event.Nothing
received_event (Begins Sender i) = event.Nothing
received_event (Begins Receiver i) = event.Begins i true
received_event (Continues Sender id state over) = event.Nothing
received_event (Continues Receiver id state over) = event.Continues id state over
received_event (Says Sender d) = event.Nothing
received_event (Says Receiver d) = event.Says d
received_event (Hears Sender d) = event.Nothing
received_event (Hears Receiver d) = event.Hears d
received_event (Leaves link) = event.Leaves link
received_event Over = event.Over

abbrev pub after_events : Event → Event → TablesView → TablesView
after_events s r t = record { sent = next_sent_held s t.sent; received = next_held r t.received }

-- an event that speaks of neither leaves both as they are
abbrev pub tables_after : Change → TablesView → TablesView
tables_after Stay t = t
tables_after (Begins Sender i) t = record t { sent = next_sent_held (event.Begins i true) t.sent }
tables_after (Begins Receiver i) t = record t { received = next_held (event.Begins i true) t.received }
tables_after (Continues Sender id state over) t = record t { sent = next_sent_held (event.Continues id state over) t.sent }
tables_after (Continues Receiver id state over) t = record t { received = next_held (event.Continues id state over) t.received }
tables_after (Says Sender d) t = after_events (event.Says d) event.Nothing t
tables_after (Says Receiver d) t = after_events event.Nothing (event.Says d) t
tables_after (Hears Sender d) t = after_events (event.Hears d) event.Nothing t
tables_after (Hears Receiver d) t = after_events event.Nothing (event.Hears d) t
tables_after (Leaves link) t = after_events (event.Leaves link) (event.Leaves link) t
tables_after Over t = record { sent = []; received = [] }

-- the ids that are there before and not after, with their role: first those that we sent
abbrev pub ended_by_events : Event → Event → TablesView → List (Role × ℕ)
ended_by_events s r t =
    map (λ id. (Sender, id)) (ids_gone (map (λ i. i.item) t.sent) (map (λ i. i.item) (next_sent_held s t.sent)))
    ++ map (λ id. (Receiver, id)) (ids_gone t.received (next_held r t.received))

-- the deliveries that it ends
abbrev pub ended_in : Change → TablesView → List (Role × ℕ)
ended_in Stay t = []
ended_in (Begins role i) t = []
ended_in (Continues role id state over) t = ended_by_events (sent_event (Continues role id state over)) (received_event (Continues role id state over)) t
ended_in (Says role d) t = ended_by_events (sent_event (Says role d)) (received_event (Says role d)) t
ended_in (Hears role d) t = ended_by_events (sent_event (Hears role d)) (received_event (Hears role d)) t
ended_in (Leaves link) t = ended_by_events (event.Leaves link) (event.Leaves link) t
ended_in Over t = ended_by_events event.Over event.Over t

-- these name what an event ends of those that pass the test, whatever event ends just them
abbrev pub Names : Role → (Item → Bool) → List Item → List (Role × ℕ) → Type 0
Names role out items named =
    (e : Event) → begins e ≡ None → ((i : Item) → ends e i ≡ out i) → named ≡ map (λ id. (role, id)) (ids_gone items (next_held e items))
