-- The unsettled deliveries that we sent as items; events and live entries are no more than entries.
use Rattle.std.proofs.Common.{◌≡◌, ◌≤◌, ℕ, ◌&&◌, Bool, true, false, cond, List, [], ◌∷◌, suc, length, map, refl, ap, arith}
use Rattle.amqp_events.specs.Event.{Item, Event}
use Rattle.amqp_events.specs.Unsettled.{held, shown, still_held}
use Rattle.amqp_events.specs.Told.{sent_item, sent_held}
use Rattle.amqp_rules.specs.declared.config.Config.{Config}
use Rattle.amqp_laws.specs.declared.entry.Entry.{Entry}
use Rattle.amqp_laws.specs.Past.{some_entry}
use Rattle.amqp_laws.specs.Said.{ends, hears_no_end}
use Rattle.amqp_laws.specs.Live.{live}
use Rattle.amqp_laws.specs.At.{sent_events, received_events}

items-shown : (ds : List (Item × List Event)) → map (λ s. s.item) (map sent_item ds) ≡ map shown ds
items-shown [] = refl
items-shown (d ∷ ds) = ap (λ is. shown d ∷ is) (items-shown ds)

pub items-held : (events : List Event) → map (λ s. s.item) (sent_held events) ≡ held events
items-held events = items-shown (still_held events)

pub sent-events_many : (c : Config) (past : List Entry) → length (sent_events c past) ≡ length past
sent-events_many c [] = refl
sent-events_many c (e ∷ before) = ap suc (sent-events_many c before)

pub received-events_many : (c : Config) (past : List Entry) → length (received_events c past) ≡ length past
received-events_many c [] = refl
received-events_many c (e ∷ before) = ap suc (received-events_many c before)

pub live-few : (past : List Entry) → length (live past) ≤ length past
live-few [] = omega arith
live-few (e ∷ before) = by_live (some_entry ends (live before) && hears_no_end e.step) (live-few before)
  where
    by_live : (b : Bool) → length (live before) ≤ length before → length (cond b (live before) (e ∷ live before)) ≤ suc (length before)
    by_live true h = omega (arith, h)
    by_live false h = omega (arith, h)
