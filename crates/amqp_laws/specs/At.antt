-- What the session is after a past.
use Rattle.std.specs.Prelude.{ℕ, None, List, [], ◌∷◌, length, map, cond}
use Rattle.amqp_events.specs.Event.{Event}
use Rattle.amqp_events.specs.Numbers.{expected}
use Rattle.amqp_events.specs.Unsettled.{held}
use Rattle.amqp_events.specs.Told.{sent_held, to_learn}
use Rattle.amqp_rules.specs.declared.config.Config.{Config}
use Rattle.amqp_rules.specs.View.{View, LinkView}
use Rattle.amqp_rules.specs.Deliveries.{sent_by_own, sent_by_body, received_by_own, received_by_body}
use Rattle.amqp_events.specs.Event.{Nothing as No_event}
use Rattle.amqp_laws.specs.declared.entry.Entry.{Entry}
use Rattle.amqp_laws.specs.declared.entry.Step.{Step}
use Rattle.amqp_laws.specs.declared.entry.Step.TheVariants.{Opened, Own, Heard}
use Rattle.amqp_laws.specs.Past.{total, last_said, last_or}
use Rattle.amqp_laws.specs.Said.{starts, max_told, handle_max_told}
use Rattle.amqp_laws.specs.Live.{live}
use Rattle.amqp_laws.specs.Windows.{windows_at}
use Rattle.amqp_laws.specs.Links.{link_pasts}
use Rattle.amqp_laws.specs.Session.{session_at, links_at}

-- how many deliveries were begun
abbrev pub started : List Entry → ℕ
started past = total (λ e. cond (starts e) 1 0) past

-- without its unsettled deliveries, and what was told
abbrev pub base : Config → ℕ → List Entry → View
base c steps past =
    record {
      steps = steps;
      session = session_at past;
      windows = windows_at c past;
      deliveries = started past;
      expected = None;
      max_frame = last_or 512 (last_said max_told past);
      handle_max = last_or 4294967295 (last_said handle_max_told past);
      made = length (link_pasts past);
      links = links_at past;
      sent = [];
      received = [];
    }

-- # What each entry does to deliveries, by the links as they were before it

abbrev pub sent_by : View → Step → Event
sent_by v (Opened told) = No_event
sent_by v (Own op) = sent_by_own v op
sent_by v (Heard f) = sent_by_body v f.body

abbrev pub received_by : View → Step → Event
received_by v (Opened told) = No_event
received_by v (Own op) = received_by_own v op
received_by v (Heard f) = received_by_body v f.body

-- to those that we send, the newest first
abbrev pub sent_events : Config → List Entry → List Event
sent_events c [] = []
sent_events c (e ∷ before) = sent_by (base c 0 before) e.step ∷ sent_events c before

-- to those that we receive
abbrev pub received_events : Config → List Entry → List Event
received_events c [] = []
received_events c (e ∷ before) = received_by (base c 0 before) e.step ∷ received_events c before

-- # The view

abbrev pub with_told : List Event → LinkView → LinkView
with_told events l = record l { told = to_learn l.number events }

-- after so many steps, by the live part of the past
abbrev pub seen : Config → ℕ → List Entry → View
seen c steps past =
    record (base c steps past) {
      expected = expected (received_events c past);
      links = map (with_told (sent_events c past)) (links_at past);
      sent = sent_held (sent_events c past);
      received = held (received_events c past);
    }

abbrev pub at : Config → List Entry → View
at c past = seen c (length past) (live past)
