-- Suspend: a link is put aside (part 2, 2.6.4 and 2.6.6). It is detached and not closed, and what is unsettled on it is given.
use Rattle.std.specs.Prelude.{ℕ, ◌+◌, ◌==◌, ◌&&◌, not, Bool, false, Option, None, Some, Result, List, ◌++◌, map, filter}
use Rattle.std.specs.List.{list_any}
use Rattle.amqp_events.specs.Event.{Item, Leaves}
use Rattle.amqp_events.specs.Joined.{Delivery}
use Rattle.amqp_events.specs.Unsettled.{next_held}
use Rattle.amqp_events.specs.Told.{next_sent_held}
use Rattle.amqp_waiting.specs.Waiting.{WaitingItem}
use Rattle.amqp_waiting.specs.declared.item.SuspendedItem.{SuspendedItem}
use Rattle.amqp_rules.specs.declared.reply.Reply.{Reply}
use Rattle.amqp_rules.specs.declared.reply.Suspended.{Suspended}
use Rattle.amqp_rules.specs.declared.reply.Given.TheVariants as given
use Rattle.amqp_rules.specs.declared.refusal.Refusal.{Refusal}
use Rattle.amqp_rules.specs.View.{View, LinkView, SendingView, has_number, handle_of, change_first}
use Rattle.amqp_rules.specs.Deliveries.{ended_by}
use Rattle.amqp_rules.specs.Dispose.{held_as}
use Rattle.amqp_rules.specs.Detach.{detach_body, detach_refusals, left_by_us}
use Rattle.amqp_rules.specs.OnLink.{on_link}
use Rattle.amqp_rules.specs.Sending.{sends_ending}

-- # What is put aside

-- the delivery that we send is unfinished
abbrev pub is_sending : ℕ → Option SendingView → Bool
is_sending id None = false
is_sending id (Some d) = d.id == id

-- the delivery that the peer sends is
abbrev pub is_receiving : ℕ → Option Delivery → Bool
is_receiving id None = false
is_receiving id (Some d) = d.id == id

-- it was received, and not taken
abbrev pub is_ready : ℕ → List Delivery → Bool
is_ready id ds = list_any (λ d. d.id == id) ds

-- an unsettled delivery of the link goes with it where it is finished and, where we receive, was taken
abbrev pub is_put_aside : LinkView → Item → Bool
is_put_aside l i = i.link == l.number && not (is_sending i.id l.sending) && not (is_receiving i.id l.receiving) && not (is_ready i.id l.ready)

-- it is known by its tag from then on, with our state of it
abbrev pub item_aside : Item → SuspendedItem
item_aside i = record { tag = i.tag; state = i.local }

-- and so is one that waits still
abbrev pub waiting_aside : WaitingItem → SuspendedItem
waiting_aside w = record { tag = w.tag; state = w.state }

-- the link, with what waits on it, and behind it what of these unsettled deliveries goes with it, in order
abbrev pub aside_of : LinkView → List Item → Suspended
aside_of l items = record { name = l.name; role = l.role; items = map waiting_aside l.waiting ++ map item_aside (filter (is_put_aside l) items) }

abbrev pub put_aside : View → LinkView → Suspended
put_aside v l = aside_of l (held_as v l.role)

-- # The operation

abbrev pub suspend_answer : View → ℕ → Result Reply Refusal
suspend_answer v link =
    on_link v link (λ l.
    sends_ending v.max_frame (detach_refusals l) (detach_body (handle_of l.ours) None None) (ended_by (Leaves link) (Leaves link) v) (given.Suspended (put_aside v l)))

-- the link is left as by a Detach
abbrev pub next_suspend : View → ℕ → View
next_suspend v link =
    record v {
      steps = v.steps + 1;
      links = change_first (has_number link) left_by_us v.links;
      sent = next_sent_held (Leaves link) v.sent;
      received = next_held (Leaves link) v.received;
    }
