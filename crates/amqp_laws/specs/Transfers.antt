-- The transfers of a link, and its deliveries (part 2, 2.6.14), over the link's own past.
use Rattle.std.specs.Prelude.{ℕ, ◌&&◌, Bool, Option, None, List, cond, length, option_map, is_some, is_none, false}
use Rattle.amqp_performatives.specs.declared.bodies.AttachBody.{AttachBody}
use Rattle.amqp_events.specs.Joined.{Transferred, Delivery, unfinished, ready}
use Rattle.amqp_rules.specs.View.{SendingView, rcv_of}
use Rattle.amqp_rules.specs.Attach.{end_of}
use Rattle.amqp_rules.specs.Deliveries.{transferred}
use Rattle.amqp_laws.specs.declared.entry.Entry.{Entry}
use Rattle.amqp_laws.specs.Past.{said_back, some_entry, total}
use Rattle.amqp_laws.specs.Said.{detaches, payload_heard, takes, transfer_heard, transfer_sent}
use Rattle.amqp_laws.specs.Attaches.{our_attach, peer_attach}

-- the receiver's mode, by its attach
abbrev pub mode_by : Option AttachBody → ℕ
mode_by attach = rcv_of (option_map end_of attach)

-- of what we send it is not asked whether it is brought in: none of it is given to our application
abbrev pub sent_now : Entry → List Entry → Option Transferred
sent_now e before = option_map (λ t. record (transferred (mode_by (peer_attach before)) t.0 t.1) { resumed = false }) (transfer_sent e)

-- the transfers that were sent on the link, the newest first
abbrev pub sent_on : List Entry → List Transferred
sent_on past = said_back sent_now past

abbrev pub heard_now : Entry → List Entry → Option Transferred
heard_now e before = option_map (λ b. transferred (mode_by (our_attach before)) b (payload_heard e.step)) (transfer_heard e)

-- the transfers that were heard on it, the newest first
abbrev pub heard_on : List Entry → List Transferred
heard_on past = said_back heard_now past

-- how many of the deliveries that were received were taken
abbrev pub taken : List Entry → ℕ
taken past = total (λ e. cond (takes e) 1 0) past

-- those that wait to be taken
abbrev pub ready_on : List Entry → List Delivery
ready_on past = ready (taken past) (heard_on past)

-- the unfinished delivery is dropped once we have left the link
abbrev pub unless_left : {A : Type 0} → List Entry → Option A → Option A
unless_left past d = cond (some_entry detaches past) None d

abbrev pub size_of : Delivery → SendingView
size_of d = record { id = d.id; size = length d.payload }

abbrev pub sending : List Entry → Option SendingView
sending past = unless_left past (option_map size_of (unfinished (sent_on past)))

abbrev pub receiving : List Entry → Option Delivery
receiving past = unless_left past (unfinished (heard_on past))

-- a transfer is heard that begins a delivery
abbrev pub begins_delivery : Entry → List Entry → Bool
begins_delivery e before = is_some (transfer_heard e) && is_none (unfinished (heard_on before))
