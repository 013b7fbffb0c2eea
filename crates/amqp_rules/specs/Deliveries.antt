-- What a step does to the deliveries that we send, and to those that we receive, as the view before it says (part 2, 2.6.12).
use Rattle.std.specs.Prelude.{ℕ, ◌==◌, ◌&&◌, ◌||◌, ◌++◌, not, Bool, true, false, cond, Option, Some, None, List, [], find, is_some, map, unwrap_or}
use Rattle.amqp_performatives.specs.declared.state.DeliveryState.{DeliveryState}
use Rattle.amqp_performatives.specs.declared.bodies.TransferBody.{TransferBody}
use Rattle.amqp_performatives.specs.declared.bodies.DispositionBody.{DispositionBody}
use Rattle.amqp_performatives.specs.declared.bodies.Role.{Role}
use Rattle.amqp_performatives.specs.declared.bodies.Role.TheVariants.{Sender, Receiver}
use Rattle.amqp_performatives.specs.declared.performative.Performative.{Performative}
use Rattle.amqp_performatives.specs.declared.performative.Performative.TheVariants as heard
use Rattle.amqp_events.specs.Event.{Item, Disposition, Event, Begins, Continues, PassesOver, Says, Hears, Leaves, Over, Learns, Takes}
use Rattle.amqp_events.specs.Event.{Nothing as No_event}
use Rattle.amqp_events.specs.Joined.{Transferred, Delivery}
use Rattle.amqp_events.specs.Unsettled.{next_held}
use Rattle.amqp_events.specs.Named.{ids_gone}
use Rattle.amqp_events.specs.Told.{next_sent_held}
use Rattle.amqp_waiting.specs.Waiting.{WaitingItem, waits_as}
use Rattle.amqp_waiting.specs.declared.item.Verdict.TheVariants.{Unclear, Absent, Partial, Held, Outcome}
use Rattle.amqp_rules.specs.declared.op.Op.{Op}
use Rattle.amqp_rules.specs.declared.op.Op.TheVariants as own
use Rattle.amqp_rules.specs.View.{View, LinkView, SendingView, next_delivery, has_number, has_peer_handle, rcv_mode}

-- # Transfers

-- a transfer of a link whose receiver settles in this mode, unless the transfer says another; absent flags are false, and an absent format is 0
abbrev pub transferred : ℕ → TransferBody → List ℕ → Transferred
transferred mode b payload =
    record {
      id = unwrap_or b.delivery_id 0;
      tag = unwrap_or b.delivery_tag [];
      format = unwrap_or b.message_format 0;
      second = unwrap_or b.rcv_settle_mode mode == 1;
      settled = unwrap_or b.settled false;
      more = unwrap_or b.more false;
      aborted = unwrap_or b.aborted false;
      resumed = unwrap_or b.resume false;
      payload = payload;
    }

-- the delivery that it begins, on the link with this number
abbrev pub item_of : ℕ → Transferred → Option DeliveryState → Item
item_of k t state = record { id = t.id; link = k; tag = t.tag; second = t.second; local = None; remote = state }

-- # Deliveries that we send

-- a delivery that begins
abbrev pub begun_on : ℕ → ℕ → List ℕ → Bool → Option LinkView → Event
begun_on id k tag settled None = No_event
begun_on id k tag settled (Some l) =
    Begins (record { id = id; link = k; tag = tag; second = rcv_mode l == 1; local = None; remote = None }) (not settled)

-- nothing is sent of one that the peer does not know, or of which nothing is known
abbrev pub is_sent_anew : WaitingItem → Bool
is_sent_anew w = elim w.verdict [ Unclear ↦ false | Absent ↦ false | Partial ↦ true | Held ↦ true | Outcome ↦ true ]

-- the peer has it in part
abbrev pub is_partial : WaitingItem → Bool
is_partial w = elim w.verdict [ Unclear ↦ false | Absent ↦ false | Partial ↦ true | Held ↦ false | Outcome ↦ false ]

-- A delivery that is resumed begins with our state and the peer's. It is aborted where the peer has it in part.
abbrev pub resumed_as : ℕ → ℕ → Bool → LinkView → Option WaitingItem → Event
resumed_as id k settled l None = No_event
resumed_as id k settled l (Some w) =
    cond
    (is_sent_anew w)
    (Begins (record { id = id; link = k; tag = w.tag; second = rcv_mode l == 1; local = w.state; remote = w.theirs }) (not (settled || is_partial w)))
    No_event

abbrev pub resumed_on : ℕ → ℕ → List ℕ → Bool → Option LinkView → Event
resumed_on id k tag settled None = No_event
resumed_on id k tag settled (Some l) = resumed_as id k settled l (find (waits_as tag) l.waiting)

-- a further transfer of the unfinished delivery
abbrev pub continued_on : Bool → Option SendingView → Event
continued_on over None = No_event
continued_on over (Some d) = Continues d.id None over

abbrev pub sending_on : Option LinkView → Option SendingView
sending_on None = None
sending_on (Some l) = l.sending

-- a disposition of ours, if it speaks of this role
abbrev pub said_of : Role → Role → Disposition → Event
said_of Sender Sender d = Says d
said_of Receiver Receiver d = Says d
said_of _ _ d = No_event

abbrev pub sent_by_own : View → Op → Event
sent_by_own v (own.Start link tag format settled payload more) = begun_on (next_delivery v) link tag settled (find (has_number link) v.links)
sent_by_own v (own.Carry link payload more) = continued_on false (sending_on (find (has_number link) v.links))
sent_by_own v (own.Abort link) = continued_on true (sending_on (find (has_number link) v.links))
sent_by_own v (own.Dispose role first last settled state) = said_of Sender role (record { first = first; last = last; settled = settled; state = state })
sent_by_own v (own.Learn link) = Learns link
sent_by_own v (own.Detach link error) = Leaves link
sent_by_own v (own.Suspend link) = Leaves link
sent_by_own v (own.Resume link tag settled) = resumed_on (next_delivery v) link tag settled (find (has_number link) v.links)
sent_by_own v (own.End error) = Over
sent_by_own v _ = No_event

-- an absent last is the first; an absent settled is false
abbrev pub disposition_of : DispositionBody → Disposition
disposition_of b = record { first = b.first; last = unwrap_or b.last b.first; settled = unwrap_or b.settled false; state = b.state }

-- a disposition of the peer's: its receiver speaks of what we sent
abbrev pub heard_of : Role → DispositionBody → Role → Event
heard_of Sender b Receiver = Hears (disposition_of b)
heard_of Receiver b Sender = Hears (disposition_of b)
heard_of _ b _ = No_event

abbrev pub left_by_peer : Option LinkView → Event
left_by_peer None = No_event
left_by_peer (Some l) = Leaves l.number

abbrev pub sent_by_body : View → Option Performative → Event
sent_by_body v (Some (heard.Disposition b)) = heard_of Sender b b.role
sent_by_body v (Some (heard.Detach b)) = left_by_peer (find (has_peer_handle b.handle) v.links)
sent_by_body v (Some (heard.End b)) = Over
sent_by_body v _ = No_event

-- # Deliveries that we receive

abbrev pub received_by_own : View → Op → Event
received_by_own v (own.Dispose role first last settled state) = said_of Receiver role (record { first = first; last = last; settled = settled; state = state })
received_by_own v (own.Take link) = Takes link
received_by_own v (own.Detach link error) = Leaves link
received_by_own v (own.Suspend link) = Leaves link
received_by_own v (own.End error) = Over
received_by_own v _ = No_event

-- the delivery that a first transfer brings in, where it waits
abbrev pub brought_by : Transferred → List WaitingItem → Option WaitingItem
brought_by t ws = cond t.resumed (find (waits_as t.tag) ws) None

-- our state of it
abbrev pub state_brought : Option WaitingItem → Option DeliveryState
state_brought None = None
state_brought (Some w) = w.state

-- a delivery begins unsettled unless its first transfer settles or aborts it, or brings in one that does not wait
abbrev pub begins_unsettled : Transferred → Option WaitingItem → Bool
begins_unsettled t brought = not (t.settled || t.aborted) && (not t.resumed || is_some brought)

-- a transfer begins a delivery, or belongs to the unfinished one
abbrev pub belongs_to : ℕ → List WaitingItem → Transferred → Option DeliveryState → Option Delivery → Event
belongs_to k ws t state None =
    Begins (record (item_of k t state) { local = state_brought (brought_by t ws) }) (begins_unsettled t (brought_by t ws))
belongs_to k ws t state (Some d) = Continues d.id state (t.settled || t.aborted)

-- on a link that we left it is passed over
abbrev pub transfer_on : TransferBody → Option LinkView → Event
transfer_on b None = No_event
transfer_on b (Some l) = cond l.left (PassesOver b.delivery_id) (belongs_to l.number l.waiting (transferred (rcv_mode l) b []) b.state l.receiving)

abbrev pub received_by_body : View → Option Performative → Event
received_by_body v (Some (heard.Transfer b)) = transfer_on b (find (has_peer_handle b.handle) v.links)
received_by_body v (Some (heard.Disposition b)) = heard_of Receiver b b.role
received_by_body v (Some (heard.Detach b)) = left_by_peer (find (has_peer_handle b.handle) v.links)
received_by_body v (Some (heard.End b)) = Over
received_by_body v _ = No_event

-- # What is ended

-- those of the unsettled deliveries before that are not among those after: first those that we sent
abbrev pub ended_by : Event → Event → View → List (Role × ℕ)
ended_by sent received v =
    map (λ id. (Sender, id)) (ids_gone (map (λ s. s.item) v.sent) (map (λ s. s.item) (next_sent_held sent v.sent)))
    ++ map (λ id. (Receiver, id)) (ids_gone v.received (next_held received v.received))
