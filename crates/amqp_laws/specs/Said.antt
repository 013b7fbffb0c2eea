-- What one entry says.
use Rattle.std.specs.Prelude.{ℕ, max, Bool, true, false, Option, None, Some, List, [], ◌∷◌, ◌&&◌, ◌||◌, cond, filter_map, is_some, unwrap_or, option_map}
use Rattle.amqp_rules.specs.declared.op.Op.{Op}
use Rattle.amqp_rules.specs.declared.op.Op.TheVariants as own
use Rattle.amqp_performatives.specs.declared.bodies.BeginBody.{BeginBody}
use Rattle.amqp_performatives.specs.declared.bodies.AttachBody.{AttachBody}
use Rattle.amqp_performatives.specs.declared.bodies.FlowBody.{FlowBody}
use Rattle.amqp_performatives.specs.declared.bodies.TransferBody.{TransferBody}
use Rattle.amqp_performatives.specs.declared.performative.Performative.{Performative}
use Rattle.amqp_performatives.specs.declared.performative.Performative.TheVariants.{Begin, Attach, Flow, Transfer, Detach}
use Rattle.amqp_flow.specs.declared.flow.SessionFlow.{SessionFlow}
use Rattle.amqp_rules.specs.declared.reply.Sent.{Sent}
use Rattle.amqp_rules.specs.Flow.{session_part}
use Rattle.amqp_rules.specs.Answer.{is_end}
use Rattle.amqp_waiting.specs.declared.item.SuspendedItem.{SuspendedItem}
use Rattle.amqp_laws.specs.declared.entry.Entry.{Entry}
use Rattle.amqp_laws.specs.declared.entry.Step.{Step}
use Rattle.amqp_laws.specs.declared.entry.Step.TheVariants.{Opened, Own, Heard}

abbrev pub or_else : {A : Type 0} → Option A → Option A → Option A
or_else None other = other
or_else (Some a) other = Some a

-- # What a body is

abbrev pub begin_in : Option Performative → Option BeginBody
begin_in (Some (Begin b)) = Some b
begin_in _ = None

abbrev pub attach_in : Option Performative → Option AttachBody
attach_in (Some (Attach b)) = Some b
attach_in _ = None

abbrev pub flow_in : Option Performative → Option FlowBody
flow_in (Some (Flow b)) = Some b
flow_in _ = None

abbrev pub transfer_in : Option Performative → Option TransferBody
transfer_in (Some (Transfer b)) = Some b
transfer_in _ = None

abbrev pub is_detach : Option Performative → Bool
is_detach (Some (Detach b)) = true
is_detach _ = false

-- a begin or a flow: it tells the windows of the end that sends it
abbrev pub tells_windows : Option Performative → Bool
tells_windows (Some (Begin b)) = true
tells_windows (Some (Flow b)) = true
tells_windows _ = false

-- the windows that it tells; a begin names no transfer that its end awaits
abbrev pub windows_in : Option Performative → Option SessionFlow
windows_in (Some (Begin b)) =
    Some (record { next_incoming_id = None; incoming_window = b.incoming_window; next_outgoing_id = b.next_outgoing_id; outgoing_window = b.outgoing_window })
windows_in (Some (Flow b)) = Some (session_part b)
windows_in _ = None

-- # Frames that were sent

-- the transfers that the entry's reply sends
abbrev pub transfers_sent : Entry → List TransferBody
transfers_sent e = filter_map (λ s. transfer_in s.frame.body) e.reply.sent

abbrev pub has_windows : List Sent → Bool
has_windows [] = false
has_windows (s ∷ sent) = tells_windows s.frame.body || has_windows sent

-- the entry's reply sends a begin or a flow
abbrev pub sends_windows : Entry → Bool
sends_windows e = has_windows e.reply.sent

abbrev pub attach_among : List Sent → Option AttachBody
attach_among [] = None
attach_among (s ∷ sent) = cond (is_some (attach_in s.frame.body)) (attach_in s.frame.body) (attach_among sent)

-- the attach that the entry's reply sends
abbrev pub attach_sent : Entry → Option AttachBody
attach_sent e = attach_among e.reply.sent

-- the transfer that the entry's reply sends, with its payload
abbrev pub transfer_among : List Sent → Option (TransferBody × List ℕ)
transfer_among [] = None
transfer_among (s ∷ sent) = or_else (option_map (λ b. (b, s.frame.payload)) (transfer_in s.frame.body)) (transfer_among sent)

abbrev pub transfer_sent : Entry → Option (TransferBody × List ℕ)
transfer_sent e = transfer_among e.reply.sent

-- # Frames that were heard

abbrev pub body_heard : Step → Option Performative
body_heard (Heard f) = f.body
body_heard _ = None

abbrev pub payload_heard : Step → List ℕ
payload_heard (Heard f) = f.payload
payload_heard _ = []

abbrev pub begin_heard : Entry → Option BeginBody
begin_heard e = begin_in (body_heard e.step)

abbrev pub attach_heard : Entry → Option AttachBody
attach_heard e = attach_in (body_heard e.step)

abbrev pub flow_heard : Entry → Option FlowBody
flow_heard e = flow_in (body_heard e.step)

abbrev pub transfer_heard : Entry → Option TransferBody
transfer_heard e = transfer_in (body_heard e.step)

abbrev pub hears_begin : Entry → Bool
hears_begin e = is_some (begin_heard e)

abbrev pub hears_detach : Entry → Bool
hears_detach e = is_detach (body_heard e.step)

abbrev pub hears_end : Entry → Bool
hears_end e = is_end (body_heard e.step)

-- the windows that a begin or a flow tells that was heard
abbrev pub windows_heard : Entry → Option SessionFlow
windows_heard e = windows_in (body_heard e.step)

-- how many transfers were heard: one or none
abbrev pub transfers_heard : Entry → ℕ
transfers_heard e = cond (is_some (transfer_heard e)) 1 0

-- a frame was heard that is no end
abbrev pub hears_no_end : Step → Bool
hears_no_end (Heard f) = cond (is_end f.body) false true
hears_no_end _ = false

-- # Operations and the open

abbrev pub own_in : Step → Option Op
own_in (Own op) = Some op
own_in _ = None

abbrev pub is_begin : Option Op → Bool
is_begin (Some own.Begin) = true
is_begin _ = false

abbrev pub is_start : Option Op → Bool
is_start (Some (own.Start link tag format settled payload more)) = true
is_start _ = false

-- the tag of a delivery that is resumed
abbrev pub resumed_in : Option Op → Option (List ℕ)
resumed_in (Some (own.Resume link tag settled)) = Some tag
resumed_in _ = None

-- the items that an attach of ours brings in
abbrev pub brought_in : Option Op → Option (List SuspendedItem)
brought_in (Some (own.Attach name role snd rcv source target count max_message)) = Some []
brought_in (Some (own.Rejoin r)) = Some r.items
brought_in _ = None

abbrev pub is_drained : Option Op → Bool
is_drained (Some (own.Drained link)) = true
is_drained _ = false

abbrev pub is_take : Option Op → Bool
is_take (Some (own.Take link)) = true
is_take _ = false

abbrev pub is_own_detach : Option Op → Bool
is_own_detach (Some (own.Detach link error)) = true
is_own_detach (Some (own.Suspend link)) = true
is_own_detach _ = false

abbrev pub is_own_end : Option Op → Bool
is_own_end (Some (own.End error)) = true
is_own_end _ = false

-- so many messages are available
abbrev pub available_in : Option Op → Option ℕ
available_in (Some (own.Offer link available)) = Some available
available_in _ = None

-- a credit, and whether to drain
abbrev pub grant_in : Option Op → Option (ℕ × Bool)
grant_in (Some (own.Grant link credit drain echo)) = Some (credit, drain)
grant_in _ = None

abbrev pub begins : Entry → Bool
begins e = is_begin (own_in e.step)

abbrev pub resumes : Entry → Option (List ℕ)
resumes e = resumed_in (own_in e.step)

abbrev pub brings : Entry → Option (List SuspendedItem)
brings e = brought_in (own_in e.step)

abbrev pub sends_some : List Sent → Bool
sends_some [] = false
sends_some (s ∷ sent) = true

-- a delivery begins: by a start, or by a resume that sends something
abbrev pub starts : Entry → Bool
starts e = is_start (own_in e.step) || is_some (resumes e) && sends_some e.reply.sent

abbrev pub drains : Entry → Bool
drains e = is_drained (own_in e.step)

abbrev pub takes : Entry → Bool
takes e = is_take (own_in e.step)

abbrev pub detaches : Entry → Bool
detaches e = is_own_detach (own_in e.step)

abbrev pub ends : Entry → Bool
ends e = is_own_end (own_in e.step)

abbrev pub said_available : Entry → Option ℕ
said_available e = available_in (own_in e.step)

abbrev pub grant : Entry → Option (ℕ × Bool)
grant e = grant_in (own_in e.step)

abbrev pub max_in : Step → Option ℕ
max_in (Opened told) = Some (max 512 told)
max_in _ = None

-- the longest frame that the peer takes, as its open told: at least 512 octets
abbrev pub max_told : Entry → Option ℕ
max_told e = max_in e.step

-- the highest handle that the peer takes, as its begin told; 4294967295 where it is absent
abbrev pub handle_max_told : Entry → Option ℕ
handle_max_told e = option_map (λ b. unwrap_or b.handle_max 4294967295) (begin_heard e)
