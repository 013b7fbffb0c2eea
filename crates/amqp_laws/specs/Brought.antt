-- The deliveries that wait on a link to be resumed (part 2, 2.6.13), over the link's own past: those that our attach brought in, less those
-- that were named since, by a resume or by a transfer that is heard; and, once both attaches are there, as the peer's tells of them.
use Rattle.std.specs.Prelude.{ℕ, not, Bool, false, Option, None, Some, List, [], ◌∷◌, cond, map, filter, is_some, unwrap_or}
use Rattle.std.specs.List.{list_any, cons_option}
use Rattle.amqp_performatives.specs.declared.bodies.AttachBody.{AttachBody}
use Rattle.amqp_performatives.specs.declared.bodies.TransferBody.{TransferBody}
use Rattle.amqp_performatives.specs.declared.bodies.Role.{Role}
use Rattle.amqp_waiting.specs.Waiting.{WaitingItem, waits_as, unclear, met}
use Rattle.amqp_waiting.specs.declared.item.SuspendedItem.{SuspendedItem}
use Rattle.amqp_waiting.specs.declared.peer.Unsettled.{Unsettled}
use Rattle.amqp_rules.specs.View.{none_told}
use Rattle.amqp_waiting.specs.PeerUnsettled.{unsettled_of}
use Rattle.amqp_laws.specs.declared.entry.Entry.{Entry}
use Rattle.amqp_laws.specs.Past.{last_said, last_or}
use Rattle.amqp_laws.specs.Said.{brings, resumes, or_else, transfer_heard}
use Rattle.amqp_laws.specs.Attaches.{our_attach, peer_attach}
use Rattle.amqp_laws.specs.Transfers.{begins_delivery}

-- the items that our attach brought in
abbrev pub items_brought : List Entry → List SuspendedItem
items_brought past = last_or [] (last_said brings past)

-- the tag of a transfer that brings a delivery in
abbrev pub tag_brought : Option TransferBody → Option (List ℕ)
tag_brought None = None
tag_brought (Some b) = cond (unwrap_or b.resume false) (Some (unwrap_or b.delivery_tag [])) None

-- the tag that the entry names: by a resume, or by a first transfer that is heard
abbrev pub tag_named : Entry → List Entry → Option (List ℕ)
tag_named e before = or_else (resumes e) (cond (begins_delivery e before) (tag_brought (transfer_heard e)) None)

-- the tags that were named since our attach
abbrev pub tags_named : List Entry → List (List ℕ)
tags_named [] = []
tags_named (e ∷ before) = cond (is_some (brings e)) [] (cons_option (tag_named e before) (tags_named before))

abbrev pub still_waits : List (List ℕ) → WaitingItem → Bool
still_waits tags w = not (list_any (λ tag. waits_as tag w) tags)

-- as the peer tells of them, once both attaches are there
abbrev pub as_met : Role → Option AttachBody → Option AttachBody → List WaitingItem → List WaitingItem
as_met role (Some ours) (Some theirs) ws = met role (unsettled_of theirs) ws
as_met role _ _ ws = ws

-- those that wait
abbrev pub waiting_on : Role → List Entry → List WaitingItem
waiting_on role past = filter (still_waits (tags_named past)) (as_met role (our_attach past) (peer_attach past) (map unclear (items_brought past)))

-- what the peer offered is kept until our attach is sent
abbrev pub offer_by : Option AttachBody → Option AttachBody → Unsettled
offer_by None (Some theirs) = unsettled_of theirs
offer_by _ _ = none_told

abbrev pub offer_on : List Entry → Unsettled
offer_on past = offer_by (our_attach past) (peer_attach past)
