-- The links of a session (part 2, 2.6), over its whole past: which entries concern which link, and what each link is.
use Rattle.std.specs.Prelude.{ℕ, ◌&&◌, not, Bool, Option, None, Some, List, [], ◌∷◌, ◌++◌, length, cond, filter_map, find, is_some, option_map}
use Rattle.amqp_performatives.specs.declared.bodies.Role.{Role}
use Rattle.amqp_performatives.specs.declared.bodies.Role.TheVariants.{Sender, Receiver}
use Rattle.amqp_performatives.specs.declared.performative.Performative.{Performative}
use Rattle.amqp_performatives.specs.declared.performative.Performative.TheVariants as heard
use Rattle.amqp_flow.specs.Credit.{CreditView}
use Rattle.amqp_rules.specs.declared.op.Op.{Op}
use Rattle.amqp_rules.specs.declared.op.Op.TheVariants.{Attach, Start, Carry, Abort, Learn, Grant, Offer, Drained, Take, Detach, Suspend, Rejoin, Resume}
use Rattle.amqp_rules.specs.View.{LinkView, has_number, has_peer_handle, is_asked_as, is_offered_as, opposite, change_first}
use Rattle.amqp_rules.specs.Attach.{end_of}
use Rattle.amqp_laws.specs.declared.entry.Entry.{Entry}
use Rattle.amqp_laws.specs.declared.entry.Step.{Step}
use Rattle.amqp_laws.specs.declared.entry.Step.TheVariants.{Opened, Own, Heard}
use Rattle.amqp_laws.specs.Past.{some_entry}
use Rattle.amqp_laws.specs.Said.{detaches, hears_detach}
use Rattle.amqp_laws.specs.Attaches.{our_attach, peer_attach}
use Rattle.amqp_laws.specs.Sending.{available, sender_credit}
use Rattle.amqp_laws.specs.Receiving.{receiver_credit}
use Rattle.amqp_laws.specs.Transfers.{sending, receiving, ready_on}
use Rattle.amqp_laws.specs.Brought.{waiting_on, offer_on}

-- a link that was made: by how many before it, with this role of ours and this name; and the entries that concern it, newest first
pub record LinkPast : Type 0 where
  pub number : ℕ
  pub role : Role
  pub name : List ℕ
  pub past : List Entry

-- its deliveries count at the sender from the sender's attach on
abbrev pub credit_at : Role → List Entry → CreditView
credit_at Sender past = sender_credit past
credit_at Receiver past = receiver_credit past

-- what the link is
abbrev pub link_at : LinkPast → LinkView
link_at l =
    record {
      number = l.number;
      name = l.name;
      role = l.role;
      ours = option_map end_of (our_attach l.past);
      theirs = option_map end_of (peer_attach l.past);
      left = some_entry detaches l.past;
      credit = credit_at l.role l.past;
      available = available l.past;
      sending = sending l.past;
      receiving = receiving l.past;
      ready = ready_on l.past;
      told = [];
      waiting = waiting_on l.role l.past;
      offer = offer_on l.past;
    }

-- a detach of the peer's was heard for it
abbrev pub is_gone : LinkPast → Bool
is_gone l = some_entry hears_detach l.past

-- what the link is, unless it is gone
abbrev pub link_there : LinkPast → Option LinkView
link_there l = cond (is_gone l) None (Some (link_at l))

-- those that are not gone
abbrev pub links_there : List LinkPast → List LinkView
links_there links = filter_map link_there links

-- Which link a step concerns, of those that are not gone: none; the first that passes the test; that one unless we have left it; or, at an
-- attach, the first that passes the test, or else one that it makes.
pub data Concern : Type 0 where
  no_link : Concern
  link_with : (LinkView → Bool) → Concern
  link_not_left : (LinkView → Bool) → Concern
  link_or_new : (LinkView → Bool) → Role → List ℕ → Concern

-- An operation concerns the link that it names. Our attach meets the link of its role and name that is offered.
abbrev pub own_concern : Op → Concern
own_concern (Attach name role snd rcv source target count max_message) = link_or_new (is_offered_as role name) role name
own_concern (Start link tag format settled payload more) = link_with (has_number link)
own_concern (Carry link payload more) = link_with (has_number link)
own_concern (Abort link) = link_with (has_number link)
own_concern (Learn link) = link_with (has_number link)
own_concern (Grant link credit drain echo) = link_with (has_number link)
own_concern (Offer link available) = link_with (has_number link)
own_concern (Drained link) = link_with (has_number link)
own_concern (Take link) = link_with (has_number link)
own_concern (Detach link error) = link_with (has_number link)
own_concern (Suspend link) = link_with (has_number link)
own_concern (Rejoin r) = link_or_new (is_offered_as r.role r.name) r.role r.name
own_concern (Resume link tag settled) = link_with (has_number link)
own_concern _ = no_link

-- the link that the peer calls by this handle, unless we have left it
abbrev pub named_concern : Option ℕ → Concern
named_concern None = no_link
named_concern (Some h) = link_not_left (has_peer_handle h)

-- A frame concerns the link that the peer calls by its handle; a flow or a transfer does not, once we have left the link.
-- An attach meets the link of its name and the opposite role for which we asked.
abbrev pub heard_concern : Option Performative → Concern
heard_concern (Some (heard.Attach b)) = link_or_new (is_asked_as (opposite b.role) b.name) (opposite b.role) b.name
heard_concern (Some (heard.Flow b)) = named_concern b.handle
heard_concern (Some (heard.Transfer b)) = link_not_left (has_peer_handle b.handle)
heard_concern (Some (heard.Detach b)) = link_with (has_peer_handle b.handle)
heard_concern _ = no_link

abbrev pub concern : Step → Concern
concern (Opened told) = no_link
concern (Own op) = own_concern op
concern (Heard f) = heard_concern f.body

-- the entry concerns the link
abbrev pub put : Entry → LinkPast → LinkPast
put e l = record l { past = e ∷ l.past }

abbrev pub put_not_left : Entry → LinkPast → LinkPast
put_not_left e l = cond (some_entry detaches l.past) l (put e l)

-- the link is there and passes the test
abbrev pub is_there_with : (LinkView → Bool) → LinkPast → Bool
is_there_with test l = not (is_gone l) && test (link_at l)

-- the links, once the entry is put with the one that it concerns
abbrev pub joined : Concern → Entry → List LinkPast → List LinkPast
joined no_link e links = links
joined (link_with test) e links = change_first (is_there_with test) (put e) links
joined (link_not_left test) e links = change_first (is_there_with test) (put_not_left e) links
joined (link_or_new test role name) e links =
    cond
    (is_some (find test (links_there links)))
    (change_first (is_there_with test) (put e) links)
    (links ++ record { number = length links; role = role; name = name; past = e ∷ [] } ∷ [])

-- all links that were made, in order, each with the entries that concern it
abbrev pub link_pasts : List Entry → List LinkPast
link_pasts [] = []
link_pasts (e ∷ before) = joined (concern e.step) e (link_pasts before)
