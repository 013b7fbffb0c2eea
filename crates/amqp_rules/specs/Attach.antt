-- Attach: a link is asked for, or the peer's attach is answered (part 2, 2.6.3 and 2.7.3).
use Rattle.std.specs.Prelude.{ℕ, ◌+◌, not, nat_lt, Bool, Option, Some, None, Result, List, [], ◌∷◌, ◌++◌, cond, map, find, is_some, option_map, unwrap_or}
use Rattle.std.specs.List.{list_any}
use Rattle.amqp_types.specs.declared.value.Value.{Value}
use Rattle.amqp_performatives.specs.declared.bodies.AttachBody.{AttachBody}
use Rattle.amqp_performatives.specs.declared.bodies.Role.{Role}
use Rattle.amqp_performatives.specs.declared.performative.Performative.TheVariants.{Attach}
use Rattle.amqp_flow.specs.Credit.{count_given}
use Rattle.amqp_waiting.specs.declared.item.SuspendedItem.{SuspendedItem}
use Rattle.amqp_waiting.specs.declared.peer.Unsettled.{Unsettled}
use Rattle.amqp_waiting.specs.Waiting.{WaitingItem, unclear, met, has_twice}
use Rattle.amqp_waiting.specs.PeerUnsettled.{unsettled_of}
use Rattle.amqp_waiting.specs.OurUnsettled.{map_of, is_fair_item}
use Rattle.amqp_rules.specs.declared.reply.Reply.{Reply}
use Rattle.amqp_rules.specs.declared.reply.Given.TheVariants.{Link}
use Rattle.amqp_rules.specs.declared.refusal.Refusal.{Refusal}
use Rattle.amqp_rules.specs.declared.refusal.Refusal.TheVariants.{NotMapped, NameInUse, HandleLimit, TagTwice, NotWritable}
use Rattle.amqp_rules.specs.View.{View, LinkView, EndView, is_mapped, is_ours, is_offered_as, is_sender, free_handle, new_link, none_told, change_first}
use Rattle.amqp_rules.specs.Sending.{sends}

-- what the attach of an end tells that stays with the link; absent modes are mixed and first, an absent size is no limit
abbrev pub end_of : AttachBody → EndView
end_of b =
    record {
      handle = b.handle;
      snd_mode = unwrap_or b.snd_settle_mode 2;
      rcv_mode = unwrap_or b.rcv_settle_mode 0;
      max_message = unwrap_or b.max_message_size 0;
      source = b.source;
      target = b.target;
    }

-- the delivery-count at which the link begins, as the sender's attach tells it
abbrev pub count_of : AttachBody → ℕ
count_of b = unwrap_or b.initial_delivery_count 0

-- # What waits on the link

-- once the attach of the other end is there, too, by what the peer's tells
abbrev pub met_where : Option EndView → Role → Unsettled → List WaitingItem → List WaitingItem
met_where None role u ws = ws
met_where (Some e) role u ws = met role u ws

-- what the peer told is kept until our attach is sent
abbrev pub offer_until : Option EndView → Unsettled → Unsettled
offer_until None u = u
offer_until (Some e) u = none_told

-- # The link after an attach

-- after ours: it tells the count where we send, and brings the items in
abbrev pub attached_by_us : AttachBody → List SuspendedItem → LinkView → LinkView
attached_by_us b items l =
    record l {
      ours = Some (end_of b);
      credit = cond (is_sender l.role) (count_given (count_of b) l.credit) l.credit;
      waiting = met_where l.theirs l.role l.offer (map unclear items);
      offer = none_told;
    }

-- after the peer's: it tells the count where we receive
abbrev pub attached_by_peer : AttachBody → LinkView → LinkView
attached_by_peer b l =
    record l {
      theirs = Some (end_of b);
      credit = cond (is_sender l.role) l.credit (count_given (count_of b) l.credit);
      waiting = met_where l.ours l.role (unsettled_of b) l.waiting;
      offer = offer_until l.ours (unsettled_of b);
    }

-- # The operation

-- what an Attach asks for, and a Rejoin, which brings items in
pub record Wanted : Type 0 where
  pub name : List ℕ
  pub role : Role
  pub snd : ℕ
  pub rcv : ℕ
  pub source : Option Value
  pub target : Option Value
  pub count : ℕ
  pub max_message : ℕ
  pub items : List SuspendedItem

-- a size that is told where it is above 0
abbrev pub size_told : ℕ → Option ℕ
size_told n = cond (nat_lt 0 n) (Some n) None

abbrev pub own_attach : Wanted → ℕ → AttachBody
own_attach a handle =
    record {
      name = a.name;
      handle = handle;
      role = a.role;
      snd_settle_mode = Some a.snd;
      rcv_settle_mode = Some a.rcv;
      source = a.source;
      target = a.target;
      unsettled = map_of a.items;
      incomplete_unsettled = None;
      initial_delivery_count = cond (is_sender a.role) (Some a.count) None;
      max_message_size = size_told a.max_message;
      offered_capabilities = None;
      desired_capabilities = None;
      properties = None;
    }

-- the attach that is sent: its handle is the lowest that is free
abbrev pub attach_sent : View → Wanted → AttachBody
attach_sent v a = own_attach a (free_handle v.links)

abbrev pub attach_refusals : View → Wanted → List (Bool × Refusal)
attach_refusals v a =
    (not (is_mapped v.session), NotMapped)
    ∷ (is_some (find (is_ours a.role a.name) v.links), NameInUse)
    ∷ (nat_lt v.handle_max (free_handle v.links), HandleLimit)
    ∷ (has_twice a.items, TagTwice)
    ∷ (list_any (λ i. not (is_fair_item i)) a.items, NotWritable)
    ∷ []

-- the link that is met, or else the next to be made
abbrev pub number_met : ℕ → Option LinkView → ℕ
number_met made met = unwrap_or (option_map (λ l. l.number) met) made

abbrev pub attach_answer : View → Wanted → Result Reply Refusal
attach_answer v a =
    sends v.max_frame (attach_refusals v a) (Some (Attach (attach_sent v a))) [] (Link (number_met v.made (find (is_offered_as a.role a.name) v.links)))

-- the first link that passes the test is changed; where there is none, one more is made
abbrev pub join_link : (LinkView → Bool) → Role → List ℕ → (LinkView → LinkView) → View → View
join_link test role name change v =
    cond
    (is_some (find test v.links))
    (record v { steps = v.steps + 1; links = change_first test change v.links })
    (record v { steps = v.steps + 1; made = v.made + 1; links = v.links ++ change (new_link v.made role name) ∷ [] })

abbrev pub next_attach : View → Wanted → View
next_attach v a = join_link (is_offered_as a.role a.name) a.role a.name (attached_by_us (attach_sent v a) a.items) v
