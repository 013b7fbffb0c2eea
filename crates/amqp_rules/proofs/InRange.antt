-- Each step keeps a session's numbers within 32 bits.
use Rattle.std.proofs.Common.{◌≡◌, ◌≤◌, ◌<◌, ◌^◌, ◌+◌, ◌-◌, ℕ, Bool, true, false, cond, Option, Some, None, Result, Ok, List, [], ◌∷◌, ◌++◌, length, map, find, is_some, refl, arith}
use Rattle.std.proofs.lemmas.Bool.{ltb-false}
use Rattle.amqp_performatives.specs.declared.bodies.AttachBody.{AttachBody}
use Rattle.amqp_performatives.specs.declared.bodies.FlowBody.{FlowBody}
use Rattle.amqp_performatives.specs.declared.bodies.TransferBody.{TransferBody}
use Rattle.amqp_performatives.specs.declared.bodies.Role.{Role}
use Rattle.amqp_performatives.specs.declared.bodies.Role.TheVariants.{Sender, Receiver}
use Rattle.amqp_performatives.specs.declared.performative.Performative.{Performative}
use Rattle.amqp_performatives.specs.declared.performative.Performative.TheVariants as heard
use Rattle.amqp_flow.specs.Credit.{CreditView, count_given}
use Rattle.amqp_flow.specs.Sender.{credit_after}
use Rattle.amqp_flow.specs.Serial.{wire}
use Rattle.amqp_flow.specs.Windows.{WindowsView, windows_begun, windows_heard, windows_renewed}
use Rattle.amqp_frames.specs.Brief.{Is32}
use Rattle.amqp_frames.specs.declared.frame.Frame.{Frame}
use Rattle.amqp_events.specs.Event.{Event}
use Rattle.amqp_events.specs.Joined.{Delivery}
use Rattle.amqp_events.specs.Told.{SentItem}
use Rattle.amqp_rules.specs.declared.config.Config.{Config}
use Rattle.amqp_rules.specs.declared.op.Op.{Op}
use Rattle.amqp_rules.specs.declared.op.Op.TheVariants.{Begin, Attach, Start, Carry, Abort, Dispose, Learn, Grant, Offer, Drained, Refresh, Take, Detach, Suspend, Rejoin, Resume, End, Beat}
use Rattle.amqp_rules.specs.declared.refusal.Refusal.{Refusal}
use Rattle.amqp_rules.specs.declared.reply.Reply.{Reply}
use Rattle.amqp_rules.specs.declared.reply.Given.TheVariants as given
use Rattle.amqp_waiting.specs.declared.item.SuspendedItem.{SuspendedItem}
use Rattle.amqp_rules.specs.Rejoin.{rejoined}
use Rattle.amqp_rules.specs.Resume.{resume_begins, begin_resumed, resumed_from}
use Rattle.amqp_rules.specs.View.{LinkView, View, change_first, handle_of, has_number, has_peer_handle, initial, is_asked_as, is_offered_as, is_sender, new_link, next_delivery, opposite}
use Rattle.amqp_rules.specs.Limits.{IsWithinLimits}
use Rattle.amqp_rules.specs.Sending.{sends}
use Rattle.amqp_rules.specs.Answer.{body_answer, heard_answer, is_dropped, next_body, next_heard, next_own, own_answer}
use Rattle.amqp_rules.specs.Attach.{Wanted, attach_sent, attached_by_peer, attached_by_us, count_of, join_link, next_attach}
use Rattle.amqp_rules.specs.Start.{begin_delivery}
use Rattle.amqp_rules.specs.Carry.{carry_on}
use Rattle.amqp_rules.specs.Abort.{aborted}
use Rattle.amqp_rules.specs.Learn.{learnt_from}
use Rattle.amqp_rules.specs.Grant.{grant_body, grant_refusals, granted_on}
use Rattle.amqp_rules.specs.Offer.{offered}
use Rattle.amqp_rules.specs.Drained.{drained}
use Rattle.amqp_rules.specs.Take.{taken_from}
use Rattle.amqp_rules.specs.Detach.{left_by_us}
use Rattle.amqp_rules.specs.Flow.{credit_heard, flow_link, flow_links, flow_windows, flowed, echoes, session_part, windows_by}
use Rattle.amqp_rules.specs.PeerTransfer.{credit_used, heard_on, received_on}
use Rattle.amqp_rules.specs.PeerDisposition.{told_more}
use Rattle.amqp_rules.specs.Deliveries.{sent_by_body}
use Rattle.amqp_rules.specs.Ranges.{IsBodyInRange, IsInRange, IsLinkInRange, IsOpInRange}
use Rattle.amqp_rules.specs.Sound.{Every, IsSound}
use Rattle.amqp_rules.proofs.Accepted.{on-link-ok, sends-ok}
use Rattle.amqp_rules.proofs.Free.{free-handle_small}
use Rattle.amqp_rules.proofs.Listed.{by-bool, every-changed, every-more, every-removed}
use Rattle.amqp_rules.proofs.Counts.{links-few}

-- # Attaches

credit-kept : (sender : Bool) (n : ℕ) (c : CreditView) → c.credit < 2 ^ 32 → (cond sender (count_given n c) c).credit < 2 ^ 32
credit-kept true n c h = h
credit-kept false n c h = h

credit-kept' : (sender : Bool) (n : ℕ) (c : CreditView) → c.credit < 2 ^ 32 → (cond sender c (count_given n c)).credit < 2 ^ 32
credit-kept' true n c h = h
credit-kept' false n c h = h

ours-in-range : (b : AttachBody) (items : List SuspendedItem) → b.handle < 2 ^ 32 → (l : LinkView) → IsLinkInRange l → IsLinkInRange (attached_by_us b items l)
ours-in-range b items small l r = record { handle = small; credit = credit-kept (is_sender l.role) (count_of b) l.credit r.credit; available = r.available }

theirs-in-range : (b : AttachBody) (l : LinkView) → IsLinkInRange l → IsLinkInRange (attached_by_peer b l)
theirs-in-range b l r = record { handle = r.handle; credit = credit-kept' (is_sender l.role) (count_of b) l.credit r.credit; available = r.available }

new-in-range : (number : ℕ) (role : Role) (name : List ℕ) → IsLinkInRange (new_link number role name)
new-in-range number role name = record { handle = omega arith; credit = omega arith; available = omega arith }

joined-in-range : (v : View) (test : LinkView → Bool) (role : Role) (name : List ℕ) (change : LinkView → LinkView)
    → ((l : LinkView) → IsLinkInRange l → IsLinkInRange (change l)) → IsInRange v → IsInRange (join_link test role name change v)
joined-in-range v test role name change keeps r = by (is_some (find test v.links))
  where
    by : (met : Bool)
        → IsInRange (cond met (record v { steps = v.steps + 1; links = change_first test change v.links }) (record v { steps = v.steps + 1; made = v.made + 1; links = v.links ++ change (new_link v.made role name) ∷ [] }))
    by true = record { window = r.window; links = every-changed IsLinkInRange test change v.links r.links keeps }
    by false = record { window = r.window; links = every-more IsLinkInRange v.links (change (new_link v.made role name)) r.links (keeps (new_link v.made role name) (new-in-range v.made role name)) }

-- # Credit

less-small : (n k : ℕ) → n < 2 ^ 32 → n - k < 2 ^ 32
less-small n k h = omega (arith, h)

after-small : (told : Option ℕ) (lag credit : ℕ) → Is32 told → credit < 2 ^ 32 → credit_after told lag credit < 2 ^ 32
after-small None lag credit h small = small
after-small (Some n) lag credit h small = less-small n lag h

heard-small : (role : Role) (ours : Bool) (b : FlowBody) (c : CreditView) → Is32 b.link_credit → c.credit < 2 ^ 32 → (credit_heard role ours b c).credit < 2 ^ 32
heard-small Sender true b c h small = after-small b.link_credit _ c.credit h small
heard-small Sender false b c h small = after-small b.link_credit 0 c.credit h small
heard-small Receiver true b c h small = less-small c.credit _ small
heard-small Receiver false b c h small = small

pub flow-in-range : (b : FlowBody) → Is32 b.link_credit → (l : LinkView) → IsLinkInRange l → IsLinkInRange (flow_link b l)
flow-in-range b h l r = by l.left
  where
    by : (left : Bool) → IsLinkInRange (cond left l (flowed b l))
    by true = r
    by false = record { handle = r.handle; credit = heard-small l.role (is_some l.ours) b l.credit h r.credit; available = r.available }

flows-in-range : (b : FlowBody) (h : Option ℕ) (links : List LinkView) → Is32 b.link_credit → Every IsLinkInRange links → Every IsLinkInRange (flow_links b h links)
flows-in-range b None links small all = all
flows-in-range b (Some h) links small all = every-changed IsLinkInRange (has_peer_handle h) (flow_link b) links all (flow-in-range b small)

-- # Windows

pub either : {A : Type 0} (P : A → Type 0) (b : Bool) (x y : A) → P x → P y → P (cond b x y)
either P true x y h k = h
either P false x y h k = k

pub wire-small : (n : ℕ) → wire n < 2 ^ 32
wire-small n = omega arith

-- the windows after a flow that is heard
pub record AreTold (own : ℕ) (w : WindowsView) : Type 0 where
  pub window : w.window ≡ own
  pub next_incoming : Is32 w.next_incoming

pub flow-told : (v : View) (b : FlowBody) → AreTold v.windows.window (flow_windows v b)
flow-told v b =
    let P : WindowsView → Type 0 = λ w. AreTold v.windows.window w in
    let told : P (windows_by v b) =
    either P v.session.begin_sent (windows_heard (session_part b) v.windows) (windows_begun b.next_outgoing_id b.incoming_window b.outgoing_window v.windows)
    (record { window = refl; next_incoming = wire-small b.next_outgoing_id })
    (record { window = refl; next_incoming = wire-small b.next_outgoing_id })
    in
    either P (echoes v b) (windows_renewed (windows_by v b)) (windows_by v b) (record { window = told.window; next_incoming = told.next_incoming }) told

-- # Transfers

used-small : (d : Option Delivery) (c : CreditView) → c.credit < 2 ^ 32 → (credit_used d c).credit < 2 ^ 32
used-small None c h = less-small c.credit 1 h
used-small (Some d) c h = h

heard-in-range : (b : TransferBody) (payload : List ℕ) (l : LinkView) → IsLinkInRange l → IsLinkInRange (heard_on b payload l)
heard-in-range b payload l r = by l.left
  where
    by : (left : Bool) → IsLinkInRange (cond left l (received_on b payload l))
    by true = r
    by false = record { handle = r.handle; credit = used-small l.receiving l.credit r.credit; available = r.available }

told-in-range : (e : Event) (items : List SentItem) (links : List LinkView) → Every IsLinkInRange links → Every IsLinkInRange (map (told_more e items) links)
told-in-range e items [] all = tt
told-in-range e items (l ∷ links) all = (record { handle = all.0.handle; credit = all.0.credit; available = all.0.available }, told-in-range e items links all.1)

-- # All steps

-- one link is changed, and keeps what it tells
same-range : (l m : LinkView) → handle_of m.ours ≡ handle_of l.ours → m.credit.credit ≤ l.credit.credit → m.available ≡ l.available → IsLinkInRange l → IsLinkInRange m
same-range l m handle credit available r =
    record {
      handle = rw handle r.handle;
      credit = (let c = r.credit in omega (arith, c, credit));
      available = rw available r.available;
    }

changed : (v : View) (link : ℕ) (change : LinkView → LinkView) → IsInRange v
    → ((l : LinkView) → (handle_of (change l).ours ≡ handle_of l.ours) × ((change l).credit.credit ≤ l.credit.credit) × ((change l).available ≡ l.available))
    → Every IsLinkInRange (change_first (has_number link) change v.links)
changed v link change r keeps =
    every-changed IsLinkInRange (has_number link) change v.links r.links (λ l h. let k = keeps l in same-range l (change l) k.0 k.1 k.2 h)

grant-small : (v : View) (link credit : ℕ) (drain echo : Bool) (reply : Reply) → own_answer v (Grant link credit drain echo) ≡ Ok reply → credit < 2 ^ 32
grant-small v link credit drain echo reply h =
    let say : LinkView → Result Reply Refusal = λ l. sends v.max_frame (grant_refusals l credit) (grant_body v.windows (granted_on credit drain l) drain echo) [] given.Nothing in
    let o = on-link-ok v link say reply h in
    let s = sends-ok v.max_frame (grant_refusals o.on credit) (grant_body v.windows (granted_on credit drain o.on) drain echo) [] given.Nothing reply o.said in
    omega (arith, ltb-false 2147483647 credit s.none_holds.1.1.0)

attach-in-range : (v : View) (a : Wanted) → v.steps < 2 ^ 32 → IsSound v → IsInRange v → IsInRange (next_attach v a)
attach-in-range v a few s r =
    let most = links-few v s in
    let least = free-handle_small v.links in
    joined-in-range v (is_offered_as a.role a.name) a.role a.name (attached_by_us (attach_sent v a) a.items) (ours-in-range (attach_sent v a) a.items (omega (arith, most, least, few))) r

pub own-in-range : (v : View) (op : Op) (reply : Reply) → own_answer v op ≡ Ok reply → v.steps < 2 ^ 32 → IsSound v → IsOpInRange op → IsInRange v → IsInRange (next_own v op)
own-in-range v Begin reply h few s op r = record { window = r.window; links = r.links }
own-in-range v (Attach name role snd rcv source target count max_message) reply h few s op r =
    attach-in-range v (record { name = name; role = role; snd = snd; rcv = rcv; source = source; target = target; count = count; max_message = max_message; items = [] }) few s r
own-in-range v (Start link tag format settled payload more) reply h few s op r =
    record { window = r.window; links = changed v link (begin_delivery (next_delivery v) (length payload) more) r (λ l. (refl, omega arith, refl)) }
own-in-range v (Carry link payload more) reply h few s op r = record { window = r.window; links = changed v link (carry_on (length payload) more) r (λ l. (refl, omega arith, refl)) }
own-in-range v (Abort link) reply h few s op r = record { window = r.window; links = changed v link aborted r (λ l. (refl, omega arith, refl)) }
own-in-range v (Dispose role first last settled state) reply h few s op r = record { window = r.window; links = r.links }
own-in-range v (Learn link) reply h few s op r = record { window = r.window; links = changed v link learnt_from r (λ l. (refl, omega arith, refl)) }
own-in-range v (Grant link credit drain echo) reply h few s op r =
    let small = grant-small v link credit drain echo reply h in
    record { window = r.window; links = every-changed IsLinkInRange (has_number link) (granted_on credit drain) v.links r.links (λ l k. record { handle = k.handle; credit = small; available = k.available }) }
own-in-range v (Offer link available) reply h few s op r =
    record { window = r.window; links = every-changed IsLinkInRange (has_number link) (offered available) v.links r.links (λ l k. record { handle = k.handle; credit = k.credit; available = op }) }
own-in-range v (Drained link) reply h few s op r = record { window = r.window; links = changed v link drained r (λ l. (refl, omega arith, refl)) }
own-in-range v (Refresh echo) reply h few s op r = record { window = r.window; links = r.links }
own-in-range v (Take link) reply h few s op r = record { window = r.window; links = changed v link taken_from r (λ l. (refl, omega arith, refl)) }
own-in-range v (Detach link error) reply h few s op r = record { window = r.window; links = changed v link left_by_us r (λ l. (refl, omega arith, refl)) }
own-in-range v (Suspend link) reply h few s op r = record { window = r.window; links = changed v link left_by_us r (λ l. (refl, omega arith, refl)) }
own-in-range v (Rejoin j) reply h few s op r = attach-in-range v (rejoined j) few s r
own-in-range v (Resume link tag settled) reply h few s op r =
    by-bool (resume_begins tag (find (has_number link) v.links))
    (λ (anew : resume_begins tag (find (has_number link) v.links) ≡ true). rw anew (record { window = r.window; links = changed v link (begin_resumed tag) r (λ l. (refl, omega arith, refl)) }))
    (λ (none : resume_begins tag (find (has_number link) v.links) ≡ false). rw none (record { window = r.window; links = changed v link (resumed_from tag) r (λ l. (refl, omega arith, refl)) }))
own-in-range v (End error) reply h few s op r = record { window = r.window; links = tt }
own-in-range v Beat reply h few s op r = record { window = r.window; links = r.links }

body-in-range : (v : View) (body : Option Performative) (payload : List ℕ) (reply : Reply) → body_answer v body payload ≡ Ok reply → IsBodyInRange body → IsInRange v → IsInRange (next_body v body payload)
body-in-range v (Some (heard.Begin b)) payload reply h small r = record { window = r.window; links = r.links }
body-in-range v (Some (heard.Attach b)) payload reply h small r =
    joined-in-range v (is_asked_as (opposite b.role) b.name) (opposite b.role) b.name (attached_by_peer b) (theirs-in-range b) r
body-in-range v (Some (heard.Flow b)) payload reply h small r =
    let told = flow-told v b in
    record { window = rw told.window r.window; links = flows-in-range b b.handle v.links small r.links }
body-in-range v (Some (heard.Transfer b)) payload reply h small r =
    record { window = r.window; links = every-changed IsLinkInRange (has_peer_handle b.handle) (heard_on b payload) v.links r.links (heard-in-range b payload) }
body-in-range v (Some (heard.Disposition b)) payload reply h small r =
    record { window = r.window; links = told-in-range (sent_by_body v (Some (heard.Disposition b))) v.sent v.links r.links }
body-in-range v (Some (heard.Detach b)) payload reply h small r = record { window = r.window; links = every-removed IsLinkInRange (has_peer_handle b.handle) v.links r.links }
body-in-range v (Some (heard.End b)) payload reply h small r = record { window = r.window; links = tt }
body-in-range v _ payload reply h small r = absurd (cc)

pub heard-in-range-after : (v : View) (f : Frame) (reply : Reply) → heard_answer v f ≡ Ok reply → IsBodyInRange f.body → IsInRange v → IsInRange (next_heard v f)
heard-in-range-after v f reply h small r =
    by-bool (is_dropped v f.body)
    (λ (dropped : is_dropped v f.body ≡ true). rw dropped (record { window = r.window; links = r.links }))
    (λ (taken : is_dropped v f.body ≡ false). let k = rw taken at h in rw taken (body-in-range v f.body f.payload reply k small r))

pub initial-in-range : (c : Config) → IsWithinLimits c → IsInRange (initial c)
initial-in-range c limits = record { window = (let few = limits.takes_few in omega (arith, few)); links = tt }
