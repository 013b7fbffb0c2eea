-- In a world no delivery waits to be resumed: nothing is brought in.
use Rattle.std.proofs.Common.{◌≡◌, ℕ, ◌+◌, Bool, true, false, cond, Option, Some, None, List, [], ◌∷◌, ◌++◌, map, find, is_some, refl, sym, ap, ◌∙◌, subst}
use Rattle.amqp_performatives.specs.declared.bodies.AttachBody.{AttachBody}
use Rattle.amqp_performatives.specs.declared.bodies.FlowBody.{FlowBody}
use Rattle.amqp_performatives.specs.declared.bodies.TransferBody.{TransferBody}
use Rattle.amqp_performatives.specs.declared.bodies.Role.{Role}
use Rattle.amqp_performatives.specs.declared.bodies.Role.TheVariants.{Sender, Receiver}
use Rattle.amqp_performatives.specs.declared.performative.Performative.{Performative}
use Rattle.amqp_performatives.specs.declared.performative.Performative.TheVariants as heard
use Rattle.amqp_events.specs.Event.{Event}
use Rattle.amqp_events.specs.Joined.{Delivery, Transferred}
use Rattle.amqp_events.specs.Told.{SentItem}
use Rattle.amqp_waiting.specs.declared.peer.Unsettled.{Unsettled}
use Rattle.amqp_waiting.specs.Waiting.{WaitingItem, without}
use Rattle.amqp_waiting.specs.PeerUnsettled.{unsettled_of}
use Rattle.amqp_rules.specs.declared.config.Config.{Config}
use Rattle.amqp_rules.specs.declared.op.Op.{Op}
use Rattle.amqp_rules.specs.declared.op.Op.TheVariants.{Begin, Attach, Start, Carry, Abort, Dispose, Learn, Grant, Offer, Drained, Refresh, Take, Detach, Suspend, Rejoin, Resume, End, Beat}
use Rattle.amqp_rules.specs.declared.reply.Reply.{Reply}
use Rattle.amqp_rules.specs.View.{EndView, LinkView, View, change_first, has_number, has_peer_handle, is_asked_as, is_offered_as, new_link, opposite, rcv_mode}
use Rattle.amqp_rules.specs.Answer.{is_dropped, next_body, next_own}
use Rattle.amqp_rules.specs.Attach.{attach_sent, attached_by_peer, attached_by_us, join_link, met_where}
use Rattle.amqp_rules.specs.Flow.{flow_link, flow_links, flowed}
use Rattle.amqp_rules.specs.PeerTransfer.{heard_on, received_on, waiting_after}
use Rattle.amqp_rules.specs.PeerDisposition.{told_more}
use Rattle.amqp_rules.specs.Deliveries.{sent_by_body, transferred}
use Rattle.amqp_rules.specs.Sound.{Every}
use Rattle.amqp_rules.proofs.Listed.{by-bool, every-changed, every-more, every-removed}
use Rattle.amqp_laws.specs.declared.entry.Entry.{Entry}
use Rattle.amqp_laws.specs.declared.entry.Step.{Step}
use Rattle.amqp_laws.specs.declared.entry.Step.TheVariants.{Opened, Own, Heard}
use Rattle.amqp_laws.specs.At.{at}
use Rattle.amqp_laws.specs.Lawful.{next}
use Rattle.amqp_pair_laws.proofs.Plain.{Answers, OwnAnswers, due}
use Rattle.amqp_pair_laws.proofs.SlotActs.{AllFair, one-more}

-- nothing waits on the link
abbrev Idle : LinkView → Type 0
Idle l = l.waiting ≡ []

-- # Attaches

none-met : (o : Option EndView) (role : Role) (u : Unsettled) (ws : List WaitingItem) → ws ≡ [] → met_where o role u ws ≡ []
none-met None role u ws e = e
none-met (Some x) role u ws e = ap (met_where (Some x) role u) e ∙ none role
  where
    none : (role : Role) → met_where (Some x) role u [] ≡ []
    none Sender = refl
    none Receiver = refl

us-idle : (b : AttachBody) (l : LinkView) → Idle l → Idle (attached_by_us b [] l)
us-idle b l e = none-met l.theirs l.role l.offer [] refl

peer-idle : (b : AttachBody) (l : LinkView) → Idle l → Idle (attached_by_peer b l)
peer-idle b l e = none-met l.ours l.role (unsettled_of b) l.waiting e

joined-idle : (v : View) (test : LinkView → Bool) (role : Role) (name : List ℕ) (change : LinkView → LinkView) → ((l : LinkView) → Idle l → Idle (change l)) → Every Idle v.links → Every Idle (join_link test role name change v).links
joined-idle v test role name change keeps all = by (is_some (find test v.links))
  where
    by : (met : Bool) → Every Idle (cond met (record v { steps = v.steps + 1; links = change_first test change v.links }) (record v { steps = v.steps + 1; made = v.made + 1; links = v.links ++ change (new_link v.made role name) ∷ [] })).links
    by true = every-changed Idle test change v.links all keeps
    by false = every-more Idle v.links (change (new_link v.made role name)) all (keeps (new_link v.made role name) refl)

-- # Operations

own-idle : (v : View) (op : Op) (reply : Reply) → OwnAnswers v op reply → Every Idle v.links → Every Idle (next_own v op).links
own-idle v Begin reply h all = all
own-idle v (Attach name role snd rcv source target count max_message) reply h all =
    let b = attach_sent v (record { name = name; role = role; snd = snd; rcv = rcv; source = source; target = target; count = count; max_message = max_message; items = [] }) in
    joined-idle v (is_offered_as role name) role name (attached_by_us b []) (us-idle b) all
own-idle v (Start link tag format settled payload more) reply h all = every-changed Idle (has_number link) _ v.links all (λ l e. e)
own-idle v (Carry link payload more) reply h all = every-changed Idle (has_number link) _ v.links all (λ l e. e)
own-idle v (Abort link) reply h all = every-changed Idle (has_number link) _ v.links all (λ l e. e)
own-idle v (Dispose role first last settled state) reply h all = all
own-idle v (Learn link) reply h all = every-changed Idle (has_number link) _ v.links all (λ l e. e)
own-idle v (Grant link credit drain echo) reply h all = every-changed Idle (has_number link) _ v.links all (λ l e. e)
own-idle v (Offer link available) reply h all = every-changed Idle (has_number link) _ v.links all (λ l e. e)
own-idle v (Drained link) reply h all = every-changed Idle (has_number link) _ v.links all (λ l e. e)
own-idle v (Refresh echo) reply h all = all
own-idle v (Take link) reply h all = every-changed Idle (has_number link) _ v.links all (λ l e. e)
own-idle v (Detach link error) reply h all = every-changed Idle (has_number link) _ v.links all (λ l e. e)
own-idle v (Suspend link) reply h all = every-changed Idle (has_number link) _ v.links all (λ l e. e)
own-idle v (Rejoin r) reply h all = absurd h
own-idle v (Resume link tag settled) reply h all = absurd h
own-idle v (End error) reply h all = tt
own-idle v Beat reply h all = all

-- # Frames

flow-idle : (b : FlowBody) (l : LinkView) → Idle l → Idle (flow_link b l)
flow-idle b l e = by l.left
  where
    by : (left : Bool) → Idle (cond left l (flowed b l))
    by true = e
    by false = e

flows-idle : (b : FlowBody) (h : Option ℕ) (links : List LinkView) → Every Idle links → Every Idle (flow_links b h links)
flows-idle b None links all = all
flows-idle b (Some h) links all = every-changed Idle (has_peer_handle h) (flow_link b) links all (flow-idle b)

after-idle : (t : Transferred) (d : Option Delivery) (ws : List WaitingItem) → ws ≡ [] → waiting_after t d ws ≡ []
after-idle t (Some d) ws e = e
after-idle t None ws e = ap (waiting_after t None) e ∙ none t.resumed
  where
    none : (resumed : Bool) → cond {A = List WaitingItem} resumed (without t.tag []) [] ≡ []
    none true = refl
    none false = refl

heard-idle : (b : TransferBody) (payload : List ℕ) (l : LinkView) → Idle l → Idle (heard_on b payload l)
heard-idle b payload l e = by l.left
  where
    by : (left : Bool) → Idle (cond left l (received_on b payload l))
    by true = e
    by false = after-idle (transferred (rcv_mode l) b payload) l.receiving l.waiting e

told-idle : (e : Event) (items : List SentItem) (links : List LinkView) → Every Idle links → Every Idle (map (told_more e items) links)
told-idle e items [] all = tt
told-idle e items (l ∷ links) all = (all.0, told-idle e items links all.1)

body-idle : (v : View) (body : Option Performative) (payload : List ℕ) → Every Idle v.links → Every Idle (next_body v body payload).links
body-idle v (Some (heard.Attach b)) payload all = joined-idle v (is_asked_as (opposite b.role) b.name) (opposite b.role) b.name (attached_by_peer b) (peer-idle b) all
body-idle v (Some (heard.Flow b)) payload all = flows-idle b b.handle v.links all
body-idle v (Some (heard.Transfer b)) payload all = every-changed Idle (has_peer_handle b.handle) (heard_on b payload) v.links all (heard-idle b payload)
body-idle v (Some (heard.Disposition b)) payload all = told-idle (sent_by_body v (Some (heard.Disposition b))) v.sent v.links all
body-idle v (Some (heard.Detach b)) payload all = every-removed Idle (has_peer_handle b.handle) v.links all
body-idle v (Some (heard.End b)) payload all = tt
body-idle v _ payload all = all

step-idle : (v : View) (step : Step) (reply : Reply) → Answers v step reply → Every Idle v.links → Every Idle (next v step).links
step-idle v (Opened told) reply h all = all
step-idle v (Own op) reply h all = own-idle v op reply h all
step-idle v (Heard f) reply h all =
    by-bool (is_dropped v f.body)
    (λ (dropped : is_dropped v f.body ≡ true). rw dropped all)
    (λ (taken : is_dropped v f.body ≡ false). rw taken (body-idle v f.body f.payload all))

-- # Along a journal

pub none-wait : (c : Config) (past : List Entry) → AllFair c past → Every (λ l. l.waiting ≡ []) (at c past).links
none-wait c [] h = tt
none-wait c (e ∷ past) h =
    let o = one-more (Sender, []) c e past h in
    subst (λ (v : View). Every Idle v.links) (sym o.goes_on) (step-idle (at c past) e.step e.reply (due h.1) (none-wait c past h.0))

-- of one that is found
pub none-waits-on : (test : LinkView → Bool) (links : List LinkView) (l : LinkView) → Every (λ l. l.waiting ≡ []) links → find test links ≡ Some l → l.waiting ≡ []
none-waits-on test [] l all found = absurd (cc (found))
none-waits-on test (k ∷ links) l all found =
    by-bool (test k)
    (λ (t : test k ≡ true). let h = rw t at found in let same : k ≡ l = cc in subst (λ (m : LinkView). m.waiting ≡ []) same all.0)
    (λ (t : test k ≡ false). let h = rw t at found in none-waits-on test links l all.1 h)
