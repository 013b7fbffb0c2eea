-- Deliveries are unfinished on attached links alone, of ours where we send and of the peer's where we receive.
use Rattle.std.proofs.Common.{◌≡◌, ℕ, ◌+◌, ◌&&◌, Bool, true, false, not, cond, Option, Some, None, Result, Ok, List, [], ◌∷◌, ◌++◌, length, map, refl, find, is_some, subst, eqb}
use Rattle.amqp_performatives.specs.declared.bodies.AttachBody.{AttachBody}
use Rattle.amqp_performatives.specs.declared.bodies.FlowBody.{FlowBody}
use Rattle.amqp_performatives.specs.declared.bodies.TransferBody.{TransferBody}
use Rattle.amqp_performatives.specs.declared.bodies.Role.{Role}
use Rattle.amqp_performatives.specs.declared.bodies.Role.TheVariants.{Sender, Receiver}
use Rattle.amqp_performatives.specs.declared.performative.Performative.{Performative}
use Rattle.amqp_performatives.specs.declared.performative.Performative.TheVariants as heard
use Rattle.amqp_frames.specs.declared.frame.Frame.{Frame}
use Rattle.amqp_rules.specs.declared.op.Op.{Op}
use Rattle.amqp_rules.specs.declared.op.Op.TheVariants.{Begin, Attach, Start, Carry, Abort, Dispose, Learn, Grant, Offer, Drained, Refresh, Take, Detach, Suspend, Rejoin, Resume, End, Beat}
use Rattle.amqp_rules.specs.declared.reply.Reply.{Reply}
use Rattle.amqp_rules.specs.declared.reply.Given.TheVariants as given
use Rattle.amqp_rules.specs.declared.violation.Violation.{Violation}
use Rattle.amqp_rules.specs.declared.violation.ViolationKind.TheVariants.{OutOfSession, BadHandle}
use Rattle.amqp_waiting.specs.declared.item.SuspendedItem.{SuspendedItem}
use Rattle.amqp_rules.specs.Rejoin.{rejoined}
use Rattle.amqp_rules.specs.Resume.{resume_begins, begin_resumed, resumed_from}
use Rattle.amqp_rules.specs.View.{EndView, LinkView, SendingView, View, change_first, handle_of, has_number, has_peer_handle, holds, is_asked_as, is_attached, is_offered_as, is_sender, new_link, next_delivery, opposite, same_role, takes_frames}
use Rattle.amqp_rules.specs.Refusing.{answered, first_refusal, if_there, unlinked}
use Rattle.amqp_rules.specs.Sending.{sends}
use Rattle.amqp_rules.specs.Answer.{body_answer, heard_answer, is_dropped, next_body, next_heard, next_own, own_answer}
use Rattle.amqp_rules.specs.Attach.{Wanted, attach_sent, attached_by_peer, attached_by_us, join_link, next_attach}
use Rattle.amqp_rules.specs.Start.{begin_delivery, sending_after, start_body, start_refusals}
use Rattle.amqp_rules.specs.Carry.{carried, carry_on}
use Rattle.amqp_rules.specs.Abort.{aborted}
use Rattle.amqp_rules.specs.Learn.{learnt_from}
use Rattle.amqp_rules.specs.Grant.{granted_on}
use Rattle.amqp_rules.specs.Offer.{offered}
use Rattle.amqp_rules.specs.Drained.{drained}
use Rattle.amqp_rules.specs.Take.{taken_from}
use Rattle.amqp_rules.specs.Detach.{left_by_us}
use Rattle.amqp_rules.specs.Flow.{flow_link, flow_links, flowed}
use Rattle.amqp_rules.specs.PeerTransfer.{heard_on, received_on, receives, transfer_reply, transfer_violations}
use Rattle.amqp_rules.specs.PeerDisposition.{told_more}
use Rattle.amqp_rules.specs.Deliveries.{sent_by_body}
use Rattle.amqp_rules.specs.Sound.{Every, IsUnfinished}
use Rattle.amqp_rules.proofs.Accepted.{answered_Ok, no_refusal, not-false, on-link-ok, sends-ok, there_Ok, unless_Ok}
use Rattle.amqp_rules.proofs.Listed.{by-bool, every-changed, every-more, every-removed}
use Rattle.amqp_events.specs.Event.{Event}
use Rattle.amqp_events.specs.Told.{SentItem}

-- the link that is found is changed
every-found : {A : Type 0} (P : A → Type 0) (test : A → Bool) (change : A → A) (xs : List A) (on : A) → Every P xs → find test xs ≡ Some on → (P on → test on ≡ true → P (change on)) → Every P (change_first test change xs)
every-found P test change [] on all h keeps = tt
every-found P test change (x ∷ xs) on all h keeps =
    by-bool (test x)
    (λ (t : test x ≡ true). let h' = rw t at h in let same : x ≡ on = cc in rw t (subst (λ y. P y → test y ≡ true → P (change y)) (let back : on ≡ x = cc in back) keeps all.0 t, all.1))
    (λ (t : test x ≡ false). let h' = rw t at h in rw t (all.0, every-found P test change xs on all.1 h' keeps))

and-false : (b : Bool) → b && false ≡ false
and-false true = refl
and-false false = refl

-- # Attaches

with-ours : (some o t left s : Bool) → some && not (((o && t) && not left) && s) ≡ false → some && not (((true && t) && not left) && s) ≡ false
with-ours false o t left s h = refl
with-ours true true t left s h = h
with-ours true false t left s h = absurd (cc)

with-theirs : (some o t left s : Bool) → some && not (((o && t) && not left) && s) ≡ false → some && not (((o && true) && not left) && s) ≡ false
with-theirs false o t left s h = refl
with-theirs true o true left s h = h
with-theirs true true false left s h = absurd (cc)
with-theirs true false t left s h = absurd (cc)

ours-unfinished : (b : AttachBody) (items : List SuspendedItem) (l : LinkView) → IsUnfinished l → IsUnfinished (attached_by_us b items l)
ours-unfinished b items l u =
    record {
      sending = with-ours (is_some l.sending) (is_some l.ours) (is_some l.theirs) l.left (is_sender l.role) u.sending;
      receiving = with-ours (is_some l.receiving) (is_some l.ours) (is_some l.theirs) l.left (not (is_sender l.role)) u.receiving;
    }

theirs-unfinished : (b : AttachBody) (l : LinkView) → IsUnfinished l → IsUnfinished (attached_by_peer b l)
theirs-unfinished b l u =
    record {
      sending = with-theirs (is_some l.sending) (is_some l.ours) (is_some l.theirs) l.left (is_sender l.role) u.sending;
      receiving = with-theirs (is_some l.receiving) (is_some l.ours) (is_some l.theirs) l.left (not (is_sender l.role)) u.receiving;
    }

new-unfinished : (number : ℕ) (role : Role) (name : List ℕ) → IsUnfinished (new_link number role name)
new-unfinished number role name = record { sending = refl; receiving = refl }

joined-unfinished : (v : View) (test : LinkView → Bool) (role : Role) (name : List ℕ) (change : LinkView → LinkView)
    → ((l : LinkView) → IsUnfinished l → IsUnfinished (change l)) → Every IsUnfinished v.links → Every IsUnfinished (join_link test role name change v).links
joined-unfinished v test role name change keeps all = by (is_some (find test v.links))
  where
    by : (met : Bool) → Every IsUnfinished (cond met (record v { steps = v.steps + 1; links = change_first test change v.links }) (record v { steps = v.steps + 1; made = v.made + 1; links = v.links ++ change (new_link v.made role name) ∷ [] })).links
    by true = every-changed IsUnfinished test change v.links all keeps
    by false = every-more IsUnfinished v.links (change (new_link v.made role name)) all (keeps (new_link v.made role name) (new-unfinished v.made role name))

-- # Deliveries

both-true : (a b : Bool) → a ≡ true → b ≡ true → a && b ≡ true
both-true true b h k = k
both-true false b h k = absurd (cc)

allowed : (some may : Bool) → may ≡ true → some && not may ≡ false
allowed some true h = and-false some
allowed some false h = absurd (cc)

begun-unfinished : (id size : ℕ) (more : Bool) (l : LinkView) → is_attached l ≡ true → is_sender l.role ≡ true → IsUnfinished l → IsUnfinished (begin_delivery id size more l)
begun-unfinished id size more l attached sends' u =
    record { sending = allowed (is_some (sending_after more id size)) (is_attached l && is_sender l.role) (both-true (is_attached l) (is_sender l.role) attached sends'); receiving = u.receiving }

sends-by-role : (role : Role) → same_role Sender role ≡ true → is_sender role ≡ true
sends-by-role Sender h = refl
sends-by-role Receiver h = absurd (cc)

start-unfinished : (v : View) (link : ℕ) (tag : List ℕ) (format : ℕ) (settled : Bool) (payload : List ℕ) (more : Bool) (reply : Reply)
    → own_answer v (Start link tag format settled payload more) ≡ Ok reply → Every IsUnfinished v.links
    → Every IsUnfinished (change_first (has_number link) (begin_delivery (next_delivery v) (length payload) more) v.links)
start-unfinished v link tag format settled payload more reply h all =
    let id = next_delivery v in
    let o = on-link-ok v link (λ l. sends v.max_frame (start_refusals v l tag settled payload) (start_body (handle_of l.ours) id tag format settled more) payload (given.Delivery id)) reply h in
    let s = sends-ok v.max_frame (start_refusals v o.on tag settled payload) (start_body (handle_of o.on.ours) id tag format settled more) payload (given.Delivery id) reply o.said in
    every-found IsUnfinished (has_number link) (begin_delivery id (length payload) more) v.links o.on all o.found
    (λ u t. begun-unfinished id (length payload) more o.on (not-false (is_attached o.on) s.none_holds.0) (sends-by-role o.on.role (not-false (same_role Sender o.on.role) s.none_holds.1.0)) u)

carry-some : (size : ℕ) (more : Bool) (d : Option SendingView) (x : Bool) → is_some d && x ≡ false → is_some (carried size more d) && x ≡ false
carry-some size more None x h = refl
carry-some size true (Some d) x h = h
carry-some size false (Some d) x h = refl

carry-unfinished : (size : ℕ) (more : Bool) (l : LinkView) → IsUnfinished l → IsUnfinished (carry_on size more l)
carry-unfinished size more l u = record { sending = carry-some size more l.sending (not (is_attached l && is_sender l.role)) u.sending; receiving = u.receiving }

flow-unfinished : (b : FlowBody) (l : LinkView) → IsUnfinished l → IsUnfinished (flow_link b l)
flow-unfinished b l u = by l.left
  where
    by : (left : Bool) → IsUnfinished (cond left l (flowed b l))
    by true = u
    by false = record { sending = u.sending; receiving = u.receiving }

flows-unfinished : (b : FlowBody) (h : Option ℕ) (links : List LinkView) → Every IsUnfinished links → Every IsUnfinished (flow_links b h links)
flows-unfinished b None links all = all
flows-unfinished b (Some h) links all = every-changed IsUnfinished (has_peer_handle h) (flow_link b) links all (flow-unfinished b)

-- a link that the peer calls by a handle has its attach
has-theirs : (test : EndView → Bool) (o : Option EndView) → holds test o ≡ true → is_some o ≡ true
has-theirs test None h = absurd (cc)
has-theirs test (Some e) h = refl

takes-there : (ours theirs left sender : Bool) → ours && not sender ≡ true → theirs ≡ true → left ≡ false → ((ours && theirs) && not left) && not sender ≡ true
takes-there true true false false a b c = refl
takes-there true true false true a b c = absurd (cc)
takes-there true true true sender a b c = absurd (cc)
takes-there true false left sender a b c = absurd (cc)
takes-there false theirs left sender a b c = absurd (cc)

heard-unfinished : (b : TransferBody) (payload : List ℕ) (l : LinkView) → receives l ≡ true → has_peer_handle b.handle l ≡ true → IsUnfinished l → IsUnfinished (heard_on b payload l)
heard-unfinished b payload l takes called u = by l.left refl
  where
    by : (left : Bool) → l.left ≡ left → IsUnfinished (cond left l (received_on b payload l))
    by true h = u
    by false h =
        let here = takes-there (is_some l.ours) (is_some l.theirs) l.left (is_sender l.role) takes (has-theirs (λ e. eqb e.handle b.handle) l.theirs called) h in
        record { sending = u.sending; receiving = allowed (is_some (received_on b payload l).receiving) (is_attached l && not (is_sender l.role)) here }

transfer-unfinished : (v : View) (b : TransferBody) (payload : List ℕ) (reply : Reply) → body_answer v (Some (heard.Transfer b)) payload ≡ Ok reply → Every IsUnfinished v.links
    → Every IsUnfinished (change_first (has_peer_handle b.handle) (heard_on b payload) v.links)
transfer-unfinished v b payload reply h all =
    let say : LinkView → Result Reply Violation = λ l. answered (first_refusal (transfer_violations v b payload l)) (transfer_reply v b l) in
    let u = unless_Ok (not (takes_frames v.session)) (unlinked OutOfSession) (if_there (find (has_peer_handle b.handle) v.links) (unlinked BadHandle) say) reply h in
    let t = there_Ok (find (has_peer_handle b.handle) v.links) (unlinked BadHandle) say reply u.1 in
    let a = answered_Ok (first_refusal (transfer_violations v b payload t.on)) (transfer_reply v b t.on) reply t.said in
    let k = no_refusal (transfer_violations v b payload t.on) a.none in
    every-found IsUnfinished (has_peer_handle b.handle) (heard_on b payload) v.links t.on all t.found (λ x called. heard-unfinished b payload t.on (not-false (receives t.on) k.0) called x)

told-unfinished : (e : Event) (items : List SentItem) (links : List LinkView) → Every IsUnfinished links → Every IsUnfinished (map (told_more e items) links)
told-unfinished e items [] all = tt
told-unfinished e items (l ∷ links) all = (record { sending = all.0.sending; receiving = all.0.receiving }, told-unfinished e items links all.1)

-- # All steps

attach-unfinished : (v : View) (a : Wanted) → Every IsUnfinished v.links → Every IsUnfinished (next_attach v a).links
attach-unfinished v a all = joined-unfinished v (is_offered_as a.role a.name) a.role a.name (attached_by_us (attach_sent v a) a.items) (ours-unfinished (attach_sent v a) a.items) all

pub own-unfinished : (v : View) (op : Op) (reply : Reply) → own_answer v op ≡ Ok reply → Every IsUnfinished v.links → Every IsUnfinished (next_own v op).links
own-unfinished v Begin reply h all = all
own-unfinished v (Attach name role snd rcv source target count max_message) reply h all =
    attach-unfinished v (record { name = name; role = role; snd = snd; rcv = rcv; source = source; target = target; count = count; max_message = max_message; items = [] }) all
own-unfinished v (Start link tag format settled payload more) reply h all = start-unfinished v link tag format settled payload more reply h all
own-unfinished v (Carry link payload more) reply h all = every-changed IsUnfinished (has_number link) (carry_on (length payload) more) v.links all (carry-unfinished (length payload) more)
own-unfinished v (Abort link) reply h all = every-changed IsUnfinished (has_number link) aborted v.links all (λ l u. record { sending = refl; receiving = u.receiving })
own-unfinished v (Dispose role first last settled state) reply h all = all
own-unfinished v (Learn link) reply h all = every-changed IsUnfinished (has_number link) learnt_from v.links all (λ l u. record { sending = u.sending; receiving = u.receiving })
own-unfinished v (Grant link credit drain echo) reply h all = every-changed IsUnfinished (has_number link) (granted_on credit drain) v.links all (λ l u. record { sending = u.sending; receiving = u.receiving })
own-unfinished v (Offer link available) reply h all = every-changed IsUnfinished (has_number link) (offered available) v.links all (λ l u. record { sending = u.sending; receiving = u.receiving })
own-unfinished v (Drained link) reply h all = every-changed IsUnfinished (has_number link) drained v.links all (λ l u. record { sending = u.sending; receiving = u.receiving })
own-unfinished v (Refresh echo) reply h all = all
own-unfinished v (Take link) reply h all = every-changed IsUnfinished (has_number link) taken_from v.links all (λ l u. record { sending = u.sending; receiving = u.receiving })
own-unfinished v (Detach link error) reply h all = every-changed IsUnfinished (has_number link) left_by_us v.links all (λ l u. record { sending = refl; receiving = refl })
own-unfinished v (Suspend link) reply h all = every-changed IsUnfinished (has_number link) left_by_us v.links all (λ l u. record { sending = refl; receiving = refl })
own-unfinished v (Rejoin j) reply h all = attach-unfinished v (rejoined j) all
own-unfinished v (Resume link tag settled) reply h all =
    by-bool (resume_begins tag (find (has_number link) v.links))
    (λ (anew : resume_begins tag (find (has_number link) v.links) ≡ true). rw anew (every-changed IsUnfinished (has_number link) (begin_resumed tag) v.links all (λ l u. record { sending = u.sending; receiving = u.receiving })))
    (λ (none : resume_begins tag (find (has_number link) v.links) ≡ false). rw none (every-changed IsUnfinished (has_number link) (resumed_from tag) v.links all (λ l u. record { sending = u.sending; receiving = u.receiving })))
own-unfinished v (End error) reply h all = tt
own-unfinished v Beat reply h all = all

body-unfinished : (v : View) (body : Option Performative) (payload : List ℕ) (reply : Reply) → body_answer v body payload ≡ Ok reply → Every IsUnfinished v.links → Every IsUnfinished (next_body v body payload).links
body-unfinished v (Some (heard.Begin b)) payload reply h all = all
body-unfinished v (Some (heard.Attach b)) payload reply h all = joined-unfinished v (is_asked_as (opposite b.role) b.name) (opposite b.role) b.name (attached_by_peer b) (theirs-unfinished b) all
body-unfinished v (Some (heard.Flow b)) payload reply h all = flows-unfinished b b.handle v.links all
body-unfinished v (Some (heard.Transfer b)) payload reply h all = transfer-unfinished v b payload reply h all
body-unfinished v (Some (heard.Disposition b)) payload reply h all = told-unfinished (sent_by_body v (Some (heard.Disposition b))) v.sent v.links all
body-unfinished v (Some (heard.Detach b)) payload reply h all = every-removed IsUnfinished (has_peer_handle b.handle) v.links all
body-unfinished v (Some (heard.End b)) payload reply h all = tt
body-unfinished v _ payload reply h all = absurd (cc)

pub heard-unfinished-after : (v : View) (f : Frame) (reply : Reply) → heard_answer v f ≡ Ok reply → Every IsUnfinished v.links → Every IsUnfinished (next_heard v f).links
heard-unfinished-after v f reply h all =
    by-bool (is_dropped v f.body)
    (λ (dropped : is_dropped v f.body ≡ true). rw dropped all)
    (λ (taken : is_dropped v f.body ≡ false). let k = rw taken at h in rw taken (body-unfinished v f.body f.payload reply k all))
