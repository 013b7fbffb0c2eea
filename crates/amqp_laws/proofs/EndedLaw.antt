-- Each reply names the deliveries that its step ends.
use Rattle.amqp_waiting.specs.Waiting.{WaitingItem, waits_as}
use Rattle.amqp_rules.specs.Rejoin.{rejoined}
use Rattle.amqp_rules.specs.Resume.{unless_refused, resume_sends, early_refusals, resume_refusals, resume_item, resume_body, resumed_to, outcome_of, is_unclear, absent_reply}
use Rattle.std.proofs.Common.{◌≡◌, ℕ, ◌||◌, Bool, true, false, not, cond, Option, None, Some, Result, Ok, Err, List, [], ◌∷◌, map, option_map, find, refl, sym, ◌==◌}
use Rattle.std.specs.Option.{option_or}
use Rattle.amqp_performatives.specs.declared.bodies.DetachBody.{DetachBody}
use Rattle.amqp_performatives.specs.declared.bodies.Role.{Role}
use Rattle.amqp_performatives.specs.declared.bodies.Role.TheVariants.{Sender, Receiver}
use Rattle.amqp_performatives.specs.declared.performative.Performative.{Performative}
use Rattle.amqp_performatives.specs.declared.performative.Performative.TheVariants as heard
use Rattle.amqp_rules.specs.declared.op.Op.{Op}
use Rattle.amqp_rules.specs.declared.op.Op.TheVariants.{Begin, Attach, Start, Carry, Abort, Dispose, Learn, Grant, Offer, Drained, Refresh, Take, Detach, Suspend, Rejoin, Resume, End, Beat}
use Rattle.amqp_rules.specs.declared.reply.Reply.{Reply}
use Rattle.amqp_rules.specs.declared.reply.Given.{Given}
use Rattle.amqp_rules.specs.declared.refusal.Refusal.{Refusal}
use Rattle.amqp_rules.specs.declared.refusal.Refusal.TheVariants.{NoLink, WrongRole, NotMapped, NotWaiting, Unclear as Not_clear}
use Rattle.amqp_rules.specs.declared.violation.ViolationKind.TheVariants.{OutOfSession, BadHandle}
use Rattle.amqp_rules.specs.View.{View, LinkView, SendingView, has_number, has_peer_handle, handle_of, is_mapped, is_attached, is_ending, is_offered_as, next_delivery, same_role, takes_frames, rcv_mode}
use Rattle.amqp_rules.specs.Refusing.{first_refusal, answered, if_there, unless, unlinked}
use Rattle.amqp_rules.specs.Sending.{frame_refused, sends, sends_ending, reply_of, reply_ending}
use Rattle.amqp_rules.specs.OnLink.{on_link}
use Rattle.amqp_rules.specs.Deliveries.{sent_by_own, sent_by_body, received_by_own, received_by_body, begun_on, continued_on, sending_on, left_by_peer, ended_by, disposition_of, resumed_on, resumed_as, is_sent_anew, is_partial}
use Rattle.amqp_rules.specs.Take.{take_first}
use Rattle.amqp_rules.specs.Learn.{learn_first}
use Rattle.amqp_rules.specs.declared.reply.Given.TheVariants as given
use Rattle.amqp_rules.specs.Telling.{flag}
use Rattle.amqp_rules.specs.OnLink.{attached_as}
use Rattle.amqp_rules.specs.Opened.{no_reply}
use Rattle.amqp_rules.specs.Begin.{begin_refusals, begin_body}
use Rattle.amqp_rules.specs.Attach.{Wanted, attach_refusals, attach_sent, number_met}
use Rattle.amqp_rules.specs.Start.{start_refusals, start_body}
use Rattle.amqp_rules.specs.Carry.{carry_refusals, later_body}
use Rattle.amqp_rules.specs.Abort.{abort_refusals}
use Rattle.amqp_rules.specs.Dispose.{dispose_refusals, dispose_body}
use Rattle.amqp_rules.specs.Grant.{grant_refusals, grant_body, granted_on}
use Rattle.amqp_rules.specs.Offer.{offer_body, offered}
use Rattle.amqp_rules.specs.Drained.{drained_refusals, drained_body, drained}
use Rattle.amqp_rules.specs.Refresh.{refresh_body}
use Rattle.amqp_rules.specs.Detach.{detach_refusals, detach_body}
use Rattle.amqp_rules.specs.End.{end_body}
use Rattle.amqp_rules.specs.PeerBegin.{begin_violations}
use Rattle.amqp_rules.specs.PeerAttach.{attach_violations, attach_heard_reply}
use Rattle.amqp_rules.specs.PeerDisposition.{disposition_violations, disposition_reply}
use Rattle.amqp_rules.specs.Flow.{flow_violations, flow_reply, echoes, flow_windows, flow_link, named_link, echo_body}
use Rattle.amqp_rules.specs.Suspend.{put_aside}
use Rattle.amqp_rules.specs.PeerDetach.{detach_reply, parting}
use Rattle.amqp_rules.specs.PeerEnd.{end_reply}
use Rattle.amqp_rules.specs.PeerTransfer.{transfer_violations, transfer_reply}
use Rattle.amqp_rules.specs.Answer.{own_answer, body_answer}
use Rattle.amqp_events.specs.Event.{Item, Disposition, Event, Leaves, Over, Learns, Takes, Begins}
use Rattle.amqp_events.specs.Event.{Nothing as No_event}
use Rattle.amqp_events.specs.Joined.{Delivery}
use Rattle.amqp_events.specs.Told.{Telling, next_sent_held}
use Rattle.amqp_events.specs.Unsettled.{ends, next_held}
use Rattle.amqp_events.specs.Named.{ids_gone}
use Rattle.amqp_events.proofs.Gone.{quiet-gone, items-next}

-- if it is a reply, it ends these
abbrev pub Ends : {E : Type 0} → List (Role × ℕ) → Result Reply E → Type 0
Ends l (Ok r) = r.ended ≡ l
Ends l (Err e) = Unit {0}

ends-answered : {E : Type 0} (l : List (Role × ℕ)) (o : Option E) (r : Reply) → r.ended ≡ l → Ends l (answered o r)
ends-answered l None r h = h
ends-answered l (Some e) r h = tt

ends-unless : {E : Type 0} (l : List (Role × ℕ)) (b : Bool) (e : E) (a : Result Reply E) → Ends l a → Ends l (unless b e a)
ends-unless l true e a h = tt
ends-unless l false e a h = h

ends-there : {A E : Type 0} (l : List (Role × ℕ)) (o : Option A) (e : E) (say : A → Result Reply E) → ((x : A) → o ≡ Some x → Ends l (say x)) → Ends l (if_there o e say)
ends-there l None e say h = tt
ends-there l (Some x) e say h = h x refl

ends-on : (l : List (Role × ℕ)) (v : View) (link : ℕ) (say : LinkView → Result Reply Refusal) → ((x : LinkView) → Ends l (say x)) → Ends l (on_link v link say)
ends-on l v link say h =
    ends-unless l (not (is_mapped v.session)) NotMapped (if_there (find (has_number link) v.links) NoLink say)
    (ends-there l (find (has_number link) v.links) NoLink say (λ x found. h x))

ends-sends : (l : List (Role × ℕ)) (max : ℕ) (rows : List (Bool × Refusal)) (body : Option Performative) (payload : List ℕ) (given : Given)
    → l ≡ [] → Ends l (sends max rows body payload given)
ends-sends l max rows body payload given h =
    ends-answered l (option_or (first_refusal rows) (frame_refused max body payload)) (reply_of body payload given) (sym h)

ends-ending : (l : List (Role × ℕ)) (max : ℕ) (rows : List (Bool × Refusal)) (body : Option Performative) (given : Given)
    → Ends l (sends_ending max rows body l given)
ends-ending l max rows body given = ends-answered l (option_or (first_refusal rows) (frame_refused max body [])) (reply_ending body [] l given) refl

-- # Nothing is ended

pub ends-none : (sent received : Event) (v : View) → ((i : Item) → ends sent i ≡ false) → ((i : Item) → ends received i ≡ false) → ended_by sent received v ≡ []
ends-none sent received v s r =
    let items = map (λ s. s.item) v.sent in
    let gone_sent : ids_gone items (map (λ s. s.item) (next_sent_held sent v.sent)) ≡ [] = rw (items-next sent v.sent) (quiet-gone sent items s) in
    let gone_received : ids_gone v.received (next_held received v.received) ≡ [] = quiet-gone received v.received r in
    rw (gone_sent, gone_received) refl

still : (v : View) → ended_by No_event No_event v ≡ []
still v = ends-none No_event No_event v (λ i. refl) (λ i. refl)

begun-none : (id k : ℕ) (tag : List ℕ) (settled : Bool) (o : Option LinkView) (i : Item) → ends (begun_on id k tag settled o) i ≡ false
begun-none id k tag settled None i = refl
begun-none id k tag settled (Some l) i = refl

continued-none : (d : Option SendingView) (i : Item) → ends (continued_on false d) i ≡ false
continued-none None i = refl
continued-none (Some d) i = refl

ends-take : (l : List (Role × ℕ)) (link : ℕ) (ds : List Delivery) → l ≡ [] → Ends l (take_first link ds)
ends-take l link [] h = tt
ends-take l link (d ∷ ds) h = sym h

ends-learn : (l : List (Role × ℕ)) (ts : List Telling) → l ≡ [] → Ends l (learn_first ts)
ends-learn l [] h = tt
ends-learn l (t ∷ ts) h = sym h

-- # Each kind of step

item-none : (id k : ℕ) (settled : Bool) (l : LinkView) (o : Option WaitingItem) (i : Item) → ends (resumed_as id k settled l o) i ≡ false
item-none id k settled l None i = refl
item-none id k settled l (Some w) i = by (is_sent_anew w) (Begins (record { id = id; link = k; tag = w.tag; second = rcv_mode l == 1; local = w.state; remote = w.theirs }) (not (settled || is_partial w))) refl
  where
    by : (b : Bool) (e : Event) → ends e i ≡ false → ends (cond b e No_event) i ≡ false
    by true e h = h
    by false e h = refl

pub resumed-none : (id k : ℕ) (tag : List ℕ) (settled : Bool) (o : Option LinkView) (i : Item) → ends (resumed_on id k tag settled o) i ≡ false
resumed-none id k tag settled None i = refl
resumed-none id k tag settled (Some l) i = item-none id k settled l (find (waits_as tag) l.waiting) i

ends-unless_refused : (l : List (Role × ℕ)) (o : Option Refusal) (a : Result Reply Refusal) → Ends l a → Ends l (unless_refused o a)
ends-unless_refused l None a h = h
ends-unless_refused l (Some e) a h = tt

ends-item : (v : View) (l : List (Role × ℕ)) (k : LinkView) (settled : Bool) (w : WaitingItem) → l ≡ [] → Ends l (resume_item v k settled w)
ends-item v l k settled w none = by (is_unclear w) (is_sent_anew w)
  where
    by : (unclear anew : Bool) → Ends l (cond unclear (Err Not_clear) (cond anew (resume_sends v k settled w) (Ok absent_reply)))
    by true anew = tt
    by false false = sym none
    by false true = ends-sends l v.max_frame (resume_refusals v k settled w) (resume_body (handle_of k.ours) (next_delivery v) settled w) [] (resumed_to w.verdict (Some (next_delivery v)) (outcome_of w)) none

pub own-ends : (v : View) (op : Op) → Ends (ended_by (sent_by_own v op) (received_by_own v op) v) (own_answer v op)
own-ends v Begin = ends-sends (ended_by No_event No_event v) v.max_frame (begin_refusals v) (begin_body v) [] given.Nothing (still v)
own-ends v (Attach name role snd rcv source target count max_message) =
    let a : Wanted = record { name = name; role = role; snd = snd; rcv = rcv; source = source; target = target; count = count; max_message = max_message; items = [] } in
    ends-sends (ended_by No_event No_event v) v.max_frame (attach_refusals v a) (Some (heard.Attach (attach_sent v a))) [] (given.Link (number_met v.made (find (is_offered_as a.role a.name) v.links))) (still v)
own-ends v (Start link tag format settled payload more) =
    let e = sent_by_own v (Start link tag format settled payload more) in
    let l = ended_by e No_event v in
    let none = ends-none e No_event v (λ i. begun-none (next_delivery v) link tag settled (find (has_number link) v.links) i) (λ i. refl) in
    ends-on l v link (λ l. sends v.max_frame (start_refusals v l tag settled payload) (start_body (handle_of l.ours) (next_delivery v) tag format settled more) payload (given.Delivery (next_delivery v)))
    (λ k. ends-sends l v.max_frame (start_refusals v k tag settled payload) (start_body (handle_of k.ours) (next_delivery v) tag format settled more) payload (given.Delivery (next_delivery v)) none)
own-ends v (Carry link payload more) =
    let e = sent_by_own v (Carry link payload more) in
    let l = ended_by e No_event v in
    let none = ends-none e No_event v (λ i. continued-none (sending_on (find (has_number link) v.links)) i) (λ i. refl) in
    ends-on l v link (λ l. sends v.max_frame (carry_refusals v l payload) (later_body (handle_of l.ours) (flag more) None) payload given.Nothing)
    (λ k. ends-sends l v.max_frame (carry_refusals v k payload) (later_body (handle_of k.ours) (flag more) None) payload given.Nothing none)
own-ends v (Abort link) =
    let l = ended_by (sent_by_own v (Abort link)) No_event v in
    ends-on l v link (λ k. sends_ending v.max_frame (abort_refusals v k) (later_body (handle_of k.ours) None (Some true)) l given.Nothing)
    (λ k. ends-ending l v.max_frame (abort_refusals v k) (later_body (handle_of k.ours) None (Some true)) given.Nothing)
own-ends v (Dispose role first last settled state) =
    let op = Dispose role first last settled state in
    let d : Disposition = record { first = first; last = last; settled = settled; state = state } in
    ends-ending (ended_by (sent_by_own v op) (received_by_own v op) v) v.max_frame (dispose_refusals v role d) (dispose_body role d) given.Nothing
own-ends v (Learn link) =
    let l = ended_by (Learns link) No_event v in
    let none = ends-none (Learns link) No_event v (λ i. refl) (λ i. refl) in
    ends-there l (find (has_number link) v.links) NoLink (λ k. unless (not (same_role Sender k.role)) WrongRole (learn_first k.told))
    (λ k found. ends-unless l (not (same_role Sender k.role)) WrongRole (learn_first k.told) (ends-learn l k.told none))
own-ends v (Grant link credit drain echo) =
    let l = ended_by No_event No_event v in
    ends-on l v link (λ k. sends v.max_frame (grant_refusals k credit) (grant_body v.windows (granted_on credit drain k) drain echo) [] given.Nothing)
    (λ k. ends-sends l v.max_frame (grant_refusals k credit) (grant_body v.windows (granted_on credit drain k) drain echo) [] given.Nothing (still v))
own-ends v (Offer link available) =
    let l = ended_by No_event No_event v in
    ends-on l v link (λ k. sends v.max_frame (attached_as Sender k []) (offer_body v.windows (offered available k)) [] given.Nothing)
    (λ k. ends-sends l v.max_frame (attached_as Sender k []) (offer_body v.windows (offered available k)) [] given.Nothing (still v))
own-ends v (Drained link) =
    let l = ended_by No_event No_event v in
    ends-on l v link (λ k. sends v.max_frame (drained_refusals k) (drained_body v.windows (drained k)) [] given.Nothing)
    (λ k. ends-sends l v.max_frame (drained_refusals k) (drained_body v.windows (drained k)) [] given.Nothing (still v))
own-ends v (Refresh echo) =
    ends-sends (ended_by No_event No_event v) v.max_frame ((not (is_mapped v.session), NotMapped) ∷ []) (refresh_body v.windows echo) [] given.Nothing (still v)
own-ends v (Take link) =
    let l = ended_by No_event (Takes link) v in
    let none = ends-none No_event (Takes link) v (λ i. refl) (λ i. refl) in
    ends-there l (find (has_number link) v.links) NoLink (λ k. unless (not (same_role Receiver k.role)) WrongRole (take_first k.number k.ready))
    (λ k found. ends-unless l (not (same_role Receiver k.role)) WrongRole (take_first k.number k.ready) (ends-take l k.number k.ready none))
own-ends v (Detach link error) =
    let l = ended_by (Leaves link) (Leaves link) v in
    ends-on l v link (λ k. sends_ending v.max_frame (detach_refusals k) (detach_body (handle_of k.ours) (Some true) error) l given.Nothing)
    (λ k. ends-ending l v.max_frame (detach_refusals k) (detach_body (handle_of k.ours) (Some true) error) given.Nothing)
own-ends v (Suspend link) =
    let l = ended_by (Leaves link) (Leaves link) v in
    ends-on l v link (λ k. sends_ending v.max_frame (detach_refusals k) (detach_body (handle_of k.ours) None None) l (given.Suspended (put_aside v k)))
    (λ k. ends-ending l v.max_frame (detach_refusals k) (detach_body (handle_of k.ours) None None) (given.Suspended (put_aside v k)))
own-ends v (Rejoin r) =
    let a = rejoined r in
    ends-sends (ended_by No_event No_event v) v.max_frame (attach_refusals v a) (Some (heard.Attach (attach_sent v a))) [] (given.Link (number_met v.made (find (is_offered_as a.role a.name) v.links))) (still v)
own-ends v (Resume link tag settled) =
    let e = sent_by_own v (Resume link tag settled) in
    let l = ended_by e No_event v in
    let none = ends-none e No_event v (λ i. resumed-none (next_delivery v) link tag settled (find (has_number link) v.links) i) (λ i. refl) in
    ends-on l v link (λ k. unless_refused (first_refusal (early_refusals k)) (if_there (find (waits_as tag) k.waiting) NotWaiting (resume_item v k settled)))
    (λ k. ends-unless_refused l (first_refusal (early_refusals k)) (if_there (find (waits_as tag) k.waiting) NotWaiting (resume_item v k settled))
    (ends-there l (find (waits_as tag) k.waiting) NotWaiting (resume_item v k settled) (λ w found. ends-item v l k settled w none)))
own-ends v (End error) =
    ends-ending (ended_by Over Over v) v.max_frame ((not (is_mapped v.session), NotMapped) ∷ []) (end_body error) given.Nothing
own-ends v Beat = ends-sends (ended_by No_event No_event v) v.max_frame [] None [] given.Nothing (still v)

same-reply : (b : Bool) (x y : Reply) (l : List (Role × ℕ)) → x.ended ≡ l → y.ended ≡ l → (cond b x y).ended ≡ l
same-reply true x y l h k = h
same-reply false x y l h k = k

detach-ends : (v : View) (b : DetachBody) (o : Option LinkView) (l : LinkView) → o ≡ Some l → (detach_reply v b l).ended ≡ ended_by (left_by_peer o) (left_by_peer o) v
detach-ends v b None l h = absurd (cc)
detach-ends v b (Some k) l h =
    let same : k ≡ l = cc in
    let ended = ended_by (Leaves k.number) (Leaves k.number) v in
    rw (← same) (same-reply (is_attached k) (reply_ending (detach_body (handle_of k.ours) b.closed None) [] ended (parting v b k)) (record { sent = []; ended = ended; given = given.Gone k.number }) ended refl refl)

pub body-ends : (v : View) (body : Option Performative) (payload : List ℕ) → Ends (ended_by (sent_by_body v body) (received_by_body v body) v) (body_answer v body payload)
body-ends v (Some (heard.Begin b)) payload = ends-answered (ended_by No_event No_event v) (first_refusal (begin_violations v)) no_reply (sym (still v))
body-ends v (Some (heard.Attach b)) payload = ends-answered (ended_by No_event No_event v) (first_refusal (attach_violations v b)) (attach_heard_reply v b) (sym (still v))
body-ends v (Some (heard.Flow b)) payload =
    let w = flow_windows v b in
    let k = option_map (flow_link b) (named_link v.links b.handle) in
    ends-answered (ended_by No_event No_event v) (first_refusal (flow_violations v b)) (flow_reply (echoes v b) w k)
    (same-reply (echoes v b) (reply_of (Some (heard.Flow (echo_body w k))) [] given.Nothing) no_reply (ended_by No_event No_event v) (sym (still v)) (sym (still v)))
body-ends v (Some (heard.Transfer b)) payload =
    let l = ended_by No_event (received_by_body v (Some (heard.Transfer b))) v in
    ends-unless l (not (takes_frames v.session)) (unlinked OutOfSession) (if_there (find (has_peer_handle b.handle) v.links) (unlinked BadHandle) (λ l. answered (first_refusal (transfer_violations v b payload l)) (transfer_reply v b l)))
    (ends-there l (find (has_peer_handle b.handle) v.links) (unlinked BadHandle) (λ l. answered (first_refusal (transfer_violations v b payload l)) (transfer_reply v b l))
    (λ k found. ends-answered l (first_refusal (transfer_violations v b payload k)) (transfer_reply v b k) refl))
body-ends v (Some (heard.Disposition b)) payload =
    let body = Some (heard.Disposition b) in
    ends-answered (ended_by (sent_by_body v body) (received_by_body v body) v) (first_refusal (disposition_violations v (disposition_of b))) (disposition_reply v b) refl
body-ends v (Some (heard.Detach b)) payload =
    let o = find (has_peer_handle b.handle) v.links in
    let l = ended_by (left_by_peer o) (left_by_peer o) v in
    ends-unless l (not (takes_frames v.session)) (unlinked OutOfSession) (if_there o (unlinked BadHandle) (λ k. Ok (detach_reply v b k)))
    (ends-there l o (unlinked BadHandle) (λ k. Ok (detach_reply v b k)) (λ k found. detach-ends v b o k found))
body-ends v (Some (heard.End b)) payload =
    let l = ended_by Over Over v in
    ends-unless l (not (is_ending v.session || takes_frames v.session)) (unlinked OutOfSession) (Ok (end_reply v))
    (same-reply (is_mapped v.session) (reply_ending (end_body None) [] l given.Nothing) (record { sent = []; ended = l; given = given.Nothing }) l refl refl)
body-ends v _ payload = tt
