-- The first transfers that are sent have consecutive ids.
use Rattle.amqp_waiting.specs.Waiting.{WaitingItem, waits_as}
use Rattle.amqp_rules.specs.Rejoin.{rejoined}
use Rattle.amqp_rules.specs.Resume.{unless_refused, resume_sends, early_refusals, resume_refusals, resume_item, resume_body, resumed_to, outcome_of, is_unclear, absent_reply}
use Rattle.std.proofs.Common.{◌≡◌, ℕ, ◌||◌, Bool, true, false, not, cond, Option, None, Some, Result, Ok, Err, List, [], ◌∷◌, ◌++◌, option_map, find, refl, ap, sym, ◌∙◌, subst}
use Rattle.std.specs.Option.{option_or}
use Rattle.amqp_performatives.specs.declared.bodies.Role.{Role}
use Rattle.amqp_performatives.specs.declared.bodies.Role.TheVariants.{Sender, Receiver}
use Rattle.amqp_performatives.specs.declared.performative.Performative.{Performative}
use Rattle.amqp_performatives.specs.declared.performative.Performative.TheVariants as heard
use Rattle.amqp_frames.specs.declared.frame.Frame.{Frame}
use Rattle.amqp_rules.specs.declared.op.Op.{Op}
use Rattle.amqp_rules.specs.declared.op.Op.TheVariants.{Begin, Attach, Start, Carry, Abort, Dispose, Learn, Grant, Offer, Drained, Refresh, Take, Detach, Suspend, Rejoin, Resume, End, Beat}
use Rattle.amqp_rules.specs.declared.reply.Reply.{Reply}
use Rattle.amqp_rules.specs.declared.reply.Given.{Given}
use Rattle.amqp_rules.specs.declared.refusal.Refusal.{Refusal}
use Rattle.amqp_rules.specs.declared.refusal.Refusal.TheVariants.{NoLink, WrongRole, NotMapped, NotWaiting, Unclear as Not_clear}
use Rattle.amqp_rules.specs.declared.violation.Violation.{Violation}
use Rattle.amqp_rules.specs.declared.violation.ViolationKind.TheVariants.{OutOfSession, BadHandle}
use Rattle.amqp_rules.specs.View.{View, LinkView, has_number, has_peer_handle, handle_of, is_mapped, is_attached, is_ending, is_offered_as, next_delivery, same_role, takes_frames}
use Rattle.amqp_rules.specs.Refusing.{first_refusal, answered, if_there, unless, unlinked}
use Rattle.amqp_rules.specs.Sending.{frame_refused, sends, sends_ending, reply_of, reply_ending}
use Rattle.amqp_rules.specs.OnLink.{on_link}
use Rattle.amqp_rules.specs.Deliveries.{sent_by_own, received_by_own, ended_by, disposition_of, is_sent_anew}
use Rattle.amqp_rules.specs.Take.{take_first}
use Rattle.amqp_rules.specs.Learn.{learn_first}
use Rattle.amqp_rules.specs.declared.reply.Given.TheVariants as given
use Rattle.amqp_rules.specs.Telling.{flag}
use Rattle.amqp_rules.specs.OnLink.{attached_as}
use Rattle.amqp_rules.specs.Opened.{no_reply}
use Rattle.amqp_rules.specs.Begin.{begin_refusals, begin_body}
use Rattle.amqp_rules.specs.Attach.{Wanted, attach_refusals, attach_sent, number_met}
use Rattle.amqp_rules.specs.Start.{start_refusals, start_body}
use Rattle.amqp_rules.specs.Carry.{carry_refusals, later_body}
use Rattle.amqp_rules.specs.Abort.{abort_refusals}
use Rattle.amqp_rules.specs.Dispose.{dispose_refusals, dispose_body}
use Rattle.amqp_rules.specs.Grant.{grant_refusals, grant_body, granted_on}
use Rattle.amqp_rules.specs.Offer.{offer_body, offered}
use Rattle.amqp_rules.specs.Drained.{drained_refusals, drained_body, drained}
use Rattle.amqp_rules.specs.Refresh.{refresh_body}
use Rattle.amqp_rules.specs.Detach.{detach_refusals, detach_body}
use Rattle.amqp_rules.specs.End.{end_body}
use Rattle.amqp_rules.specs.PeerBegin.{begin_violations}
use Rattle.amqp_rules.specs.PeerAttach.{attach_violations, attach_heard_reply}
use Rattle.amqp_rules.specs.PeerDisposition.{disposition_violations, disposition_reply}
use Rattle.amqp_rules.specs.Flow.{flow_violations, flow_reply, echoes, flow_windows, flow_link, named_link, echo_body}
use Rattle.amqp_rules.specs.Suspend.{put_aside}
use Rattle.amqp_rules.specs.PeerDetach.{detach_reply, parting}
use Rattle.amqp_rules.specs.PeerEnd.{end_reply}
use Rattle.amqp_rules.specs.PeerTransfer.{transfer_violations, transfer_reply}
use Rattle.amqp_rules.specs.Answer.{own_answer, body_answer}
use Rattle.amqp_events.specs.Event.{Disposition, Leaves, Over}
use Rattle.amqp_events.specs.Event.{Nothing as No_event}
use Rattle.amqp_events.specs.Joined.{Delivery}
use Rattle.amqp_events.specs.Told.{Telling}
use Rattle.std.proofs.Common.{zero, suc, ◌+◌, ◌<◌, ◌&&◌, ⊎_elim, arith, append-nil, length, length-append, reverse, flat_map, EachIndex, slice_get}
use Rattle.std.proofs.lemmas.Bool.{cases_eq}
use Rattle.std.proofs.lemmas.List.{reverse-append, reverse-reverse}
use Rattle.std.proofs.lemmas.Grind.{flat_map-append}
use Rattle.amqp_flow.specs.Serial.{wire}
use Rattle.amqp_rules.specs.declared.config.Config.{Config}
use Rattle.amqp_rules.specs.Answer.{heard_answer, is_dropped}
use Rattle.amqp_laws.specs.declared.entry.Entry.{Entry}
use Rattle.amqp_laws.specs.declared.entry.Step.{Step}
use Rattle.amqp_laws.specs.declared.entry.Step.TheVariants.{Opened, Own, Heard}
use Rattle.amqp_laws.specs.Past.{past, more, some_entry}
use Rattle.amqp_laws.specs.Said.{starts, is_start, own_in, ends as entry_ends, hears_no_end}
use Rattle.amqp_laws.specs.Live.{live}
use Rattle.amqp_laws.specs.At.{at, started}
use Rattle.amqp_laws.specs.DeliveryLaws.{ids_in, SendsSerials}
use Rattle.amqp_laws.specs.Lawful.{Answers, IsReplayed}

-- if it is a reply, this holds of it
abbrev pub Replies : {E : Type 0} → (Reply → Type 0) → Result Reply E → Type 0
Replies P (Ok r) = P r
Replies P (Err e) = Unit {0}

rep-answered : {E : Type 0} (P : Reply → Type 0) (o : Option E) (r : Reply) → P r → Replies P (answered o r)
rep-answered P None r h = h
rep-answered P (Some e) r h = tt

rep-unless : {E : Type 0} (P : Reply → Type 0) (b : Bool) (e : E) (a : Result Reply E) → Replies P a → Replies P (unless b e a)
rep-unless P true e a h = tt
rep-unless P false e a h = h

rep-there : {A E : Type 0} (P : Reply → Type 0) (o : Option A) (e : E) (say : A → Result Reply E) → ((x : A) → Replies P (say x)) → Replies P (if_there o e say)
rep-there P None e say h = tt
rep-there P (Some x) e say h = h x

rep-on : (P : Reply → Type 0) (v : View) (link : ℕ) (say : LinkView → Result Reply Refusal) → ((x : LinkView) → Replies P (say x)) → Replies P (on_link v link say)
rep-on P v link say h =
    rep-unless P (not (is_mapped v.session)) NotMapped (if_there (find (has_number link) v.links) NoLink say) (rep-there P (find (has_number link) v.links) NoLink say h)

rep-sends : (P : Reply → Type 0) (max : ℕ) (rows : List (Bool × Refusal)) (body : Option Performative) (payload : List ℕ) (g : Given) → P (reply_of body payload g) → Replies P (sends max rows body payload g)
rep-sends P max rows body payload g h = rep-answered P (option_or (first_refusal rows) (frame_refused max body payload)) (reply_of body payload g) h

rep-ending : (P : Reply → Type 0) (max : ℕ) (rows : List (Bool × Refusal)) (body : Option Performative) (l : List (Role × ℕ)) (g : Given) → P (reply_ending body [] l g) → Replies P (sends_ending max rows body l g)
rep-ending P max rows body l g h = rep-answered P (option_or (first_refusal rows) (frame_refused max body [])) (reply_ending body [] l g) h

abbrev Sends : List ℕ → Reply → Type 0
Sends ids r = ids_in r ≡ ids

-- a reply has the next id where the operation begins a delivery by it
abbrev begins_by : Op → Reply → Bool
begins_by op r = starts (record { step = Own op; reply = r })

abbrev Told : View → Op → Reply → Type 0
Told v op r = ids_in r ≡ cond (begins_by op r) (next_delivery v ∷ []) []

rep-take : (v : View) (n link : ℕ) (ds : List Delivery) → Replies (Told v (Take n)) (take_first link ds)
rep-take v n link [] = tt
rep-take v n link (d ∷ ds) = refl

rep-learn : (v : View) (n : ℕ) (ts : List Telling) → Replies (Told v (Learn n)) (learn_first ts)
rep-learn v n [] = tt
rep-learn v n (t ∷ ts) = refl

resume-ids : (v : View) (link : ℕ) (tag : List ℕ) (settled : Bool) (k : LinkView) (w : WaitingItem) → Replies (Told v (Resume link tag settled)) (resume_item v k settled w)
resume-ids v link tag settled k w = by (is_unclear w) (is_sent_anew w)
  where
    by : (unclear anew : Bool) → Replies (Told v (Resume link tag settled)) (cond unclear (Err Not_clear) (cond anew (resume_sends v k settled w) (Ok absent_reply)))
    by true anew = tt
    by false false = refl
    by false true = rep-sends (Told v (Resume link tag settled)) v.max_frame (resume_refusals v k settled w) (resume_body (handle_of k.ours) (next_delivery v) settled w) [] (resumed_to w.verdict (Some (next_delivery v)) (outcome_of w)) refl

rep-unless_refused : (P : Reply → Type 0) (o : Option Refusal) (a : Result Reply Refusal) → Replies P a → Replies P (unless_refused o a)
rep-unless_refused P None a h = h
rep-unless_refused P (Some e) a h = tt

own-ids : (v : View) (op : Op) → Replies (Told v op) (own_answer v op)
own-ids v Begin = rep-sends (Told v Begin) v.max_frame (begin_refusals v) (begin_body v) [] given.Nothing refl
own-ids v (Attach name role snd rcv source target count max_message) =
    let a : Wanted = record { name = name; role = role; snd = snd; rcv = rcv; source = source; target = target; count = count; max_message = max_message; items = [] } in
    rep-sends (Told v (Attach name role snd rcv source target count max_message)) v.max_frame (attach_refusals v a) (Some (heard.Attach (attach_sent v a))) [] (given.Link (number_met v.made (find (is_offered_as a.role a.name) v.links))) refl
own-ids v (Start link tag format settled payload more) =
    rep-on (Told v (Start link tag format settled payload more)) v link (λ l. sends v.max_frame (start_refusals v l tag settled payload) (start_body (handle_of l.ours) (next_delivery v) tag format settled more) payload (given.Delivery (next_delivery v)))
    (λ k. rep-sends (Told v (Start link tag format settled payload more)) v.max_frame (start_refusals v k tag settled payload) (start_body (handle_of k.ours) (next_delivery v) tag format settled more) payload (given.Delivery (next_delivery v)) refl)
own-ids v (Carry link payload more) =
    rep-on (Told v (Carry link payload more)) v link (λ l. sends v.max_frame (carry_refusals v l payload) (later_body (handle_of l.ours) (flag more) None) payload given.Nothing)
    (λ k. rep-sends (Told v (Carry link payload more)) v.max_frame (carry_refusals v k payload) (later_body (handle_of k.ours) (flag more) None) payload given.Nothing refl)
own-ids v (Abort link) =
    let l = ended_by (sent_by_own v (Abort link)) No_event v in
    rep-on (Told v (Abort link)) v link (λ k. sends_ending v.max_frame (abort_refusals v k) (later_body (handle_of k.ours) None (Some true)) l given.Nothing)
    (λ k. rep-ending (Told v (Abort link)) v.max_frame (abort_refusals v k) (later_body (handle_of k.ours) None (Some true)) l given.Nothing refl)
own-ids v (Dispose role first last settled state) =
    let op = Dispose role first last settled state in
    let d : Disposition = record { first = first; last = last; settled = settled; state = state } in
    rep-ending (Told v (Dispose role first last settled state)) v.max_frame (dispose_refusals v role d) (dispose_body role d) (ended_by (sent_by_own v op) (received_by_own v op) v) given.Nothing refl
own-ids v (Learn link) =
    rep-there (Told v (Learn link)) (find (has_number link) v.links) NoLink (λ k. unless (not (same_role Sender k.role)) WrongRole (learn_first k.told))
    (λ k. rep-unless (Told v (Learn link)) (not (same_role Sender k.role)) WrongRole (learn_first k.told) (rep-learn v link k.told))
own-ids v (Grant link credit drain echo) =
    rep-on (Told v (Grant link credit drain echo)) v link (λ k. sends v.max_frame (grant_refusals k credit) (grant_body v.windows (granted_on credit drain k) drain echo) [] given.Nothing)
    (λ k. rep-sends (Told v (Grant link credit drain echo)) v.max_frame (grant_refusals k credit) (grant_body v.windows (granted_on credit drain k) drain echo) [] given.Nothing refl)
own-ids v (Offer link available) =
    rep-on (Told v (Offer link available)) v link (λ k. sends v.max_frame (attached_as Sender k []) (offer_body v.windows (offered available k)) [] given.Nothing)
    (λ k. rep-sends (Told v (Offer link available)) v.max_frame (attached_as Sender k []) (offer_body v.windows (offered available k)) [] given.Nothing refl)
own-ids v (Drained link) =
    rep-on (Told v (Drained link)) v link (λ k. sends v.max_frame (drained_refusals k) (drained_body v.windows (drained k)) [] given.Nothing)
    (λ k. rep-sends (Told v (Drained link)) v.max_frame (drained_refusals k) (drained_body v.windows (drained k)) [] given.Nothing refl)
own-ids v (Refresh echo) =
    rep-sends (Told v (Refresh echo)) v.max_frame ((not (is_mapped v.session), NotMapped) ∷ []) (refresh_body v.windows echo) [] given.Nothing refl
own-ids v (Take link) =
    rep-there (Told v (Take link)) (find (has_number link) v.links) NoLink (λ k. unless (not (same_role Receiver k.role)) WrongRole (take_first k.number k.ready))
    (λ k. rep-unless (Told v (Take link)) (not (same_role Receiver k.role)) WrongRole (take_first k.number k.ready) (rep-take v link k.number k.ready))
own-ids v (Detach link error) =
    let l = ended_by (Leaves link) (Leaves link) v in
    rep-on (Told v (Detach link error)) v link (λ k. sends_ending v.max_frame (detach_refusals k) (detach_body (handle_of k.ours) (Some true) error) l given.Nothing)
    (λ k. rep-ending (Told v (Detach link error)) v.max_frame (detach_refusals k) (detach_body (handle_of k.ours) (Some true) error) l given.Nothing refl)
own-ids v (Suspend link) =
    let l = ended_by (Leaves link) (Leaves link) v in
    rep-on (Told v (Suspend link)) v link (λ k. sends_ending v.max_frame (detach_refusals k) (detach_body (handle_of k.ours) None None) l (given.Suspended (put_aside v k)))
    (λ k. rep-ending (Told v (Suspend link)) v.max_frame (detach_refusals k) (detach_body (handle_of k.ours) None None) l (given.Suspended (put_aside v k)) refl)
own-ids v (Rejoin r) =
    let a = rejoined r in
    rep-sends (Told v (Rejoin r)) v.max_frame (attach_refusals v a) (Some (heard.Attach (attach_sent v a))) [] (given.Link (number_met v.made (find (is_offered_as a.role a.name) v.links))) refl
own-ids v (Resume link tag settled) =
    rep-on (Told v (Resume link tag settled)) v link (λ k. unless_refused (first_refusal (early_refusals k)) (if_there (find (waits_as tag) k.waiting) NotWaiting (resume_item v k settled)))
    (λ k. rep-unless_refused (Told v (Resume link tag settled)) (first_refusal (early_refusals k)) (if_there (find (waits_as tag) k.waiting) NotWaiting (resume_item v k settled))
    (rep-there (Told v (Resume link tag settled)) (find (waits_as tag) k.waiting) NotWaiting (resume_item v k settled) (λ w. resume-ids v link tag settled k w)))
own-ids v (End error) =
    rep-ending (Told v (End error)) v.max_frame ((not (is_mapped v.session), NotMapped) ∷ []) (end_body error) (ended_by Over Over v) given.Nothing refl
own-ids v Beat = rep-sends (Told v Beat) v.max_frame [] None [] given.Nothing refl

either-reply : (b : Bool) (x y : Reply) (ids : List ℕ) → Sends ids x → Sends ids y → Sends ids (cond b x y)
either-reply true x y ids h k = h
either-reply false x y ids h k = k

body-ids : (v : View) (body : Option Performative) (payload : List ℕ) → Replies (Sends []) (body_answer v body payload)
body-ids v (Some (heard.Begin b)) payload = rep-answered (Sends []) (first_refusal (begin_violations v)) no_reply refl
body-ids v (Some (heard.Attach b)) payload = rep-answered (Sends []) (first_refusal (attach_violations v b)) (attach_heard_reply v b) refl
body-ids v (Some (heard.Flow b)) payload =
    let w = flow_windows v b in
    let k = option_map (flow_link b) (named_link v.links b.handle) in
    rep-answered (Sends []) (first_refusal (flow_violations v b)) (flow_reply (echoes v b) w k)
    (either-reply (echoes v b) (reply_of (Some (heard.Flow (echo_body w k))) [] given.Nothing) no_reply [] refl refl)
body-ids v (Some (heard.Transfer b)) payload =
    rep-unless (Sends []) (not (takes_frames v.session)) (unlinked OutOfSession) (if_there (find (has_peer_handle b.handle) v.links) (unlinked BadHandle) (λ l. answered (first_refusal (transfer_violations v b payload l)) (transfer_reply v b l)))
    (rep-there (Sends []) (find (has_peer_handle b.handle) v.links) (unlinked BadHandle) (λ l. answered (first_refusal (transfer_violations v b payload l)) (transfer_reply v b l))
    (λ k. rep-answered (Sends []) (first_refusal (transfer_violations v b payload k)) (transfer_reply v b k) refl))
body-ids v (Some (heard.Disposition b)) payload = rep-answered (Sends []) (first_refusal (disposition_violations v (disposition_of b))) (disposition_reply v b) refl
body-ids v (Some (heard.Detach b)) payload =
    let o = find (has_peer_handle b.handle) v.links in
    rep-unless (Sends []) (not (takes_frames v.session)) (unlinked OutOfSession) (if_there o (unlinked BadHandle) (λ k. Ok (detach_reply v b k)))
    (rep-there (Sends []) o (unlinked BadHandle) (λ k. Ok (detach_reply v b k))
    (λ k. let l = ended_by (Leaves k.number) (Leaves k.number) v in
    either-reply (is_attached k) (reply_ending (detach_body (handle_of k.ours) b.closed None) [] l (parting v b k)) (record { sent = []; ended = l; given = given.Gone k.number }) [] refl refl))
body-ids v (Some (heard.End b)) payload =
    let l = ended_by Over Over v in
    rep-unless (Sends []) (not (is_ending v.session || takes_frames v.session)) (unlinked OutOfSession) (Ok (end_reply v))
    (either-reply (is_mapped v.session) (reply_ending (end_body None) [] l given.Nothing) (record { sent = []; ended = l; given = given.Nothing }) [] refl refl)
body-ids v _ payload = tt

-- a frame that is heard sends none
heard-ids : (v : View) (f : Frame) (reply : Reply) → heard_answer v f ≡ Ok reply → Sends [] reply
heard-ids v f reply h = by_dropped (is_dropped v f.body) refl
  where
    by_dropped : (b : Bool) → is_dropped v f.body ≡ b → Sends [] reply
    by_dropped true d = subst (λ (r : Result Reply Violation). Replies (Sends []) r) (rw d at h) refl
    by_dropped false d = subst (λ (r : Result Reply Violation). Replies (Sends []) r) (rw d at h) (body-ids v f.body f.payload)

-- an entry sends one id where it is a Start: that of the next delivery
pub entry-ids : (c : Config) (past : List Entry) (step : Step) (reply : Reply) → Answers (at c past) step reply
    → ids_in reply ≡ cond (starts (record { step = step; reply = reply })) (wire (c.first_id + started (live past)) ∷ []) []
entry-ids c past (Opened told) reply h = ap ids_in (sym h)
entry-ids c past (Own op) reply h =
    subst (λ (r : Result Reply Refusal). Replies (Told (at c past) op) r) h (own-ids (at c past) op)
entry-ids c past (Heard f) reply h = heard-ids (at c past) f reply h

-- # All entries

get-left : {X : Type 0} (xs ys : List X) (i : ℕ) → i < length xs → slice_get (xs ++ ys) i ≡ slice_get xs i
get-left [] ys i h = absurd (omega arith)
get-left (x ∷ xs) ys zero h = refl
get-left (x ∷ xs) ys (suc i) h = get-left xs ys i (omega arith)

get-last : {X : Type 0} (xs : List X) (x : X) → slice_get (xs ++ x ∷ []) (length xs) ≡ Some x
get-last [] x = refl
get-last (y ∷ ys) x = get-last ys x

serials-more : (first : ℕ) (xs : List ℕ) (x : ℕ) → EachIndex xs (λ i. slice_get xs i ≡ Some (wire (first + i))) → x ≡ wire (first + length xs)
    → EachIndex (xs ++ x ∷ []) (λ i. slice_get (xs ++ x ∷ []) i ≡ Some (wire (first + i)))
serials-more first xs x each e i h =
    ⊎_elim
    (λ same. rw same (get-last xs x ∙ ap (λ y. Some y) e))
    (λ other. get-left xs (x ∷ []) i (let k = rw length-append at h in omega (arith, k, other)) ∙ each i (let k = rw length-append at h in omega (arith, k, other)))
    (cases_eq i (length xs))

record Counted (first n : ℕ) (ids : List ℕ) : Type 0 where
  many : length ids ≡ n
  serial : EachIndex ids (λ i. slice_get ids i ≡ Some (wire (first + i)))

counted-more : (first n : ℕ) (ids : List ℕ) (b : Bool) → Counted first n ids → Counted first (more (cond b 1 0) n) (ids ++ cond b (wire (first + n) ∷ []) [])
counted-more first n ids true k =
    record { many = simp length-append (omega (arith, k.many)); serial = serials-more first ids (wire (first + n)) k.serial (rw k.many refl) }
counted-more first n ids false k = rw append-nil k

-- a frame that is dropped starts nothing
live-started : (e : Entry) (before : List Entry) → started (live (e ∷ before)) ≡ more (cond (starts e) 1 0) (started (live before))
live-started e before = by_live (some_entry entry_ends (live before) && hears_no_end e.step) refl
  where
    no_start : (step : Step) (reply : Reply) → hears_no_end step ≡ true → starts (record { step = step; reply = reply }) ≡ false
    no_start (Opened told) reply h = refl
    no_start (Own op) reply h = absurd (cc)
    no_start (Heard f) reply h = refl

    second : (a b : Bool) → a && b ≡ true → b ≡ true
    second true b h = h
    second false b h = absurd (cc)

    by_live : (b : Bool) → some_entry entry_ends (live before) && hears_no_end e.step ≡ b → started (cond b (live before) (e ∷ live before)) ≡ more (cond (starts e) 1 0) (started (live before))
    by_live true h = let none = no_start e.step e.reply (second (some_entry entry_ends (live before)) (hears_no_end e.step) h) in rw none refl
    by_live false h = refl

ids-counted : (c : Config) (past : List Entry) → IsReplayed c past → Counted c.first_id (started (live past)) (flat_map (λ e. ids_in e.reply) (reverse past))
ids-counted c [] h = record { many = refl; serial = λ i h. absurd (omega arith) }
ids-counted c (e ∷ before) h =
    let sofar = flat_map (λ e. ids_in e.reply) (reverse before) in
    let more' = counted-more c.first_id (started (live before)) sofar (starts e) (ids-counted c before h.0) in
    let here = entry-ids c before e.step e.reply h.1 in
    let P : List ℕ → Type 0 = λ ids. Counted c.first_id (started (live (e ∷ before))) ids in
    let all : flat_map (λ e. ids_in e.reply) (reverse (e ∷ before)) ≡ sofar ++ cond (starts e) (wire (c.first_id + started (live before)) ∷ []) [] =
    ap (λ es. flat_map (λ e. ids_in e.reply) es) (reverse-append (e ∷ []) before) ∙ flat_map-append (λ e. ids_in e.reply) (reverse before) (e ∷ []) ∙ rw (append-nil (ids_in e.reply), here) refl in
    subst P (sym all) (rw (live-started e before) more')

pub sends_serials : (c : Config) (journal : List Entry) → IsReplayed c (past journal) → SendsSerials c.first_id journal
sends_serials c journal h = subst (λ (js : List Entry). SendsSerials c.first_id js) (reverse-reverse journal) (ids-counted c (past journal) h).serial
