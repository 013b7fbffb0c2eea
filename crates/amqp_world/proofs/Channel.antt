-- Each frame that a step sends is on channel 0.
use Rattle.std.proofs.Common.{◌≡◌, ℕ, ◌||◌, Bool, true, false, not, cond, Option, Some, None, Result, Ok, List, [], ◌∷◌, refl, sym, ap, subst, ◌∙◌, find, option_map}
use Rattle.amqp_flow.specs.Windows.{WindowsView}
use Rattle.amqp_performatives.specs.declared.bodies.Role.{Role}
use Rattle.amqp_performatives.specs.declared.bodies.Role.TheVariants.{Sender, Receiver}
use Rattle.amqp_performatives.specs.declared.bodies.DetachBody.{DetachBody}
use Rattle.amqp_performatives.specs.declared.bodies.FlowBody.{FlowBody}
use Rattle.amqp_performatives.specs.declared.performative.Performative.{Performative}
use Rattle.amqp_performatives.specs.declared.performative.Performative.TheVariants as heard
use Rattle.amqp_frames.specs.declared.frame.Frame.{Frame}
use Rattle.amqp_events.specs.Event.{Leaves, Over}
use Rattle.amqp_events.specs.Event.{Nothing as No_event, Disposition}
use Rattle.amqp_events.specs.Told.{Telling}
use Rattle.amqp_events.specs.Joined.{Delivery}
use Rattle.amqp_rules.specs.declared.op.Op.{Op}
use Rattle.amqp_rules.specs.declared.op.Op.TheVariants as own
use Rattle.amqp_rules.specs.declared.reply.Reply.{Reply}
use Rattle.amqp_rules.specs.declared.reply.Given.{Given}
use Rattle.amqp_rules.specs.declared.reply.Given.TheVariants as given
use Rattle.amqp_rules.specs.declared.refusal.Refusal.{Refusal}
use Rattle.amqp_rules.specs.declared.refusal.Refusal.TheVariants as refusal
use Rattle.amqp_rules.specs.declared.violation.Violation.{Violation}
use Rattle.amqp_rules.specs.declared.violation.ViolationKind.TheVariants.{OutOfSession, BadHandle}
use Rattle.amqp_rules.specs.View.{View, LinkView, has_number, has_peer_handle, handle_of, is_attached, is_ending, is_mapped, is_offered_as, next_delivery, same_role, takes_frames}
use Rattle.amqp_rules.specs.Refusing.{answered, first_refusal, if_there, unlinked, unless}
use Rattle.amqp_rules.specs.Opened.{no_reply}
use Rattle.amqp_rules.specs.OnLink.{attached_as, on_link}
use Rattle.amqp_rules.specs.Sending.{sends, sends_ending, reply_of, reply_ending}
use Rattle.amqp_rules.specs.Telling.{flag}
use Rattle.amqp_rules.specs.Deliveries.{disposition_of, ended_by, received_by_own, sent_by_own}
use Rattle.amqp_rules.specs.Answer.{body_answer, heard_answer, is_dropped}
use Rattle.amqp_rules.specs.Begin.{begin_body, begin_refusals}
use Rattle.amqp_rules.specs.Attach.{Wanted, attach_answer, attach_refusals, attach_sent, number_met}
use Rattle.amqp_rules.specs.Start.{start_body, start_refusals}
use Rattle.amqp_rules.specs.Carry.{carry_refusals, later_body}
use Rattle.amqp_rules.specs.Abort.{abort_refusals}
use Rattle.amqp_rules.specs.Dispose.{dispose_body, dispose_refusals}
use Rattle.amqp_rules.specs.Learn.{learn_first, learn_reply}
use Rattle.amqp_rules.specs.Take.{take_first, take_reply}
use Rattle.amqp_rules.specs.Grant.{grant_body, grant_refusals, granted_on}
use Rattle.amqp_rules.specs.Offer.{offer_body, offered}
use Rattle.amqp_rules.specs.Drained.{drained, drained_body, drained_refusals}
use Rattle.amqp_rules.specs.Refresh.{refresh_body}
use Rattle.amqp_rules.specs.Detach.{detach_body, detach_refusals}
use Rattle.amqp_rules.specs.Suspend.{put_aside}
use Rattle.amqp_rules.specs.End.{end_body}
use Rattle.amqp_rules.specs.Flow.{echoes, flow_answer, flow_link, flow_reply, flow_violations, flow_windows, named_link}
use Rattle.amqp_rules.specs.PeerBegin.{begin_violations}
use Rattle.amqp_rules.specs.PeerAttach.{attach_violations, attach_heard_reply}
use Rattle.amqp_rules.specs.PeerTransfer.{transfer_violations, transfer_reply}
use Rattle.amqp_rules.specs.PeerDisposition.{disposition_violations, disposition_reply}
use Rattle.amqp_rules.specs.PeerDetach.{detach_reply, parting}
use Rattle.amqp_rules.specs.PeerEnd.{end_reply}
use Rattle.amqp_rules.specs.Sound.{Every}
use Rattle.amqp_rules.proofs.Accepted.{answered_Ok, on-link-ok, sends-ok, sends-ending-ok, there_Ok, unless_Ok}
use Rattle.amqp_rules.proofs.Listed.{by-bool}
use Rattle.amqp_laws.specs.declared.entry.Step.{Step}
use Rattle.amqp_laws.specs.declared.entry.Step.TheVariants.{Opened, Own, Heard}
use Rattle.amqp_pair_laws.proofs.Plain.{Answers, OwnAnswers}

abbrev pub OnZero : Reply → Type 0
OnZero reply = Every (λ s. s.frame.channel ≡ 0) reply.sent

by-reply : (r reply : Reply) → r ≡ reply → OnZero r → OnZero reply
by-reply r reply e zero' = subst (λ (r : Reply). OnZero r) e zero'

by-sends : (v : View) (rows : List (Bool × Refusal)) (body : Option Performative) (payload : List ℕ) (given : Given) (reply : Reply) → sends v.max_frame rows body payload given ≡ Ok reply → OnZero reply
by-sends v rows body payload given reply h =
    let s = sends-ok v.max_frame rows body payload given reply h in
    by-reply (reply_of body payload given) reply s.replies (refl, tt)

by-ending : (v : View) (rows : List (Bool × Refusal)) (body : Option Performative) (ended : List (Role × ℕ)) (given : Given) (reply : Reply) → sends_ending v.max_frame rows body ended given ≡ Ok reply → OnZero reply
by-ending v rows body ended given reply h =
    let s = sends-ending-ok v.max_frame rows body ended given reply h in
    by-reply (reply_ending body [] ended given) reply s.replies (refl, tt)

by-link : (v : View) (link : ℕ) (says : LinkView → Result Reply Refusal) (reply : Reply) → ((l : LinkView) → says l ≡ Ok reply → OnZero reply) → on_link v link says ≡ Ok reply → OnZero reply
by-link v link says reply each h = let o = on-link-ok v link says reply h in each o.on o.said

learn-zero : (told : List Telling) (reply : Reply) → learn_first told ≡ Ok reply → OnZero reply
learn-zero [] reply h = absurd (cc)
learn-zero (t ∷ told) reply h = let e : learn_reply t ≡ reply = cc in by-reply (learn_reply t) reply e tt

take-zero : (link : ℕ) (ready : List Delivery) (reply : Reply) → take_first link ready ≡ Ok reply → OnZero reply
take-zero link [] reply h = absurd (cc)
take-zero link (d ∷ ready) reply h = let e : take_reply link d ≡ reply = cc in by-reply (take_reply link d) reply e tt

attach-zero : (v : View) (a : Wanted) (reply : Reply) → attach_answer v a ≡ Ok reply → OnZero reply
attach-zero v a reply h = by-sends v (attach_refusals v a) (Some (heard.Attach (attach_sent v a))) [] (given.Link (number_met v.made (find (is_offered_as a.role a.name) v.links))) reply h

own-zero : (v : View) (op : Op) (reply : Reply) → OwnAnswers v op reply → OnZero reply
own-zero v own.Begin reply h = by-sends v (begin_refusals v) (begin_body v) [] given.Nothing reply h
own-zero v (own.Attach name role snd rcv source target count max_message) reply h =
    attach-zero v (record { name = name; role = role; snd = snd; rcv = rcv; source = source; target = target; count = count; max_message = max_message; items = [] }) reply h
own-zero v (own.Start link tag format settled payload more) reply h =
    let id = next_delivery v in
    by-link v link (λ l. sends v.max_frame (start_refusals v l tag settled payload) (start_body (handle_of l.ours) id tag format settled more) payload (given.Delivery id)) reply
    (λ l. by-sends v (start_refusals v l tag settled payload) (start_body (handle_of l.ours) id tag format settled more) payload (given.Delivery id) reply) h
own-zero v (own.Carry link payload more) reply h =
    by-link v link (λ l. sends v.max_frame (carry_refusals v l payload) (later_body (handle_of l.ours) (flag more) None) payload given.Nothing) reply
    (λ l. by-sends v (carry_refusals v l payload) (later_body (handle_of l.ours) (flag more) None) payload given.Nothing reply) h
own-zero v (own.Abort link) reply h =
    let ended : List (Role × ℕ) = ended_by (sent_by_own v (own.Abort link)) No_event v in
    by-link v link (λ l. sends_ending v.max_frame (abort_refusals v l) (later_body (handle_of l.ours) None (Some true)) ended given.Nothing) reply
    (λ l. by-ending v (abort_refusals v l) (later_body (handle_of l.ours) None (Some true)) ended given.Nothing reply) h
own-zero v (own.Dispose role first last settled state) reply h =
    let d : Disposition = record { first = first; last = last; settled = settled; state = state } in
    let op = own.Dispose role first last settled state in
    by-ending v (dispose_refusals v role d) (dispose_body role d) (ended_by (sent_by_own v op) (received_by_own v op) v) given.Nothing reply h
own-zero v (own.Learn link) reply h =
    let t = there_Ok (find (has_number link) v.links) refusal.NoLink (λ l. unless (not (same_role Sender l.role)) refusal.WrongRole (learn_first l.told)) reply h in
    learn-zero t.on.told reply (unless_Ok (not (same_role Sender t.on.role)) refusal.WrongRole (learn_first t.on.told) reply t.said).1
own-zero v (own.Grant link credit drain echo) reply h =
    by-link v link (λ l. sends v.max_frame (grant_refusals l credit) (grant_body v.windows (granted_on credit drain l) drain echo) [] given.Nothing) reply
    (λ l. by-sends v (grant_refusals l credit) (grant_body v.windows (granted_on credit drain l) drain echo) [] given.Nothing reply) h
own-zero v (own.Offer link available) reply h =
    by-link v link (λ l. sends v.max_frame (attached_as Sender l []) (offer_body v.windows (offered available l)) [] given.Nothing) reply
    (λ l. by-sends v (attached_as Sender l []) (offer_body v.windows (offered available l)) [] given.Nothing reply) h
own-zero v (own.Drained link) reply h =
    by-link v link (λ l. sends v.max_frame (drained_refusals l) (drained_body v.windows (drained l)) [] given.Nothing) reply
    (λ l. by-sends v (drained_refusals l) (drained_body v.windows (drained l)) [] given.Nothing reply) h
own-zero v (own.Refresh echo) reply h = by-sends v ((not (is_mapped v.session), refusal.NotMapped) ∷ []) (refresh_body v.windows echo) [] given.Nothing reply h
own-zero v (own.Take link) reply h =
    let t = there_Ok (find (has_number link) v.links) refusal.NoLink (λ l. unless (not (same_role Receiver l.role)) refusal.WrongRole (take_first l.number l.ready)) reply h in
    take-zero t.on.number t.on.ready reply (unless_Ok (not (same_role Receiver t.on.role)) refusal.WrongRole (take_first t.on.number t.on.ready) reply t.said).1
own-zero v (own.Detach link error) reply h =
    let ended : List (Role × ℕ) = ended_by (Leaves link) (Leaves link) v in
    by-link v link (λ l. sends_ending v.max_frame (detach_refusals l) (detach_body (handle_of l.ours) (Some true) error) ended given.Nothing) reply
    (λ l. by-ending v (detach_refusals l) (detach_body (handle_of l.ours) (Some true) error) ended given.Nothing reply) h
own-zero v (own.Suspend link) reply h =
    let ended : List (Role × ℕ) = ended_by (Leaves link) (Leaves link) v in
    by-link v link (λ l. sends_ending v.max_frame (detach_refusals l) (detach_body (handle_of l.ours) None None) ended (given.Suspended (put_aside v l))) reply
    (λ l. by-ending v (detach_refusals l) (detach_body (handle_of l.ours) None None) ended (given.Suspended (put_aside v l)) reply) h
own-zero v (own.Rejoin r) reply h = absurd h
own-zero v (own.Resume link tag settled) reply h = absurd h
own-zero v (own.End error) reply h = by-ending v ((not (is_mapped v.session), refusal.NotMapped) ∷ []) (end_body error) (ended_by Over Over v) given.Nothing reply h
own-zero v own.Beat reply h = by-sends v [] None [] given.Nothing reply h

-- # Frames that are heard

echo-zero : (echo : Bool) (w : WindowsView) (o : Option LinkView) (reply : Reply) → flow_reply echo w o ≡ reply → OnZero reply
echo-zero true w o reply h = by-reply (flow_reply true w o) reply h (refl, tt)
echo-zero false w o reply h = by-reply no_reply reply h tt

detach-zero : (attached : Bool) (v : View) (b : DetachBody) (l : LinkView) (reply : Reply)
    → cond attached (reply_ending (detach_body (handle_of l.ours) b.closed None) [] (ended_by (Leaves l.number) (Leaves l.number) v) (parting v b l)) (record { sent = []; ended = ended_by (Leaves l.number) (Leaves l.number) v; given = given.Gone l.number }) ≡ reply
    → OnZero reply
detach-zero true v b l reply h = by-reply _ reply h (refl, tt)
detach-zero false v b l reply h = by-reply _ reply h tt

end-zero : (mapped : Bool) (v : View) (reply : Reply)
    → cond mapped (reply_ending (end_body None) [] (ended_by Over Over v) given.Nothing) (record { sent = []; ended = ended_by Over Over v; given = given.Nothing }) ≡ reply
    → OnZero reply
end-zero true v reply h = by-reply _ reply h (refl, tt)
end-zero false v reply h = by-reply _ reply h tt

body-zero : (v : View) (body : Option Performative) (payload : List ℕ) (reply : Reply) → body_answer v body payload ≡ Ok reply → OnZero reply
body-zero v (Some (heard.Begin b)) payload reply h =
    let a = answered_Ok (first_refusal (begin_violations v)) no_reply reply h in
    by-reply no_reply reply a.replies tt
body-zero v (Some (heard.Attach b)) payload reply h =
    let a = answered_Ok (first_refusal (attach_violations v b)) (attach_heard_reply v b) reply h in
    by-reply (attach_heard_reply v b) reply a.replies tt
body-zero v (Some (heard.Flow b)) payload reply h =
    let w = flow_windows v b in
    let o = option_map (flow_link b) (named_link v.links b.handle) in
    let a = answered_Ok (first_refusal (flow_violations v b)) (flow_reply (echoes v b) w o) reply h in
    echo-zero (echoes v b) w o reply a.replies
body-zero v (Some (heard.Transfer b)) payload reply h =
    let say : LinkView → Result Reply Violation = λ l. answered (first_refusal (transfer_violations v b payload l)) (transfer_reply v b l) in
    let u = unless_Ok (not (takes_frames v.session)) (unlinked OutOfSession) (if_there (find (has_peer_handle b.handle) v.links) (unlinked BadHandle) say) reply h in
    let t = there_Ok (find (has_peer_handle b.handle) v.links) (unlinked BadHandle) say reply u.1 in
    let a = answered_Ok (first_refusal (transfer_violations v b payload t.on)) (transfer_reply v b t.on) reply t.said in
    by-reply (transfer_reply v b t.on) reply a.replies tt
body-zero v (Some (heard.Disposition b)) payload reply h =
    let a = answered_Ok (first_refusal (disposition_violations v (disposition_of b))) (disposition_reply v b) reply h in
    by-reply (disposition_reply v b) reply a.replies tt
body-zero v (Some (heard.Detach b)) payload reply h =
    let say : LinkView → Result Reply Violation = λ l. Ok (detach_reply v b l) in
    let u = unless_Ok (not (takes_frames v.session)) (unlinked OutOfSession) (if_there (find (has_peer_handle b.handle) v.links) (unlinked BadHandle) say) reply h in
    let t = there_Ok (find (has_peer_handle b.handle) v.links) (unlinked BadHandle) say reply u.1 in
    let said = t.said in
    let e : detach_reply v b t.on ≡ reply = cc said in
    detach-zero (is_attached t.on) v b t.on reply e
body-zero v (Some (heard.End b)) payload reply h =
    let u = unless_Ok (not (is_ending v.session || takes_frames v.session)) (unlinked OutOfSession) (Ok (end_reply v)) reply h in
    let said = u.1 in
    let e : end_reply v ≡ reply = cc said in
    end-zero (is_mapped v.session) v reply e
body-zero v _ payload reply h = absurd (cc)

heard-zero : (v : View) (f : Frame) (reply : Reply) → heard_answer v f ≡ Ok reply → OnZero reply
heard-zero v f reply h =
    by-bool (is_dropped v f.body)
    (λ (dropped : is_dropped v f.body ≡ true).
    let k = rw dropped at h in
    let e : no_reply ≡ reply = cc k in
    by-reply no_reply reply e tt)
    (λ (taken : is_dropped v f.body ≡ false). let k = rw taken at h in body-zero v f.body f.payload reply k)

pub step-zero : (v : View) (step : Step) (reply : Reply) → Answers v step reply → OnZero reply
step-zero v (Opened told) reply h = by-reply no_reply reply h tt
step-zero v (Own op) reply h = own-zero v op reply h
step-zero v (Heard f) reply h = heard-zero v f reply h
