-- A frame that is not refused has octets; so has each frame that is sent for an operation.
use Rattle.std.proofs.Common.{◌≡◌, ◌≤◌, ◌^◌, ◌<◌, ◌+◌, ◌||◌, ℕ, Bool, true, false, not, Option, Some, None, Result, Ok, Err, List, [], ◌∷◌, ◌++◌, length, cond, unwrap_or, nat_le, nat_lt, find, refl, sym, ap, subst, ◌∙◌, arith, if◌then◌else◌}
use Rattle.std.proofs.lemmas.Bool.{leb-true}
use Rattle.std.proofs.lemmas.List.{length-append}
use Rattle.std.proofs.lemmas.List.Elements.{All-cons, All-nil}
use Rattle.std.specs.Result.{result_err}
use Rattle.std.specs.Option.{option_map}
use Rattle.amqp_types.proofs.Compounds.{bind_some, guard_some}
use Rattle.amqp_performatives.specs.declared.bodies.Role.{Role}
use Rattle.amqp_performatives.specs.declared.bodies.Role.TheVariants.{Sender, Receiver}
use Rattle.amqp_performatives.specs.declared.performative.Performative.TheVariants as heard
use Rattle.amqp_events.specs.Event.{Disposition, Leaves, Over, Nothing as No_event}
use Rattle.amqp_events.specs.Joined.{Delivery as Received}
use Rattle.amqp_events.specs.Told.{Telling}
use Rattle.amqp_performatives.specs.declared.performative.Performative.{Performative}
use Rattle.amqp_frames.specs.declared.fault.FrameRefusal.{FrameRefusal}
use Rattle.amqp_frames.specs.declared.fault.FrameRefusal.TheVariants as fault
use Rattle.amqp_frames.specs.declared.frame.Frame.{Frame}
use Rattle.amqp_frames.specs.Field.{header}
use Rattle.amqp_frames.specs.Written.{contents_octets, framed, frame_octets, within_size}
use Rattle.amqp_rules.specs.declared.op.Op.{Op}
use Rattle.amqp_rules.specs.declared.op.Op.TheVariants.{Begin, Attach, Start, Carry, Abort, Dispose, Learn, Grant, Offer, Drained, Refresh, Take, Detach, Suspend, Rejoin, Resume, End, Beat}
use Rattle.amqp_rules.specs.declared.reply.Reply.{Reply}
use Rattle.amqp_rules.specs.declared.reply.Sent.{Sent}
use Rattle.amqp_rules.specs.declared.reply.Given.{Given}
use Rattle.amqp_rules.specs.declared.refusal.Refusal.{Refusal}
use Rattle.amqp_rules.specs.declared.refusal.Refusal.TheVariants.{NoLink, NotMapped, NotWaiting, WrongRole, Unclear as Not_clear}
use Rattle.amqp_rules.specs.declared.reply.Given.TheVariants.{Nothing, Link, Delivery, Gone, Suspended}
use Rattle.amqp_rules.specs.View.{View, LinkView, handle_of, has_number, has_peer_handle, is_attached, is_ending, is_mapped, is_offered_as, next_delivery, same_role, takes_frames}
use Rattle.amqp_rules.specs.Deliveries.{disposition_of, ended_by, received_by_own, sent_by_own}
use Rattle.amqp_rules.specs.Begin.{begin_body, begin_refusals}
use Rattle.amqp_rules.specs.Attach.{Wanted, attach_answer, attach_refusals, attach_sent, number_met}
use Rattle.amqp_rules.specs.Start.{start_body, start_refusals}
use Rattle.amqp_rules.specs.Carry.{carry_refusals, later_body}
use Rattle.amqp_rules.specs.Abort.{abort_refusals}
use Rattle.amqp_rules.specs.Dispose.{dispose_body, dispose_refusals}
use Rattle.amqp_rules.specs.Grant.{grant_body, grant_refusals, granted_on}
use Rattle.amqp_rules.specs.Offer.{offer_body, offered}
use Rattle.amqp_rules.specs.Drained.{drained, drained_body, drained_refusals}
use Rattle.amqp_rules.specs.Refresh.{refresh_body}
use Rattle.amqp_rules.specs.Detach.{detach_body, detach_refusals}
use Rattle.amqp_rules.specs.End.{end_body}
use Rattle.amqp_rules.specs.Telling.{flag, session_flow, standing_flow}
use Rattle.amqp_rules.specs.Sending.{frame_of, frame_refused, octets_of, reply_ending, sends, sends_ending, sent_of, told}
use Rattle.amqp_rules.specs.OnLink.{attached_as, on_link}
use Rattle.amqp_frames.specs.Brief.{Is32, IsBrief, IsBriefFlow}
use Rattle.amqp_frames.proofs.Brief.{detach_brief, end_brief, flow_brief}
use Rattle.amqp_flow.specs.Windows.{WindowsView}
use Rattle.amqp_performatives.specs.declared.bodies.FlowBody.{FlowBody}
use Rattle.amqp_performatives.specs.declared.bodies.DetachBody.{DetachBody}
use Rattle.amqp_rules.specs.declared.violation.Violation.{Violation}
use Rattle.amqp_rules.specs.declared.violation.ViolationKind.TheVariants.{BadHandle, OutOfSession}
use Rattle.amqp_rules.specs.Opened.{no_reply}
use Rattle.amqp_rules.specs.PeerBegin.{begin_violations}
use Rattle.amqp_rules.specs.PeerAttach.{attach_heard_reply, attach_violations}
use Rattle.amqp_rules.specs.Flow.{echo_body, echoes, flow_answer, flow_link, flow_reply, flow_violations, flow_windows, named_link}
use Rattle.amqp_rules.specs.PeerTransfer.{transfer_reply, transfer_violations}
use Rattle.amqp_rules.specs.PeerDisposition.{disposition_reply, disposition_violations}
use Rattle.amqp_rules.specs.Suspend.{put_aside}
use Rattle.amqp_waiting.specs.Waiting.{WaitingItem, waits_as}
use Rattle.amqp_rules.specs.Deliveries.{is_sent_anew}
use Rattle.amqp_rules.specs.Rejoin.{rejoined}
use Rattle.amqp_rules.specs.Resume.{absent_reply, early_refusals, is_unclear, outcome_of, resume_body, resume_item, resume_refusals, resume_sends, resumed_to, unless_refused}
use Rattle.amqp_rules.specs.PeerDetach.{detach_heard_answer, detach_reply, parting}
use Rattle.amqp_rules.specs.PeerEnd.{end_heard_answer, end_reply}
use Rattle.amqp_rules.specs.Ranges.{IsBodyInRange, IsInRange, IsLinkInRange}
use Rattle.amqp_rules.specs.Sound.{Every}
use Rattle.amqp_rules.proofs.InRange.{AreTold, either, flow-in-range, flow-told, wire-small}
use Rattle.amqp_rules.proofs.Listed.{by-bool}
use Rattle.amqp_rules.specs.Refusing.{answered, first_refusal, if_there, unless, unlinked}
use Rattle.amqp_rules.specs.Take.{take_first, take_reply}
use Rattle.amqp_rules.specs.Learn.{learn_first, learn_reply}
use Rattle.amqp_rules.specs.Answer.{body_answer, heard_answer, is_dropped, own_answer}
use Rattle.amqp_rules.specs.Written.{AllWritten, IsWritten}
use Rattle.amqp_rules.proofs.Accepted.{answered_Ok, on-link-ok, sends-ok, sends-ending-ok, there_Ok, unless_Ok, unless_refused_Ok}

-- ---- one frame

-- a frame's octets begin with its header
has-header : (f : Frame) (x : List ℕ) → frame_octets f ≡ Some x → 8 ≤ length x
has-header f x h =
    let b = bind_some (contents_octets f.body f.payload) (framed f.channel) x h in
    let g = guard_some (nat_lt (8 + length b.0) (2 ^ 32)) (Some (header (8 + length b.0) f.channel ++ b.0)) x b.2 in
    let same : header (8 + length b.0) f.channel ++ b.0 ≡ x = cc in
    omega (arith, length-append (header (8 + length b.0) f.channel) b.0, ap length same)

abbrev answer_by : Bool → List ℕ → Result (List ℕ) FrameRefusal
answer_by b x = if b then Ok x else Err fault.FrameTooBig

within : (b : Bool) (max : ℕ) (x : List ℕ) → nat_le (length x) max ≡ b → option_map told (result_err (answer_by b x)) ≡ None → length x ≤ max
within true max x t h = leb-true (length x) max t
within false max x t h = absurd cc

-- nothing is refused of octets that are there, and few enough
has-octets : (max : ℕ) (octets : Option (List ℕ)) → option_map told (result_err (within_size max octets)) ≡ None → (x : List ℕ) × (octets ≡ Some x) × (length x ≤ max)
has-octets max None h = absurd cc
has-octets max (Some x) h = (x, refl, within (nat_le (length x) max) max x refl h)

pub written : (max : ℕ) (body : Option Performative) (payload : List ℕ) → frame_refused max body payload ≡ None → IsWritten max (sent_of body payload)
unfolding frame_refused octets_of
written max body payload h =
    let o = has-octets max (frame_octets (frame_of body payload)) h in
    let bytes : unwrap_or (frame_octets (frame_of body payload)) [] ≡ o.0 = ap (λ (x : Option (List ℕ)). unwrap_or x []) o.1 in
    record {
      octets = o.1 ∙ ap Some (sym bytes);
      header = subst (λ (x : List ℕ). 8 ≤ length x) (sym bytes) (has-header (frame_of body payload) o.0 o.1);
      short = subst (λ (x : List ℕ). length x ≤ max) (sym bytes) o.2;
    }

-- ---- replies

pub none-sent : (max : ℕ) (reply : Reply) → reply.sent ≡ [] → AllWritten max reply
none-sent max reply none = record { each = rw none (All-nil (IsWritten max)); one = rw none (omega arith) }

one-sent : (max : ℕ) (reply : Reply) (s : Sent) → s ∷ [] ≡ reply.sent → IsWritten max s → AllWritten max reply
one-sent max reply s one h = record { each = rw (← one) (All-cons (IsWritten max) s [] h (All-nil (IsWritten max))); one = rw (← one) (omega arith) }

by-sends : (max : ℕ) (rows : List (Bool × Refusal)) (body : Option Performative) (payload : List ℕ) (given : Given) (reply : Reply)
    → sends max rows body payload given ≡ Ok reply → AllWritten max reply
by-sends max rows body payload given reply h =
    let k = sends-ok max rows body payload given reply h in
    one-sent max reply (sent_of body payload) (ap (λ (r : Reply). r.sent) k.replies) (written max body payload k.written)

by-ending : (max : ℕ) (rows : List (Bool × Refusal)) (body : Option Performative) (ended : List (Role × ℕ)) (given : Given) (reply : Reply)
    → sends_ending max rows body ended given ≡ Ok reply → AllWritten max reply
by-ending max rows body ended given reply h =
    let k = sends-ending-ok max rows body ended given reply h in
    one-sent max reply (sent_of body []) (ap (λ (r : Reply). r.sent) k.replies) (written max body [] k.written)

by-link : (v : View) (link : ℕ) (say : LinkView → Result Reply Refusal) (reply : Reply) → ((l : LinkView) → say l ≡ Ok reply → AllWritten v.max_frame reply)
    → on_link v link say ≡ Ok reply → AllWritten v.max_frame reply
by-link v link say reply each h = let o = on-link-ok v link say reply h in each o.on o.said

take-sends-none : (link : ℕ) (ready : List Received) (reply : Reply) → take_first link ready ≡ Ok reply → reply.sent ≡ []
take-sends-none link [] reply h = absurd cc
take-sends-none link (d ∷ ds) reply h = let same : take_reply link d ≡ reply = cc in ap (λ (r : Reply). r.sent) (sym same)

learn-sends-none : (told : List Telling) (reply : Reply) → learn_first told ≡ Ok reply → reply.sent ≡ []
learn-sends-none [] reply h = absurd cc
learn-sends-none (t ∷ ts) reply h = let same : learn_reply t ≡ reply = cc in ap (λ (r : Reply). r.sent) (sym same)

attach-written : (v : View) (a : Wanted) (reply : Reply) → attach_answer v a ≡ Ok reply → AllWritten v.max_frame reply
attach-written v a reply h =
    by-sends v.max_frame (attach_refusals v a) (Some (heard.Attach (attach_sent v a))) []
    (Link (number_met v.made (find (is_offered_as a.role a.name) v.links))) reply h

resume-sends-written : (v : View) (l : LinkView) (settled : Bool) (w : WaitingItem) (reply : Reply) → resume_sends v l settled w ≡ Ok reply → AllWritten v.max_frame reply
resume-sends-written v l settled w reply h =
    by-sends v.max_frame (resume_refusals v l settled w) (resume_body (handle_of l.ours) (next_delivery v) settled w) []
    (resumed_to w.verdict (Some (next_delivery v)) (outcome_of w)) reply h

item-written : (v : View) (l : LinkView) (settled : Bool) (w : WaitingItem) (reply : Reply) → resume_item v l settled w ≡ Ok reply → AllWritten v.max_frame reply
item-written v l settled w reply h = by (is_sent_anew w) (unless_Ok (is_unclear w) Not_clear (cond (is_sent_anew w) (resume_sends v l settled w) (Ok absent_reply)) reply h).1
  where
    by : (anew : Bool) → cond anew (resume_sends v l settled w) (Ok absent_reply) ≡ Ok reply → AllWritten v.max_frame reply
    by true k = resume-sends-written v l settled w reply k
    by false k = let same : absent_reply ≡ reply = cc in none-sent v.max_frame reply (ap (λ (r : Reply). r.sent) (sym same))

resume-written : (v : View) (l : LinkView) (tag : List ℕ) (settled : Bool) (reply : Reply)
    → unless_refused (first_refusal (early_refusals l)) (if_there (find (waits_as tag) l.waiting) NotWaiting (resume_item v l settled)) ≡ Ok reply → AllWritten v.max_frame reply
resume-written v l tag settled reply h =
    let r = unless_refused_Ok (first_refusal (early_refusals l)) (if_there (find (waits_as tag) l.waiting) NotWaiting (resume_item v l settled)) reply h in
    let t = there_Ok (find (waits_as tag) l.waiting) NotWaiting (resume_item v l settled) reply r.1 in
    item-written v l settled t.on reply t.said

pub own-written : (v : View) (op : Op) (reply : Reply) → own_answer v op ≡ Ok reply → AllWritten v.max_frame reply
own-written v Begin reply h = by-sends v.max_frame (begin_refusals v) (begin_body v) [] Nothing reply h
own-written v (Attach name role snd rcv source target count max_message) reply h =
    attach-written v (record { name = name; role = role; snd = snd; rcv = rcv; source = source; target = target; count = count; max_message = max_message; items = [] }) reply h
own-written v (Start link tag format settled payload more) reply h =
    by-link v link
    (λ l. sends v.max_frame (start_refusals v l tag settled payload) (start_body (handle_of l.ours) (next_delivery v) tag format settled more) payload (Delivery (next_delivery v)))
    reply
    (λ l. by-sends v.max_frame (start_refusals v l tag settled payload) (start_body (handle_of l.ours) (next_delivery v) tag format settled more) payload (Delivery (next_delivery v)) reply)
    h
own-written v (Carry link payload more) reply h =
    by-link v link (λ l. sends v.max_frame (carry_refusals v l payload) (later_body (handle_of l.ours) (flag more) None) payload Nothing) reply
    (λ l. by-sends v.max_frame (carry_refusals v l payload) (later_body (handle_of l.ours) (flag more) None) payload Nothing reply) h
own-written v (Abort link) reply h =
    let ended : List (Role × ℕ) = ended_by (sent_by_own v (Abort link)) No_event v in
    by-link v link (λ l. sends_ending v.max_frame (abort_refusals v l) (later_body (handle_of l.ours) None (Some true)) ended Nothing) reply
    (λ l. by-ending v.max_frame (abort_refusals v l) (later_body (handle_of l.ours) None (Some true)) ended Nothing reply) h
own-written v (Dispose role first last settled state) reply h =
    let d : Disposition = record { first = first; last = last; settled = settled; state = state } in
    let op = Dispose role first last settled state in
    by-ending v.max_frame (dispose_refusals v role d) (dispose_body role d) (ended_by (sent_by_own v op) (received_by_own v op) v) Nothing reply h
own-written v (Learn link) reply h =
    let t = there_Ok (find (has_number link) v.links) NoLink (λ l. unless (not (same_role Sender l.role)) WrongRole (learn_first l.told)) reply h in
    none-sent v.max_frame reply (learn-sends-none t.on.told reply (unless_Ok (not (same_role Sender t.on.role)) WrongRole (learn_first t.on.told) reply t.said).1)
own-written v (Grant link credit drain echo) reply h =
    by-link v link (λ l. sends v.max_frame (grant_refusals l credit) (grant_body v.windows (granted_on credit drain l) drain echo) [] Nothing) reply
    (λ l. by-sends v.max_frame (grant_refusals l credit) (grant_body v.windows (granted_on credit drain l) drain echo) [] Nothing reply) h
own-written v (Offer link available) reply h =
    by-link v link (λ l. sends v.max_frame (attached_as Sender l []) (offer_body v.windows (offered available l)) [] Nothing) reply
    (λ l. by-sends v.max_frame (attached_as Sender l []) (offer_body v.windows (offered available l)) [] Nothing reply) h
own-written v (Drained link) reply h =
    by-link v link (λ l. sends v.max_frame (drained_refusals l) (drained_body v.windows (drained l)) [] Nothing) reply
    (λ l. by-sends v.max_frame (drained_refusals l) (drained_body v.windows (drained l)) [] Nothing reply) h
own-written v (Refresh echo) reply h = by-sends v.max_frame ((not (is_mapped v.session), NotMapped) ∷ []) (refresh_body v.windows echo) [] Nothing reply h
own-written v (Take link) reply h =
    let t = there_Ok (find (has_number link) v.links) NoLink (λ l. unless (not (same_role Receiver l.role)) WrongRole (take_first l.number l.ready)) reply h in
    none-sent v.max_frame reply (take-sends-none t.on.number t.on.ready reply (unless_Ok (not (same_role Receiver t.on.role)) WrongRole (take_first t.on.number t.on.ready) reply t.said).1)
own-written v (Detach link error) reply h =
    let ended : List (Role × ℕ) = ended_by (Leaves link) (Leaves link) v in
    by-link v link (λ l. sends_ending v.max_frame (detach_refusals l) (detach_body (handle_of l.ours) (Some true) error) ended Nothing) reply
    (λ l. by-ending v.max_frame (detach_refusals l) (detach_body (handle_of l.ours) (Some true) error) ended Nothing reply) h
own-written v (Suspend link) reply h =
    let ended : List (Role × ℕ) = ended_by (Leaves link) (Leaves link) v in
    by-link v link (λ l. sends_ending v.max_frame (detach_refusals l) (detach_body (handle_of l.ours) None None) ended (Suspended (put_aside v l))) reply
    (λ l. by-ending v.max_frame (detach_refusals l) (detach_body (handle_of l.ours) None None) ended (Suspended (put_aside v l)) reply) h
own-written v (Rejoin r) reply h = attach-written v (rejoined r) reply h
own-written v (Resume link tag settled) reply h =
    by-link v link (λ l. unless_refused (first_refusal (early_refusals l)) (if_there (find (waits_as tag) l.waiting) NotWaiting (resume_item v l settled))) reply
    (λ l. resume-written v l tag settled reply) h
own-written v (End error) reply h = by-ending v.max_frame ((not (is_mapped v.session), NotMapped) ∷ []) (end_body error) (ended_by Over Over v) Nothing reply h
own-written v Beat reply h = by-sends v.max_frame [] None [] Nothing reply h

-- # Frames that are heard

-- what can always be written is not refused by a peer that takes 512 octets
pub brief-not-refused : (p : Performative) (max : ℕ) → IsBrief p → 512 ≤ max → frame_refused max (Some p) [] ≡ None
unfolding frame_refused
brief-not-refused p max brief enough = let w = brief 0 max enough in ap (λ (answer : Result (List ℕ) FrameRefusal). option_map told (result_err answer)) w.1

brief-sent : (p : Performative) (reply : Reply) → IsBrief p → sent_of (Some p) [] ∷ [] ≡ reply.sent → AllWritten 512 reply
brief-sent p reply brief one = one-sent 512 reply (sent_of (Some p) []) one (written 512 (Some p) [] (brief-not-refused p 512 brief (omega arith)))

session-brief : (own : ℕ) (w : WindowsView) → own < 2 ^ 32 → AreTold own w → IsBriefFlow (session_flow w)
session-brief own w small told =
    record {
      next_incoming_id = told.next_incoming;
      incoming_window = (let same = told.window in omega (arith, small, same));
      next_outgoing_id = wire-small (w.first + w.sent);
      outgoing_window = omega arith;
      handle = tt;
      delivery_count = tt;
      link_credit = tt;
      available = tt;
      properties = refl;
    }

standing-brief : (own : ℕ) (w : WindowsView) (l : LinkView) (role : Role) → own < 2 ^ 32 → AreTold own w → IsLinkInRange l → IsBriefFlow (standing_flow w l role)
standing-brief own w l Sender small told r =
    let s = session-brief own w small told in
    record {
      next_incoming_id = s.next_incoming_id;
      incoming_window = s.incoming_window;
      next_outgoing_id = s.next_outgoing_id;
      outgoing_window = s.outgoing_window;
      handle = r.handle;
      delivery_count = wire-small (l.credit.first_count + l.credit.passed);
      link_credit = r.credit;
      available = r.available;
      properties = refl;
    }
standing-brief own w l Receiver small told r =
    let s = session-brief own w small told in
    record {
      next_incoming_id = s.next_incoming_id;
      incoming_window = s.incoming_window;
      next_outgoing_id = s.next_outgoing_id;
      outgoing_window = s.outgoing_window;
      handle = r.handle;
      delivery_count = wire-small (l.credit.first_count + l.credit.passed);
      link_credit = r.credit;
      available = tt;
      properties = refl;
    }

-- the link that is found is in range
there-in-range : (test : LinkView → Bool) (links : List LinkView) (on : LinkView) → Every IsLinkInRange links → find test links ≡ Some on → IsLinkInRange on
there-in-range test [] on all h = absurd (cc)
there-in-range test (l ∷ links) on all h =
    by-bool (test l)
    (λ (t : test l ≡ true). let h' = rw t at h in let same : l ≡ on = cc in subst (λ (m : LinkView). IsLinkInRange m) same all.0)
    (λ (t : test l ≡ false). let h' = rw t at h in there-in-range test links on all.1 h')

abbrev OnLinkInRange : Option LinkView → Type 0
OnLinkInRange None = Unit {0}
OnLinkInRange (Some l) = IsLinkInRange l

found-in-range : (test : LinkView → Bool) (links : List LinkView) → Every IsLinkInRange links → OnLinkInRange (find test links)
found-in-range test links all = by (find test links) refl
  where
    by : (o : Option LinkView) → find test links ≡ o → OnLinkInRange o
    by None h = tt
    by (Some l) h = there-in-range test links l all h

named-in-range : (links : List LinkView) (handle : Option ℕ) → Every IsLinkInRange links → OnLinkInRange (named_link links handle)
named-in-range links None all = tt
named-in-range links (Some h) all = found-in-range (has_peer_handle h) links all

echo-brief : (own : ℕ) (w : WindowsView) (link : Option LinkView) → own < 2 ^ 32 → AreTold own w → OnLinkInRange link → IsBriefFlow (echo_body w link)
echo-brief own w None small told r = session-brief own w small told
echo-brief own w (Some l) small told r = either IsBriefFlow (is_attached l) (standing_flow w l l.role) (session_flow w) (standing-brief own w l l.role small told r) (session-brief own w small told)

flow-reply-written : (echo : Bool) (w : WindowsView) (link : Option LinkView) (reply : Reply) → IsBriefFlow (echo_body w link) → flow_reply echo w link ≡ reply → AllWritten 512 reply
flow-reply-written true w link reply brief h = brief-sent (heard.Flow (echo_body w link)) reply (flow_brief (echo_body w link) brief) (ap (λ (r : Reply). r.sent) h)
flow-reply-written false w link reply brief h = none-sent 512 reply (ap (λ (r : Reply). r.sent) (sym h))

flowed-in-range : (b : FlowBody) → Is32 b.link_credit → (o : Option LinkView) → OnLinkInRange o → OnLinkInRange (option_map (flow_link b) o)
flowed-in-range b small None r = tt
flowed-in-range b small (Some l) r = flow-in-range b small l r

flow-written : (v : View) (b : FlowBody) (reply : Reply) → flow_answer v b ≡ Ok reply → Is32 b.link_credit → IsInRange v → AllWritten 512 reply
flow-written v b reply h small r =
    let link = option_map (flow_link b) (named_link v.links b.handle) in
    let a = answered_Ok (first_refusal (flow_violations v b)) (flow_reply (echoes v b) (flow_windows v b) link) reply h in
    let there = flowed-in-range b small (named_link v.links b.handle) (named-in-range v.links b.handle r.links) in
    flow-reply-written (echoes v b) (flow_windows v b) link reply (echo-brief v.windows.window (flow_windows v b) link r.window (flow-told v b) there) a.replies

detach-written : (v : View) (b : DetachBody) (reply : Reply) → detach_heard_answer v b ≡ Ok reply → IsInRange v → AllWritten 512 reply
detach-written v b reply h r =
    let say : LinkView → Result Reply Violation = λ l. Ok (detach_reply v b l) in
    let u = unless_Ok (not (takes_frames v.session)) (unlinked OutOfSession) (if_there (find (has_peer_handle b.handle) v.links) (unlinked BadHandle) say) reply h in
    let t = there_Ok (find (has_peer_handle b.handle) v.links) (unlinked BadHandle) say reply u.1 in
    let same : detach_reply v b t.on ≡ reply = let said = t.said in cc in
    by t.on (is_attached t.on) (there-in-range (has_peer_handle b.handle) v.links t.on r.links t.found) same
  where
    by : (l : LinkView) (attached : Bool) → IsLinkInRange l
        → cond attached (reply_ending (detach_body (handle_of l.ours) b.closed None) [] (ended_by (Leaves l.number) (Leaves l.number) v) (parting v b l)) (record { sent = []; ended = ended_by (Leaves l.number) (Leaves l.number) v; given = Gone l.number }) ≡ reply
        → AllWritten 512 reply
    by l true here same =
        brief-sent (heard.Detach (record { handle = handle_of l.ours; closed = b.closed; error = None })) reply (detach_brief _ here.handle refl) (ap (λ (r : Reply). r.sent) same)
    by l false here same = none-sent 512 reply (ap (λ (r : Reply). r.sent) (sym same))

end-written : (v : View) (reply : Reply) → end_heard_answer v ≡ Ok reply → AllWritten 512 reply
end-written v reply h =
    let u = unless_Ok (not (is_ending v.session || takes_frames v.session)) (unlinked OutOfSession) (Ok (end_reply v)) reply h in
    let same : end_reply v ≡ reply = let said = u.1 in cc in
    by (is_mapped v.session) same
  where
    by : (mapped : Bool) → cond mapped (reply_ending (end_body None) [] (ended_by Over Over v) Nothing) (record { sent = []; ended = ended_by Over Over v; given = Nothing }) ≡ reply → AllWritten 512 reply
    by true same = brief-sent (heard.End (record { error = None })) reply (end_brief _ refl) (ap (λ (r : Reply). r.sent) same)
    by false same = none-sent 512 reply (ap (λ (r : Reply). r.sent) (sym same))

body-written : (v : View) (body : Option Performative) (payload : List ℕ) (reply : Reply) → body_answer v body payload ≡ Ok reply → IsBodyInRange body → IsInRange v → AllWritten 512 reply
body-written v (Some (heard.Begin b)) payload reply h small r =
    let a = answered_Ok (first_refusal (begin_violations v)) no_reply reply h in none-sent 512 reply (ap (λ (r : Reply). r.sent) (sym a.replies))
body-written v (Some (heard.Attach b)) payload reply h small r =
    let a = answered_Ok (first_refusal (attach_violations v b)) (attach_heard_reply v b) reply h in none-sent 512 reply (ap (λ (r : Reply). r.sent) (sym a.replies))
body-written v (Some (heard.Flow b)) payload reply h small r = flow-written v b reply h small r
body-written v (Some (heard.Transfer b)) payload reply h small r =
    let say : LinkView → Result Reply Violation = λ l. answered (first_refusal (transfer_violations v b payload l)) (transfer_reply v b l) in
    let u = unless_Ok (not (takes_frames v.session)) (unlinked OutOfSession) (if_there (find (has_peer_handle b.handle) v.links) (unlinked BadHandle) say) reply h in
    let t = there_Ok (find (has_peer_handle b.handle) v.links) (unlinked BadHandle) say reply u.1 in
    let a = answered_Ok (first_refusal (transfer_violations v b payload t.on)) (transfer_reply v b t.on) reply t.said in
    none-sent 512 reply (ap (λ (r : Reply). r.sent) (sym a.replies))
body-written v (Some (heard.Disposition b)) payload reply h small r =
    let a = answered_Ok (first_refusal (disposition_violations v (disposition_of b))) (disposition_reply v b) reply h in none-sent 512 reply (ap (λ (r : Reply). r.sent) (sym a.replies))
body-written v (Some (heard.Detach b)) payload reply h small r = detach-written v b reply h r
body-written v (Some (heard.End b)) payload reply h small r = end-written v reply h
body-written v _ payload reply h small r = absurd (cc)

pub heard-written : (v : View) (f : Frame) (reply : Reply) → IsInRange v → IsBodyInRange f.body → heard_answer v f ≡ Ok reply → AllWritten 512 reply
heard-written v f reply r small h =
    by-bool (is_dropped v f.body)
    (λ (dropped : is_dropped v f.body ≡ true). let k = rw dropped at h in let same : no_reply ≡ reply = cc in none-sent 512 reply (ap (λ (r : Reply). r.sent) (sym same)))
    (λ (taken : is_dropped v f.body ≡ false). let k = rw taken at h in body-written v f.body f.payload reply k small r)
