-- What an accepted step sends: nothing with a body, a transfer, a flow, a begin, or another frame.
use Rattle.std.proofs.Common.{◌≡◌, ℕ, ◌==◌, ◌&&◌, ◌||◌, Bool, true, false, not, cond, Option, Some, None, Result, Ok, List, [], ◌∷◌, refl, sym, ap, subst, ◌∙◌, find, option_map, unwrap_or}
use Rattle.amqp_flow.specs.Windows.{WindowsView, next_outgoing, windows_begun, windows_heard, windows_renewed}
use Rattle.amqp_performatives.specs.declared.bodies.TransferBody.{TransferBody}
use Rattle.amqp_performatives.specs.declared.bodies.FlowBody.{FlowBody}
use Rattle.amqp_performatives.specs.declared.bodies.BeginBody.{BeginBody}
use Rattle.amqp_performatives.specs.declared.bodies.DetachBody.{DetachBody}
use Rattle.amqp_performatives.specs.declared.bodies.DispositionBody.{DispositionBody}
use Rattle.amqp_performatives.specs.declared.bodies.EndBody.{EndBody}
use Rattle.amqp_performatives.specs.declared.bodies.Role.{Role}
use Rattle.amqp_performatives.specs.declared.bodies.Role.TheVariants.{Sender, Receiver}
use Rattle.amqp_performatives.specs.declared.performative.Performative.{Performative}
use Rattle.amqp_performatives.specs.declared.performative.Performative.TheVariants as heard
use Rattle.amqp_frames.specs.declared.frame.Frame.{Frame}
use Rattle.amqp_events.specs.Event.{Leaves, Over}
use Rattle.amqp_rules.specs.declared.op.Op.{Op}
use Rattle.amqp_rules.specs.declared.op.Op.TheVariants.{Begin, Attach, Start, Carry, Abort, Dispose, Learn, Grant, Offer, Drained, Refresh, Take, Detach, Suspend, Rejoin, Resume, End, Beat}
use Rattle.amqp_rules.specs.declared.op.Op.TheVariants as own
use Rattle.amqp_rules.specs.declared.reply.Reply.{Reply}
use Rattle.amqp_rules.specs.declared.reply.Given.TheVariants as given
use Rattle.amqp_rules.specs.declared.refusal.Refusal.{Refusal}
use Rattle.amqp_rules.specs.declared.refusal.Refusal.TheVariants as refusal
use Rattle.amqp_rules.specs.declared.violation.Violation.{Violation}
use Rattle.amqp_rules.specs.declared.violation.ViolationKind.TheVariants.{OutOfSession, BadHandle}
use Rattle.amqp_rules.specs.View.{View, LinkView, SessionView, has_number, has_peer_handle, handle_of, is_mapped, is_attached, is_over, may_begin, next_delivery, same_role, takes_frames, is_ending, is_offered_as}
use Rattle.amqp_rules.specs.Refusing.{answered, first_refusal, if_there, unlinked, unless}
use Rattle.amqp_rules.specs.Opened.{no_reply}
use Rattle.amqp_rules.specs.OnLink.{attached_as}
use Rattle.amqp_rules.specs.Sending.{sends, sends_ending, sent_of, reply_of, reply_ending}
use Rattle.amqp_rules.specs.Telling.{flag, session_flow, standing_flow}
use Rattle.amqp_rules.specs.Deliveries.{ended_by, sent_by_own, received_by_own}
use Rattle.amqp_events.specs.Event.{Nothing as No_event, Disposition}
use Rattle.amqp_events.specs.Told.{Telling}
use Rattle.amqp_events.specs.Joined.{Delivery}
use Rattle.amqp_rules.specs.Answer.{body_answer, heard_answer, is_dropped, is_end, next_body, next_heard, next_own}
use Rattle.amqp_rules.specs.Begin.{begin_body, begin_refusals}
use Rattle.amqp_rules.specs.Attach.{Wanted, attach_answer, attach_refusals, attach_sent, number_met}
use Rattle.amqp_rules.specs.Start.{start_body, start_refusals}
use Rattle.amqp_rules.specs.Carry.{carry_refusals, later_body}
use Rattle.amqp_rules.specs.Abort.{abort_refusals}
use Rattle.amqp_rules.specs.Dispose.{is_backwards, dispose_answer, dispose_body, dispose_refusals}
use Rattle.amqp_rules.specs.Learn.{learn_first, learn_reply}
use Rattle.amqp_rules.specs.Take.{take_first, take_reply}
use Rattle.amqp_rules.specs.Grant.{grant_body, grant_refusals, granted_on}
use Rattle.amqp_rules.specs.Offer.{offer_body, offered}
use Rattle.amqp_rules.specs.Drained.{drained, drained_body, drained_refusals}
use Rattle.amqp_rules.specs.Refresh.{refresh_body}
use Rattle.amqp_rules.specs.Detach.{detach_body, detach_refusals}
use Rattle.amqp_rules.specs.End.{end_body}
use Rattle.amqp_rules.specs.Flow.{echo_body, echoes, flow_answer, flow_link, flow_reply, flow_violations, flow_windows, named_link, next_flow, asks_echo, session_part, windows_by}
use Rattle.amqp_rules.specs.PeerBegin.{begin_violations}
use Rattle.amqp_rules.specs.PeerAttach.{attach_violations, attach_heard_reply}
use Rattle.amqp_rules.specs.PeerTransfer.{transfer_violations, transfer_reply}
use Rattle.amqp_rules.specs.PeerDisposition.{disposition_violations, disposition_reply}
use Rattle.amqp_rules.specs.PeerDetach.{detach_reply, parting}
use Rattle.amqp_rules.specs.PeerEnd.{end_reply}
use Rattle.amqp_rules.specs.Deliveries.{disposition_of}
use Rattle.amqp_rules.proofs.Accepted.{answered_Ok, no_refusal, not-false, on-link-ok, sends-ok, sends-ending-ok, there_Ok, unless_Ok}
use Rattle.amqp_rules.proofs.Listed.{by-bool}
use Rattle.amqp_laws.specs.declared.entry.Step.{Step}
use Rattle.amqp_laws.specs.declared.entry.Step.TheVariants.{Opened, Own, Heard}
use Rattle.amqp_laws.specs.Said.{body_heard, is_begin, is_detach, is_start, own_in, tells_windows, transfer_in}
use Rattle.amqp_laws.specs.Lawful.{next}
use Rattle.amqp_laws.proofs.AttachLaw.{mapped-not-over, not-over}
use Rattle.amqp_laws.proofs.Twice.{and-both}
use Rattle.amqp_pair_laws.proofs.Plain.{Answers, OwnAnswers}
use Rattle.amqp_pair_laws.specs.World.{frame_among}
use Rattle.amqp_rules.specs.Suspend.{put_aside}

-- a flow tells the session's numbers as they are after the step
pub record TellsNumbers (v : View) (w : WindowsView) (b : FlowBody) : Type 0 where
  pub awaits : b.next_incoming_id ≡ w.next_incoming
  pub takes : b.incoming_window ≡ v.windows.window
  pub comes : b.next_outgoing_id ≡ next_outgoing v.windows

abbrev pub is_attach : Option Performative → Bool
is_attach (Some (heard.Attach b)) = true
is_attach _ = false

abbrev pub is_own_attach : Option Op → Bool
is_own_attach (Some (Attach name role snd rcv source target count max_message)) = true
is_own_attach _ = false

abbrev pub is_own_detach : Option Op → Bool
is_own_detach (Some (Detach link error)) = true
is_own_detach (Some (Suspend link)) = true
is_own_detach _ = false

-- an operation that sends a transfer
abbrev pub is_carrier : Option Op → Bool
is_carrier (Some (Start link tag format settled payload more)) = true
is_carrier (Some (Carry link payload more)) = true
is_carrier (Some (Abort link)) = true
is_carrier _ = false

-- the disposition that an operation tells
abbrev pub IsOf : Option Op → DispositionBody → Type 0
IsOf (Some (Dispose role first last settled state)) d = (d.role ≡ role) × ((d.first ≡ first) × (((disposition_of d).last ≡ last) × (((disposition_of d).settled ≡ settled) × (d.state ≡ state))))
IsOf _ d = ⊥

-- a body of a session's frame
abbrev pub is_spoken : Option Performative → Bool
is_spoken None = false
is_spoken (Some (heard.Open b)) = false
is_spoken (Some (heard.Close b)) = false
is_spoken _ = true

-- of a frame that is no transfer, flow or begin
pub record Beside (v after : View) (hears : Option Performative) (op : Option Op) (p : Performative) : Type 0 where
  -- an attach is asked for; a detach too, or it answers one
  pub attaches : is_attach (Some p) ≡ true → is_own_attach op ≡ true
  pub detaches : is_detach (Some p) ≡ true → is_own_detach op || is_detach hears ≡ true
  pub mapped : is_detach (Some p) ≡ false → is_mapped v.session ≡ true
  pub ends : is_end (Some p) ≡ true → is_over after.session ≡ true
  pub range : (d : DispositionBody) → Some p ≡ Some (heard.Disposition d) → is_backwards (disposition_of d).first (disposition_of d).last ≡ false
  pub says : (d : DispositionBody) → Some p ≡ Some (heard.Disposition d) → IsOf op d
  pub spoken : is_spoken (Some p) ≡ true

pub data Sending (v : View) (after : View) (hears : Option Performative) (op : Option Op) (reply : Reply) : Type 0 where
  silent : frame_among reply.sent ≡ None → Sending v after hears op reply
  transfers : (t : TransferBody) (payload : List ℕ) → hears ≡ None → is_mapped v.session ≡ true → (v.windows.remote_incoming == 0) ≡ false → (is_start op ≡ false → t.delivery_id ≡ None) → is_carrier op ≡ true
      → reply.sent ≡ sent_of (Some (heard.Transfer t)) payload ∷ [] → Sending v after hears op reply
  flows : (b : FlowBody) → transfer_in hears ≡ None → is_mapped v.session ≡ true → is_over after.session ≡ false → after.session.begin_heard ≡ true → TellsNumbers v after.windows b
      → reply.sent ≡ sent_of (Some (heard.Flow b)) [] ∷ [] → Sending v after hears op reply
  begins : (b : BeginBody) → hears ≡ None → is_begin op ≡ true → v.session.begin_sent ≡ false → is_over after.session ≡ false → b.incoming_window ≡ v.windows.window → b.next_outgoing_id ≡ next_outgoing v.windows
      → reply.sent ≡ sent_of (Some (heard.Begin b)) [] ∷ [] → Sending v after hears op reply
  others : (p : Performative) (payload : List ℕ) → transfer_in (Some p) ≡ None → tells_windows (Some p) ≡ false → Beside v after hears op p
      → reply.sent ≡ sent_of (Some p) payload ∷ [] → Sending v after hears op reply

-- # Operations

sent-by : (r reply : Reply) → r ≡ reply → reply.sent ≡ r.sent
sent-by r reply e = ap (λ (r : Reply). r.sent) (sym e)

quiet-by : (r reply : Reply) → r ≡ reply → frame_among r.sent ≡ None → frame_among reply.sent ≡ None
quiet-by r reply e q = ap (λ (r : Reply). frame_among r.sent) (sym e) ∙ q

begins-unsent : (s : SessionView) → may_begin s ≡ true → s.begin_sent ≡ false
begins-unsent s h = by s.begin_sent h
  where
    by : (sent : Bool) → not sent && not (is_over s) ≡ true → sent ≡ false
    by true h = absurd (cc)
    by false h = refl

begins-open : (s : SessionView) → may_begin s ≡ true → is_over s ≡ false
begins-open s h = not-over (not s.begin_sent) (is_over s) h

mapped-heard : (s : SessionView) → is_mapped s ≡ true → s.begin_heard ≡ true
mapped-heard s h = let k = and-both s.begin_sent (takes_frames s) h in (and-both s.begin_heard (not (is_over s)) k.1).0

pub learn-silent : (ts : List Telling) (reply : Reply) → learn_first ts ≡ Ok reply → frame_among reply.sent ≡ None
learn-silent [] reply h = absurd (cc)
learn-silent (t ∷ ts) reply h = let e : learn_reply t ≡ reply = cc in quiet-by (learn_reply t) reply e refl

pub take-silent : (link : ℕ) (ds : List Delivery) (reply : Reply) → take_first link ds ≡ Ok reply → frame_among reply.sent ≡ None
take-silent link [] reply h = absurd (cc)
take-silent link (d ∷ ds) reply h = let e : take_reply link d ≡ reply = cc in quiet-by (take_reply link d) reply e refl

attach-sending : (v : View) (a : Wanted) (after : View) (reply : Reply) → attach_answer v a ≡ Ok reply → (op : Op) → is_own_attach (Some op) ≡ true → Sending v after None (Some op) reply
attach-sending v a after reply h op is =
    let s = sends-ok v.max_frame (attach_refusals v a) (Some (heard.Attach (attach_sent v a))) [] (given.Link (number_met v.made (find (is_offered_as a.role a.name) v.links))) reply h in
    others (heard.Attach (attach_sent v a)) [] refl refl (record { attaches = λ h. is; detaches = λ h. absurd (cc (h)); mapped = λ h. not-false (is_mapped v.session) s.none_holds.0; ends = λ h. absurd (cc (h)); range = λ d h. absurd (cc (h)); says = λ d h. absurd (cc (h)); spoken = refl }) (sent-by _ reply s.replies)

said-range : (role : Role) (d : Disposition) (e : DispositionBody) → dispose_body role d ≡ Some (heard.Disposition e) → is_backwards d.first d.last ≡ false → is_backwards (disposition_of e).first (disposition_of e).last ≡ false
said-range role d e h forward =
    let body : DispositionBody = record { role = role; first = d.first; last = Some d.last; settled = flag d.settled; state = d.state; batchable = None } in
    let same : body ≡ e = cc h in
    subst (λ (e : DispositionBody). is_backwards (disposition_of e).first (disposition_of e).last ≡ false) same forward

said-of : (role : Role) (d : Disposition) (e : DispositionBody) → dispose_body role d ≡ Some (heard.Disposition e) → IsOf (Some (own.Dispose role d.first d.last d.settled d.state)) e
said-of role d e h =
    let body : DispositionBody = record { role = role; first = d.first; last = Some d.last; settled = flag d.settled; state = d.state; batchable = None } in
    let same : body ≡ e = cc h in
    subst (λ (e : DispositionBody). IsOf (Some (own.Dispose role d.first d.last d.settled d.state)) e) same (refl, (refl, (refl, (back d.settled, refl))))
  where
    back : (b : Bool) → unwrap_or (flag b) false ≡ b
    back true = refl
    back false = refl

dispose-sending : (v : View) (role : Role) (d : Disposition) (after : View) (reply : Reply) → dispose_answer v role d ≡ Ok reply → Sending v after None (Some (own.Dispose role d.first d.last d.settled d.state)) reply
dispose-sending v role d after reply h =
    let op = own.Dispose role d.first d.last d.settled d.state in
    let s = sends-ending-ok v.max_frame (dispose_refusals v role d) (dispose_body role d) (ended_by (sent_by_own v op) (received_by_own v op) v) given.Nothing reply h in
    let forward : is_backwards d.first d.last ≡ false = s.none_holds.1.0 in
    others _ [] refl refl (record { attaches = λ h. absurd (cc (h)); detaches = λ h. absurd (cc (h)); mapped = λ h. not-false (is_mapped v.session) s.none_holds.0; ends = λ h. absurd (cc (h)); range = λ e h. said-range role d e h forward; says = λ e h. said-of role d e h; spoken = refl }) (sent-by _ reply s.replies)

pub own-sending : (v : View) (op : Op) (reply : Reply) → OwnAnswers v op reply → Sending v (next_own v op) None (Some op) reply
own-sending v Begin reply h =
    let s = sends-ok v.max_frame (begin_refusals v) (begin_body v) [] given.Nothing reply h in
    let may = not-false (may_begin v.session) s.none_holds.0 in
    begins _ refl refl (begins-unsent v.session may) (begins-open v.session may) refl refl (sent-by _ reply s.replies)
own-sending v (Attach name role snd rcv source target count max_message) reply h = attach-sending v (record { name = name; role = role; snd = snd; rcv = rcv; source = source; target = target; count = count; max_message = max_message; items = [] }) _ reply h (Attach name role snd rcv source target count max_message) refl
own-sending v (Start link tag format settled payload more) reply h =
    let id = next_delivery v in
    let o = on-link-ok v link (λ l. sends v.max_frame (start_refusals v l tag settled payload) (start_body (handle_of l.ours) id tag format settled more) payload (given.Delivery id)) reply h in
    let s = sends-ok v.max_frame (start_refusals v o.on tag settled payload) (start_body (handle_of o.on.ours) id tag format settled more) payload (given.Delivery id) reply o.said in
    transfers _ payload refl o.mapped s.none_holds.1.1.1.1.1.1.0 (λ h. absurd (cc (h))) refl (sent-by _ reply s.replies)
own-sending v (Carry link payload more) reply h =
    let o = on-link-ok v link (λ l. sends v.max_frame (carry_refusals v l payload) (later_body (handle_of l.ours) (flag more) None) payload given.Nothing) reply h in
    let s = sends-ok v.max_frame (carry_refusals v o.on payload) (later_body (handle_of o.on.ours) (flag more) None) payload given.Nothing reply o.said in
    transfers _ payload refl o.mapped s.none_holds.1.1.1.0 (λ h. refl) refl (sent-by _ reply s.replies)
own-sending v (Abort link) reply h =
    let ended = ended_by (sent_by_own v (own.Abort link)) No_event v in
    let o = on-link-ok v link (λ l. sends_ending v.max_frame (abort_refusals v l) (later_body (handle_of l.ours) None (Some true)) ended given.Nothing) reply h in
    let s = sends-ending-ok v.max_frame (abort_refusals v o.on) (later_body (handle_of o.on.ours) None (Some true)) ended given.Nothing reply o.said in
    transfers _ [] refl o.mapped s.none_holds.1.1.1.0 (λ h. refl) refl (sent-by _ reply s.replies)
own-sending v (Dispose role first last settled state) reply h = dispose-sending v role (record { first = first; last = last; settled = settled; state = state }) _ reply h
own-sending v (Learn link) reply h =
    let say : LinkView → Result Reply Refusal = λ l. unless (not (same_role Sender l.role)) refusal.WrongRole (learn_first l.told) in
    let t = there_Ok (find (has_number link) v.links) refusal.NoLink say reply h in
    let u = unless_Ok (not (same_role Sender t.on.role)) refusal.WrongRole (learn_first t.on.told) reply t.said in
    silent (learn-silent t.on.told reply u.1)
own-sending v (Grant link credit drain echo) reply h =
    let o = on-link-ok v link (λ l. sends v.max_frame (grant_refusals l credit) (grant_body v.windows (granted_on credit drain l) drain echo) [] given.Nothing) reply h in
    let s = sends-ok v.max_frame (grant_refusals o.on credit) (grant_body v.windows (granted_on credit drain o.on) drain echo) [] given.Nothing reply o.said in
    flows _ refl o.mapped (mapped-not-over v.session o.mapped) (mapped-heard v.session o.mapped) (record { awaits = refl; takes = refl; comes = refl }) (sent-by _ reply s.replies)
own-sending v (Offer link available) reply h =
    let o = on-link-ok v link (λ l. sends v.max_frame (attached_as Sender l []) (offer_body v.windows (offered available l)) [] given.Nothing) reply h in
    let s = sends-ok v.max_frame (attached_as Sender o.on []) (offer_body v.windows (offered available o.on)) [] given.Nothing reply o.said in
    flows _ refl o.mapped (mapped-not-over v.session o.mapped) (mapped-heard v.session o.mapped) (record { awaits = refl; takes = refl; comes = refl }) (sent-by _ reply s.replies)
own-sending v (Drained link) reply h =
    let o = on-link-ok v link (λ l. sends v.max_frame (drained_refusals l) (drained_body v.windows (drained l)) [] given.Nothing) reply h in
    let s = sends-ok v.max_frame (drained_refusals o.on) (drained_body v.windows (drained o.on)) [] given.Nothing reply o.said in
    flows _ refl o.mapped (mapped-not-over v.session o.mapped) (mapped-heard v.session o.mapped) (record { awaits = refl; takes = refl; comes = refl }) (sent-by _ reply s.replies)
own-sending v (Refresh echo) reply h =
    let s = sends-ok v.max_frame ((not (is_mapped v.session), refusal.NotMapped) ∷ []) (refresh_body v.windows echo) [] given.Nothing reply h in
    let mapped = not-false (is_mapped v.session) s.none_holds.0 in
    flows _ refl mapped (mapped-not-over v.session mapped) (mapped-heard v.session mapped) (record { awaits = refl; takes = refl; comes = refl }) (sent-by _ reply s.replies)
own-sending v (Take link) reply h =
    let say : LinkView → Result Reply Refusal = λ l. unless (not (same_role Receiver l.role)) refusal.WrongRole (take_first l.number l.ready) in
    let t = there_Ok (find (has_number link) v.links) refusal.NoLink say reply h in
    let u = unless_Ok (not (same_role Receiver t.on.role)) refusal.WrongRole (take_first t.on.number t.on.ready) reply t.said in
    silent (take-silent t.on.number t.on.ready reply u.1)
own-sending v (Detach link error) reply h =
    let o = on-link-ok v link (λ l. sends_ending v.max_frame (detach_refusals l) (detach_body (handle_of l.ours) (Some true) error) (ended_by (Leaves link) (Leaves link) v) given.Nothing) reply h in
    let s = sends-ending-ok v.max_frame (detach_refusals o.on) (detach_body (handle_of o.on.ours) (Some true) error) (ended_by (Leaves link) (Leaves link) v) given.Nothing reply o.said in
    others _ [] refl refl (record { attaches = λ h. absurd (cc (h)); detaches = λ h. refl; mapped = λ h. o.mapped; ends = λ h. absurd (cc (h)); range = λ d h. absurd (cc (h)); says = λ d h. absurd (cc (h)); spoken = refl }) (sent-by _ reply s.replies)
own-sending v (Suspend link) reply h =
    let o = on-link-ok v link (λ l. sends_ending v.max_frame (detach_refusals l) (detach_body (handle_of l.ours) None None) (ended_by (Leaves link) (Leaves link) v) (given.Suspended (put_aside v l))) reply h in
    let s = sends-ending-ok v.max_frame (detach_refusals o.on) (detach_body (handle_of o.on.ours) None None) (ended_by (Leaves link) (Leaves link) v) (given.Suspended (put_aside v o.on)) reply o.said in
    others _ [] refl refl (record { attaches = λ h. absurd (cc (h)); detaches = λ h. refl; mapped = λ h. o.mapped; ends = λ h. absurd (cc (h)); range = λ d h. absurd (cc (h)); says = λ d h. absurd (cc (h)); spoken = refl }) (sent-by _ reply s.replies)
own-sending v (Rejoin r) reply h = absurd h
own-sending v (Resume link tag settled) reply h = absurd h
own-sending v (End error) reply h =
    let s = sends-ending-ok v.max_frame ((not (is_mapped v.session), refusal.NotMapped) ∷ []) (end_body error) (ended_by Over Over v) given.Nothing reply h in
    others _ [] refl refl (record { attaches = λ k. absurd (cc (k)); detaches = λ k. absurd (cc (k)); mapped = λ h. not-false (is_mapped v.session) s.none_holds.0; ends = λ h. refl; range = λ d h. absurd (cc (h)); says = λ d h. absurd (cc (h)); spoken = refl }) (sent-by _ reply s.replies)
own-sending v Beat reply h =
    let s = sends-ok v.max_frame [] None [] given.Nothing reply h in
    silent (quiet-by (reply_of None [] given.Nothing) reply s.replies refl)

-- # Frames that are heard

record TellsOf (w : WindowsView) (b : FlowBody) : Type 0 where
  awaits : b.next_incoming_id ≡ w.next_incoming
  takes : b.incoming_window ≡ w.window
  comes : b.next_outgoing_id ≡ next_outgoing w

standing-tells : (w : WindowsView) (l : LinkView) (role : Role) → TellsOf w (standing_flow w l role)
standing-tells w l Sender = record { awaits = refl; takes = refl; comes = refl }
standing-tells w l Receiver = record { awaits = refl; takes = refl; comes = refl }

echo-tells : (w : WindowsView) (o : Option LinkView) → TellsOf w (echo_body w o)
echo-tells w None = record { awaits = refl; takes = refl; comes = refl }
echo-tells w (Some l) = by (is_attached l)
  where
    by : (attached : Bool) → TellsOf w (cond attached (standing_flow w l l.role) (session_flow w))
    by true = standing-tells w l l.role
    by false = record { awaits = refl; takes = refl; comes = refl }

record KeepsNumbers (v w : WindowsView) : Type 0 where
  takes : w.window ≡ v.window
  comes : next_outgoing w ≡ next_outgoing v

told-keeps : (v : View) (b : FlowBody) → KeepsNumbers v.windows (windows_by v b)
told-keeps v b = by v.session.begin_sent
  where
    by : (sent : Bool) → KeepsNumbers v.windows (cond sent (windows_heard (session_part b) v.windows) (windows_begun b.next_outgoing_id b.incoming_window b.outgoing_window v.windows))
    by true = record { takes = refl; comes = refl }
    by false = record { takes = refl; comes = refl }

flow-keeps : (v : View) (b : FlowBody) → KeepsNumbers v.windows (flow_windows v b)
flow-keeps v b = by (echoes v b) (told-keeps v b)
  where
    by : (echo : Bool) → KeepsNumbers v.windows (windows_by v b) → KeepsNumbers v.windows (cond echo (windows_renewed (windows_by v b)) (windows_by v b))
    by true k = record { takes = k.takes; comes = k.comes }
    by false k = k

echo-sent : (echo : Bool) (w : WindowsView) (o : Option LinkView) (reply : Reply) → echo ≡ true → flow_reply echo w o ≡ reply → reply.sent ≡ sent_of (Some (heard.Flow (echo_body w o))) [] ∷ []
echo-sent true w o reply e h = sent-by _ reply h
echo-sent false w o reply e h = absurd (cc)

echo-silent : (echo : Bool) (w : WindowsView) (o : Option LinkView) (reply : Reply) → echo ≡ false → flow_reply echo w o ≡ reply → frame_among reply.sent ≡ None
echo-silent true w o reply e h = absurd (cc)
echo-silent false w o reply e h = quiet-by no_reply reply h refl

flow-sending : (v : View) (b : FlowBody) (reply : Reply) → flow_answer v b ≡ Ok reply → Sending v (next_flow v b) (Some (heard.Flow b)) None reply
flow-sending v b reply h =
    let w = flow_windows v b in
    let o = option_map (flow_link b) (named_link v.links b.handle) in
    let a = answered_Ok (first_refusal (flow_violations v b)) (flow_reply (echoes v b) w o) reply h in
    let rows = no_refusal (flow_violations v b) a.none in
    let takes : takes_frames v.session ≡ true = not-false (takes_frames v.session) rows.0 in
    by-bool (echoes v b)
    (λ (t : echoes v b ≡ true).
    let begun : v.session.begin_sent ≡ true = (and-both (asks_echo b) v.session.begin_sent t).1 in
    let mapped : is_mapped v.session ≡ true = rw begun takes in
    let tells = echo-tells w o in
    let keeps = flow-keeps v b in
    flows (echo_body w o) refl mapped (mapped-not-over v.session mapped) (mapped-heard v.session mapped)
    (record { awaits = tells.awaits; takes = tells.takes ∙ keeps.takes; comes = tells.comes ∙ keeps.comes })
    (echo-sent (echoes v b) w o reply t a.replies))
    (λ (f : echoes v b ≡ false). silent (echo-silent (echoes v b) w o reply f a.replies))

detach-sending : (attached : Bool) (v after : View) (b : DetachBody) (l : LinkView) (reply : Reply)
    → cond attached (reply_ending (detach_body (handle_of l.ours) b.closed None) [] (ended_by (Leaves l.number) (Leaves l.number) v) (parting v b l)) (record { sent = []; ended = ended_by (Leaves l.number) (Leaves l.number) v; given = given.Gone l.number }) ≡ reply
    → Sending v after (Some (heard.Detach b)) None reply
detach-sending true v after b l reply h = others _ [] refl refl (record { attaches = λ k. absurd (cc (k)); detaches = λ k. refl; mapped = λ k. absurd (cc (k)); ends = λ k. absurd (cc (k)); range = λ d k. absurd (cc (k)); says = λ d k. absurd (cc (k)); spoken = refl }) (sent-by _ reply h)
detach-sending false v after b l reply h = silent (quiet-by _ reply h refl)

or-true : (a : Bool) → a || true ≡ true
or-true true = refl
or-true false = refl

end-sending : (mapped : Bool) (v after : View) (b : EndBody) (reply : Reply) → mapped ≡ is_mapped v.session → is_over after.session ≡ true
    → cond mapped (reply_ending (end_body None) [] (ended_by Over Over v) given.Nothing) (record { sent = []; ended = ended_by Over Over v; given = given.Nothing }) ≡ reply
    → Sending v after (Some (heard.End b)) None reply
end-sending true v after b reply is over h = others _ [] refl refl (record { attaches = λ k. absurd (cc (k)); detaches = λ k. absurd (cc (k)); mapped = λ k. sym is; ends = λ k. over; range = λ d k. absurd (cc (k)); says = λ d k. absurd (cc (k)); spoken = refl }) (sent-by _ reply h)
end-sending false v after b reply is over h = silent (quiet-by _ reply h refl)

pub body-sending : (v : View) (body : Option Performative) (payload : List ℕ) (reply : Reply) → body_answer v body payload ≡ Ok reply → Sending v (next_body v body payload) body None reply
body-sending v (Some (heard.Begin b)) payload reply h =
    let a = answered_Ok (first_refusal (begin_violations v)) no_reply reply h in
    silent (quiet-by no_reply reply a.replies refl)
body-sending v (Some (heard.Attach b)) payload reply h =
    let a = answered_Ok (first_refusal (attach_violations v b)) (attach_heard_reply v b) reply h in
    silent (quiet-by (attach_heard_reply v b) reply a.replies refl)
body-sending v (Some (heard.Flow b)) payload reply h = flow-sending v b reply h
body-sending v (Some (heard.Transfer b)) payload reply h =
    let say : LinkView → Result Reply Violation = λ l. answered (first_refusal (transfer_violations v b payload l)) (transfer_reply v b l) in
    let u = unless_Ok (not (takes_frames v.session)) (unlinked OutOfSession) (if_there (find (has_peer_handle b.handle) v.links) (unlinked BadHandle) say) reply h in
    let t = there_Ok (find (has_peer_handle b.handle) v.links) (unlinked BadHandle) say reply u.1 in
    let a = answered_Ok (first_refusal (transfer_violations v b payload t.on)) (transfer_reply v b t.on) reply t.said in
    silent (quiet-by (transfer_reply v b t.on) reply a.replies refl)
body-sending v (Some (heard.Disposition b)) payload reply h =
    let a = answered_Ok (first_refusal (disposition_violations v (disposition_of b))) (disposition_reply v b) reply h in
    silent (quiet-by (disposition_reply v b) reply a.replies refl)
body-sending v (Some (heard.Detach b)) payload reply h =
    let say : LinkView → Result Reply Violation = λ l. Ok (detach_reply v b l) in
    let u = unless_Ok (not (takes_frames v.session)) (unlinked OutOfSession) (if_there (find (has_peer_handle b.handle) v.links) (unlinked BadHandle) say) reply h in
    let t = there_Ok (find (has_peer_handle b.handle) v.links) (unlinked BadHandle) say reply u.1 in
    let said = t.said in
    let e : detach_reply v b t.on ≡ reply = cc said in
    detach-sending (is_attached t.on) v _ b t.on reply e
body-sending v (Some (heard.End b)) payload reply h =
    let u = unless_Ok (not (is_ending v.session || takes_frames v.session)) (unlinked OutOfSession) (Ok (end_reply v)) reply h in
    let said = u.1 in
    let e : end_reply v ≡ reply = cc said in
    end-sending (is_mapped v.session) v (next_body v (Some (heard.End b)) payload) b reply refl (or-true v.session.end_sent) e
body-sending v _ payload reply h = absurd (cc)

heard-sending : (v : View) (f : Frame) (reply : Reply) → heard_answer v f ≡ Ok reply → Sending v (next_heard v f) f.body None reply
heard-sending v f reply h =
    by-bool (is_dropped v f.body)
    (λ (dropped : is_dropped v f.body ≡ true).
    let k = rw dropped at h in
    let e : no_reply ≡ reply = cc k in
    silent (quiet-by no_reply reply e refl))
    (λ (taken : is_dropped v f.body ≡ false). let k = rw taken at h in rw taken (body-sending v f.body f.payload reply k))

pub step-sending : (v : View) (step : Step) (reply : Reply) → Answers v step reply → Sending v (next v step) (body_heard step) (own_in step) reply
step-sending v (Opened told) reply h = silent (quiet-by no_reply reply h refl)
step-sending v (Own op) reply h = own-sending v op reply h
step-sending v (Heard f) reply h = heard-sending v f reply h
