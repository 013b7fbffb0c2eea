-- A Resume, as formulas over the whole past and as single changes: the whole view.
use Rattle.amqp_laws.proofs.ResumeOk.{resume_entry, anew, anew_reply, anew-ok, absent-ok}
use Rattle.std.proofs.Common.{◌≡◌, ℕ, ◌+◌, ◌-◌, ◌&&◌, ◌||◌, ◌==◌, Bool, true, false, not, cond, Option, Some, None, Result, Ok, Err, is_some, option_map, List, [], ◌∷◌, map, find, refl, sym, ap, ◌∙◌, subst, arith}
use Rattle.amqp_flow.specs.Serial.{wire}
use Rattle.amqp_performatives.specs.declared.state.DeliveryState.{DeliveryState}
use Rattle.amqp_performatives.specs.declared.bodies.TransferBody.{TransferBody}
use Rattle.amqp_performatives.specs.declared.bodies.Role.{Role}
use Rattle.amqp_performatives.specs.declared.bodies.Role.TheVariants.{Sender, Receiver}
use Rattle.amqp_performatives.specs.declared.performative.Performative.{Performative}
use Rattle.amqp_performatives.specs.declared.performative.Performative.TheVariants.{Transfer}
use Rattle.amqp_flow.specs.Windows.{windows_sent}
use Rattle.amqp_rules.specs.declared.op.Op.TheVariants.{Resume}
use Rattle.amqp_rules.specs.declared.reply.Reply.{Reply}
use Rattle.amqp_rules.specs.declared.reply.Given.{Given}
use Rattle.amqp_rules.specs.declared.refusal.Refusal.{Refusal}
use Rattle.amqp_rules.specs.declared.refusal.Refusal.TheVariants.{NotWaiting, Unclear as Not_clear}
use Rattle.amqp_rules.specs.declared.config.Config.{Config}
use Rattle.amqp_rules.specs.View.{View, LinkView, handle_of, has_number, is_attached, next_delivery, rcv_mode, same_role, change_first}
use Rattle.amqp_rules.specs.Sending.{reply_of, sends}
use Rattle.amqp_rules.specs.Refusing.{first_refusal, if_there}
use Rattle.amqp_rules.specs.Telling.{flag}
use Rattle.amqp_rules.specs.Deliveries.{sent_by_own, transferred, resumed_on, resumed_as, is_sent_anew, is_partial}
use Rattle.amqp_rules.specs.Resume.{unless_refused, resume_answer, early_refusals, resume_refusals, resume_item, resume_body, resumed_to, resumed_from, begin_resumed, outcome_of, is_unclear, absent_reply, resume_begins, item_sends, next_resume}
use Rattle.amqp_rules.proofs.Accepted.{IsSent, sends-ok, on-link-ok, there_Ok, no_refusal, not-false, unless_refused_Ok}
use Rattle.amqp_rules.proofs.Listed.{by-bool, length-changed}
use Rattle.amqp_waiting.specs.Waiting.{WaitingItem, waits_as, unclear}
use Rattle.amqp_events.specs.Event.{Begins, Event, Nothing as No_event}
use Rattle.amqp_events.specs.Joined.{unfinished}
use Rattle.amqp_events.specs.Laws.{AreLearnt}
use Rattle.amqp_events.specs.Told.{next_sent_held}
use Rattle.amqp_events.proofs.JoinedLaw.{unfinished-step}
use Rattle.amqp_laws.specs.declared.entry.Entry.{Entry}
use Rattle.amqp_laws.specs.declared.entry.Step.TheVariants.{Own}
use Rattle.amqp_laws.specs.Past.{some_entry}
use Rattle.amqp_laws.specs.Said.{detaches}
use Rattle.amqp_laws.specs.Attaches.{our_attach, peer_attach}
use Rattle.amqp_laws.specs.Brought.{as_met, items_brought, tags_named}
use Rattle.amqp_laws.specs.Sending.{limit, passed}
use Rattle.amqp_laws.specs.Windows.{known, sent_transfers}
use Rattle.amqp_laws.specs.Transfers.{mode_by, sent_on, sending}
use Rattle.amqp_laws.specs.Links.{LinkPast, link_at, link_pasts, is_gone, put, is_there_with}
use Rattle.amqp_laws.specs.Session.{links_at}
use Rattle.amqp_laws.specs.At.{base, seen, with_told, sent_events}
use Rattle.amqp_laws.proofs.Beside.{told-changed, told-role}
use Rattle.amqp_laws.proofs.BroughtLaw.{one-named}
use Rattle.amqp_laws.proofs.Joining.{Changes}
use Rattle.amqp_laws.proofs.StartWhole.{attached-stays, left-sum, nothing-sent, wire-sum}
use Rattle.amqp_laws.proofs.TableLaw.{table-law}
use Rattle.amqp_laws.proofs.ToldLink.{IsMute}

-- # One link

absent-changes : (link : ℕ) (tag : List ℕ) (settled : Bool) (number : ℕ) (role : Role) (name : List ℕ) (past : List Entry)
    → is_gone (record { number = number; role = role; name = name; past = past }) ≡ false
    → Changes (put (resume_entry link tag settled absent_reply)) (resumed_from tag) (record { number = number; role = role; name = name; past = past })
absent-changes link tag settled number Sender name past there = record {
  stays = there;
  changed = ap (λ ws. record (link_at (record { number = number; role = Sender; name = name; past = past })) { waiting = ws }) (one-named tag (tags_named past) (as_met Sender (our_attach past) (peer_attach past) (map unclear (items_brought past))));
}
absent-changes link tag settled number Receiver name past there = record {
  stays = there;
  changed = ap (λ ws. record (link_at (record { number = number; role = Receiver; name = name; past = past })) { waiting = ws }) (one-named tag (tags_named past) (as_met Receiver (our_attach past) (peer_attach past) (map unclear (items_brought past))));
}

-- a single transfer leaves nothing unfinished
anew-sending : (link : ℕ) (tag : List ℕ) (settled : Bool) (handle id : ℕ) (its : List ℕ) (settles : Bool) (state : Option DeliveryState) (partial : Bool) (given : Given) (past : List Entry)
    → some_entry detaches past ≡ false → unfinished (sent_on past) ≡ None
    → sending (resume_entry link tag settled (anew_reply handle id its settles state partial given) ∷ past) ≡ sending past
anew-sending link tag settled handle id its settles state true given past stays none =
    rw (stays, unfinished-step (record (transferred (mode_by (peer_attach past)) (anew handle id its settles state true) []) { resumed = false }) (sent_on past), none) refl
anew-sending link tag settled handle id its settles state false given past stays none =
    rw (stays, unfinished-step (record (transferred (mode_by (peer_attach past)) (anew handle id its settles state false) []) { resumed = false }) (sent_on past), none) refl

anew-changes : (link : ℕ) (tag : List ℕ) (settled : Bool) (handle id : ℕ) (its : List ℕ) (settles : Bool) (state : Option DeliveryState) (partial : Bool) (given : Given) (number : ℕ) (role : Role) (name : List ℕ) (past : List Entry)
    → is_gone (record { number = number; role = role; name = name; past = past }) ≡ false
    → same_role Sender role ≡ true
    → some_entry detaches past ≡ false
    → is_some (sending past) ≡ false
    → Changes (put (resume_entry link tag settled (anew_reply handle id its settles state partial given))) (begin_resumed tag) (record { number = number; role = role; name = name; past = past })
anew-changes link tag settled handle id its settles state partial given number Sender name past there h stays none =
    record {
      stays = there;
      changed = rw (anew-sending link tag settled handle id its settles state partial given past stays (nothing-sent past stays none), one-named tag (tags_named past) (as_met Sender (our_attach past) (peer_attach past) (map unclear (items_brought past))), wire-sum (passed past) 1, left-sum (limit past) (passed past) 1) refl;
    }
anew-changes link tag settled handle id its settles state partial given number Receiver name past there h stays none = absurd (cc)

-- # The view

mute-item : (id k : ℕ) (settled : Bool) (l : LinkView) (o : Option WaitingItem) → IsMute (resumed_as id k settled l o)
mute-item id k settled l None = tt
mute-item id k settled l (Some w) = by (is_sent_anew w) (Begins (record { id = id; link = k; tag = w.tag; second = rcv_mode l == 1; local = w.state; remote = w.theirs }) (not (settled || is_partial w))) tt
  where
    by : (b : Bool) (e : Event) → IsMute e → IsMute (cond b e No_event)
    by true e h = h
    by false e h = tt

mute-resumed : (id k : ℕ) (tag : List ℕ) (settled : Bool) (o : Option LinkView) → IsMute (resumed_on id k tag settled o)
mute-resumed id k tag settled None = tt
mute-resumed id k tag settled (Some l) = mute-item id k settled l (find (waits_as tag) l.waiting)

pub resume-law : (c : Config) (n : ℕ) (past : List Entry) (link : ℕ) (tag : List ℕ) (settled : Bool) (reply : Reply)
    → AreLearnt (sent_events c past)
    → resume_answer (seen c n past) link tag settled ≡ Ok reply
    → seen c (n + 1) (resume_entry link tag settled reply ∷ past) ≡ next_resume (seen c n past) link tag settled
resume-law c n past link tag settled reply learnt h =
    let v = seen c n past in
    let events = sent_events c past in
    let say : LinkView → Result Reply Refusal = λ l. unless_refused (first_refusal (early_refusals l)) (if_there (find (waits_as tag) l.waiting) NotWaiting (resume_item v l settled)) in
    let o = on-link-ok v link say reply h in
    let p = unless_refused_Ok (first_refusal (early_refusals o.on)) (if_there (find (waits_as tag) o.on.waiting) NotWaiting (resume_item v o.on settled)) reply o.said in
    let k = no_refusal (early_refusals o.on) p.0 in
    let t = there_Ok (find (waits_as tag) o.on.waiting) NotWaiting (resume_item v o.on settled) reply p.1 in
    let w : WaitingItem = t.on in
    let is : resume_begins tag (find (has_number link) v.links) ≡ is_sent_anew w = ap (resume_begins tag) o.found ∙ ap item_sends t.found in
    let e = resume_entry link tag settled reply in
    let mute = mute-resumed (next_delivery (base c 0 past)) link tag settled (find (has_number link) (links_at past)) in
    let tables = table-law c n (n + 1) past e tt in
    by-bool (is_sent_anew w)
    (λ (sent : is_sent_anew w ≡ true).
    let s = anew-ok v o.on settled w reply t.said sent in
    let role = not-false (same_role Sender o.on.role) k.1.0 in
    let stays : o.on.left ≡ false = attached-stays (is_some o.on.ours) (is_some o.on.theirs) o.on.left (not-false (is_attached o.on) k.0) in
    let idle : is_some o.on.sending ≡ false = k.1.1.0 in
    let id = next_delivery v in
    let given = resumed_to w.verdict (Some id) (outcome_of w) in
    let e' = resume_entry link tag settled (anew_reply (handle_of o.on.ours) id w.tag (settled && not (is_partial w)) (outcome_of w) (is_partial w) given) in
    let links = told-changed c past (resumed_on (next_delivery (base c 0 past)) link tag settled (find (has_number link) (links_at past))) (has_number link) (put e') (begin_resumed tag) o.on learnt mute (λ l. refl) (λ l. refl) o.found
    (λ l there whole.
    anew-changes link tag settled (handle_of o.on.ours) id w.tag (settled && not (is_partial w)) (outcome_of w) (is_partial w) given l.number l.role l.name l.past there
    (told-role Sender events (link_at l) o.on whole role)
    (subst (λ (x : LinkView). x.left ≡ false) (sym whole) stays)
    (subst (λ (x : LinkView). is_some x.sending ≡ false) (sym whole) idle)) in
    let tables' = table-law c n (n + 1) past e' tt in
    let after : View = record v {
      steps = v.steps + 1;
      windows = windows_sent v.windows;
      deliveries = v.deliveries + 1;
      links = change_first (has_number link) (begin_resumed tag) v.links;
      sent = next_sent_held (sent_by_own v (Resume link tag settled)) v.sent;
    } in
    let next' : next_resume v link tag settled ≡ after = rw (is, sent) refl in
    let sends' = tables'.sends ∙ ap (λ (x : View). x.sent) next' in
    let receives' = tables'.receives ∙ ap (λ (x : View). x.received) next' in
    let expects' = tables'.expects ∙ ap (λ (x : View). x.expected) next' in
    let there : seen c (n + 1) (e' ∷ past) ≡ after =
    rw (links, length-changed (is_there_with (has_number link)) (put e') (link_pasts past), left-sum (known c past) (sent_transfers past) 1, sends', receives', expects') refl in
    ap (λ (r : Reply). seen c (n + 1) (resume_entry link tag settled r ∷ past)) (sym s.replies) ∙ there ∙ sym next')
    (λ (none : is_sent_anew w ≡ false).
    let same = absent-ok v o.on settled w reply t.said none in
    let e' = resume_entry link tag settled absent_reply in
    let links = told-changed c past (resumed_on (next_delivery (base c 0 past)) link tag settled (find (has_number link) (links_at past))) (has_number link) (put e') (resumed_from tag) o.on learnt mute (λ l. refl) (λ l. refl) o.found
    (λ l there whole. absent-changes link tag settled l.number l.role l.name l.past there) in
    let tables' = table-law c n (n + 1) past e' tt in
    let after : View = record v { steps = v.steps + 1; links = change_first (has_number link) (resumed_from tag) v.links } in
    let next' : next_resume v link tag settled ≡ after = rw (is, none) refl in
    let sends' = tables'.sends ∙ ap (λ (x : View). x.sent) next' in
    let receives' = tables'.receives ∙ ap (λ (x : View). x.received) next' in
    let expects' = tables'.expects ∙ ap (λ (x : View). x.expected) next' in
    let there : seen c (n + 1) (e' ∷ past) ≡ after =
    rw (links, length-changed (is_there_with (has_number link)) (put e') (link_pasts past), sends', receives', expects') refl in
    ap (λ (r : Reply). seen c (n + 1) (resume_entry link tag settled r ∷ past)) (sym same) ∙ there ∙ sym next')
