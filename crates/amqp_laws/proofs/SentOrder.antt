-- The deliveries that we send have consecutive ids along every lawful journal.
use Rattle.amqp_flow.specs.Serial.{wire}
use Rattle.amqp_events.specs.Event.{Nothing as No_event}
use Rattle.amqp_rules.proofs.Listed.{by-bool}
use Rattle.amqp_laws.proofs.ResumeOk.{anew-ok, absent-ok, anew_reply, resume_entry}
use Rattle.amqp_rules.specs.Refusing.{first_refusal, if_there}
use Rattle.amqp_waiting.specs.Waiting.{WaitingItem, waits_as}
use Rattle.amqp_rules.specs.declared.refusal.Refusal.{Refusal}
use Rattle.amqp_rules.specs.declared.refusal.Refusal.TheVariants.{NotWaiting}
use Rattle.amqp_rules.specs.Resume.{unless_refused, resume_answer, early_refusals, resume_item, resumed_to, outcome_of, absent_reply}
use Rattle.std.proofs.Common.{◌≡◌, ℕ, ◌+◌, ◌&&◌, ◌||◌, Bool, true, false, cond, Option, None, Some, Ok, List, [], ◌∷◌, length, map, option_map, find, refl, ap, sym, ◌∙◌, subst, Result, not, ◌==◌}
use Rattle.std.specs.List.{list_any}
use Rattle.std.proofs.lemmas.Bool.{eqb-true}
use Rattle.amqp_performatives.specs.declared.bodies.DispositionBody.{DispositionBody}
use Rattle.amqp_performatives.specs.declared.bodies.Role.{Role}
use Rattle.amqp_performatives.specs.declared.bodies.Role.TheVariants.{Sender, Receiver}
use Rattle.amqp_performatives.specs.declared.performative.Performative.{Performative}
use Rattle.amqp_performatives.specs.declared.performative.Performative.TheVariants as heard
use Rattle.amqp_rules.specs.declared.op.Op.{Op}
use Rattle.amqp_rules.specs.declared.op.Op.TheVariants.{Start, Carry, Abort, Dispose, Resume}
use Rattle.amqp_rules.specs.declared.reply.Reply.{Reply}
use Rattle.amqp_rules.specs.declared.reply.Given.TheVariants.{Delivery}
use Rattle.amqp_rules.specs.declared.config.Config.{Config}
use Rattle.amqp_rules.specs.View.{LinkView, SendingView, has_number, has_peer_handle, next_delivery, handle_of, rcv_mode}
use Rattle.amqp_rules.specs.Deliveries.{begun_on, sending_on, continued_on, said_of, heard_of, left_by_peer, resumed_on, resumed_as, is_sent_anew, is_partial}
use Rattle.amqp_events.specs.Tags.{is_tagged, IsFree}
use Rattle.amqp_rules.specs.Sending.{sends}
use Rattle.amqp_rules.specs.Start.{start_answer, start_refusals, start_body}
use Rattle.amqp_rules.proofs.Accepted.{on-link-ok, there_Ok, unless_refused_Ok}
use Rattle.amqp_events.specs.Event.{Item, Disposition, Event, Begins}
use Rattle.amqp_events.specs.Since.{more}
use Rattle.amqp_events.specs.Numbers.{deliveries, is_begin, IsSent, AreSentInOrder}
use Rattle.amqp_events.specs.Unsettled.{still_held, shown, held}
use Rattle.amqp_events.specs.Told.{sent_item}
use Rattle.amqp_events.specs.Tags.{IsFree, AreFree}
use Rattle.amqp_laws.specs.declared.entry.Entry.{Entry}
use Rattle.amqp_laws.specs.declared.entry.Step.{Step}
use Rattle.amqp_laws.specs.declared.entry.Step.TheVariants.{Opened, Own, Heard}
use Rattle.amqp_laws.specs.Past.{some_entry}
use Rattle.amqp_laws.specs.Said.{ends, hears_no_end}
use Rattle.amqp_laws.specs.Live.{live}
use Rattle.amqp_laws.specs.Session.{links_at}
use Rattle.amqp_laws.specs.At.{base, seen, started, with_told, sent_events, sent_by}
use Rattle.amqp_laws.specs.Lawful.{Answers, IsReplayed}
use Rattle.amqp_laws.proofs.Events.{numbered-told, sent-same}

-- # What is found

pub found-passes : (test : LinkView → Bool) (links : List LinkView) (on : LinkView) → find test links ≡ Some on → test on ≡ true
found-passes test [] on h = absurd (cc)
found-passes test (l ∷ links) on h = by_test (test l) refl (found-passes test links on) h
  where
    by_test : (b : Bool) → test l ≡ b → (find test links ≡ Some on → test on ≡ true) → cond b (Some l) (find test links) ≡ Some on → test on ≡ true
    by_test true e rest h = let same : l ≡ on = cc in subst (λ (x : LinkView). test x ≡ true) same e
    by_test false e rest h = rest h

-- # One event

-- an event by which no delivery of ours begins
record IsSilent (first : ℕ) (e : Event) (before : List Event) : Type 0 where
  sent : IsSent first e before
  none : is_begin e ≡ false

silent-continued : (first : ℕ) (over : Bool) (d : Option SendingView) (before : List Event) → IsSilent first (continued_on over d) before
silent-continued first over None before = record { sent = tt; none = refl }
silent-continued first over (Some d) before = record { sent = tt; none = refl }

silent-said : (first : ℕ) (role : Role) (d : Disposition) (before : List Event) → IsSilent first (said_of Sender role d) before
silent-said first Sender d before = record { sent = tt; none = refl }
silent-said first Receiver d before = record { sent = tt; none = refl }

silent-heard : (first : ℕ) (b : DispositionBody) (role : Role) (before : List Event) → IsSilent first (heard_of Sender b role) before
silent-heard first b Sender before = record { sent = tt; none = refl }
silent-heard first b Receiver before = record { sent = tt; none = refl }

silent-left : (first : ℕ) (o : Option LinkView) (before : List Event) → IsSilent first (left_by_peer o) before
silent-left first None before = record { sent = tt; none = refl }
silent-left first (Some l) before = record { sent = tt; none = refl }

-- # All events

pub record SentSo (c : Config) (past : List Entry) : Type 0 where
  pub order : AreSentInOrder c.first_id (sent_events c past)
  pub count : deliveries (sent_events c past) ≡ started past

-- nothing begins
goes-silent : (c : Config) (past : List Entry) (e : Entry) → started (e ∷ past) ≡ started past → IsSilent c.first_id (sent_by (base c 0 past) e.step) (sent_events c past) → SentSo c past → SentSo c (e ∷ past)
goes-silent c past e same q s =
    record { order = (s.order, q.sent); count = rw (q.none, same) s.count }

goes-start : (c : Config) (past : List Entry) (e : Entry) (link : ℕ) (tag : List ℕ) (settled : Bool) (o : Option LinkView) (on : LinkView)
    → option_map (with_told (sent_events c past)) o ≡ Some on
    → started (e ∷ past) ≡ started past + 1
    → sent_by (base c 0 past) e.step ≡ begun_on (next_delivery (base c 0 past)) link tag settled o
    → SentSo c past → SentSo c (e ∷ past)
goes-start c past e link tag settled None on found one is s = absurd (cc)
goes-start c past e link tag settled (Some l) on found one is s =
    record {
      order = (s.order, rw (is, s.count) refl);
      count = rw (is, one, s.count) refl;
    }

sent-start : (c : Config) (n : ℕ) (past : List Entry) (link : ℕ) (tag : List ℕ) (format : ℕ) (settled : Bool) (payload : List ℕ) (more : Bool) (reply : Reply)
    → start_answer (seen c n past) link tag format settled payload more ≡ Ok reply
    → SentSo c past → SentSo c (record { step = Own (Start link tag format settled payload more); reply = reply } ∷ past)
sent-start c n past link tag format settled payload more reply h s =
    let v = seen c n past in
    let id = next_delivery v in
    let o = on-link-ok v link (λ l. sends v.max_frame (start_refusals v l tag settled payload) (start_body (handle_of l.ours) id tag format settled more) payload (Delivery id)) reply h in
    let there = sym (numbered-told (sent_events c past) link (links_at past)) ∙ o.found in
    goes-start c past (record { step = Own (Start link tag format settled payload more); reply = reply }) link tag settled (find (has_number link) (links_at past)) o.on there refl refl s

goes-resume : (c : Config) (past : List Entry) (e : Entry) (item : Item) (unsettled : Bool)
    → started (e ∷ past) ≡ started past + 1
    → sent_by (base c 0 past) e.step ≡ Begins item unsettled
    → item.id ≡ next_delivery (base c 0 past)
    → SentSo c past → SentSo c (e ∷ past)
goes-resume c past e item unsettled one is id s =
    let events = sent_events c past in
    record {
      order = (s.order, subst (λ (x : Event). IsSent c.first_id x events) (sym is) (id ∙ ap (λ (n : ℕ). wire (c.first_id + n)) (sym s.count)));
      count = rw (is, one, s.count) refl;
    }

sent-resume : (c : Config) (n : ℕ) (past : List Entry) (link : ℕ) (tag : List ℕ) (settled : Bool) (reply : Reply)
    → resume_answer (seen c n past) link tag settled ≡ Ok reply
    → SentSo c past → SentSo c (resume_entry link tag settled reply ∷ past)
sent-resume c n past link tag settled reply h s =
    let v = seen c n past in
    let id = next_delivery v in
    let say : LinkView → Result Reply Refusal = λ l. unless_refused (first_refusal (early_refusals l)) (if_there (find (waits_as tag) l.waiting) NotWaiting (resume_item v l settled)) in
    let o = on-link-ok v link say reply h in
    let p = unless_refused_Ok (first_refusal (early_refusals o.on)) (if_there (find (waits_as tag) o.on.waiting) NotWaiting (resume_item v o.on settled)) reply o.said in
    let t = there_Ok (find (waits_as tag) o.on.waiting) NotWaiting (resume_item v o.on settled) reply p.1 in
    let w : WaitingItem = t.on in
    let item : Item = record { id = id; link = link; tag = w.tag; second = rcv_mode o.on == 1; local = w.state; remote = w.theirs } in
    let event : resumed_on id link tag settled (find (has_number link) v.links) ≡ resumed_as id link settled o.on (Some w) =
    ap (resumed_on id link tag settled) o.found ∙ ap (resumed_as id link settled o.on) t.found in
    let same = sent-same c n past (Own (Resume link tag settled)) in
    by-bool (is_sent_anew w)
    (λ (sent : is_sent_anew w ≡ true).
    let k = anew-ok v o.on settled w reply t.said sent in
    let given = resumed_to w.verdict (Some id) (outcome_of w) in
    let e' = resume_entry link tag settled (anew_reply (handle_of o.on.ours) id w.tag (settled && not (is_partial w)) (outcome_of w) (is_partial w) given) in
    let is : sent_by (base c 0 past) e'.step ≡ Begins item (not (settled || is_partial w)) =
    sym same ∙ event ∙ ap (λ (b : Bool). cond b (Begins item (not (settled || is_partial w))) No_event) sent in
    let so = goes-resume c past e' item (not (settled || is_partial w)) refl is refl s in
    subst (λ (r : Reply). SentSo c (resume_entry link tag settled r ∷ past)) k.replies so)
    (λ (none : is_sent_anew w ≡ false).
    let gone = absent-ok v o.on settled w reply t.said none in
    let e' = resume_entry link tag settled absent_reply in
    let is : sent_by (base c 0 past) e'.step ≡ No_event =
    sym same ∙ event ∙ ap (λ (b : Bool). cond b (Begins item (not (settled || is_partial w))) No_event) none in
    let so = goes-silent c past e' refl (subst (λ (x : Event). IsSilent c.first_id x (sent_events c past)) (sym is) (record { sent = tt; none = refl })) s in
    subst (λ (r : Reply). SentSo c (resume_entry link tag settled r ∷ past)) gone so)

sent-own : (c : Config) (n : ℕ) (past : List Entry) (op : Op) (reply : Reply) → Answers (seen c n past) (Own op) reply → SentSo c past → SentSo c (record { step = Own op; reply = reply } ∷ past)
sent-own c n past (Start link tag format settled payload more) reply h s = sent-start c n past link tag format settled payload more reply h s
sent-own c n past (Carry link payload more) reply h s =
    goes-silent c past (record { step = Own (Carry link payload more); reply = reply }) refl (silent-continued c.first_id false (sending_on (find (has_number link) (links_at past))) (sent_events c past)) s
sent-own c n past (Abort link) reply h s =
    goes-silent c past (record { step = Own (Abort link); reply = reply }) refl (silent-continued c.first_id true (sending_on (find (has_number link) (links_at past))) (sent_events c past)) s
sent-own c n past (Dispose role first last settled state) reply h s =
    goes-silent c past (record { step = Own (Dispose role first last settled state); reply = reply }) refl (silent-said c.first_id role (record { first = first; last = last; settled = settled; state = state }) (sent_events c past)) s
sent-own c n past (Resume link tag settled) reply h s = sent-resume c n past link tag settled reply h s
sent-own c n past op reply h s = record { order = (s.order, tt); count = s.count }

sent-body : (c : Config) (past : List Entry) (channel : ℕ) (body : Option Performative) (payload : List ℕ) (reply : Reply) → SentSo c past
    → SentSo c (record { step = Heard (record { channel = channel; body = body; payload = payload }); reply = reply } ∷ past)
sent-body c past channel (Some (heard.Disposition b)) payload reply s =
    goes-silent c past (record { step = Heard (record { channel = channel; body = Some (heard.Disposition b); payload = payload }); reply = reply }) refl (silent-heard c.first_id b b.role (sent_events c past)) s
sent-body c past channel (Some (heard.Detach b)) payload reply s =
    goes-silent c past (record { step = Heard (record { channel = channel; body = Some (heard.Detach b); payload = payload }); reply = reply }) refl (silent-left c.first_id (find (has_peer_handle b.handle) (links_at past)) (sent_events c past)) s
sent-body c past channel body payload reply s = record { order = (s.order, tt); count = s.count }

pub sent-one : (c : Config) (n : ℕ) (past : List Entry) (step : Step) (reply : Reply) → Answers (seen c n past) step reply → SentSo c past → SentSo c (record { step = step; reply = reply } ∷ past)
sent-one c n past (Opened told) reply h s = record { order = (s.order, tt); count = s.count }
sent-one c n past (Own op) reply h s = sent-own c n past op reply h s
sent-one c n past (Heard f) reply h s = sent-body c past f.channel f.body f.payload reply s

pub sent-so : (c : Config) (past : List Entry) → IsReplayed c past → SentSo c (live past)
sent-so c [] h = record { order = tt; count = refl }
sent-so c (e ∷ before) h = by_live (some_entry ends (live before) && hears_no_end e.step) (sent-so c before h.0)
  where
    by_live : (b : Bool) → SentSo c (live before) → SentSo c (cond b (live before) (e ∷ live before))
    by_live true s = s
    by_live false s = sent-one c (length before) (live before) e.step e.reply h.1 s
