-- The deliveries that we send have free tags along every lawful journal: those that start by what is refused, those that are resumed since no tag that
-- waits is that of an unsettled delivery.
use Rattle.std.proofs.Common.{◌≡◌, ◌≤◌, ◌+◌, ◌^◌, ℕ, ◌&&◌, ◌||◌, ◌==◌, Bool, true, false, not, cond, Option, None, Some, Ok, Result, List, [], ◌∷◌, length, map, find, refl, ap, sym, ◌∙◌, subst, arith, add-one}
use Rattle.std.specs.List.{list_any}
use Rattle.std.proofs.lemmas.Bool.{eqb-true, or_parts}
use Rattle.amqp_performatives.specs.declared.bodies.DispositionBody.{DispositionBody}
use Rattle.amqp_performatives.specs.declared.bodies.Role.{Role}
use Rattle.amqp_performatives.specs.declared.bodies.Role.TheVariants.{Sender, Receiver}
use Rattle.amqp_performatives.specs.declared.performative.Performative.{Performative}
use Rattle.amqp_performatives.specs.declared.performative.Performative.TheVariants as heard
use Rattle.amqp_events.specs.Event.{Item, Disposition, Event, Begins, Nothing as No_event}
use Rattle.amqp_events.specs.Tags.{is_tagged, IsFree, AreFree}
use Rattle.amqp_events.specs.Unsettled.{held}
use Rattle.amqp_waiting.specs.Waiting.{WaitingItem, waits, waits_as}
use Rattle.amqp_rules.specs.declared.op.Op.{Op}
use Rattle.amqp_rules.specs.declared.op.Op.TheVariants.{Start, Carry, Abort, Dispose, Resume}
use Rattle.amqp_rules.specs.declared.reply.Reply.{Reply}
use Rattle.amqp_rules.specs.declared.reply.Given.TheVariants.{Delivery}
use Rattle.amqp_rules.specs.declared.refusal.Refusal.{Refusal}
use Rattle.amqp_rules.specs.declared.refusal.Refusal.TheVariants.{NotWaiting}
use Rattle.amqp_rules.specs.declared.config.Config.{Config}
use Rattle.amqp_rules.specs.View.{LinkView, SendingView, View, handle_of, has_number, has_peer_handle, next_delivery, rcv_mode}
use Rattle.amqp_rules.specs.Deliveries.{begun_on, continued_on, heard_of, is_partial, is_sent_anew, left_by_peer, resumed_as, resumed_on, said_of, sending_on, sent_by_own}
use Rattle.amqp_rules.specs.Refusing.{first_refusal, if_there}
use Rattle.amqp_rules.specs.Sending.{sends}
use Rattle.amqp_rules.specs.Start.{start_answer, start_body, start_refusals}
use Rattle.amqp_rules.specs.Resume.{early_refusals, resume_answer, resume_item, unless_refused}
use Rattle.amqp_rules.specs.Sound.{IsWaitingApart}
use Rattle.amqp_rules.proofs.Apart.{waiting-untagged}
use Rattle.amqp_rules.proofs.Accepted.{on-link-ok, sends-ok, there_Ok, unless_refused_Ok}
use Rattle.amqp_laws.specs.declared.entry.Entry.{Entry}
use Rattle.amqp_laws.specs.declared.entry.Step.{Step}
use Rattle.amqp_laws.specs.declared.entry.Step.TheVariants.{Opened, Own, Heard}
use Rattle.amqp_laws.specs.Past.{some_entry}
use Rattle.amqp_laws.specs.Said.{ends, hears_no_end}
use Rattle.amqp_laws.specs.Live.{live}
use Rattle.amqp_laws.specs.Session.{links_at}
use Rattle.amqp_laws.specs.At.{at, base, seen, sent_by, sent_events}
use Rattle.amqp_laws.specs.Lawful.{Answers, IsReplayed}
use Rattle.amqp_laws.proofs.Events.{sent-same}
use Rattle.amqp_laws.proofs.SentOrder.{found-passes}
use Rattle.amqp_laws.proofs.Shown.{items-held}
use Rattle.amqp_laws.proofs.Sound.{at-apart}

-- of those that we sent, as they are shown and as the events say
untagged-held : (c : Config) (n : ℕ) (past : List Entry) (k : ℕ) (tag : List ℕ) → list_any (is_tagged k tag) (map (λ s. s.item) (seen c n past).sent) ≡ false → list_any (is_tagged k tag) (held (sent_events c past)) ≡ false
untagged-held c n past k tag h = subst (λ (items : List Item). list_any (is_tagged k tag) items ≡ false) (items-held (sent_events c past)) h

any-mapped : {A B : Type 0} (f : A → B) (test : B → Bool) (xs : List A) → list_any (λ x. test (f x)) xs ≡ list_any test (map f xs)
any-mapped f test [] = refl
any-mapped f test (x ∷ xs) = ap (λ b. test (f x) || b) (any-mapped f test xs)

-- # One step

free-start : (id link : ℕ) (tag : List ℕ) (settled : Bool) (o : Option LinkView) (events : List Event)
    → list_any (is_tagged link tag) (held events) ≡ false → IsFree (begun_on id link tag settled o) events
free-start id link tag settled None events h = tt
free-start id link tag true (Some l) events h = tt
free-start id link tag false (Some l) events h = h

start-free : (c : Config) (n : ℕ) (past : List Entry) (link : ℕ) (tag : List ℕ) (format : ℕ) (settled : Bool) (payload : List ℕ) (more : Bool) (reply : Reply)
    → start_answer (seen c n past) link tag format settled payload more ≡ Ok reply
    → IsFree (sent_by (base c 0 past) (Own (Start link tag format settled payload more))) (sent_events c past)
start-free c n past link tag format settled payload more reply h =
    let v = seen c n past in
    let id = next_delivery v in
    let o = on-link-ok v link (λ l. sends v.max_frame (start_refusals v l tag settled payload) (start_body (handle_of l.ours) id tag format settled more) payload (Delivery id)) reply h in
    let a = sends-ok v.max_frame (start_refusals v o.on tag settled payload) (start_body (handle_of o.on.ours) id tag format settled more) payload (Delivery id) reply o.said in
    let number : o.on.number ≡ link = eqb-true o.on.number link (found-passes (has_number link) v.links o.on o.found) in
    let none = (or_parts (list_any (λ s. is_tagged o.on.number tag s.item) v.sent) (waits tag o.on.waiting) a.none_holds.1.1.1.0).0 in
    let untagged : list_any (is_tagged o.on.number tag) (map (λ s. s.item) v.sent) ≡ false = sym (any-mapped (λ s. s.item) (is_tagged o.on.number tag) v.sent) ∙ none in
    free-start (next_delivery (base c 0 past)) link tag settled (find (has_number link) (links_at past)) (sent_events c past)
    (untagged-held c n past link tag (subst (λ (k : ℕ). list_any (is_tagged k tag) (map (λ s. s.item) v.sent) ≡ false) number untagged))

free-item : (anew : Bool) (item : Item) (unsettled : Bool) (events : List Event) → list_any (is_tagged item.link item.tag) (held events) ≡ false → IsFree (cond anew (Begins item unsettled) No_event) events
free-item true item true events h = h
free-item true item false events h = tt
free-item false item unsettled events h = tt

resume-free : (c : Config) (n : ℕ) (past : List Entry) (link : ℕ) (tag : List ℕ) (settled : Bool) (reply : Reply)
    → resume_answer (seen c n past) link tag settled ≡ Ok reply → IsWaitingApart (seen c n past)
    → IsFree (sent_by (base c 0 past) (Own (Resume link tag settled))) (sent_events c past)
resume-free c n past link tag settled reply h apart =
    let v = seen c n past in
    let say : LinkView → Result Reply Refusal = λ l. unless_refused (first_refusal (early_refusals l)) (if_there (find (waits_as tag) l.waiting) NotWaiting (resume_item v l settled)) in
    let o = on-link-ok v link say reply h in
    let r = unless_refused_Ok (first_refusal (early_refusals o.on)) (if_there (find (waits_as tag) o.on.waiting) NotWaiting (resume_item v o.on settled)) reply o.said in
    let t = there_Ok (find (waits_as tag) o.on.waiting) NotWaiting (resume_item v o.on settled) reply r.1 in
    let w : WaitingItem = t.on in
    let id = next_delivery v in
    let item : Item = record { id = id; link = link; tag = w.tag; second = rcv_mode o.on == 1; local = w.state; remote = w.theirs } in
    let untagged = untagged-held c n past link w.tag (waiting-untagged v link tag o.on w apart o.found t.found) in
    let is : sent_by (base c 0 past) (Own (Resume link tag settled)) ≡ cond (is_sent_anew w) (Begins item (not (settled || is_partial w))) No_event =
    sym (sent-same c n past (Own (Resume link tag settled))) ∙ ap (resumed_on id link tag settled) o.found ∙ ap (resumed_as id link settled o.on) t.found in
    subst (λ (e : Event). IsFree e (sent_events c past)) (sym is) (free-item (is_sent_anew w) item (not (settled || is_partial w)) (sent_events c past) untagged)

free-continued : (over : Bool) (d : Option SendingView) (events : List Event) → IsFree (continued_on over d) events
free-continued over None events = tt
free-continued over (Some d) events = tt

free-said : (role : Role) (d : Disposition) (events : List Event) → IsFree (said_of Sender role d) events
free-said Sender d events = tt
free-said Receiver d events = tt

free-heard : (b : DispositionBody) (role : Role) (events : List Event) → IsFree (heard_of Sender b role) events
free-heard b Sender events = tt
free-heard b Receiver events = tt

free-left : (o : Option LinkView) (events : List Event) → IsFree (left_by_peer o) events
free-left None events = tt
free-left (Some l) events = tt

own-free : (c : Config) (n : ℕ) (past : List Entry) (op : Op) (reply : Reply) → Answers (seen c n past) (Own op) reply → IsWaitingApart (seen c n past) → IsFree (sent_by (base c 0 past) (Own op)) (sent_events c past)
own-free c n past (Start link tag format settled payload more) reply h a = start-free c n past link tag format settled payload more reply h
own-free c n past (Resume link tag settled) reply h a = resume-free c n past link tag settled reply h a
own-free c n past (Carry link payload more) reply h a = free-continued false (sending_on (find (has_number link) (links_at past))) (sent_events c past)
own-free c n past (Abort link) reply h a = free-continued true (sending_on (find (has_number link) (links_at past))) (sent_events c past)
own-free c n past (Dispose role first last settled state) reply h a = free-said role (record { first = first; last = last; settled = settled; state = state }) (sent_events c past)
own-free c n past op reply h a = tt

body-free : (c : Config) (past : List Entry) (channel : ℕ) (body : Option Performative) (payload : List ℕ) → IsFree (sent_by (base c 0 past) (Heard (record { channel = channel; body = body; payload = payload }))) (sent_events c past)
body-free c past channel (Some (heard.Disposition b)) payload = free-heard b b.role (sent_events c past)
body-free c past channel (Some (heard.Detach b)) payload = free-left (find (has_peer_handle b.handle) (links_at past)) (sent_events c past)
body-free c past channel body payload = tt

one-free : (c : Config) (n : ℕ) (past : List Entry) (step : Step) (reply : Reply) → Answers (seen c n past) step reply → IsWaitingApart (seen c n past) → IsFree (sent_by (base c 0 past) step) (sent_events c past)
one-free c n past (Opened told) reply h a = tt
one-free c n past (Own op) reply h a = own-free c n past op reply h a
one-free c n past (Heard f) reply h a = body-free c past f.channel f.body f.payload

-- # All steps

pub sent-free : (c : Config) (past : List Entry) → IsReplayed c past → length past ≤ 2 ^ 30 → AreFree (sent_events c (live past))
sent-free c [] h short = tt
sent-free c (e ∷ before) h short =
    let s : length before + 1 ≤ 2 ^ 30 = rw (← add-one (length before)) at short in
    let fewer : length before ≤ 2 ^ 30 = omega (arith, s) in
    by_live (some_entry ends (live before) && hears_no_end e.step) (sent-free c before h.0 fewer) (one-free c (length before) (live before) e.step e.reply h.1 (at-apart c before h.0 fewer))
  where
    by_live : (b : Bool) → AreFree (sent_events c (live before)) → IsFree (sent_by (base c 0 (live before)) e.step) (sent_events c (live before)) → AreFree (sent_events c (cond b (live before) (e ∷ live before)))
    by_live true all one = all
    by_live false all one = (all, one)
