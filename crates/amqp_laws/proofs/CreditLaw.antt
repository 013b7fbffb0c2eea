-- No delivery begins without credit, at either end.
use Rattle.amqp_rules.specs.declared.refusal.Refusal.{Refusal}
use Rattle.amqp_rules.specs.declared.refusal.Refusal.TheVariants.{NotWaiting, Unclear as Not_clear}
use Rattle.amqp_waiting.specs.Waiting.{WaitingItem, waits_as}
use Rattle.amqp_rules.specs.Resume.{unless_refused, resume_answer, resume_sends, early_refusals, resume_refusals, resume_item, resume_body, resumed_to, outcome_of, is_unclear, absent_reply, resume_begins, item_sends}
use Rattle.amqp_rules.specs.Deliveries.{is_sent_anew}
use Rattle.std.proofs.Common.{◌≡◌, ℕ, ◌<◌, eqb, Bool, true, false, not, Option, None, Some, Ok, List, [], ◌∷◌, ◌++◌, find, refl, ap, sym, ◌∙◌, subst, arith, Result, Err, cond}
use Rattle.std.proofs.lemmas.Bool.{eqb-false}
use Rattle.std.proofs.lemmas.List.{reverse-append}
use Rattle.std.proofs.Common.{append_assoc}
use Rattle.amqp_performatives.specs.declared.bodies.TransferBody.{TransferBody}
use Rattle.amqp_performatives.specs.declared.performative.Performative.{Performative}
use Rattle.amqp_performatives.specs.declared.performative.Performative.TheVariants as heard
use Rattle.amqp_rules.specs.declared.op.Op.{Op}
use Rattle.amqp_rules.specs.declared.op.Op.TheVariants.{Start, Resume}
use Rattle.amqp_rules.specs.declared.reply.Reply.{Reply}
use Rattle.amqp_rules.specs.declared.reply.Given.TheVariants.{Delivery}
use Rattle.amqp_rules.specs.declared.violation.ViolationKind.TheVariants.{OutOfSession, BadHandle}
use Rattle.amqp_rules.specs.declared.config.Config.{Config}
use Rattle.amqp_rules.specs.View.{View, LinkView, has_number, has_peer_handle, next_delivery, handle_of, takes_frames}
use Rattle.amqp_rules.specs.Refusing.{first_refusal, answered, if_there, unlinked}
use Rattle.amqp_rules.specs.Sending.{sends}
use Rattle.amqp_rules.specs.Start.{start_answer, start_refusals, start_body}
use Rattle.amqp_rules.specs.PeerTransfer.{transfer_answer, transfer_violations, transfer_reply, delivery_violations}
use Rattle.amqp_rules.specs.Answer.{heard_answer, is_dropped}
use Rattle.amqp_rules.proofs.Accepted.{on-link-ok, sends-ok, unless_Ok, there_Ok, answered_Ok, no_refusal, NoneHolds, unless_refused_Ok}
use Rattle.amqp_laws.specs.declared.entry.Entry.{Entry}
use Rattle.amqp_laws.specs.declared.entry.Step.{Step}
use Rattle.amqp_laws.specs.declared.entry.Step.TheVariants.{Opened, Own, Heard}
use Rattle.amqp_laws.specs.Past.{past, some_entry}
use Rattle.amqp_laws.specs.Said.{ends, transfer_heard}
use Rattle.amqp_laws.specs.Live.{live}
use Rattle.amqp_laws.specs.At.{at}
use Rattle.amqp_laws.specs.Lawful.{Answers, IsReplayed, StartsWithCredit, HearsWithCredit, NeverWithoutCredit, credit_of}

positive : (n : ℕ) → eqb n 0 ≡ false → 0 < n
positive n h = let ne = eqb-false n 0 h in grind (arith, ne)

start-credit : (v : View) (link : ℕ) (tag : List ℕ) (format : ℕ) (settled : Bool) (payload : List ℕ) (more : Bool) (reply : Reply)
    → start_answer v link tag format settled payload more ≡ Ok reply → 0 < credit_of (find (has_number link) v.links)
start-credit v link tag format settled payload more reply h =
    let id = next_delivery v in
    let o = on-link-ok v link (λ l. sends v.max_frame (start_refusals v l tag settled payload) (start_body (handle_of l.ours) id tag format settled more) payload (Delivery id)) reply h in
    let a = sends-ok v.max_frame (start_refusals v o.on tag settled payload) (start_body (handle_of o.on.ours) id tag format settled more) payload (Delivery id) reply o.said in
    rw o.found (positive o.on.credit.credit a.none_holds.1.1.1.1.1.0)

item-credit : (v : View) (l : LinkView) (settled : Bool) (w : WaitingItem) (reply : Reply) → resume_item v l settled w ≡ Ok reply → is_sent_anew w ≡ true → 0 < l.credit.credit
item-credit v l settled w reply h anew = by (is_unclear w) (is_sent_anew w) h anew
  where
    by : (unclear sent : Bool)
        → cond unclear (Err Not_clear) (cond sent (resume_sends v l settled w) (Ok absent_reply)) ≡ Ok reply
        → sent ≡ true → 0 < l.credit.credit
    by true sent k s = absurd (cc)
    by false false k s = absurd (cc)
    by false true k s =
        let a = sends-ok v.max_frame (resume_refusals v l settled w) (resume_body (handle_of l.ours) (next_delivery v) settled w) [] (resumed_to w.verdict (Some (next_delivery v)) (outcome_of w)) reply k in
        positive l.credit.credit a.none_holds.1.0

found-credit : (v : View) (l : LinkView) (settled : Bool) (o : Option WaitingItem) (reply : Reply) → if_there o NotWaiting (resume_item v l settled) ≡ Ok reply → item_sends o ≡ true → 0 < l.credit.credit
found-credit v l settled None reply h anew = absurd (cc)
found-credit v l settled (Some w) reply h anew = item-credit v l settled w reply h anew

-- a resume that sends something has credit
resume-credit : (v : View) (link : ℕ) (tag : List ℕ) (settled : Bool) (reply : Reply)
    → resume_answer v link tag settled ≡ Ok reply → resume_begins tag (find (has_number link) v.links) ≡ true → 0 < credit_of (find (has_number link) v.links)
resume-credit v link tag settled reply h anew =
    let say : LinkView → Result Reply Refusal = λ l. unless_refused (first_refusal (early_refusals l)) (if_there (find (waits_as tag) l.waiting) NotWaiting (resume_item v l settled)) in
    let o = on-link-ok v link say reply h in
    let item = (unless_refused_Ok (first_refusal (early_refusals o.on)) (if_there (find (waits_as tag) o.on.waiting) NotWaiting (resume_item v o.on settled)) reply o.said).1 in
    let anew' : resume_begins tag (Some o.on) ≡ true = ap (resume_begins tag) (sym o.found) ∙ anew in
    rw o.found (found-credit v o.on settled (find (waits_as tag) o.on.waiting) reply item anew')

own-credit : (v : View) (op : Op) (reply : Reply) → Answers v (Own op) reply → StartsWithCredit v (Own op)
own-credit v (Start link tag format settled payload more) reply h = start-credit v link tag format settled payload more reply h
own-credit v (Resume link tag settled) reply h = resume-credit v link tag settled reply h
own-credit v _ reply h = tt

starts-with : (v : View) (step : Step) (reply : Reply) → Answers v step reply → StartsWithCredit v step
starts-with v (Opened told) reply h = tt
starts-with v (Own op) reply h = own-credit v op reply h
starts-with v (Heard f) reply h = tt

-- a first transfer has credit
transfer-credit : (v : View) (b : TransferBody) (payload : List ℕ) (reply : Reply) → transfer_answer v b payload ≡ Ok reply → HearsWithCredit v (Some b)
transfer-credit v b payload reply h l found stays begins =
    let u = unless_Ok (not (takes_frames v.session)) (unlinked OutOfSession) (if_there (find (has_peer_handle b.handle) v.links) (unlinked BadHandle) (λ l. answered (first_refusal (transfer_violations v b payload l)) (transfer_reply v b l))) reply h in
    let t = there_Ok (find (has_peer_handle b.handle) v.links) (unlinked BadHandle) (λ l. answered (first_refusal (transfer_violations v b payload l)) (transfer_reply v b l)) reply u.1 in
    let same : t.on ≡ l = let e : Some t.on ≡ Some l = sym t.found ∙ found in cc in
    let a = answered_Ok (first_refusal (transfer_violations v b payload t.on)) (transfer_reply v b t.on) reply t.said in
    let rows = subst (λ (x : LinkView). NoneHolds (transfer_violations v b payload x)) same (no_refusal (transfer_violations v b payload t.on) a.none) in
    let rows' : NoneHolds (delivery_violations v b payload l) = rw stays at rows.1.1 in
    let first = rw begins at rows' in
    positive l.credit.credit first.1.1.1.1.0

-- a session that was left has no links
over-none : (v : View) (b : TransferBody) → v.links ≡ [] → HearsWithCredit v (Some b)
over-none v b none l found stays begins = let found' = rw none at found in absurd (let e : None ≡ Some l = found' in cc)

left-links : (c : Config) (past : List Entry) → some_entry ends (live past) ≡ true → (at c past).links ≡ []
left-links c past h = rw h refl

heard-with : (c : Config) (past : List Entry) (body : Option Performative) (payload : List ℕ) (channel : ℕ) (reply : Reply)
    → heard_answer (at c past) (record { channel = channel; body = body; payload = payload }) ≡ Ok reply
    → HearsWithCredit (at c past) (transfer_heard (record { step = Heard (record { channel = channel; body = body; payload = payload }); reply = reply }))
heard-with c past (Some (heard.Transfer b)) payload channel reply h = by_end (some_entry ends (live past)) refl
  where
    by_end : (s : Bool) → some_entry ends (live past) ≡ s → HearsWithCredit (at c past) (Some b)
    by_end true sent = over-none (at c past) b (left-links c past sent)
    by_end false open' =
        let taken : is_dropped (at c past) (Some (heard.Transfer b)) ≡ false = rw open' refl in
        let answer : transfer_answer (at c past) b payload ≡ Ok reply = rw taken at h in
        transfer-credit (at c past) b payload reply answer
heard-with c past _ payload channel reply h = tt

hears-with : (c : Config) (past : List Entry) (step : Step) (reply : Reply) → Answers (at c past) step reply → HearsWithCredit (at c past) (transfer_heard (record { step = step; reply = reply }))
hears-with c past (Opened told) reply h = tt
hears-with c past (Own op) reply h = tt
hears-with c past (Heard f) reply h = heard-with c past f.body f.payload f.channel reply h

credit-before : (c : Config) (after : List Entry) (e : Entry) (before : List Entry) → IsReplayed c (after ++ e ∷ before)
    → StartsWithCredit (at c before) e.step × HearsWithCredit (at c before) (transfer_heard e)
credit-before c [] e before h = (starts-with (at c before) e.step e.reply h.1, hears-with c before e.step e.reply h.1)
credit-before c (later ∷ after) e before h = credit-before c after e before h.0

pub past-split : (before after : List Entry) (e : Entry) → past (before ++ e ∷ after) ≡ past after ++ e ∷ past before
past-split before after e =
    reverse-append before (e ∷ after) ∙ ap (λ xs. xs ++ past before) (reverse-append (e ∷ []) after) ∙ append_assoc (past after) (e ∷ []) (past before)

pub never_without_credit : (c : Config) (journal : List Entry) → IsReplayed c (past journal) → NeverWithoutCredit c journal
never_without_credit c journal h before after e split =
    credit-before c (past after) e (past before) (subst (λ (xs : List Entry). IsReplayed c xs) (ap past split ∙ past-split before after e) h)
