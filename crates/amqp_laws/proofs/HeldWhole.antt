-- Abort, Dispose and Learn, as formulas over the whole past and as single changes: the whole view.
use Rattle.std.proofs.Common.{◌≡◌, ℕ, ◌+◌, Bool, true, false, not, cond, Option, Some, None, Ok, is_none, List, [], ◌∷◌, length, map, find, refl, sym, ap, ◌∙◌, subst}
use Rattle.amqp_performatives.specs.declared.bodies.Role.{Role}
use Rattle.amqp_performatives.specs.declared.bodies.Role.TheVariants.{Sender, Receiver}
use Rattle.amqp_performatives.specs.declared.state.DeliveryState.{DeliveryState}
use Rattle.amqp_rules.specs.declared.op.Op.TheVariants.{Abort, Dispose, Learn}
use Rattle.amqp_rules.specs.declared.reply.Reply.{Reply}
use Rattle.amqp_rules.specs.declared.reply.Given.TheVariants.{Nothing}
use Rattle.amqp_rules.specs.declared.refusal.Refusal.TheVariants.{NoLink, WrongRole}
use Rattle.amqp_rules.specs.declared.config.Config.{Config}
use Rattle.amqp_rules.specs.View.{LinkView, handle_of, has_number, is_over, same_role, change_first}
use Rattle.amqp_rules.specs.Sending.{reply_ending, sends_ending}
use Rattle.amqp_rules.specs.Carry.{later_body}
use Rattle.amqp_rules.specs.Abort.{abort_answer, abort_refusals, aborted, next_abort}
use Rattle.amqp_rules.specs.Dispose.{dispose_answer, dispose_refusals, dispose_body, next_dispose}
use Rattle.amqp_rules.specs.Learn.{learn_answer, learn_first, learn_reply, next_learn}
use Rattle.amqp_rules.specs.Refusing.{unless}
use Rattle.amqp_rules.specs.Deliveries.{sending_on, said_of, sent_by_own, received_by_own, ended_by}
use Rattle.amqp_rules.proofs.Accepted.{sends-ending-ok, on-link-ok, not-false, there_Ok, unless_Ok}
use Rattle.amqp_rules.proofs.Listed.{length-changed}
use Rattle.amqp_events.specs.Event.{Disposition, Learns}
use Rattle.amqp_events.specs.Event.{Nothing as No_event}
use Rattle.amqp_events.specs.Laws.{AreLearnt}
use Rattle.amqp_events.specs.Told.{Telling, sent_held}
use Rattle.amqp_laws.specs.declared.entry.Entry.{Entry}
use Rattle.amqp_laws.specs.declared.entry.Step.TheVariants.{Own}
use Rattle.amqp_laws.specs.Windows.{known, sent_transfers}
use Rattle.amqp_laws.specs.Transfers.{sending}
use Rattle.amqp_laws.specs.Links.{link_at, link_pasts, is_gone, put, is_there_with}
use Rattle.amqp_laws.specs.Session.{session_at, links_at}
use Rattle.amqp_laws.specs.At.{base, seen, with_told, sent_by, sent_events}
use Rattle.amqp_laws.proofs.Beside.{told-changed, told-mute, told-role}
use Rattle.amqp_laws.proofs.Fresh.{learnt-links, links-rise}
use Rattle.amqp_laws.proofs.Joining.{Changes, at-changed}
use Rattle.amqp_laws.proofs.LinkDeliveries.{abort-sending}
use Rattle.amqp_laws.proofs.OtherWhole.{some-sent, mute-continued}
use Rattle.amqp_laws.proofs.StartWhole.{left-sum}
use Rattle.amqp_laws.proofs.ToldLink.{told-step, IsMute}
use Rattle.amqp_laws.proofs.TableLaw.{table-law}

-- # Abort

abbrev abort_entry : ℕ → ℕ → List (Role × ℕ) → Entry
abort_entry link handle ended = record { step = Own (Abort link); reply = reply_ending (later_body handle None (Some true)) [] ended Nothing }

abort-changes : (link handle : ℕ) (ended : List (Role × ℕ)) (number : ℕ) (role : Role) (name : List ℕ) (past : List Entry)
    → is_gone (record { number = number; role = role; name = name; past = past }) ≡ false
    → same_role Sender role ≡ true
    → is_none (sending past) ≡ false
    → Changes (put (abort_entry link handle ended)) aborted (record { number = number; role = role; name = name; past = past })
abort-changes link handle ended number Sender name past there h some =
    let d = some-sent past some in
    record { stays = there; changed = rw (abort-sending link handle ended Nothing past d.0 d.1) refl }
abort-changes link handle ended number Receiver name past there h some = absurd (cc)

pub abort-whole : (c : Config) (n : ℕ) (past : List Entry) (link : ℕ) (reply : Reply)
    → AreLearnt (sent_events c past)
    → abort_answer (seen c n past) link ≡ Ok reply
    → seen c (n + 1) (record { step = Own (Abort link); reply = reply } ∷ past) ≡ next_abort (seen c n past) link
abort-whole c n past link reply learnt h =
    let v = seen c n past in
    let ended = ended_by (sent_by_own v (Abort link)) No_event v in
    let o = on-link-ok v link (λ l. sends_ending v.max_frame (abort_refusals v l) (later_body (handle_of l.ours) None (Some true)) ended Nothing) reply h in
    let s = sends-ending-ok v.max_frame (abort_refusals v o.on) (later_body (handle_of o.on.ours) None (Some true)) ended Nothing reply o.said in
    let events = sent_events c past in
    let e = abort_entry link (handle_of o.on.ours) ended in
    let role = not-false (same_role Sender o.on.role) s.none_holds.1.0 in
    let busy : is_none o.on.sending ≡ false = s.none_holds.1.1.0 in
    let event = sent_by (base c 0 past) e.step in
    let links = told-changed c past event (has_number link) (put e) aborted o.on learnt (mute-continued true (sending_on (find (has_number link) (links_at past)))) (λ l. refl) (λ l. refl) o.found
    (λ l there whole.
    abort-changes link (handle_of o.on.ours) ended l.number l.role l.name l.past there (told-role Sender events (link_at l) o.on whole role)
    (subst (λ (x : LinkView). is_none x.sending ≡ false) (sym whole) busy)) in
    let tables = table-law c n (n + 1) past e tt in
    rw (← s.replies, links, length-changed (is_there_with (has_number link)) (put e) (link_pasts past), left-sum (known c past) (sent_transfers past) 1, tables.sends, tables.receives, tables.expects) refl

-- # Dispose

mute-said : (role : Role) (d : Disposition) → IsMute (said_of Sender role d)
mute-said Sender d = tt
mute-said Receiver d = tt

pub dispose-whole : (c : Config) (n : ℕ) (past : List Entry) (role : Role) (first last : ℕ) (settled : Bool) (state : Option DeliveryState) (reply : Reply)
    → AreLearnt (sent_events c past)
    → dispose_answer (seen c n past) role (record { first = first; last = last; settled = settled; state = state }) ≡ Ok reply
    → seen c (n + 1) (record { step = Own (Dispose role first last settled state); reply = reply } ∷ past)
    ≡ next_dispose (seen c n past) role (record { first = first; last = last; settled = settled; state = state })
dispose-whole c n past role first last settled state reply learnt h =
    let v = seen c n past in
    let d : Disposition = record { first = first; last = last; settled = settled; state = state } in
    let op = Dispose role first last settled state in
    let ended = ended_by (sent_by_own v op) (received_by_own v op) v in
    let s = sends-ending-ok v.max_frame (dispose_refusals v role d) (dispose_body role d) ended Nothing reply h in
    let e : Entry = record { step = Own op; reply = reply_ending (dispose_body role d) [] ended Nothing } in
    let told = told-mute (said_of Sender role d) (sent_events c past) (links_at past) learnt (mute-said role d) in
    let tables = table-law c n (n + 1) past e tt in
    rw (← s.replies, told, tables.sends, tables.receives, tables.expects) refl

-- # Learn

-- what a learn gives, where it gives something
record Gives (ts : List Telling) (reply : Reply) : Type 0 where
  first : Telling
  replies : learn_reply first ≡ reply

learn-ok : (ts : List Telling) (reply : Reply) → learn_first ts ≡ Ok reply → Gives ts reply
learn-ok [] reply h = absurd (cc)
learn-ok (t ∷ ts) reply h = record { first = t; replies = cc }

learn-changes : (link : ℕ) (t : Telling) (number : ℕ) (role : Role) (name : List ℕ) (past : List Entry)
    → is_gone (record { number = number; role = role; name = name; past = past }) ≡ false
    → Changes (put (record { step = Own (Learn link); reply = learn_reply t })) (λ l. l) (record { number = number; role = role; name = name; past = past })
learn-changes link t number Sender name past there = record { stays = there; changed = refl }
learn-changes link t number Receiver name past there = record { stays = there; changed = refl }

same-changed : {A : Type 0} (test : A → Bool) (xs : List A) → change_first test (λ x. x) xs ≡ xs
same-changed test [] = refl
same-changed test (x ∷ xs) = by (test x) (same-changed test xs)
  where
    by : (b : Bool) → change_first test (λ x. x) xs ≡ xs → cond b (x ∷ xs) (x ∷ change_first test (λ x. x) xs) ≡ x ∷ xs
    by true rest = refl
    by false rest = ap (λ ys. x ∷ ys) rest

pub learn-whole : (c : Config) (n : ℕ) (past : List Entry) (link : ℕ) (reply : Reply)
    → AreLearnt (sent_events c past)
    → learn_answer (seen c n past) link ≡ Ok reply
    → seen c (n + 1) (record { step = Own (Learn link); reply = reply } ∷ past) ≡ next_learn (seen c n past) link
learn-whole c n past link reply learnt h =
    let v = seen c n past in
    let t = there_Ok (find (has_number link) v.links) NoLink (λ l. unless (not (same_role Sender l.role)) WrongRole (learn_first l.told)) reply h in
    let u = unless_Ok (not (same_role Sender t.on.role)) WrongRole (learn_first t.on.told) reply t.said in
    let g = learn-ok t.on.told reply u.1 in
    let events = sent_events c past in
    let e : Entry = record { step = Own (Learn link); reply = learn_reply g.first } in
    let links = at-changed (is_over (session_at past)) (has_number link) (put e) (λ l. l) (link_pasts past) (find (has_number link) (links_at past)) refl
    (λ l there found. learn-changes link g.first l.number l.role l.name l.past there)
    ∙ same-changed (has_number link) (links_at past) in
    let told = ap (λ ls. map (with_told (Learns link ∷ events)) ls) links
    ∙ told-step (Learns link) events (links_at past) learnt
    ∙ learnt-links (length (link_pasts past)) 0 link (sent_held events) (map (with_told events) (links_at past)) (links-rise past (is_over (session_at past)) (with_told events) (λ l. refl)) in
    let tables = table-law c n (n + 1) past e tt in
    rw (← g.replies, told, length-changed (is_there_with (has_number link)) (put e) (link_pasts past), tables.sends, tables.receives, tables.expects) refl
