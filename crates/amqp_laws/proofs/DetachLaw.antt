-- A detach, sent or heard, as formulas over the whole past and as single changes.
use Rattle.std.proofs.Common.{◌≡◌, ℕ, ◌+◌, Bool, true, false, cond, Option, Some, None, Ok, List, [], ◌∷◌, refl, find, map, ap, ◌∙◌}
use Rattle.amqp_performatives.specs.declared.error.AmqpError.{AmqpError}
use Rattle.amqp_performatives.specs.declared.bodies.DetachBody.{DetachBody}
use Rattle.amqp_performatives.specs.declared.bodies.Role.{Role}
use Rattle.amqp_performatives.specs.declared.bodies.Role.TheVariants.{Sender, Receiver}
use Rattle.amqp_performatives.specs.declared.performative.Performative.TheVariants as heard
use Rattle.amqp_rules.specs.declared.op.Op.TheVariants.{Detach}
use Rattle.amqp_rules.specs.declared.reply.Reply.{Reply}
use Rattle.amqp_rules.specs.declared.reply.Given.{Given}
use Rattle.amqp_rules.specs.declared.reply.Given.TheVariants.{Nothing, Gone}
use Rattle.amqp_rules.specs.declared.violation.ViolationKind.TheVariants.{OutOfSession, BadHandle}
use Rattle.amqp_rules.specs.declared.config.Config.{Config}
use Rattle.amqp_rules.specs.View.{LinkView, handle_of, has_number, has_peer_handle, is_attached, is_over}
use Rattle.amqp_rules.specs.Refusing.{if_there, unlinked}
use Rattle.amqp_rules.specs.Sending.{reply_ending, sends_ending}
use Rattle.amqp_rules.specs.Detach.{detach_answer, detach_body, detach_refusals, left_by_us, next_detach}
use Rattle.amqp_rules.specs.PeerDetach.{detach_heard_answer, detach_reply, next_detach_heard, parting}
use Rattle.amqp_laws.specs.declared.entry.Entry.{Entry}
use Rattle.amqp_laws.specs.declared.entry.Step.TheVariants.{Own, Heard}
use Rattle.amqp_laws.specs.Links.{link_pasts, is_gone, put, is_there_with}
use Rattle.amqp_laws.specs.At.{seen, sent_events, with_told}
use Rattle.amqp_rules.proofs.Accepted.{sends-ending-ok, on-link-ok, there_Ok, unless_Ok}
use Rattle.amqp_rules.proofs.Listed.{length-changed}
use Rattle.amqp_laws.proofs.Joining.{Changes, at-removed}
use Rattle.amqp_laws.proofs.Beside.{told-changed, told-removed}
use Rattle.amqp_laws.proofs.ToldLink.{IsMute}
use Rattle.amqp_laws.proofs.TableLaw.{table-law, taken-tables}
use Rattle.amqp_events.specs.Event.{Leaves}
use Rattle.amqp_rules.specs.Deliveries.{ended_by, left_by_peer}
use Rattle.amqp_laws.specs.Session.{links_at, session_at}
use Rattle.amqp_events.specs.Laws.{AreLearnt}

abbrev pub detach_entry : ℕ → Option AmqpError → ℕ → List (Role × ℕ) → Entry
detach_entry link error handle ended = record { step = Own (Detach link error); reply = reply_ending (detach_body handle (Some true) error) [] ended Nothing }

detach-changes : (link : ℕ) (error : Option AmqpError) (handle : ℕ) (ended : List (Role × ℕ)) (number : ℕ) (role : Role) (name : List ℕ) (past : List Entry)
    → is_gone (record { number = number; role = role; name = name; past = past }) ≡ false
    → Changes (put (detach_entry link error handle ended)) left_by_us (record { number = number; role = role; name = name; past = past })
detach-changes link error handle ended number Sender name past there = record { stays = there; changed = refl }
detach-changes link error handle ended number Receiver name past there = record { stays = there; changed = refl }

pub detach-law : (c : Config) (n : ℕ) (past : List Entry) (link : ℕ) (error : Option AmqpError) (reply : Reply)
    → AreLearnt (sent_events c past)
    → detach_answer (seen c n past) link error ≡ Ok reply
    → seen c (n + 1) (record { step = Own (Detach link error); reply = reply } ∷ past) ≡ next_detach (seen c n past) link
detach-law c n past link error reply learnt h =
    let v = seen c n past in
    let o = on-link-ok v link (λ l. sends_ending v.max_frame (detach_refusals l) (detach_body (handle_of l.ours) (Some true) error) (ended_by (Leaves link) (Leaves link) v) Nothing) reply h in
    let s = sends-ending-ok v.max_frame (detach_refusals o.on) (detach_body (handle_of o.on.ours) (Some true) error) (ended_by (Leaves link) (Leaves link) v) Nothing reply o.said in
    let ended = ended_by (Leaves link) (Leaves link) v in
    let e = detach_entry link error (handle_of o.on.ours) ended in
    let links = told-changed c past (Leaves link) (has_number link) (put e) left_by_us o.on learnt tt (λ l. refl) (λ l. refl) o.found
    (λ l there whole. detach-changes link error (handle_of o.on.ours) ended l.number l.role l.name l.past there) in
    let tables = table-law c n (n + 1) past e tt in
    rw (← s.replies, links, length-changed (is_there_with (has_number link)) (put e) (link_pasts past), tables.sends, tables.receives, tables.expects) refl

abbrev pub detach_heard_entry : ℕ → DetachBody → List ℕ → Reply → Entry
detach_heard_entry channel b payload reply = record { step = Heard (record { channel = channel; body = Some (heard.Detach b); payload = payload }); reply = reply }

mute-left : (o : Option LinkView) → IsMute (left_by_peer o)
mute-left None = tt
mute-left (Some l) = tt

detach-heard-at : (c : Config) (n : ℕ) (past : List Entry) (channel : ℕ) (b : DetachBody) (payload : List ℕ) (attached : Bool) (handle number : ℕ) (ended : List (Role × ℕ)) (given : Given)
    → AreLearnt (sent_events c past)
    → seen c (n + 1)
    (detach_heard_entry channel b payload (cond attached (reply_ending (detach_body handle b.closed None) [] ended given) (record { sent = []; ended = ended; given = Gone number })) ∷ past)
    ≡ next_detach_heard (seen c n past) b
detach-heard-at c n past channel b payload true handle number ended given learnt =
    let reply : Reply = reply_ending (detach_body handle b.closed None) [] ended given in
    let e = detach_heard_entry channel b payload reply in
    let event = left_by_peer (find (has_peer_handle b.handle) (links_at past)) in
    let told = ap (λ ls. map (with_told (event ∷ sent_events c past)) ls) (at-removed (is_over (session_at past)) (has_peer_handle b.handle) e (link_pasts past) (λ l. refl))
    ∙ told-removed event (sent_events c past) (has_peer_handle b.handle) (links_at past) learnt (mute-left (find (has_peer_handle b.handle) (links_at past))) (λ l. refl) in
    let tables = taken-tables c n (n + 1) past channel (Some (heard.Detach b)) payload reply in
    rw (told, length-changed (is_there_with (has_peer_handle b.handle)) (put e) (link_pasts past), tables.sends, tables.receives, tables.expects) refl
detach-heard-at c n past channel b payload false handle number ended given learnt =
    let reply : Reply = record { sent = []; ended = ended; given = Gone number } in
    let e = detach_heard_entry channel b payload reply in
    let event = left_by_peer (find (has_peer_handle b.handle) (links_at past)) in
    let told = ap (λ ls. map (with_told (event ∷ sent_events c past)) ls) (at-removed (is_over (session_at past)) (has_peer_handle b.handle) e (link_pasts past) (λ l. refl))
    ∙ told-removed event (sent_events c past) (has_peer_handle b.handle) (links_at past) learnt (mute-left (find (has_peer_handle b.handle) (links_at past))) (λ l. refl) in
    let tables = taken-tables c n (n + 1) past channel (Some (heard.Detach b)) payload reply in
    rw (told, length-changed (is_there_with (has_peer_handle b.handle)) (put e) (link_pasts past), tables.sends, tables.receives, tables.expects) refl

pub detach-heard-law : (c : Config) (n : ℕ) (past : List Entry) (channel : ℕ) (b : DetachBody) (payload : List ℕ) (reply : Reply)
    → AreLearnt (sent_events c past)
    → detach_heard_answer (seen c n past) b ≡ Ok reply
    → seen c (n + 1) (detach_heard_entry channel b payload reply ∷ past) ≡ next_detach_heard (seen c n past) b
detach-heard-law c n past channel b payload reply learnt h =
    let v = seen c n past in
    let u = unless_Ok _ (unlinked OutOfSession) (if_there (find (has_peer_handle b.handle) v.links) (unlinked BadHandle) (λ l. Ok (detach_reply v b l))) reply h in
    let t = there_Ok (find (has_peer_handle b.handle) v.links) (unlinked BadHandle) (λ l. Ok (detach_reply v b l)) reply u.1 in
    let replies : detach_reply v b t.on ≡ reply = cc t.said in
    rw (← replies) (detach-heard-at c n past channel b payload (is_attached t.on) (handle_of t.on.ours) t.on.number _ (parting v b t.on) learnt)
