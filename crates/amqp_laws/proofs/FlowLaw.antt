-- A flow, as formulas over the whole past and as single changes.
use Rattle.std.proofs.Common.{◌≡◌, ◌<◌, ℕ, ◌+◌, ◌^◌, ◌&&◌, Bool, true, false, cond, Option, Some, None, Ok, List, [], ◌∷◌, length, map, ap, ◌∙◌, refl, option_map}
use Rattle.std.proofs.lemmas.Bool.{ltb-false}
use Rattle.amqp_flow.specs.Windows.{WindowsView, session_lag, session_is_ahead, windows_renewed}
use Rattle.amqp_flow.proofs.FlowLaws.{known-lag}
use Rattle.amqp_performatives.specs.declared.bodies.FlowBody.{FlowBody}
use Rattle.amqp_performatives.specs.declared.bodies.Role.{Role}
use Rattle.amqp_performatives.specs.declared.bodies.Role.TheVariants.{Sender, Receiver}
use Rattle.amqp_performatives.specs.declared.performative.Performative.TheVariants.{Flow}
use Rattle.amqp_rules.specs.declared.reply.Reply.{Reply}
use Rattle.amqp_rules.specs.declared.config.Config.{Config}
use Rattle.amqp_rules.specs.View.{LinkView, is_over, has_peer_handle}
use Rattle.amqp_rules.specs.Refusing.{first_refusal}
use Rattle.amqp_rules.specs.Flow.{flow_answer, flow_link, flowed, flow_links, flow_reply, flow_violations, flow_windows, next_flow, windows_by, echoes, named_link, session_part}
use Rattle.amqp_laws.specs.declared.entry.Entry.{Entry}
use Rattle.amqp_laws.specs.Past.{some_entry}
use Rattle.amqp_laws.specs.Said.{begins}
use Rattle.amqp_laws.specs.Attaches.{our_attach}
use Rattle.amqp_laws.specs.Windows.{heard_transfers, sent_transfers, windows_at}
use Rattle.amqp_laws.specs.Links.{LinkPast, link_at, link_pasts, links_there, is_gone, put_not_left, is_there_with, joined, named_concern}
use Rattle.amqp_laws.specs.Session.{session_at, links_at}
use Rattle.amqp_laws.specs.At.{seen, sent_events, with_told}
use Rattle.amqp_rules.proofs.Accepted.{answered_Ok, no_refusal}
use Rattle.amqp_laws.proofs.Beside.{told-mute}
use Rattle.amqp_laws.proofs.ToldLink.{change-told}
use Rattle.amqp_laws.proofs.TableLaw.{taken-tables}
use Rattle.amqp_events.specs.Event.{Event}
use Rattle.amqp_events.specs.Laws.{AreLearnt}
use Rattle.amqp_events.specs.Event.{Nothing as No_event}
use Rattle.amqp_laws.proofs.Counting.{left-none}
use Rattle.amqp_laws.proofs.FlowCredit.{flow_entry, sender-told, receiver-told}
use Rattle.amqp_rules.proofs.Listed.{length-changed}
use Rattle.amqp_laws.proofs.Found.{and-none, none-awaited, some-left}
use Rattle.amqp_laws.proofs.Joining.{Changes, unless-left, at-changed}

flow-changed : (channel : ℕ) (b : FlowBody) (payload : List ℕ) (echo : Bool) (w : WindowsView) (on : Option LinkView) (number : ℕ) (role : Role) (name : List ℕ) (past : List Entry)
    → link_at (record { number = number; role = role; name = name; past = flow_entry channel b payload (flow_reply echo w on) ∷ past })
    ≡ flowed b (link_at (record { number = number; role = role; name = name; past = past }))
flow-changed channel b payload true w on number Sender name past =
    rw (sender-told channel b payload (flow_reply true w on) past (our_attach past) b.link_credit refl refl) refl
flow-changed channel b payload false w on number Sender name past =
    rw (sender-told channel b payload (flow_reply false w on) past (our_attach past) b.link_credit refl refl) refl
flow-changed channel b payload true w on number Receiver name past =
    rw (receiver-told channel b payload (flow_reply true w on) past (our_attach past) b.delivery_count refl refl) refl
flow-changed channel b payload false w on number Receiver name past =
    rw (receiver-told channel b payload (flow_reply false w on) past (our_attach past) b.delivery_count refl refl) refl

flow-changes : (channel : ℕ) (b : FlowBody) (payload : List ℕ) (echo : Bool) (w : WindowsView) (on : Option LinkView) (l : LinkPast)
    → is_gone l ≡ false
    → Changes (put_not_left (flow_entry channel b payload (flow_reply echo w on))) (flow_link b) l
flow-changes channel b payload echo w on l there =
    unless-left (flow_entry channel b payload (flow_reply echo w on)) (flowed b) l there there (flow-changed channel b payload echo w on l.number l.role l.name l.past)

-- the windows, where we had begun or not, and where the reply is a flow or none
windows-at-flow : (c : Config) (n : ℕ) (past : List Entry) (channel : ℕ) (b : FlowBody) (payload : List ℕ) (begun echo : Bool) (w : WindowsView) (l : Option LinkView)
    → sent_transfers past < 2 ^ 32
    → some_entry begins past ≡ begun
    → begun && session_is_ahead (session_part b) (windows_at c past) ≡ false
    → windows_at c (flow_entry channel b payload (flow_reply echo w l) ∷ past)
    ≡ cond echo (windows_renewed (windows_by (seen c n past) b)) (windows_by (seen c n past) b)
windows-at-flow c n past channel b payload true true w l small is ahead =
    let near = ltb-false (sent_transfers past) (session_lag (session_part b) (windows_at c past)) ahead in
    rw (is, known-lag c.first_id (sent_transfers past) b.incoming_window b.next_incoming_id small near, some-left (heard_transfers past) c.window, left-none b.outgoing_window, and-none b.next_outgoing_id) refl
windows-at-flow c n past channel b payload true false w l small is ahead =
    let near = ltb-false (sent_transfers past) (session_lag (session_part b) (windows_at c past)) ahead in
    rw (is, known-lag c.first_id (sent_transfers past) b.incoming_window b.next_incoming_id small near, left-none b.outgoing_window, and-none b.next_outgoing_id) refl
windows-at-flow c n past channel b payload false true w l small is ahead =
    rw (is, none-awaited b.incoming_window (sent_transfers past), some-left (heard_transfers past) c.window, left-none b.outgoing_window, and-none b.next_outgoing_id) refl
windows-at-flow c n past channel b payload false false w l small is ahead =
    rw (is, none-awaited b.incoming_window (sent_transfers past), left-none b.outgoing_window, and-none b.next_outgoing_id) refl

-- the links, where a handle is named or not
links-at-flow : (past : List Entry) (channel : ℕ) (b : FlowBody) (payload : List ℕ) (echo : Bool) (w : WindowsView) (l : Option LinkView) (h : Option ℕ)
    → (cond (is_over (session_at past)) [] (links_there (joined (named_concern h) (flow_entry channel b payload (flow_reply echo w l)) (link_pasts past)))
    ≡ flow_links b h (links_at past))
    × (length (joined (named_concern h) (flow_entry channel b payload (flow_reply echo w l)) (link_pasts past)) ≡ length (link_pasts past))
links-at-flow past channel b payload echo w l None = (refl, refl)
links-at-flow past channel b payload echo w l (Some h) =
    let e = flow_entry channel b payload (flow_reply echo w l) in (
      at-changed (is_over (session_at past)) (has_peer_handle h) (put_not_left e) (flow_link b) (link_pasts past) _ refl (λ k there found. flow-changes channel b payload echo w l k there),
      length-changed (is_there_with (has_peer_handle h)) (put_not_left e) (link_pasts past),
    )

-- a flow reads and writes nothing of what was told
flowed-told : (events : List Event) (b : FlowBody) (l : LinkView) → with_told events (flow_link b l) ≡ flow_link b (with_told events l)
flowed-told events b l = by l.left
  where
    by : (left : Bool) → with_told events (cond left l (flowed b l)) ≡ cond left (with_told events l) (flowed b (with_told events l))
    by true = refl
    by false = refl

flow-links-told : (events : List Event) (b : FlowBody) (h : Option ℕ) (links : List LinkView) → map (with_told events) (flow_links b h links) ≡ flow_links b h (map (with_told events) links)
flow-links-told events b None links = refl
flow-links-told events b (Some h) links = change-told (with_told events) (has_peer_handle h) (flow_link b) (λ l. refl) (flowed-told events b) links

flow-at : (c : Config) (n : ℕ) (past : List Entry) (channel : ℕ) (b : FlowBody) (payload : List ℕ) (echo : Bool) (w : WindowsView) (l : Option LinkView)
    → AreLearnt (sent_events c past)
    → sent_transfers past < 2 ^ 32
    → some_entry begins past && session_is_ahead (session_part b) (windows_at c past) ≡ false
    → seen c (n + 1) (flow_entry channel b payload (flow_reply echo w l) ∷ past)
    ≡ record (seen c n past) {
      steps = n + 1;
      windows = cond echo (windows_renewed (windows_by (seen c n past) b)) (windows_by (seen c n past) b);
      links = flow_links b b.handle (map (with_told (sent_events c past)) (links_at past));
    }
flow-at c n past channel b payload true w l learnt small ahead =
    let reply = flow_reply true w l in
    let events = sent_events c past in
    let links = links-at-flow past channel b payload true w l b.handle in
    let windows = windows-at-flow c n past channel b payload (some_entry begins past) true w l small refl ahead in
    let told = ap (λ ls. map (with_told (No_event ∷ events)) ls) links.0 ∙ told-mute No_event events (flow_links b b.handle (links_at past)) learnt tt ∙ flow-links-told events b b.handle (links_at past) in
    let tables = taken-tables c n (n + 1) past channel (Some (Flow b)) payload reply in
    rw (told, links.1, windows, tables.sends, tables.receives, tables.expects) refl
flow-at c n past channel b payload false w l learnt small ahead =
    let reply = flow_reply false w l in
    let events = sent_events c past in
    let links = links-at-flow past channel b payload false w l b.handle in
    let windows = windows-at-flow c n past channel b payload (some_entry begins past) false w l small refl ahead in
    let told = ap (λ ls. map (with_told (No_event ∷ events)) ls) links.0 ∙ told-mute No_event events (flow_links b b.handle (links_at past)) learnt tt ∙ flow-links-told events b b.handle (links_at past) in
    let tables = taken-tables c n (n + 1) past channel (Some (Flow b)) payload reply in
    rw (told, links.1, windows, tables.sends, tables.receives, tables.expects) refl

pub flow-law : (c : Config) (n : ℕ) (past : List Entry) (channel : ℕ) (b : FlowBody) (payload : List ℕ) (reply : Reply)
    → AreLearnt (sent_events c past)
    → sent_transfers past < 2 ^ 32
    → flow_answer (seen c n past) b ≡ Ok reply
    → seen c (n + 1) (flow_entry channel b payload reply ∷ past) ≡ next_flow (seen c n past) b
flow-law c n past channel b payload reply learnt small h =
    let v = seen c n past in
    let a = answered_Ok (first_refusal (flow_violations v b)) (flow_reply (echoes v b) (flow_windows v b) (option_map (flow_link b) (named_link v.links b.handle))) reply h in
    let k = no_refusal (flow_violations v b) a.none in
    rw (← a.replies) (flow-at c n past channel b payload (echoes v b) (flow_windows v b) (option_map (flow_link b) (named_link v.links b.handle)) learnt small k.1.1.0)
