-- Carry, Abort, Dispose and a disposition that is heard, as formulas over the whole past and as single changes: the whole view.
use Rattle.std.proofs.Common.{◌≡◌, ℕ, ◌+◌, Bool, true, false, Option, Some, None, Ok, is_some, is_none, List, ◌∷◌, length, map, find, refl, sym, ap, ◌∙◌, subst}
use Rattle.amqp_performatives.specs.declared.bodies.DispositionBody.{DispositionBody}
use Rattle.amqp_performatives.specs.declared.bodies.Role.{Role}
use Rattle.amqp_performatives.specs.declared.bodies.Role.TheVariants.{Sender, Receiver}
use Rattle.amqp_performatives.specs.declared.performative.Performative.TheVariants as heard
use Rattle.amqp_rules.specs.declared.op.Op.TheVariants.{Carry}
use Rattle.amqp_rules.specs.declared.reply.Reply.{Reply}
use Rattle.amqp_rules.specs.declared.reply.Given.TheVariants.{Nothing}
use Rattle.amqp_rules.specs.declared.config.Config.{Config}
use Rattle.amqp_rules.specs.View.{LinkView, SendingView, handle_of, has_number, is_attached, is_over, same_role, change_first}
use Rattle.amqp_rules.specs.Sending.{reply_of, sends}
use Rattle.amqp_rules.specs.Carry.{carry_answer, carry_refusals, carry_on, later_body, next_carry}
use Rattle.amqp_rules.specs.PeerDisposition.{disposition_answer, disposition_violations, disposition_reply, next_disposition}
use Rattle.amqp_rules.specs.Refusing.{first_refusal}
use Rattle.amqp_rules.specs.Telling.{flag}
use Rattle.amqp_rules.specs.Deliveries.{continued_on, sending_on, disposition_of}
use Rattle.amqp_rules.proofs.Accepted.{sends-ok, on-link-ok, not-false, answered_Ok}
use Rattle.amqp_events.specs.Joined.{Delivery, unfinished}
use Rattle.amqp_events.specs.Laws.{AreLearnt}
use Rattle.amqp_events.specs.Told.{sent_held}
use Rattle.amqp_laws.specs.declared.entry.Entry.{Entry}
use Rattle.amqp_laws.specs.declared.entry.Step.TheVariants.{Own, Heard}
use Rattle.amqp_laws.specs.Past.{some_entry}
use Rattle.amqp_laws.specs.Said.{detaches}
use Rattle.amqp_laws.specs.Windows.{known, sent_transfers}
use Rattle.amqp_laws.specs.Transfers.{sent_on, sending}
use Rattle.amqp_laws.specs.Links.{link_at, link_pasts, is_gone, put, is_there_with}
use Rattle.amqp_laws.specs.Session.{session_at, links_at}
use Rattle.amqp_laws.specs.At.{base, seen, with_told, sent_by, received_by, sent_events, received_events}
use Rattle.amqp_events.specs.Numbers.{expected}
use Rattle.amqp_events.proofs.UnsettledLaw.{held-step}
use Rattle.amqp_events.proofs.ToldLaw.{sent-step}
use Rattle.amqp_laws.proofs.Events.{numbered-told}
use Rattle.amqp_laws.proofs.Joining.{Changes, at-changed}
use Rattle.amqp_rules.proofs.Listed.{length-changed}
use Rattle.amqp_laws.proofs.LinkDeliveries.{carry-sending}
use Rattle.amqp_laws.proofs.StartWhole.{left-sum, attached-stays, found-bare}
use Rattle.amqp_laws.proofs.ToldLink.{told-step, change-told, mute-links, IsMute}
use Rattle.amqp_laws.proofs.TableLaw.{table-law, heard-none}

-- # Carry

abbrev carry_entry : ℕ → List ℕ → Bool → ℕ → Entry
carry_entry link payload more handle = record { step = Own (Carry link payload more); reply = reply_of (later_body handle (flag more) None) payload Nothing }

-- what is shown as unfinished is
pub some-sent : (past : List Entry) → is_none (sending past) ≡ false → (d : Delivery) × (unfinished (sent_on past) ≡ Some d)
some-sent past some = shown (some_entry detaches past) (unfinished (sent_on past)) refl refl
  where
    shown : (b : Bool) (d : Option Delivery) → some_entry detaches past ≡ b → unfinished (sent_on past) ≡ d → (d : Delivery) × (unfinished (sent_on past) ≡ Some d)
    shown b (Some d) l e = (d, e)
    shown true None l e = let none : is_none (sending past) ≡ true = rw l refl in absurd (let bad : true ≡ false = sym none ∙ some in cc)
    shown false None l e = let none : is_none (sending past) ≡ true = rw (l, e) refl in absurd (let bad : true ≡ false = sym none ∙ some in cc)

carry-changes : (link : ℕ) (payload : List ℕ) (more : Bool) (handle number : ℕ) (role : Role) (name : List ℕ) (past : List Entry)
    → is_gone (record { number = number; role = role; name = name; past = past }) ≡ false
    → same_role Sender role ≡ true
    → some_entry detaches past ≡ false
    → is_none (sending past) ≡ false
    → Changes (put (carry_entry link payload more handle)) (carry_on (length payload) more) (record { number = number; role = role; name = name; past = past })
carry-changes link payload more handle number Sender name past there h stays some =
    let d = some-sent past some in
    record { stays = there; changed = rw (carry-sending link payload more handle Nothing past d.0 stays d.1) refl }
carry-changes link payload more handle number Receiver name past there h stays some = absurd (cc)

pub mute-continued : (over : Bool) (d : Option SendingView) → IsMute (continued_on over d)
mute-continued over None = tt
mute-continued over (Some d) = tt

pub carry-whole : (c : Config) (n : ℕ) (past : List Entry) (link : ℕ) (payload : List ℕ) (more : Bool) (reply : Reply)
    → AreLearnt (sent_events c past)
    → carry_answer (seen c n past) link payload more ≡ Ok reply
    → seen c (n + 1) (record { step = Own (Carry link payload more); reply = reply } ∷ past) ≡ next_carry (seen c n past) link payload more
carry-whole c n past link payload more reply learnt h =
    let v = seen c n past in
    let o = on-link-ok v link (λ l. sends v.max_frame (carry_refusals v l payload) (later_body (handle_of l.ours) (flag more) None) payload Nothing) reply h in
    let s = sends-ok v.max_frame (carry_refusals v o.on payload) (later_body (handle_of o.on.ours) (flag more) None) payload Nothing reply o.said in
    let events = sent_events c past in
    let bare = found-bare (with_told events) (find (has_number link) (links_at past)) o.on (sym (numbered-told events link (links_at past)) ∙ o.found) in
    let e = carry_entry link payload more (handle_of o.on.ours) in
    let role = not-false (same_role Sender o.on.role) s.none_holds.1.0 in
    let stays : o.on.left ≡ false = attached-stays (is_some o.on.ours) (is_some o.on.theirs) o.on.left (not-false (is_attached o.on) s.none_holds.0) in
    let busy : is_none o.on.sending ≡ false = s.none_holds.1.1.0 in
    let change = carry_on (length payload) more in
    let links = at-changed (is_over (session_at past)) (has_number link) (put e) change (link_pasts past) (Some bare.0) bare.1
    (λ l there found.
    let same : link_at l ≡ bare.0 = (let k : Some bare.0 ≡ Some (link_at l) = found in cc) in
    let whole : with_told events (link_at l) ≡ o.on = ap (with_told events) same ∙ bare.2 in
    carry-changes link payload more (handle_of o.on.ours) l.number l.role l.name l.past there
    (subst (λ (x : LinkView). same_role Sender x.role ≡ true) (sym whole) role)
    (subst (λ (x : LinkView). x.left ≡ false) (sym whole) stays)
    (subst (λ (x : LinkView). is_none x.sending ≡ false) (sym whole) busy)) in
    let event = sent_by (base c 0 past) e.step in
    let told : map (with_told (event ∷ events)) (links_at (e ∷ past)) ≡ change_first (has_number link) change (map (with_told events) (links_at past)) =
    told-step event events (links_at (e ∷ past)) learnt
    ∙ mute-links event (sent_held events) (map (with_told events) (links_at (e ∷ past))) (mute-continued false (sending_on (find (has_number link) (links_at past))))
    ∙ ap (λ ls. map (with_told events) ls) links
    ∙ change-told (with_told events) (has_number link) change (λ l. refl) (λ l. refl) (links_at past) in
    let tables = table-law c n (n + 1) past e tt in
    rw (← s.replies, told, length-changed (is_there_with (has_number link)) (put e) (link_pasts past), left-sum (known c past) (sent_transfers past) 1, tables.sends, tables.receives, tables.expects) refl

-- # A disposition that is heard

pub disposition-whole : (c : Config) (n : ℕ) (past : List Entry) (channel : ℕ) (b : DispositionBody) (payload : List ℕ) (reply : Reply)
    → AreLearnt (sent_events c past)
    → disposition_answer (seen c n past) b ≡ Ok reply
    → seen c (n + 1) (record { step = Heard (record { channel = channel; body = Some (heard.Disposition b); payload = payload }); reply = reply } ∷ past)
    ≡ next_disposition (seen c n past) b
disposition-whole c n past channel b payload reply learnt h =
    let v = seen c n past in
    let a = answered_Ok (first_refusal (disposition_violations v (disposition_of b))) (disposition_reply v b) reply h in
    let step = Heard (record { channel = channel; body = Some (heard.Disposition b); payload = payload }) in
    let sent = sent_by (base c 0 past) step in
    let received = received_by (base c 0 past) step in
    rw (
      ← a.replies,
      told-step sent (sent_events c past) (links_at past) learnt,
      sent-step sent (sent_events c past),
      held-step received (received_events c past),
      sym (heard-none b b.role (expected (received_events c past))),
    )
    refl
