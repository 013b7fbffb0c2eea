-- A Start, as formulas over the whole past and as single changes: the whole view.
use Rattle.std.proofs.Common.{◌≡◌, ℕ, ◌+◌, ◌-◌, ◌&&◌, Bool, true, false, not, Option, Some, None, Ok, is_some, option_map, List, ◌∷◌, length, map, find, refl, sym, ap, ◌∙◌, subst, arith}
use Rattle.amqp_flow.specs.Serial.{wire}
use Rattle.amqp_performatives.specs.declared.bodies.Role.{Role}
use Rattle.amqp_performatives.specs.declared.bodies.Role.TheVariants.{Sender, Receiver}
use Rattle.amqp_rules.specs.declared.op.Op.TheVariants.{Start}
use Rattle.amqp_rules.specs.declared.reply.Reply.{Reply}
use Rattle.amqp_rules.specs.declared.reply.Given.TheVariants.{Delivery}
use Rattle.amqp_rules.specs.declared.config.Config.{Config}
use Rattle.amqp_rules.specs.View.{LinkView, handle_of, has_number, is_attached, is_over, next_delivery, same_role, change_first}
use Rattle.amqp_rules.specs.Sending.{reply_of, sends}
use Rattle.amqp_rules.specs.Start.{begin_delivery, next_start, start_answer, start_body, start_refusals}
use Rattle.amqp_rules.specs.Deliveries.{begun_on}
use Rattle.amqp_rules.proofs.Accepted.{sends-ok, on-link-ok, not-false}
use Rattle.amqp_events.specs.Joined.{unfinished}
use Rattle.amqp_events.specs.Laws.{AreLearnt}
use Rattle.amqp_events.specs.Told.{sent_held}
use Rattle.amqp_laws.specs.declared.entry.Entry.{Entry}
use Rattle.amqp_laws.specs.declared.entry.Step.TheVariants.{Own}
use Rattle.amqp_laws.specs.Past.{some_entry}
use Rattle.amqp_laws.specs.Said.{detaches}
use Rattle.amqp_laws.specs.Sending.{limit, passed}
use Rattle.amqp_laws.specs.Windows.{known, sent_transfers}
use Rattle.amqp_laws.specs.Transfers.{sent_on, sending}
use Rattle.amqp_laws.specs.Links.{link_at, link_pasts, is_gone, put, is_there_with}
use Rattle.amqp_laws.specs.Session.{session_at, links_at}
use Rattle.amqp_laws.specs.At.{base, seen, with_told, sent_by, sent_events}
use Rattle.amqp_laws.proofs.Events.{numbered-told}
use Rattle.amqp_laws.proofs.Joining.{Changes, at-changed}
use Rattle.amqp_rules.proofs.Listed.{length-changed}
use Rattle.amqp_laws.proofs.LinkDeliveries.{start-sending}
use Rattle.amqp_laws.proofs.ToldLink.{told-step, change-told, mute-links, IsMute}
use Rattle.amqp_laws.proofs.TableLaw.{table-law}

pub wire-sum : (n j : ℕ) → wire (n + j) ≡ wire (wire n + j)
wire-sum n j = omega arith

pub left-sum : (limit n j : ℕ) → limit - (n + j) ≡ (limit - n) - j
left-sum limit n j = omega arith

-- a start that sends this transfer
abbrev start_entry : ℕ → List ℕ → ℕ → Bool → List ℕ → Bool → ℕ → ℕ → Entry
start_entry link tag format settled payload more handle id =
    record { step = Own (Start link tag format settled payload more); reply = reply_of (start_body handle id tag format settled more) payload (Delivery id) }

-- nothing is unfinished on a link that shows nothing
pub nothing-sent : (past : List Entry) → some_entry detaches past ≡ false → is_some (sending past) ≡ false → unfinished (sent_on past) ≡ None
nothing-sent past stays none = shown (unfinished (sent_on past)) refl
  where
    shown : (d : Option _) → unfinished (sent_on past) ≡ d → d ≡ None
    shown None e = refl
    shown (Some d) e = let some : is_some (sending past) ≡ true = rw (stays, e) refl in absurd (let bad : true ≡ false = sym some ∙ none in cc)

start-changes : (link : ℕ) (tag : List ℕ) (format : ℕ) (settled : Bool) (payload : List ℕ) (more : Bool) (handle id number : ℕ) (role : Role) (name : List ℕ) (past : List Entry)
    → is_gone (record { number = number; role = role; name = name; past = past }) ≡ false
    → same_role Sender role ≡ true
    → some_entry detaches past ≡ false
    → is_some (sending past) ≡ false
    → Changes (put (start_entry link tag format settled payload more handle id)) (begin_delivery id (length payload) more) (record { number = number; role = role; name = name; past = past })
start-changes link tag format settled payload more handle id number Sender name past there h stays none =
    record {
      stays = there;
      changed = rw (start-sending link tag format settled payload more handle id (Delivery id) past stays (nothing-sent past stays none), wire-sum (passed past) 1, left-sum (limit past) (passed past) 1) refl;
    }
start-changes link tag format settled payload more handle id number Receiver name past there h stays none = absurd (cc)

mute-start : (id k : ℕ) (tag : List ℕ) (settled : Bool) (o : Option LinkView) → IsMute (begun_on id k tag settled o)
mute-start id k tag settled None = tt
mute-start id k tag settled (Some l) = tt

pub attached-stays : (ours theirs left : Bool) → (ours && theirs) && not left ≡ true → left ≡ false
attached-stays true true false h = refl
attached-stays true true true h = absurd (cc)
attached-stays true false left h = absurd (cc)
attached-stays false theirs left h = absurd (cc)

-- what is found with its told is found without
pub found-bare : (f : LinkView → LinkView) (o : Option LinkView) (on : LinkView) → option_map f o ≡ Some on → (l : LinkView) × (o ≡ Some l) × (f l ≡ on)
found-bare f None on h = absurd (cc)
found-bare f (Some l) on h = (l, refl, cc)

pub start-whole : (c : Config) (n : ℕ) (past : List Entry) (link : ℕ) (tag : List ℕ) (format : ℕ) (settled : Bool) (payload : List ℕ) (more : Bool) (reply : Reply)
    → AreLearnt (sent_events c past)
    → start_answer (seen c n past) link tag format settled payload more ≡ Ok reply
    → seen c (n + 1) (record { step = Own (Start link tag format settled payload more); reply = reply } ∷ past) ≡ next_start (seen c n past) link tag format settled payload more
start-whole c n past link tag format settled payload more reply learnt h =
    let v = seen c n past in
    let id = next_delivery v in
    let o = on-link-ok v link (λ l. sends v.max_frame (start_refusals v l tag settled payload) (start_body (handle_of l.ours) id tag format settled more) payload (Delivery id)) reply h in
    let s = sends-ok v.max_frame (start_refusals v o.on tag settled payload) (start_body (handle_of o.on.ours) id tag format settled more) payload (Delivery id) reply o.said in
    let events = sent_events c past in
    let bare = found-bare (with_told events) (find (has_number link) (links_at past)) o.on (sym (numbered-told events link (links_at past)) ∙ o.found) in
    let e = start_entry link tag format settled payload more (handle_of o.on.ours) id in
    let role = not-false (same_role Sender o.on.role) s.none_holds.1.0 in
    let stays : o.on.left ≡ false = attached-stays (is_some o.on.ours) (is_some o.on.theirs) o.on.left (not-false (is_attached o.on) s.none_holds.0) in
    let idle : is_some o.on.sending ≡ false = s.none_holds.1.1.0 in
    let change = begin_delivery id (length payload) more in
    let links = at-changed (is_over (session_at past)) (has_number link) (put e) change (link_pasts past) (Some bare.0) bare.1
    (λ l there found.
    let same : link_at l ≡ bare.0 = (let k : Some bare.0 ≡ Some (link_at l) = found in cc) in
    let whole : with_told events (link_at l) ≡ o.on = ap (with_told events) same ∙ bare.2 in
    start-changes link tag format settled payload more (handle_of o.on.ours) id l.number l.role l.name l.past there
    (subst (λ (x : LinkView). same_role Sender x.role ≡ true) (sym whole) role)
    (subst (λ (x : LinkView). x.left ≡ false) (sym whole) stays)
    (subst (λ (x : LinkView). is_some x.sending ≡ false) (sym whole) idle)) in
    let event = sent_by (base c 0 past) e.step in
    let told : map (with_told (event ∷ events)) (links_at (e ∷ past)) ≡ change_first (has_number link) change (map (with_told events) (links_at past)) =
    told-step event events (links_at (e ∷ past)) learnt
    ∙ mute-links event (sent_held events) (map (with_told events) (links_at (e ∷ past))) (mute-start (next_delivery (base c 0 past)) link tag settled (find (has_number link) (links_at past)))
    ∙ ap (λ ls. map (with_told events) ls) links
    ∙ change-told (with_told events) (has_number link) change (λ l. refl) (λ l. refl) (links_at past) in
    let tables = table-law c n (n + 1) past e tt in
    rw (← s.replies, told, length-changed (is_there_with (has_number link)) (put e) (link_pasts past), left-sum (known c past) (sent_transfers past) 1, tables.sends, tables.receives, tables.expects) refl
