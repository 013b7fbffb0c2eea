-- What a frame that is heard does to the counts of a link.
use Rattle.std.proofs.Common.{◌≡◌, ◌≤◌, ◌⊎◌, inl, inr, ℕ, ◌+◌, ◌-◌, ◌==◌, ◌&&◌, ◌||◌, Bool, true, false, not, cond, Option, Some, None, Result, Ok, List, [], ◌∷◌, arith, refl, sym, ap, ◌∙◌, subst, find, map, is_some, is_none, nat_eq, nat_le, option_map}
use Rattle.std.specs.Cmp.Lexicographic.{pointwise}
use Rattle.amqp_flow.specs.Serial.{distance, wire}
use Rattle.amqp_flow.specs.Credit.{CreditView, delivery_count}
use Rattle.amqp_flow.specs.Receiver.{jump}
use Rattle.amqp_flow.specs.Windows.{WindowsView}
use Rattle.amqp_performatives.specs.declared.bodies.Role.{Role}
use Rattle.amqp_performatives.specs.declared.bodies.Role.TheVariants.{Sender, Receiver}
use Rattle.amqp_performatives.specs.declared.bodies.AttachBody.{AttachBody}
use Rattle.amqp_performatives.specs.declared.bodies.DetachBody.{DetachBody}
use Rattle.amqp_performatives.specs.declared.bodies.FlowBody.{FlowBody}
use Rattle.amqp_performatives.specs.declared.bodies.TransferBody.{TransferBody}
use Rattle.amqp_performatives.specs.declared.bodies.DispositionBody.{DispositionBody}
use Rattle.amqp_performatives.specs.declared.performative.Performative.{Performative}
use Rattle.amqp_performatives.specs.declared.performative.Performative.TheVariants as heard
use Rattle.amqp_frames.specs.declared.frame.Frame.{Frame}
use Rattle.amqp_events.specs.Event.{Over, Event}
use Rattle.amqp_events.specs.Joined.{Delivery}
use Rattle.amqp_events.specs.Told.{SentItem}
use Rattle.amqp_rules.specs.declared.reply.Reply.{Reply}
use Rattle.amqp_rules.specs.declared.reply.Given.TheVariants as given
use Rattle.amqp_rules.specs.declared.violation.Violation.{Violation}
use Rattle.amqp_rules.specs.declared.violation.ViolationKind.TheVariants.{OutOfSession, BadHandle}
use Rattle.amqp_rules.specs.View.{LinkView, View, change_first, handle_of, has_name, has_peer_handle, is_asked, is_asked_as, is_attached, is_ending, is_mapped, is_sender, is_theirs, opposite, same_role, takes_frames}
use Rattle.amqp_rules.specs.Refusing.{answered, first_refusal, if_there, unlinked}
use Rattle.amqp_rules.specs.Opened.{no_reply}
use Rattle.amqp_rules.specs.Sending.{frame_of, reply_ending}
use Rattle.amqp_rules.specs.Telling.{flag, session_flow, standing_flow}
use Rattle.amqp_rules.specs.Deliveries.{disposition_of, ended_by, sent_by_body}
use Rattle.amqp_rules.specs.PeerBegin.{begin_violations}
use Rattle.amqp_rules.specs.PeerAttach.{attach_heard_answer, attach_heard_reply, attach_violations, next_attach_heard}
use Rattle.amqp_rules.specs.Attach.{attached_by_peer}
use Rattle.amqp_rules.specs.Flow.{credit_heard, echo_body, echoes, flow_answer, flow_link, flow_links, flow_reply, flow_violations, flow_windows, flowed, named_link, next_flow}
use Rattle.amqp_rules.specs.PeerTransfer.{credit_used, delivery_violations, heard_on, is_nameless, received_on, receives, transfer_answer, transfer_reply, transfer_violations}
use Rattle.amqp_rules.specs.PeerDisposition.{disposition_reply, disposition_violations, told_more}
use Rattle.amqp_rules.specs.PeerEnd.{end_reply}
use Rattle.amqp_rules.specs.End.{end_body}
use Rattle.amqp_rules.specs.PeerDetach.{detach_heard_answer, detach_reply, next_detach_heard}
use Rattle.amqp_rules.specs.Answer.{body_answer, is_dropped, next_body}
use Rattle.amqp_rules.specs.Sound.{IsSound}
use Rattle.amqp_rules.proofs.Accepted.{NoneHolds, answered_Ok, no_refusal, not-false, there_Ok, unless_Ok}
use Rattle.amqp_rules.proofs.Listed.{by-bool}
use Rattle.amqp_laws.specs.declared.entry.Step.{Step}
use Rattle.amqp_laws.specs.declared.entry.Step.TheVariants.{Opened, Own, Heard}
use Rattle.amqp_laws.specs.Said.{body_heard}
use Rattle.amqp_laws.specs.Lawful.{next}
use Rattle.amqp_laws.proofs.Twice.{and-both}
use Rattle.amqp_pair_laws.proofs.Plain.{Answers}
use Rattle.amqp_pair_laws.specs.World.{frame_among}
use Rattle.amqp_pair_laws.proofs.Doing.{detach-sends, free-theirs, met-joins-at, peer-keeps, theirs-there}
use Rattle.amqp_pair_laws.proofs.Named.{KeepsName, found-passes, joined-other, named-is, removed-other, removed-there, role-same, texts-same}
use Rattle.amqp_pair_laws.proofs.Turns.{Goes, HeardDrain, HeardNumbers, IsAside, IsUncounted, TellsFlow, Turn, attached-stays, away, both_ends, goes, hearing, is_counted, meets, rest-turn, rests}
use Rattle.amqp_pair_laws.proofs.TurnOwn.{KeepsEnds, other-on, own-turn, plain, turn-on}

abbrev BodyTurn : Role → List ℕ → View → Option Performative → List ℕ → Option Frame → Type 0
BodyTurn role name v body payload sent = Turn role name v (next_body v body payload) body sent

-- # An attach

attach-turn : (role : Role) (name : List ℕ) (v : View) (b : AttachBody) (payload : List ℕ) (reply : Reply) → attach_heard_answer v b ≡ Ok reply → IsSound v
    → BodyTurn role name v (Some (heard.Attach b)) payload (frame_among reply.sent)
attach-turn role name v b payload reply h s =
    let k = answered_Ok (first_refusal (attach_violations v b)) (attach_heard_reply v b) reply h in
    let rows = no_refusal (attach_violations v b) k.none in
    let free : is_some (find (is_theirs (opposite b.role) b.name) v.links) ≡ false = rows.1.1.0 in
    let sent : frame_among reply.sent ≡ None = ap (λ (r : Reply). frame_among r.sent) (sym k.replies) in
    subst (λ (o : Option Frame). BodyTurn role name v (Some (heard.Attach b)) payload o) (sym sent)
    (by-bool (same_role role (opposite b.role) && pointwise nat_eq name b.name)
    (λ (t : same_role role (opposite b.role) && pointwise nat_eq name b.name ≡ true).
    let both = and-both (same_role role (opposite b.role)) (pointwise nat_eq name b.name) t in
    let r : role ≡ opposite b.role = role-same role (opposite b.role) both.0 in
    let n : name ≡ b.name = texts-same name b.name both.1 in
    meets b v.made refl refl (rw (r, n) (free-theirs v (opposite b.role) b.name free (find (has_name (opposite b.role) b.name) v.links) refl)) (rw (r, n) (met-joins-at v b s free)))
    (λ (d : same_role role (opposite b.role) && pointwise nat_eq name b.name ≡ false).
    rest-turn role name v (next_attach_heard v b) (Some (heard.Attach b)) None
    (joined-other v (is_asked_as (opposite b.role) b.name) (opposite b.role) b.name role name (attached_by_peer b) (peer-keeps b) (λ l h. (and-both (has_name (opposite b.role) b.name l) (is_asked l) h).0) d)
    tt))

-- # A flow

unless-left : (change : LinkView → LinkView) → KeepsEnds change → KeepsEnds (λ l. cond l.left l (change l))
unless-left change k = plain _ (λ l. r l l.left) (λ l. n l l.left) (λ l. o l l.left) (λ l. t l l.left) (λ l h. s l l.left refl h)
  where
    r : (l : LinkView) (b : Bool) → (cond b l (change l)).role ≡ l.role
    r l true = refl
    r l false = k.named.role l

    n : (l : LinkView) (b : Bool) → (cond b l (change l)).name ≡ l.name
    n l true = refl
    n l false = k.named.name l

    o : (l : LinkView) (b : Bool) → (cond b l (change l)).ours ≡ l.ours
    o l true = refl
    o l false = k.ours l

    t : (l : LinkView) (b : Bool) → (cond b l (change l)).theirs ≡ l.theirs
    t l true = refl
    t l false = k.theirs l

    s : (l : LinkView) (b : Bool) → l.left ≡ b → (cond b l (change l)).left ≡ false → l.left ≡ false
    s l true e h = absurd (cc (e, h))
    s l false e h = e

pub flow-keeps : (b : FlowBody) → KeepsEnds (flow_link b)
flow-keeps b = unless-left (flowed b) (plain (flowed b) (λ l. refl) (λ l. refl) (λ l. refl) (λ l. refl) (λ l h. h))

-- how many deliveries the peer gives up
abbrev flow_jump : Role → Bool → FlowBody → CreditView → ℕ
flow_jump Sender ours b c = 0
flow_jump Receiver true b c = jump b.delivery_count c
flow_jump Receiver false b c = 0

jump-few : (o : Option ℕ) (c : CreditView) → jump o c ≤ c.credit
jump-few None c = omega arith
jump-few (Some n) c = by (nat_le (distance (delivery_count c) n) c.credit) (λ h. grind (arith, h))
  where
    by : (b : Bool) → (b ≡ true → distance (delivery_count c) n ≤ c.credit) → cond b (distance (delivery_count c) n) 0 ≤ c.credit
    by true h = h refl
    by false h = omega arith

flow-first : (role : Role) (ours : Bool) (b : FlowBody) (c : CreditView) → (credit_heard role ours b c).first_count ≡ c.first_count
flow-first Sender true b c = refl
flow-first Sender false b c = refl
flow-first Receiver true b c = refl
flow-first Receiver false b c = refl

flow-passed : (role : Role) (ours : Bool) (b : FlowBody) (c : CreditView) → wire (credit_heard role ours b c).passed ≡ wire (c.passed + flow_jump role ours b c)
flow-passed Sender true b c = omega arith
flow-passed Sender false b c = omega arith
flow-passed Receiver true b c = by (c.passed + jump b.delivery_count c)
  where
    by : (n : ℕ) → wire (wire n) ≡ wire n
    by n = omega arith
flow-passed Receiver false b c = omega arith

flow-numbers : (role : Role) (ours : Bool) (b : FlowBody) (c : CreditView) → HeardNumbers role (flow_jump role ours b c) c.credit (credit_heard role ours b c).credit
flow-numbers Sender true b c = refl
flow-numbers Sender false b c = refl
flow-numbers Receiver true b c = by (jump b.delivery_count c) c.credit (jump-few b.delivery_count c)
  where
    by : (j n : ℕ) → j ≤ n → n ≡ (n - j) + j
    by j n h = omega (arith, h)
flow-numbers Receiver false b c = omega arith

flow-drain : (role : Role) (ours : Bool) (b : FlowBody) (c : CreditView) → HeardDrain role c (credit_heard role ours b c)
flow-drain Sender ours b c = tt
flow-drain Receiver true b c = refl
flow-drain Receiver false b c = refl

flow-early : (role : Role) (ours : Bool) (b : FlowBody) (c : CreditView) → ours ≡ false → flow_jump role ours b c ≡ 0
flow-early Sender ours b c h = refl
flow-early Receiver true b c h = absurd (cc (h))
flow-early Receiver false b c h = refl

-- what is sent in return
echo-aside : (role : Role) (name : List ℕ) (v : View) (w : WindowsView) (l m : LinkView) (test : LinkView → Bool) → find test v.links ≡ Some l → has_name role name l ≡ false → m.ours ≡ l.ours
    → (is_attached m ≡ true → is_attached l ≡ true) → IsAside role name v (Some (frame_of (Some (heard.Flow (echo_body w (Some m)))) []))
echo-aside role name v w l m test found unnamed same at' = by (is_attached m) refl
  where
    of : (r : Role) → is_attached l ≡ true → IsAside role name v (Some (frame_of (Some (heard.Flow (standing_flow w m r))) []))
    of Sender a = record { test = test; link = l; found = found; handle = ap handle_of same; attached = a; unnamed = unnamed }
    of Receiver a = record { test = test; link = l; found = found; handle = ap handle_of same; attached = a; unnamed = unnamed }

    by : (attached : Bool) → is_attached m ≡ attached → IsAside role name v (Some (frame_of (Some (heard.Flow (cond attached (standing_flow w m m.role) (session_flow w)))) []))
    by true e = of m.role (at' e)
    by false e = tt

echo-tells : (role : Role) (name : List ℕ) (v : View) (w : WindowsView) (l m : LinkView) → m.ours ≡ l.ours → is_attached m ≡ is_attached l
    → IsAside role name v (Some (frame_of (Some (heard.Flow (echo_body w (Some m)))) [])) ⊎ TellsFlow l m (Some (frame_of (Some (heard.Flow (echo_body w (Some m)))) []))
echo-tells role name v w l m same at' = by (is_attached m) refl
  where
    of : (r : Role) → m.role ≡ r → is_attached m ≡ true → TellsFlow l m (Some (frame_of (Some (heard.Flow (standing_flow w m r))) []))
    of Sender is a = record { frame = frame_of (Some (heard.Flow (standing_flow w m Sender))) []; flow = standing_flow w m Sender; attached = sym at' ∙ a; stays = attached-stays m a; is_sent = refl; body = refl; handle = ap (λ o. Some (handle_of o)) same; count = refl; credit = refl; drains = λ r o. absurd (cc (is, r)) }
    of Receiver is a = record { frame = frame_of (Some (heard.Flow (standing_flow w m Receiver))) []; flow = standing_flow w m Receiver; attached = sym at' ∙ a; stays = attached-stays m a; is_sent = refl; body = refl; handle = ap (λ o. Some (handle_of o)) same; count = refl; credit = refl; drains = λ r o. ap flag o }

    by : (attached : Bool) → is_attached m ≡ attached → IsAside role name v (Some (frame_of (Some (heard.Flow (cond attached (standing_flow w m m.role) (session_flow w)))) [])) ⊎ TellsFlow l m (Some (frame_of (Some (heard.Flow (cond attached (standing_flow w m m.role) (session_flow w)))) []))
    by true e = inr (of m.role refl e)
    by false e = inl tt

pub reply-sent : (echo : Bool) (w : WindowsView) (o : Option LinkView) → frame_among (flow_reply echo w o).sent ≡ cond echo (Some (frame_of (Some (heard.Flow (echo_body w o))) [])) None
reply-sent true w o = refl
reply-sent false w o = refl

by-echo : (P : Option Frame → Type 0) (echo : Bool) (f : Frame) → P (Some f) → P None → P (cond echo (Some f) None)
by-echo P true f some none = some
by-echo P false f some none = none

-- the flow names this link
flow-here : (role : Role) (name : List ℕ) (v : View) (b : FlowBody) (h : ℕ) (w : WindowsView) (echo : Bool) (l : LinkView) → find (has_peer_handle h) v.links ≡ Some l → has_name role name l ≡ true
    → Goes role name v true l (flow_link b l) (cond echo (Some (frame_of (Some (heard.Flow (echo_body w (Some (flow_link b l))))) [])) None)
flow-here role name v b h w echo l found n = by l.left refl
  where
    theirs : is_some l.theirs ≡ true
    theirs = theirs-there h l (found-passes (has_peer_handle h) v.links l found)

    apart : (l : LinkView) → l.left ≡ true → is_attached l ≡ false
    apart l e = rw e (and-false (both_ends l))
      where
        and-false : (b : Bool) → b && false ≡ false
        and-false true = refl
        and-false false = refl

    by : (left : Bool) → l.left ≡ left → Goes role name v true l (cond left l (flowed b l)) (cond echo (Some (frame_of (Some (heard.Flow (echo_body w (Some (cond left l (flowed b l)))))) [])) None)
    by true e =
        let off = apart l e in
        rests refl refl refl (by-echo (λ o. IsAside role name v o) echo (frame_of (Some (heard.Flow (echo_body w (Some l)))) []) (rw off tt) tt)
    by false e =
        hearing (flow_jump l.role (is_some l.ours) b l.credit) refl (flow-first l.role (is_some l.ours) b l.credit) (flow-passed l.role (is_some l.ours) b l.credit)
        (let r = (named-is role name l n).role_is in subst (λ (x : Role). HeardNumbers x (flow_jump l.role (is_some l.ours) b l.credit) l.credit.credit (credit_heard l.role (is_some l.ours) b l.credit).credit) (sym r) (flow-numbers l.role (is_some l.ours) b l.credit))
        (let r = (named-is role name l n).role_is in subst (λ (x : Role). HeardDrain x l.credit (credit_heard l.role (is_some l.ours) b l.credit)) (sym r) (flow-drain l.role (is_some l.ours) b l.credit))
        refl theirs (λ u. (flow-early l.role (is_some l.ours) b l.credit u, refl))
        (by-echo (λ o. IsAside role name v o ⊎ TellsFlow l (flowed b l) o) echo (frame_of (Some (heard.Flow (echo_body w (Some (flowed b l))))) []) (echo-tells role name v w l (flowed b l) refl refl) (inl tt))

attached-still : (b : FlowBody) (l : LinkView) → is_attached (flow_link b l) ≡ is_attached l
attached-still b l = by l.left
  where
    by : (left : Bool) → is_attached (cond left l (flowed b l)) ≡ is_attached l
    by true = refl
    by false = refl

flow-turn : (role : Role) (name : List ℕ) (v : View) (b : FlowBody) (payload : List ℕ) (reply : Reply) → flow_answer v b ≡ Ok reply → IsSound v
    → BodyTurn role name v (Some (heard.Flow b)) payload (frame_among reply.sent)
flow-turn role name v b payload reply h s =
    let w = flow_windows v b in
    let a = answered_Ok (first_refusal (flow_violations v b)) (flow_reply (echoes v b) w (option_map (flow_link b) (named_link v.links b.handle))) reply h in
    let rows = no_refusal (flow_violations v b) a.none in
    let known : is_some b.handle && is_none (named_link v.links b.handle) ≡ false = rows.1.0 in
    let sent : frame_among reply.sent ≡ cond (echoes v b) (Some (frame_of (Some (heard.Flow (echo_body w (option_map (flow_link b) (named_link v.links b.handle))))) [])) None =
    ap (λ (r : Reply). frame_among r.sent) (sym a.replies) ∙ reply-sent (echoes v b) w (option_map (flow_link b) (named_link v.links b.handle)) in
    subst (λ (o : Option Frame). BodyTurn role name v (Some (heard.Flow b)) payload o) (sym sent) (by b.handle refl known)
  where
    on : (w : WindowsView) (h : ℕ) (o : Option LinkView) (after : View) → find (has_peer_handle h) v.links ≡ o → after.links ≡ change_first (has_peer_handle h) (flow_link b) v.links → is_none o ≡ false
        → Turn role name v after (Some (heard.Flow b)) (cond (echoes v b) (Some (frame_of (Some (heard.Flow (echo_body w (option_map (flow_link b) o)))) [])) None)
    on w h None after found to known = absurd (cc (known))
    on w h (Some l) after found to known =
        turn-on role name v after (Some (heard.Flow b)) (cond (echoes v b) (Some (frame_of (Some (heard.Flow (echo_body w (Some (flow_link b l))))) [])) None) (has_peer_handle h) (flow_link b) l (flow-keeps b) s found to
        (λ n. flow-here role name v b h w (echoes v b) l found n)
        (λ u. by-echo (λ o. IsAside role name v o) (echoes v b) (frame_of (Some (heard.Flow (echo_body w (Some (flow_link b l))))) [])
        (echo-aside role name v w l (flow_link b l) (has_peer_handle h) found u ((flow-keeps b).ours l) (λ x. sym (attached-still b l) ∙ x)) tt)

    by : (o : Option ℕ) → b.handle ≡ o → is_some o && is_none (named_link v.links o) ≡ false
        → BodyTurn role name v (Some (heard.Flow b)) payload (cond (echoes v b) (Some (frame_of (Some (heard.Flow (echo_body (flow_windows v b) (option_map (flow_link b) (named_link v.links o))))) [])) None)
    by None e known =
        rest-turn role name v (next_flow v b) (Some (heard.Flow b)) (cond (echoes v b) (Some (frame_of (Some (heard.Flow (session_flow (flow_windows v b)))) [])) None)
        (ap (λ h. find (has_name role name) (flow_links b h v.links)) e)
        (by-echo (λ o. IsAside role name v o) (echoes v b) (frame_of (Some (heard.Flow (session_flow (flow_windows v b)))) []) tt tt)
    by (Some h) e known = on (flow_windows v b) h (find (has_peer_handle h) v.links) (next_flow v b) refl (ap (λ h. flow_links b h v.links) e) known

-- # A transfer

pub transfer-keeps : (b : TransferBody) (payload : List ℕ) → KeepsEnds (heard_on b payload)
transfer-keeps b payload = unless-left (received_on b payload) (plain (received_on b payload) (λ l. refl) (λ l. refl) (λ l. refl) (λ l. refl) (λ l h. h))

abbrev one_if : Option Delivery → ℕ
one_if None = 1
one_if (Some d) = 0

begun-first : (d : Option Delivery) (c : CreditView) → (credit_used d c).first_count ≡ c.first_count
begun-first None c = refl
begun-first (Some d) c = refl

begun-passed : (d : Option Delivery) (c : CreditView) → wire (credit_used d c).passed ≡ wire (c.passed + one_if d)
begun-passed None c = by (c.passed + 1)
  where
    by : (n : ℕ) → wire (wire n) ≡ wire n
    by n = omega arith
begun-passed (Some d) c = omega arith

begun-credit : (d : Option Delivery) (c : CreditView) → (d ≡ None → (c.credit == 0) ≡ false) → c.credit ≡ (credit_used d c).credit + one_if d
begun-credit None c some = by c.credit (some refl)
  where
    by : (n : ℕ) → (n == 0) ≡ false → n ≡ (n - 1) + 1
    by n h = grind (arith, h)
begun-credit (Some d) c some = omega arith

begun-drain : (d : Option Delivery) (c : CreditView) → (credit_used d c).drain ≡ c.drain
begun-drain None c = refl
begun-drain (Some d) c = refl

receiver-is : (r : Role) → not (is_sender r) ≡ true → r ≡ Receiver
receiver-is Sender h = absurd (cc (h))
receiver-is Receiver h = refl

-- a transfer that is accepted
pub record Accepts (v : View) (b : TransferBody) (payload : List ℕ) (reply : Reply) : Type 0 where
  pub on : LinkView
  pub found : find (has_peer_handle b.handle) v.links ≡ Some on
  pub role_is : on.role ≡ Receiver
  pub ours : is_some on.ours ≡ true
  pub credit : on.left ≡ false → on.receiving ≡ None → (on.credit.credit == 0) ≡ false
  pub named : on.left ≡ false → on.receiving ≡ None → is_nameless b ≡ false
  pub silent : frame_among reply.sent ≡ None

pub transfer-accepts : (v : View) (b : TransferBody) (payload : List ℕ) (reply : Reply) → transfer_answer v b payload ≡ Ok reply → Accepts v b payload reply
transfer-accepts v b payload reply h =
    let say : LinkView → Result Reply Violation = λ l. answered (first_refusal (transfer_violations v b payload l)) (transfer_reply v b l) in
    let u = unless_Ok (not (takes_frames v.session)) (unlinked OutOfSession) (if_there (find (has_peer_handle b.handle) v.links) (unlinked BadHandle) say) reply h in
    let t = there_Ok (find (has_peer_handle b.handle) v.links) (unlinked BadHandle) say reply u.1 in
    let a = answered_Ok (first_refusal (transfer_violations v b payload t.on)) (transfer_reply v b t.on) reply t.said in
    let rows = no_refusal (transfer_violations v b payload t.on) a.none in
    let both = and-both (is_some t.on.ours) (not (is_sender t.on.role)) (not-false (receives t.on) rows.0) in
    record {
      on = t.on;
      found = t.found;
      role_is = receiver-is t.on.role both.1;
      ours = both.0;
      credit = λ stays begins.
          let rows' : NoneHolds (delivery_violations v b payload t.on) = rw stays at rows.1.1 in
          let first = rw begins at rows' in
          first.1.1.1.1.0;
      named = λ stays begins.
          let rows' : NoneHolds (delivery_violations v b payload t.on) = rw stays at rows.1.1 in
          let first = rw begins at rows' in
          first.0;
      silent = ap (λ (r : Reply). frame_among r.sent) (sym a.replies);
    }

transfer-here : (role : Role) (name : List ℕ) (v : View) (b : TransferBody) (payload : List ℕ) (reply : Reply) (a : Accepts v b payload reply) → has_name role name a.on ≡ true
    → Goes role name v true a.on (heard_on b payload a.on) None
transfer-here role name v b payload reply a n = by a.on.left refl
  where
    by : (left : Bool) → a.on.left ≡ left → Goes role name v true a.on (cond left a.on (received_on b payload a.on)) None
    by true e = rests refl refl refl tt
    by false e =
        let r : role ≡ Receiver = (named-is role name a.on n).role_is ∙ a.role_is in
        let some = a.ours in
        hearing (one_if a.on.receiving) refl (begun-first a.on.receiving a.on.credit) (begun-passed a.on.receiving a.on.credit)
        (subst (λ (x : Role). HeardNumbers x (one_if a.on.receiving) a.on.credit.credit (credit_used a.on.receiving a.on.credit).credit) (sym r) (begun-credit a.on.receiving a.on.credit (a.credit e)))
        (subst (λ (x : Role). HeardDrain x a.on.credit (credit_used a.on.receiving a.on.credit)) (sym r) (begun-drain a.on.receiving a.on.credit))
        refl (theirs-there b.handle a.on (found-passes (has_peer_handle b.handle) v.links a.on a.found)) (λ u. absurd (cc (u, some))) (inl tt)

transfer-turn : (role : Role) (name : List ℕ) (v : View) (b : TransferBody) (payload : List ℕ) (reply : Reply) → transfer_answer v b payload ≡ Ok reply → IsSound v
    → BodyTurn role name v (Some (heard.Transfer b)) payload (frame_among reply.sent)
transfer-turn role name v b payload reply h s =
    let a = transfer-accepts v b payload reply h in
    subst (λ (o : Option Frame). BodyTurn role name v (Some (heard.Transfer b)) payload o) (sym a.silent)
    (turn-on role name v (next_body v (Some (heard.Transfer b)) payload) (Some (heard.Transfer b)) None (has_peer_handle b.handle) (heard_on b payload) a.on (transfer-keeps b payload) s a.found refl
    (λ n. transfer-here role name v b payload reply a n) (λ u. tt))

-- # Others

pub found-mapped : (role : Role) (name : List ℕ) (change : LinkView → LinkView) (links : List LinkView) → KeepsName change
    → find (has_name role name) (map change links) ≡ option_map change (find (has_name role name) links)
found-mapped role name change [] k = refl
found-mapped role name change (l ∷ links) k =
    let same = named-same l in
    by-bool (has_name role name l)
    (λ (h : has_name role name l ≡ true). rw (same, h) refl)
    (λ (h : has_name role name l ≡ false). rw (same, h) (found-mapped role name change links k))
  where
    named-same : (l : LinkView) → has_name role name (change l) ≡ has_name role name l
    named-same l = let r = k.role l in let n = k.name l in rw (r, n) refl

pub told-keeps : (e : Event) (items : List SentItem) → KeepsName (told_more e items)
told-keeps e items = record { role = λ l. refl; name = λ l. refl }

mapped-turn : (role : Role) (name : List ℕ) (v after : View) (body : Option Performative) (e : Event) (items : List SentItem) → after.links ≡ map (told_more e items) v.links → Turn role name v after body None
mapped-turn role name v after body e items to = by (find (has_name role name) v.links) refl
  where
    all : find (has_name role name) after.links ≡ option_map (told_more e items) (find (has_name role name) v.links)
    all = ap (find (has_name role name)) to ∙ found-mapped role name (told_more e items) v.links (told-keeps e items)

    by : (o : Option LinkView) → find (has_name role name) v.links ≡ o → Turn role name v after body None
    by None f = away (all ∙ ap (option_map (told_more e items)) f) (inl (f, tt))
    by (Some l) f = goes l (told_more e items l) f (all ∙ ap (option_map (told_more e items)) f) refl refl (λ h. h) (rests refl refl refl tt)

disposition-turn : (role : Role) (name : List ℕ) (v : View) (b : DispositionBody) (payload : List ℕ) (reply : Reply) → body_answer v (Some (heard.Disposition b)) payload ≡ Ok reply
    → BodyTurn role name v (Some (heard.Disposition b)) payload (frame_among reply.sent)
disposition-turn role name v b payload reply h =
    let k = answered_Ok (first_refusal (disposition_violations v (disposition_of b))) (disposition_reply v b) reply h in
    let none : frame_among reply.sent ≡ None = ap (λ (r : Reply). frame_among r.sent) (sym k.replies) in
    subst (λ (o : Option Frame). BodyTurn role name v (Some (heard.Disposition b)) payload o) (sym none)
    (mapped-turn role name v (next_body v (Some (heard.Disposition b)) payload) (Some (heard.Disposition b)) (sent_by_body v (Some (heard.Disposition b))) v.sent refl)

detach-turn : (role : Role) (name : List ℕ) (v : View) (b : DetachBody) (payload : List ℕ) (reply : Reply) → detach_heard_answer v b ≡ Ok reply → IsSound v
    → BodyTurn role name v (Some (heard.Detach b)) payload (frame_among reply.sent)
detach-turn role name v b payload reply h s =
    let say : LinkView → Result Reply Violation = λ l. Ok (detach_reply v b l) in
    let u = unless_Ok (not (takes_frames v.session)) (unlinked OutOfSession) (if_there (find (has_peer_handle b.handle) v.links) (unlinked BadHandle) say) reply h in
    let t = there_Ok (find (has_peer_handle b.handle) v.links) (unlinked BadHandle) say reply u.1 in
    let said = t.said in
    let e : detach_reply v b t.on ≡ reply = cc said in
    let l = t.on in
    let found = t.found in
    let f = frame_of (Some (heard.Detach (record { handle = handle_of l.ours; closed = b.closed; error = None }))) [] in
    let sent : frame_among reply.sent ≡ cond (is_attached l) (Some f) None = ap (λ (r : Reply). frame_among r.sent) (sym e) ∙ detach-sends (is_attached l) v b l in
    by-bool (has_name role name l)
    (λ (n : has_name role name l ≡ true).
    away (removed-there role name (has_peer_handle b.handle) v.links l s.links.names found n)
    (inr (subst (λ (o : Option Frame). IsUncounted o) (sym sent) (by-attached (is_attached l) f refl))))
    (λ (n : has_name role name l ≡ false).
    rest-turn role name v (next_detach_heard v b) (Some (heard.Detach b)) (frame_among reply.sent) (removed-other role name (has_peer_handle b.handle) v.links l found n)
    (subst (λ (o : Option Frame). IsAside role name v o) (sym sent)
    (by-bool (is_attached l)
    (λ (a : is_attached l ≡ true). rw a (other-on role name v (has_peer_handle b.handle) l found a n))
    (λ (a : is_attached l ≡ false). rw a tt))))
  where
    by-attached : (b : Bool) (f : Frame) → is_counted f.body ≡ false → IsUncounted (cond b (Some f) None)
    by-attached true f h = h
    by-attached false f h = tt

end-sends : (mapped : Bool) (v : View) (reply : Reply)
    → cond mapped (reply_ending (end_body None) [] (ended_by Over Over v) given.Nothing) (record { sent = []; ended = ended_by Over Over v; given = given.Nothing }) ≡ reply → IsUncounted (frame_among reply.sent)
end-sends true v reply h = subst (λ (o : Option Frame). IsUncounted o) (ap (λ (r : Reply). frame_among r.sent) h) refl
end-sends false v reply h = subst (λ (o : Option Frame). IsUncounted o) (ap (λ (r : Reply). frame_among r.sent) h) tt

pub body-turn : (role : Role) (name : List ℕ) (v : View) (body : Option Performative) (payload : List ℕ) (reply : Reply) → body_answer v body payload ≡ Ok reply → IsSound v
    → BodyTurn role name v body payload (frame_among reply.sent)
body-turn role name v (Some (heard.Begin b)) payload reply h s =
    let k = answered_Ok (first_refusal (begin_violations v)) no_reply reply h in
    let none : frame_among reply.sent ≡ None = ap (λ (r : Reply). frame_among r.sent) (sym k.replies) in
    subst (λ (o : Option Frame). BodyTurn role name v (Some (heard.Begin b)) payload o) (sym none) (rest-turn role name v (next_body v (Some (heard.Begin b)) payload) (Some (heard.Begin b)) None refl tt)
body-turn role name v (Some (heard.Attach b)) payload reply h s = attach-turn role name v b payload reply h s
body-turn role name v (Some (heard.Flow b)) payload reply h s = flow-turn role name v b payload reply h s
body-turn role name v (Some (heard.Transfer b)) payload reply h s = transfer-turn role name v b payload reply h s
body-turn role name v (Some (heard.Disposition b)) payload reply h s = disposition-turn role name v b payload reply h
body-turn role name v (Some (heard.Detach b)) payload reply h s = detach-turn role name v b payload reply h s
body-turn role name v (Some (heard.End b)) payload reply h s =
    let u = unless_Ok (not (is_ending v.session || takes_frames v.session)) (unlinked OutOfSession) (Ok (end_reply v)) reply h in
    let said = u.1 in
    let e : end_reply v ≡ reply = cc said in
    away refl (inr (end-sends (is_mapped v.session) v reply e))
body-turn role name v _ payload reply h s = absurd (cc)

-- what an accepted step does to the counts of a link
pub step-turn : (role : Role) (name : List ℕ) (v : View) (step : Step) (reply : Reply) → Answers v step reply → IsSound v → Turn role name v (next v step) (body_heard step) (frame_among reply.sent)
step-turn role name v (Opened told) reply h s =
    let none : frame_among reply.sent ≡ None = ap (λ (r : Reply). frame_among r.sent) (sym h) in
    rest-turn role name v (next v (Opened told)) None (frame_among reply.sent) refl (rw none tt)
step-turn role name v (Own op) reply h s = own-turn role name v op reply h s
step-turn role name v (Heard f) reply h s =
    by-bool (is_dropped v f.body)
    (λ (dropped : is_dropped v f.body ≡ true).
    let k = rw dropped at h in
    let e : no_reply ≡ reply = cc k in
    let none : frame_among reply.sent ≡ None = ap (λ (r : Reply). frame_among r.sent) (sym e) in
    rw (dropped, none) (rest-turn role name v (record v { steps = v.steps + 1 }) f.body None refl tt))
    (λ (taken : is_dropped v f.body ≡ false).
    let k : body_answer v f.body f.payload ≡ Ok reply = (let k = rw taken at h in k) in
    rw taken (body-turn role name v f.body f.payload reply k s))
