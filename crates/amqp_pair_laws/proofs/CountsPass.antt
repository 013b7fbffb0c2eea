-- A frame passes, and the ends of a link agree on its counts as before; in every tight world they do.
use Rattle.std.proofs.Common.{suc, ◌≡◌, ◌≤◌, inl, inr, ℕ, ◌+◌, Bool, true, false, not, cond, Option, Some, None, List, [], ◌∷◌, refl, sym, ap, ◌∙◌, subst, find, is_some}
use Rattle.amqp_flow.specs.Serial.{distance}
use Rattle.amqp_flow.specs.Credit.{CreditView, delivery_begun, delivery_count}
use Rattle.amqp_performatives.specs.declared.bodies.Role.{Role}
use Rattle.amqp_performatives.specs.declared.bodies.Role.TheVariants.{Sender}
use Rattle.amqp_performatives.specs.declared.bodies.AttachBody.{AttachBody}
use Rattle.amqp_performatives.specs.declared.bodies.FlowBody.{FlowBody}
use Rattle.amqp_performatives.specs.declared.bodies.TransferBody.{TransferBody}
use Rattle.amqp_performatives.specs.declared.performative.Performative.{Performative}
use Rattle.amqp_performatives.specs.declared.performative.Performative.TheVariants as heard
use Rattle.amqp_frames.specs.declared.frame.Frame.{Frame}
use Rattle.amqp_rules.specs.declared.config.Config.{Config}
use Rattle.amqp_rules.specs.View.{next_delivery, EndView, LinkView, View, change_first, handle_of, has_name, has_peer_handle, is_attached, new_link, opposite}
use Rattle.amqp_rules.specs.Answer.{next_body}
use Rattle.amqp_rules.specs.Attach.{attached_by_us}
use Rattle.amqp_rules.specs.Flow.{credit_heard, flow_link, flow_links, flowed}
use Rattle.amqp_rules.specs.PeerTransfer.{heard_on, received_on}
use Rattle.amqp_rules.specs.Sound.{IsSound}
use Rattle.amqp_laws.specs.declared.entry.Entry.{Entry}
use Rattle.amqp_laws.specs.Said.{body_heard}
use Rattle.amqp_laws.specs.At.{at}
use Rattle.amqp_laws.proofs.Twice.{and-both}
use Rattle.amqp_pair_laws.specs.Moves.{count}
use Rattle.amqp_pair_laws.specs.World.{IsFair, Moves, Tight, World, hears, sends}
use Rattle.amqp_pair_laws.proofs.Lag as lag
use Rattle.amqp_pair_laws.proofs.Slots.{kept}
use Rattle.amqp_pair_laws.proofs.SlotOf.{shape, slot_of}
use Rattle.amqp_pair_laws.proofs.SlotActs.{AllFair, IsMet, Lives, is-met, one-more, slots-known}
use Rattle.amqp_pair_laws.proofs.Named.{changed-there, or_this}
use Rattle.amqp_pair_laws.proofs.Opens.{heard-body}
use Rattle.amqp_pair_laws.proofs.Over.{behind-lives}
use Rattle.amqp_pair_laws.proofs.Windows.{lives-goes}
use Rattle.amqp_pair_laws.proofs.Turns.{Carries, Goes, IsAside, IsAsideIn, TellsFlow, TellsTransfer, Turn, asks, away, both_ends, goes, hearing, leaving, meets, rests, sending, tells}
use Rattle.amqp_pair_laws.proofs.TurnHeard.{flow-keeps, transfer-keeps}
use Rattle.amqp_pair_laws.proofs.Tallies.{Grows, Tallied, goes-grows, link, tallied, tally, tally-from, turn-of}
use Rattle.amqp_pair_laws.proofs.Counts.{Agreed, Tells, flow-agrees, hearing-agrees, rests-agreed, rests-agrees, transfer-agrees}
use Rattle.amqp_pair_laws.proofs.CountsKnown.{CountsAgree, Met, answered-there, aside-still, asked-fresh, asks-fewer, attach-agrees, behind, heard-next, met-fresh, same-some}
use Rattle.amqp_pair_laws.proofs.CountsKept.{fair-both, kept-ahead, kept-quiet, role-of, small-of, to-first, to-other}

-- # The link of the end that hears

pub attached-ends : (l : LinkView) → is_attached l ≡ true → (is_some l.ours ≡ true) × ((is_some l.theirs ≡ true) × (l.left ≡ false))
attached-ends l h =
    let k = and-both (both_ends l) (not l.left) h in
    let p = and-both (is_some l.ours) (is_some l.theirs) k.0 in
    (p.0, (p.1, by l.left k.1))
  where
    by : (b : Bool) → not b ≡ true → b ≡ false
    by true h = absurd (cc (h))
    by false h = refl

sound-of : (c : Config) (past : List Entry) (e : Entry) → AllFair c (e ∷ past) → IsSound (at c past)
sound-of c past e h = (one-more (Sender, []) c e past h).sound

-- the link at b that a's handle finds, and what a tells of it
pub record FlowMet (ca cb : Config) (e : Entry) (a b : List Entry) (role : Role) (name : List ℕ) (l l' : LinkView) (w : FlowBody) : Type 0 where
  pub met : IsMet (opposite role) name (at cb b) (handle_of l.ours)
  pub ours : is_some met.link.ours ≡ true
  pub tells' : met.link.left ≡ false → Tells role l (tally (role, name) ca a) l' (tally (role, name) ca (e ∷ a)) met.link (tally (opposite role, name) cb b) w

hears-more : (e : Entry) (a : List Entry) → count hears a ≤ count hears (e ∷ a)
hears-more e a = lag.and_one-grows (hears e) (count hears a)

-- where an attached link has changed from l to l'
pub flow-met : (ca cb : Config) (n : ℕ) (e : Entry) (a b : List Entry) (role : Role) (name : List ℕ) (l l' : LinkView) (w : FlowBody) → lag.Known sends hears IsFair CountsAgree (suc (suc n)) → World ca cb (suc n) (e ∷ a) b → Tight ca cb n a b
    → IsSound (at cb b) → Lives (e ∷ a) → Lives b → link (role, name) ca a ≡ Some l → link (role, name) ca (e ∷ a) ≡ Some l' → is_attached l ≡ true → l'.left ≡ false → l'.sending ≡ l.sending → l'.ours ≡ l.ours
    → Grows role l (tally (role, name) ca a) l' (tally (role, name) ca a + distance l.credit.passed l'.credit.passed)
    → w.delivery_count ≡ Some (delivery_count l'.credit) → w.link_credit ≡ Some l'.credit.credit → CountsAgree ca cb a b → FlowMet ca cb e a b role name l l' w
flow-met ca cb n e a b role name l l' w known world t sb la lb fl to attached stays same ours' grows count' credit' k =
    let p = attached-ends l attached in
    let slot = slots-known ca cb n a b t lb role name in
    let met = is-met (opposite role) name (at cb b) l (handle_of l.ours) sb attached refl (ap (λ o. kept (shape o)) (sym fl) ∙ slot.asked) in
    let y = answered-there ca cb n a b t lb role name l fl p.1.0 p.1.1 in
    let named = met.named in
    let ours : is_some met.link.ours ≡ true = ap (λ o. is_some (shape o).ours) (sym named) ∙ y.ours in
    let fair = fair-both ca cb (suc n) (e ∷ a) b world in
    record {
      met = met;
      ours = ours;
      tells' = λ stays'. record {
        agreed = k lb role name l met.link fl named p.0 p.1.1 stays';
        grows = subst (λ (n' : ℕ). Grows role l (tally (role, name) ca a) l' n') (sym (tally-from (role, name) ca e a l l' fl to)) grows;
        behind = behind ca cb (suc n) (e ∷ a) b known world la lb role name l' met.link to named stays ours stays' (asks-fewer (opposite role, name) cb (count hears a) (count hears (e ∷ a)) b (hears-more e a) y.none);
        told = (tallied (role, name) ca (e ∷ a) fair.0 l' to).told;
        there = (tallied (opposite role, name) cb b fair.1 met.link named).told;
        small = small-of (role, name) ca (e ∷ a) l' fair.0 to;
        small' = small-of (opposite role, name) cb b met.link fair.1 named;
        same = same;
        ours = ours';
        count = count';
        credit = credit';
      };
    }

pub left-kept : (w : FlowBody) (m : LinkView) → (flow_link w m).left ≡ m.left
left-kept w m = by m.left
  where
    by : (b : Bool) → (cond b m (flowed w m)).left ≡ m.left
    by true = refl
    by false = refl

pub flow-open : (w : FlowBody) (m : LinkView) → m.left ≡ false → flow_link w m ≡ flowed w m
flow-open w m h = by m.left h
  where
    by : (b : Bool) → b ≡ false → cond b m (flowed w m) ≡ flowed w m
    by true h = absurd (cc (h))
    by false h = refl

pub transfer-open : (t : TransferBody) (payload : List ℕ) (m : LinkView) → m.left ≡ false → heard_on t payload m ≡ received_on t payload m
transfer-open t payload m h = by m.left h
  where
    by : (b : Bool) → b ≡ false → cond b m (received_on t payload m) ≡ received_on t payload m
    by true h = absurd (cc (h))
    by false h = refl

-- the flow is heard
pub flow-heard : (role' : Role) (name : List ℕ) (v : View) (w : FlowBody) (h : ℕ) (payload : List ℕ) (m' : LinkView) (x : IsMet role' name v h) → w.handle ≡ Some h
    → find (has_name role' name) (next_body v (Some (heard.Flow w)) payload).links ≡ Some m' → flow_link w x.link ≡ m'
flow-heard role' name v w h payload m' x is to =
    let handled : flow_links w w.handle v.links ≡ change_first (has_peer_handle h) (flow_link w) v.links = ap (λ h. flow_links w h v.links) is in
    let now : find (has_name role' name) (flow_links w w.handle v.links) ≡ Some (flow_link w x.link) =
    ap (find (has_name role' name)) handled ∙ changed-there role' name (has_peer_handle h) (flow_link w) v.links x.link (flow-keeps w).named x.named x.found in
    same-some (find (has_name role' name) (flow_links w w.handle v.links)) (flow_link w x.link) m' now to

transfer-heard : (role' : Role) (name : List ℕ) (v : View) (t : TransferBody) (payload : List ℕ) (m' : LinkView) (x : IsMet role' name v t.handle)
    → find (has_name role' name) (next_body v (Some (heard.Transfer t)) payload).links ≡ Some m' → heard_on t payload x.link ≡ m'
transfer-heard role' name v t payload m' x to =
    same-some (find (has_name role' name) (next_body v (Some (heard.Transfer t)) payload).links) (heard_on t payload x.link) m'
    (changed-there role' name (has_peer_handle t.handle) (heard_on t payload) v.links x.link (transfer-keeps t payload).named x.named x.found) to

-- # A frame passes

module _ (ca cb : Config) (n : ℕ) (e : Entry) (a : List Entry) (e' : Entry) (b : List Entry) (f : Frame) (known : lag.Known sends hears IsFair CountsAgree (suc (suc n))) (world : World ca cb (suc n) (e ∷ a) b)
    (t : Tight ca cb n a b) (sent : sends e ≡ Some f) (k : CountsAgree ca cb a b) (sa : IsSound (at ca a)) (sb : IsSound (at cb b)) (la : Lives (e ∷ a)) (lb : Lives b) (role : Role) (name : List ℕ) (l l' m' : LinkView)
    (found : link (role, name) ca a ≡ Some l) (fl : link (role, name) ca (e ∷ a) ≡ Some l') (fm : link (opposite role, name) cb (e' ∷ b) ≡ Some m')
    (to : find (has_name (opposite role) name) (next_body (at cb b) f.body f.payload).links ≡ Some m') (ours : is_some l.ours ≡ true) (same-ours : l'.ours ≡ l.ours) (left' : l.left ≡ false) (stays : l'.left ≡ false) (stays' : m'.left ≡ false) where
  abbrev N : ℕ
  N = tally (role, name) ca a

  abbrev K : ℕ
  K = tally (opposite role, name) cb b

  abbrev Now : Type 0
  Now = Agreed role l' (tally (role, name) ca (e ∷ a)) m' (tally (opposite role, name) cb (e' ∷ b))

  -- the frame is of another link
  pass-aside : IsAside role name (at ca a) (sends e) → ((m : LinkView) → Agreed role l N m K → Agreed role l' (N + distance l.credit.passed l'.credit.passed) m K) → Now
  pass-aside aside moves' =
      let slot = slots-known ca cb n a b t lb role name in
      let aside' : IsAsideIn role name (at ca a) f.body = subst (λ (o : Option Frame). IsAside role name (at ca a) o) sent aside in
      let y = aside-still role name (at ca a) (at cb b) f.body f.payload m' sa sb slot.asked aside' to in
      let there = y.found in
      let c = y.credit in
      let x = k lb role name l y.before found there ours left' (sym y.left' ∙ stays') in
      to-other role name cb e' b l' (tally (role, name) ca (e ∷ a)) y.before m' there fm
      (rests-agreed role l' (tally (role, name) ca (e ∷ a)) y.before m' K (λ h. ap (λ (c : CreditView). c.first_count) c) (ap (λ (c : CreditView). c.passed) c) (ap (λ (c : CreditView). c.credit) c) y.receiving
      (to-first role name ca e a l l' y.before K found fl (moves' y.before x)))

  pass-flow : TellsFlow l l' (sends e) → l'.sending ≡ l.sending → Grows role l N l' (N + distance l.credit.passed l'.credit.passed) → Now
  pass-flow told same grows =
      let one = same-some (sends e) told.frame f told.is_sent sent in
      let body : f.body ≡ Some (heard.Flow told.flow) = ap (λ (f : Frame). f.body) (sym one) ∙ told.body in
      let x = flow-met ca cb n e a b role name l l' told.flow known world t sb la lb found fl told.attached stays same same-ours grows told.count told.credit k in
      let m = x.met.link in
      let there = x.met.named in
      let to' : find (has_name (opposite role) name) (next_body (at cb b) (Some (heard.Flow told.flow)) f.payload).links ≡ Some m' =
      subst (λ (o : Option Performative). find (has_name (opposite role) name) (next_body (at cb b) o f.payload).links ≡ Some m') body to in
      let linked = flow-heard (opposite role) name (at cb b) told.flow (handle_of l.ours) f.payload m' x.met told.handle to' in
      let stayed : m.left ≡ false = sym (left-kept told.flow m) ∙ ap (λ (m : LinkView). m.left) linked ∙ stays' in
      let now : flowed told.flow m ≡ m' = sym (flow-open told.flow m stayed) ∙ linked in
      let role-is : m.role ≡ opposite role = role-of (opposite role, name) cb b m there in
      let credit : m'.credit ≡ credit_heard (opposite role) true told.flow m.credit =
      ap (λ (m : LinkView). m.credit) (sym now) ∙ (let o = x.ours in rw (o, role-is) refl) in
      to-other role name cb e' b l' (tally (role, name) ca (e ∷ a)) m m' there fm
      (flow-agrees role l N l' (tally (role, name) ca (e ∷ a)) m K told.flow (x.tells' stayed) m' (ap (λ (m : LinkView). m.receiving) (sym now)) credit)

  pass-transfer : TellsTransfer (next_delivery (at ca a)) l l' (sends e) → role ≡ Sender → l'.credit ≡ cond (is_some l.sending) l.credit (delivery_begun l.credit) → Now
  pass-transfer told is c =
      let one = same-some (sends e) told.frame f told.is_sent sent in
      let body : f.body ≡ Some (heard.Transfer told.transfer) = ap (λ (f : Frame). f.body) (sym one) ∙ told.body in
      let p = attached-ends l told.attached in
      let slot = slots-known ca cb n a b t lb role name in
      let x = is-met (opposite role) name (at cb b) l told.transfer.handle sb told.attached told.handle (ap (λ o. kept (shape o)) (sym found) ∙ slot.asked) in
      let m = x.link in
      let there = x.named in
      let to' : find (has_name (opposite role) name) (next_body (at cb b) (Some (heard.Transfer told.transfer)) f.payload).links ≡ Some m' =
      subst (λ (o : Option Performative). find (has_name (opposite role) name) (next_body (at cb b) o f.payload).links ≡ Some m') body to in
      let linked = transfer-heard (opposite role) name (at cb b) told.transfer f.payload m' x to' in
      let stayed : m.left ≡ false = sym (kept-left told.transfer m) ∙ ap (λ (m : LinkView). m.left) linked ∙ stays' in
      let now : received_on told.transfer f.payload m ≡ m' = sym (transfer-open told.transfer f.payload m stayed) ∙ linked in
      let old = k lb role name l m found there ours left' stayed in
      let carries : Carries l.ours told.transfer f.payload l.sending l'.sending = subst (λ (g : Frame). Carries l.ours told.transfer g.payload l.sending l'.sending) one told.carries in
      to-other role name cb e' b l' (tally (role, name) ca (e ∷ a)) m m' there fm (to-first role name ca e a l l' m' (K + distance m.credit.passed m'.credit.passed) found fl
      (subst (λ (m' : LinkView). Agreed role l' (N + distance l.credit.passed l'.credit.passed) m' (K + distance m.credit.passed m'.credit.passed)) now
      (subst (λ (r : Role). Agreed r l' (N + distance l.credit.passed l'.credit.passed) (received_on told.transfer f.payload m) (K + distance m.credit.passed (received_on told.transfer f.payload m).credit.passed)) (sym is)
      (transfer-agrees l l' N m K told.transfer f.payload c carries same-ours (subst (λ (r : Role). Agreed r l N m K) is old)))))
    where
      kept-left : (t : TransferBody) (m : LinkView) → (heard_on t f.payload m).left ≡ m.left
      kept-left t m = by m.left
        where
          by : (b : Bool) → (cond b m (received_on t f.payload m)).left ≡ m.left
          by true = refl
          by false = refl

  pass-goes : Goes role name (at ca a) (is_some (body_heard e.step)) l l' (sends e) → Tallied role l N → Now
  pass-goes g y = by g (goes-grows role name (at ca a) (is_some (body_heard e.step)) l l' (sends e) N g y)
    where
      by : Goes role name (at ca a) (is_some (body_heard e.step)) l l' (sends e) → Grows role l N l' (N + distance l.credit.passed l'.credit.passed) → Now
      by (rests c s r aside) grows =
          pass-aside aside (λ m x. rests-agrees role l l' N m K (λ h. ap (λ (c : CreditView). c.first_count) c) (ap (λ (c : CreditView). c.passed) c) (ap (λ (c : CreditView). c.credit) c) s same-ours x)
      by (tells j first p own' dr s r told) grows = pass-flow told s grows
      by (leaving gone both c mute) grows = absurd (cc (gone, stays))
      by (sending is c some r told) grows = pass-transfer told is c
      by (hearing j h first p numbers dr s theirs early (inl aside)) grows = pass-aside aside (λ m x. hearing-agrees role l l' N m K j first p numbers s same-ours y.small x)
      by (hearing j h first p numbers dr s theirs early (inr told)) grows = pass-flow told s grows

pub kept-left-none : (left' : Bool) (o : Option EndView) → o ≡ None → cond left' None o ≡ None
kept-left-none true o h = refl
kept-left-none false o h = h

pub kept-left-some : (left' : Bool) (o : Option EndView) → left' ≡ false → cond left' None o ≡ o
kept-left-some true o h = absurd (cc (h))
kept-left-some false o h = refl

known-pass : (ca cb : Config) (n : ℕ) (e : Entry) (a : List Entry) (e' : Entry) (b : List Entry) (f : Frame) → lag.Known sends hears IsFair CountsAgree (suc (suc n)) → World ca cb (suc n) (e ∷ a) b
    → Tight ca cb n a b → Moves cb e' b (e ∷ a) → sends e ≡ Some f → hears e' ≡ Some f → CountsAgree ca cb a b → CountsAgree ca cb (e ∷ a) (e' ∷ b)
known-pass ca cb n e a e' b f known world t mv' sent heard' k lives role name l' m' fl fm ours stays stays' = by (turn-of (role, name) ca e a fa)
  where
    fa : AllFair ca (e ∷ a)
    fa = (fair-both ca cb (suc n) (e ∷ a) b world).0

    fb : AllFair cb (e' ∷ b)
    fb = ((fair-both ca cb (suc n) (e ∷ a) b world).1, mv'.fair)

    lb : Lives b
    lb = (lives-goes e' b lives).lived

    after' : Tight ca cb (suc (suc n)) (e ∷ a) (e' ∷ b)
    after' =
        let all-heard : count sends a ≡ count hears b = t.tight in
        record { world = inr (world, mv'); tight = rw (sent, heard') (ap (λ k. k + 1) all-heard) }

    la : Lives (e ∷ a)
    la = behind-lives ca cb (suc (suc n)) (e ∷ a) (e' ∷ b) after' lives

    to : find (has_name (opposite role) name) (next_body (at cb b) f.body f.payload).links ≡ Some m'
    to =
        let x = one-more (opposite role, name) cb e' b fb in
        sym (ap (λ (v : View). find (has_name (opposite role) name) v.links) (x.goes_on ∙ heard-next (at cb b) e'.step f lb heard')) ∙ fm

    attached : (b' : AttachBody) (h : ℕ) → body_heard e'.step ≡ Some (heard.Attach b') → (slot_of role name (at ca a).links).ours ≡ None
        → link (role, name) ca (e ∷ a) ≡ Some (attached_by_us b' [] (or_this (link (role, name) ca a) (new_link h role name)))
        → Turn (opposite role) name (at cb b) (at cb (e' ∷ b)) (body_heard e'.step) (sends e') → Agreed role l' (tally (role, name) ca (e ∷ a)) m' (tally (opposite role, name) cb (e' ∷ b))
    attached b' h body free at' (away gone why) = absurd (cc (gone, fm))
    attached b' h body free at' (asks b'' f'' h'' none s body'' free'' to'') = absurd (cc (none, body))
    attached b' h body free at' (meets b'' h'' is s free'' to'') =
        let x : ◌≡◌ {A = Option Performative} (Some (heard.Attach b'')) (Some (heard.Attach b')) = sym is ∙ body in
        let one : b'' ≡ b' = cc x in
        attach-agrees role b' l' (tally (role, name) ca (e ∷ a)) m' (tally (opposite role, name) cb (e' ∷ b))
        (asked-fresh (role, name) ca e a b' h l' fa (link (role, name) ca a) refl free at' fl)
        (subst (λ (x : AttachBody). Met (opposite role) x m' (tally (opposite role, name) cb (e' ∷ b))) one (met-fresh (opposite role, name) cb e' b b'' h'' m' fb (link (opposite role, name) cb b) refl free'' to'' fm))
    attached b' h body free at' (goes m x found to'' o t' left' g) =
        let one = same-some (link (opposite role, name) cb (e' ∷ b)) x m' to'' fm in
        let before = slots-known ca cb n a b t lb role name in
        let now = slots-known ca cb (suc (suc n)) (e ∷ a) (e' ∷ b) after' lives role name in
        let none : m.theirs ≡ None = ap (λ o. (shape o).theirs) (sym found) ∙ sym before.asked ∙ kept-left-none (slot_of role name (at ca a).links).left (slot_of role name (at ca a).links).ours free in
        let none' : m'.theirs ≡ None = ap (λ (l : LinkView). l.theirs) (sym one) ∙ t' ∙ none in
        let some : l'.ours ≡ m'.theirs = sym (kept-left-some l'.left l'.ours stays) ∙ ap (λ o. kept (shape o)) (sym fl) ∙ now.asked ∙ ap (λ o. (shape o).theirs) fm in
        let no : is_some l'.ours ≡ false = ap (λ (o : Option EndView). is_some o) (some ∙ none') in
        absurd (cc (no, ours))

    by : Turn role name (at ca a) (at ca (e ∷ a)) (body_heard e.step) (sends e) → Agreed role l' (tally (role, name) ca (e ∷ a)) m' (tally (opposite role, name) cb (e' ∷ b))
    by (away gone why) = absurd (cc (gone, fl))
    by (asks b' f' h none s body free at') =
        let one = same-some (sends e) f' f s sent in
        let body' : body_heard e'.step ≡ Some (heard.Attach b') = heard-body e'.step f heard' ∙ (ap (λ (f : Frame). f.body) (sym one) ∙ body) in
        attached b' h body' free at' (turn-of (opposite role, name) cb e' b fb)
    by (meets b' h is none free at') = absurd (cc (none, sent))
    by (goes l x found at' o t' left' g) =
        let one = same-some (link (role, name) ca (e ∷ a)) x l' at' fl in
        let g' = subst (λ (x : LinkView). Goes role name (at ca a) (is_some (body_heard e.step)) l x (sends e)) one g in
        let some : is_some l.ours ≡ true = ap (λ (o : Option EndView). is_some o) (sym o) ∙ ap (λ (l : LinkView). is_some l.ours) one ∙ ours in
        let stayed : l.left ≡ false = left' (ap (λ (l : LinkView). l.left) one ∙ stays) in
        pass-goes ca cb n e a e' b f known world t sent k (one-more (role, name) ca e a fa).sound (one-more (opposite role, name) cb e' b fb).sound la lb role name l l' m' found fl fm to some (ap (λ (l : LinkView). l.ours) (sym one) ∙ o) stayed stays stays' g'
        (tallied (role, name) ca a fa.0 l found)

counts-kept : lag.IsKept sends hears IsFair CountsAgree
counts-kept =
    record {
      starts = λ ca cb lives role name l m f. absurd (cc (f));
      quiet = λ ca cb n e a b known w t m silent k. kept-quiet ca cb n e a b w silent k;
      ahead = λ ca cb n e a b known w t m deaf k. kept-ahead ca cb n e a b known w t deaf k;
      pass = λ ca cb n e a e' b f known w t m m' sent heard' k. known-pass ca cb n e a e' b f known w t m' sent heard' k;
    }

-- where b has heard all that a sent, and its session is not over, both know a link's counts and credit
pub counts-known : (ca cb : Config) (n : ℕ) (a b : List Entry) → Tight ca cb n a b → CountsAgree ca cb a b
counts-known ca cb n a b t = lag.exact sends hears IsFair CountsAgree counts-kept ca cb n a b t
