-- In every tight world the ends of a link agree on its counts and its credit.
use Rattle.std.proofs.Common.{suc, ◌≡◌, ◌≤◌, ℕ, ◌+◌, ◌&&◌, Bool, true, false, Option, Some, None, List, [], ◌∷◌, arith, refl, sym, ap, ◌∙◌, subst, find, is_some, nat_eq, nat_le, option_map}
use Rattle.std.specs.Cmp.Lexicographic.{pointwise}
use Rattle.amqp_flow.specs.Serial.{distance, wire}
use Rattle.amqp_performatives.specs.declared.bodies.Role.{Role}
use Rattle.amqp_performatives.specs.declared.bodies.Role.TheVariants.{Sender, Receiver}
use Rattle.amqp_performatives.specs.declared.bodies.AttachBody.{AttachBody}
use Rattle.amqp_performatives.specs.declared.performative.Performative.{Performative}
use Rattle.amqp_performatives.specs.declared.performative.Performative.TheVariants as heard
use Rattle.amqp_frames.specs.declared.frame.Frame.{Frame}
use Rattle.amqp_events.specs.Event.{Event}
use Rattle.amqp_events.specs.Joined.{Delivery}
use Rattle.amqp_rules.specs.declared.config.Config.{Config}
use Rattle.amqp_rules.specs.View.{EndView, LinkView, View, change_first, has_name, has_peer_handle, is_asked, is_asked_as, is_over, new_link, opposite, remove_first, same_role}
use Rattle.amqp_rules.specs.Answer.{is_dropped, next_body}
use Rattle.amqp_rules.specs.Attach.{attached_by_peer, attached_by_us, count_of}
use Rattle.amqp_rules.specs.Flow.{flow_link, flow_links}
use Rattle.amqp_rules.specs.PeerTransfer.{heard_on}
use Rattle.amqp_rules.specs.PeerDisposition.{told_more}
use Rattle.amqp_rules.specs.Deliveries.{sent_by_body}
use Rattle.amqp_rules.specs.Sound.{IsSound}
use Rattle.amqp_rules.proofs.Listed.{by-bool}
use Rattle.amqp_laws.specs.declared.entry.Entry.{Entry}
use Rattle.amqp_laws.specs.declared.entry.Step.{Step}
use Rattle.amqp_laws.specs.declared.entry.Step.TheVariants.{Opened, Own, Heard}
use Rattle.amqp_laws.specs.Transfers.{size_of}
use Rattle.amqp_laws.specs.At.{at}
use Rattle.amqp_laws.specs.Lawful.{next}
use Rattle.amqp_laws.proofs.Twice.{and-both}
use Rattle.amqp_pair_laws.specs.Moves.{count}
use Rattle.amqp_pair_laws.specs.World.{IsFair, Tight, World, frame_in, hears, sends}
use Rattle.amqp_pair_laws.proofs.Lag as lag
use Rattle.amqp_pair_laws.proofs.Slots.{Act, Agree, added, asks as asking, meets as meeting, idle, leaves as leaving', goes as going, kept}
use Rattle.amqp_pair_laws.proofs.SlotKept as slots
use Rattle.amqp_pair_laws.proofs.SlotOf.{shape, slot_of}
use Rattle.amqp_pair_laws.proofs.SlotActs.{AllFair, Lives, Meets, act, acts, opposite-same, other-unmet, st}
use Rattle.amqp_pair_laws.proofs.Named.{changed-other, found-passes, joined-other, named-is, or_this, removed-other}
use Rattle.amqp_pair_laws.proofs.Doing.{IsOther, peer-keeps}
use Rattle.amqp_pair_laws.proofs.Windows.{or-none}
use Rattle.amqp_pair_laws.proofs.Turns.{Fits, IsAsideIn, both_ends, by_handle}
use Rattle.amqp_pair_laws.proofs.TurnHeard.{flow-keeps, found-mapped, told-keeps, transfer-keeps}
use Rattle.amqp_pair_laws.proofs.Tallies.{IsIdle, added-none, asks_from, link, peer-same, since, tallied, tally, tally-from, tally-new, theirs-none, us-same}
use Rattle.amqp_pair_laws.proofs.Counts.{Agreed, Behind, behind-by}

-- the counts of the links of all slots
abbrev pub CountsAgree : Config → Config → List Entry → List Entry → Type 0
CountsAgree ca cb a b =
    Lives b → (role : Role) (name : List ℕ) (l m : LinkView) → link (role, name) ca a ≡ Some l → link (opposite role, name) cb b ≡ Some m → is_some l.ours ≡ true → l.left ≡ false → m.left ≡ false
    → Agreed role l (tally (role, name) ca a) m (tally (opposite role, name) cb b)

opposite-twice : (r : Role) → opposite (opposite r) ≡ r
opposite-twice Sender = refl
opposite-twice Receiver = refl

-- # No attach is on its way

added-still : (a : Act EndView) (l : List EndView) → added a l ≡ [] → added a [] ≡ []
added-still idle l none = refl
added-still (asking h) l none = absurd (cc (none))
added-still (meeting h) l none = refl
added-still leaving' l none = refl
added-still going l none = refl

pub asks-fewer : (i : Role × List ℕ) (c : Config) (n m : ℕ) (past : List Entry) → n ≤ m → asks_from i c n past ≡ [] → asks_from i c m past ≡ []
asks-fewer i c n m [] more none = refl
asks-fewer i c n m (e ∷ past) more none =
    by-bool (nat_le n (count sends past))
    (λ (t : nat_le n (count sends past) ≡ true).
    let k : added (act i c e past) (asks_from i c n past) ≡ [] = (let k = rw t at none in k) in
    let rest = asks-fewer i c n m past more (added-none (act i c e past) (asks_from i c n past) k) in
    by-bool (nat_le m (count sends past))
    (λ (u : nat_le m (count sends past) ≡ true). rw (u, rest) (added-still (act i c e past) (asks_from i c n past) k))
    (λ (u : nat_le m (count sends past) ≡ false). rw (u, rest) refl))
    (λ (f : nat_le n (count sends past) ≡ false).
    let k : asks_from i c n past ≡ [] = (let k = rw f at none in k) in
    let rest = asks-fewer i c n m past more k in
    let u : nat_le m (count sends past) ≡ false = above n m (count sends past) more f in
    rw (u, rest) refl)
  where
    above : (n m k : ℕ) → n ≤ m → nat_le n k ≡ false → nat_le m k ≡ false
    above n m k h f = grind (arith, h, f)

-- the other end of a link whose attaches were both sent and heard
pub record Answered (ca cb : Config) (a b : List Entry) (role : Role) (name : List ℕ) : Type 0 where
  pub none : asks_from (opposite role, name) cb (count hears a) b ≡ []
  pub ours : is_some (st (opposite role, name) cb b).ours ≡ true

pub answered-there : (ca cb : Config) (n : ℕ) (a b : List Entry) → Tight ca cb n a b → Lives b → (role : Role) (name : List ℕ) (l : LinkView) → link (role, name) ca a ≡ Some l → is_some l.theirs ≡ true → l.left ≡ false
    → Answered ca cb a b role name
answered-there ca cb n a b t lives role name l found some stays = by l.theirs refl some
  where
    agree : Agree (st (role, name) ca a) (st (opposite role, name) cb b) (asks_from (opposite role, name) cb (count hears a) b)
    agree = slots.slot-agrees sends hears IsFair Meets st act Lives acts ca cb n a b t (role, name) (opposite role, name) (refl, refl) lives

    by : (o : Option EndView) → l.theirs ≡ o → is_some o ≡ true → Answered ca cb a b role name
    by None e h = absurd (cc (h))
    by (Some g) e h =
        let k = agree.met g (ap (λ o. (shape o).theirs) found ∙ e) (ap (λ o. (shape o).left) found ∙ stays) in
        record { none = k.0; ours = ap (λ (o : Option EndView). is_some o) k.1 }

-- # The other cut

pub behind : (ca cb : Config) (n : ℕ) (a b : List Entry) → lag.Known sends hears IsFair CountsAgree (suc n) → World ca cb n a b → Lives a → Lives b → (role : Role) (name : List ℕ) (l m : LinkView)
    → link (role, name) ca a ≡ Some l → link (opposite role, name) cb b ≡ Some m → l.left ≡ false → is_some m.ours ≡ true → m.left ≡ false → asks_from (opposite role, name) cb (count hears a) b ≡ []
    → Behind role l (tally (role, name) ca a) m (tally (opposite role, name) cb b)
behind ca cb n a b known w la lb role name l m fl fm stays ours stays' none =
    let s = lag.star sends hears IsFair ca cb n a b w in
    let tight = s.behind.tight in
    let few : s.moves ≤ n = s.few in
    let fb = lag.all-fair sends hears IsFair cb ca n b a (lag.swapped sends hears IsFair ca cb n a b w) in
    let y = since (opposite role, name) cb (count hears a) s.early b s.is_tail tight fb lb none m fm ours stays' in
    let here : link (opposite (opposite role), name) ca a ≡ Some l = ap (λ (r : Role). link (r, name) ca a) (opposite-twice role) ∙ fl in
    let agreed = known cb ca s.moves s.early a (omega (arith, few)) s.behind la (opposite role) name y.link' l y.found here y.ours y.stays stays in
    let agreed' : Agreed (opposite role) y.link' (tally (opposite role, name) cb s.early) l (tally (role, name) ca a) =
    subst (λ (r : Role). Agreed (opposite role) y.link' (tally (opposite role, name) cb s.early) l (tally (r, name) ca a)) (opposite-twice role) agreed in
    behind-by role y.link' (tally (opposite role, name) cb s.early) l (tally (role, name) ca a) m (tally (opposite role, name) cb b) agreed' y.grows

-- # A frame that is of another link leaves the counts as they are

pub record Left (o : Option LinkView) (m' : LinkView) : Type 0 where
  pub before : LinkView
  pub found : o ≡ Some before
  pub credit : m'.credit ≡ before.credit
  pub receiving : m'.receiving ≡ before.receiving
  pub left' : m'.left ≡ before.left

left-same : (o o' : Option LinkView) (m' : LinkView) → o' ≡ o → o' ≡ Some m' → Left o m'
left-same o o' m' e h = record { before = m'; found = sym e ∙ h; credit = refl; receiving = refl; left' = refl }

no-change : {A : Type 0} (test : A → Bool) (change : A → A) (xs : List A) → find test xs ≡ None → change_first test change xs ≡ xs
no-change test change [] h = refl
no-change test change (x ∷ xs) h =
    by-bool (test x)
    (λ (t : test x ≡ true). let k = rw t at h in absurd (cc (k)))
    (λ (f : test x ≡ false). let k = rw f at h in rw f (ap (λ l. x ∷ l) (no-change test change xs k)))

no-removal : {A : Type 0} (test : A → Bool) (xs : List A) → find test xs ≡ None → remove_first test xs ≡ xs
no-removal test [] h = refl
no-removal test (x ∷ xs) h =
    by-bool (test x)
    (λ (t : test x ≡ true). let k = rw t at h in absurd (cc (k)))
    (λ (f : test x ≡ false). let k = rw f at h in rw f (ap (λ l. x ∷ l) (no-removal test xs k)))

-- the link that is found by a handle has another name
unmet : (role : Role) (name : List ℕ) (va vb : View) (h : ℕ) → IsSound va → IsSound vb → kept (slot_of role name va.links) ≡ (slot_of (opposite role) name vb.links).theirs → IsOther role name va (by_handle h)
    → (m : LinkView) → find (has_peer_handle h) vb.links ≡ Some m → has_name (opposite role) name m ≡ false
unmet role name va vb h sa sb k x m found =
    by-bool (has_name (opposite role) name m)
    (λ (n : has_name (opposite role) name m ≡ true). absurd (other-unmet role name va vb (by_handle h) sa sb x k m found n))
    (λ (n : has_name (opposite role) name m ≡ false). n)

pub aside-still : (role : Role) (name : List ℕ) (va vb : View) (body : Option Performative) (payload : List ℕ) (m' : LinkView) → IsSound va → IsSound vb
    → kept (slot_of role name va.links) ≡ (slot_of (opposite role) name vb.links).theirs → IsAsideIn role name va body → find (has_name (opposite role) name) (next_body vb body payload).links ≡ Some m'
    → Left (find (has_name (opposite role) name) vb.links) m'
aside-still role name va vb (Some (heard.Attach b)) payload m' sa sb k x is =
    let o = opposite-same role b.role in
    let differ : same_role (opposite role) (opposite b.role) && pointwise nat_eq name b.name ≡ false = rw o x in
    left-same (find (has_name (opposite role) name) vb.links) _ m'
    (joined-other vb (is_asked_as (opposite b.role) b.name) (opposite b.role) b.name (opposite role) name (attached_by_peer b) (peer-keeps b) (λ l h. (and-both (has_name (opposite b.role) b.name l) (is_asked l) h).0) differ) is
aside-still role name va vb (Some (heard.Flow w)) payload m' sa sb k x is = by w.handle x is
  where
    on : (h : ℕ) (o : Option LinkView) → find (has_peer_handle h) vb.links ≡ o → IsOther role name va (by_handle h)
        → find (has_name (opposite role) name) (change_first (has_peer_handle h) (flow_link w) vb.links) ≡ find (has_name (opposite role) name) vb.links
    on h None f x = ap (find (has_name (opposite role) name)) (no-change (has_peer_handle h) (flow_link w) vb.links f)
    on h (Some m) f x = changed-other (opposite role) name (has_peer_handle h) (flow_link w) vb.links m (flow-keeps w).named f (unmet role name va vb h sa sb k x m f)

    by : (h : Option ℕ) → IsAsideIn role name va (Some (heard.Flow (record w { handle = h }))) → find (has_name (opposite role) name) (flow_links w h vb.links) ≡ Some m' → Left (find (has_name (opposite role) name) vb.links) m'
    by None x is = left-same (find (has_name (opposite role) name) vb.links) _ m' refl is
    by (Some h) x is = left-same (find (has_name (opposite role) name) vb.links) _ m' (on h (find (has_peer_handle h) vb.links) refl x) is
aside-still role name va vb (Some (heard.Transfer t)) payload m' sa sb k x is = left-same (find (has_name (opposite role) name) vb.links) _ m' (on (find (has_peer_handle t.handle) vb.links) refl) is
  where
    on : (o : Option LinkView) → find (has_peer_handle t.handle) vb.links ≡ o
        → find (has_name (opposite role) name) (change_first (has_peer_handle t.handle) (heard_on t payload) vb.links) ≡ find (has_name (opposite role) name) vb.links
    on None f = ap (find (has_name (opposite role) name)) (no-change (has_peer_handle t.handle) (heard_on t payload) vb.links f)
    on (Some m) f = changed-other (opposite role) name (has_peer_handle t.handle) (heard_on t payload) vb.links m (transfer-keeps t payload).named f (unmet role name va vb t.handle sa sb k x m f)
aside-still role name va vb (Some (heard.Disposition d)) payload m' sa sb k x is = by (find (has_name (opposite role) name) vb.links) refl
  where
    e : Event
    e = sent_by_body vb (Some (heard.Disposition d))

    all : option_map (told_more e vb.sent) (find (has_name (opposite role) name) vb.links) ≡ Some m'
    all = sym (found-mapped (opposite role) name (told_more e vb.sent) vb.links (told-keeps e vb.sent)) ∙ is

    by : (o : Option LinkView) → find (has_name (opposite role) name) vb.links ≡ o → Left (find (has_name (opposite role) name) vb.links) m'
    by None f = let x : ◌≡◌ {A = Option LinkView} None (Some m') = sym (ap (option_map (told_more e vb.sent)) f) ∙ all in absurd (cc (x))
    by (Some m) f =
        let x : ◌≡◌ {A = Option LinkView} (Some (told_more e vb.sent m)) (Some m') = sym (ap (option_map (told_more e vb.sent)) f) ∙ all in
        let one : told_more e vb.sent m ≡ m' = cc x in
        record { before = m; found = f; credit = ap (λ (l : LinkView). l.credit) (sym one); receiving = ap (λ (l : LinkView). l.receiving) (sym one); left' = ap (λ (l : LinkView). l.left) (sym one) }
aside-still role name va vb (Some (heard.Detach d)) payload m' sa sb k x is = left-same (find (has_name (opposite role) name) vb.links) _ m' (on (find (has_peer_handle d.handle) vb.links) refl) is
  where
    on : (o : Option LinkView) → find (has_peer_handle d.handle) vb.links ≡ o → find (has_name (opposite role) name) (remove_first (has_peer_handle d.handle) vb.links) ≡ find (has_name (opposite role) name) vb.links
    on None f = ap (find (has_name (opposite role) name)) (no-removal (has_peer_handle d.handle) vb.links f)
    on (Some m) f = removed-other (opposite role) name (has_peer_handle d.handle) vb.links m f (unmet role name va vb d.handle sa sb k x m f)
aside-still role name va vb (Some (heard.End d)) payload m' sa sb k x is = absurd (cc (is))
aside-still role name va vb _ payload m' sa sb k x is = left-same (find (has_name (opposite role) name) vb.links) _ m' refl is

-- what is heard where the session is not over is not dropped
pub heard-next : (v : View) (step : Step) (f : Frame) → is_over v.session ≡ false → frame_in step ≡ Some f → next v step ≡ next_body v f.body f.payload
heard-next v (Opened told) f o is = absurd (cc (is))
heard-next v (Own op) f o is = absurd (cc (is))
heard-next v (Heard g) f o is =
    let one : g ≡ f = cc is in
    let unsent : v.session.end_sent ≡ false = (or-none v.session.end_sent v.session.end_heard o).0 in
    let kept' : is_dropped v g.body ≡ false = rw unsent refl in
    rw kept' (ap (λ (f : Frame). next_body v f.body f.payload) one)

-- # What an attach makes

pub record Fresh (l : LinkView) (n : ℕ) : Type 0 where
  pub none : n ≡ 0
  pub sending' : l.sending ≡ None
  pub receiving' : l.receiving ≡ None

pub same-some : {A : Type 0} (o : Option A) (x y : A) → o ≡ Some x → o ≡ Some y → x ≡ y
same-some {A = A} o x y a b = let e : ◌≡◌ {A = Option A} (Some x) (Some y) = sym a ∙ b in cc e

us-first : (b : AttachBody) (l : LinkView) → l.role ≡ Sender → (attached_by_us b [] l).credit.first_count ≡ wire (count_of b)
us-first b l is = rw is refl

pub us-kept : (b : AttachBody) (l : LinkView) → l.role ≡ Receiver → (attached_by_us b [] l).credit ≡ l.credit
us-kept b l is = rw is refl

peer-first : (b : AttachBody) (l : LinkView) → l.role ≡ Receiver → (attached_by_peer b l).credit.first_count ≡ wire (count_of b)
peer-first b l is = rw is refl

pub peer-kept : (b : AttachBody) (l : LinkView) → l.role ≡ Sender → (attached_by_peer b l).credit ≡ l.credit
peer-kept b l is = rw is refl

-- of the end that sends it
pub record Asked (role : Role) (b : AttachBody) (l : LinkView) (n : ℕ) : Type 0 where
  pub fresh : Fresh l n
  pub first : role ≡ Sender → l.credit.first_count ≡ wire (count_of b)
  pub credit : role ≡ Receiver → l.credit.credit ≡ 0

-- of the end that hears it
pub record Met (role : Role) (b : AttachBody) (l : LinkView) (n : ℕ) : Type 0 where
  pub fresh : Fresh l n
  pub first : role ≡ Receiver → l.credit.first_count ≡ wire (count_of b)
  pub credit : role ≡ Sender → l.credit.credit ≡ 0

idle-receiver : (role : Role) (l : LinkView) → role ≡ Receiver → IsIdle role l → both_ends l ≡ false → l.credit.credit ≡ 0
idle-receiver Sender l is k h = absurd (cc (is))
idle-receiver Receiver l is k h = k h

idle-sender : (role : Role) (l : LinkView) → role ≡ Sender → IsIdle role l → is_some l.theirs ≡ false → l.credit.credit ≡ 0
idle-sender Receiver l is k h = absurd (cc (is))
idle-sender Sender l is k h = k h

nothing-more : (n p q : ℕ) → n ≡ 0 → q ≡ p → n + distance p q ≡ 0
nothing-more n p q z e = omega (arith, z, e)

pub asked-fresh : (i : Role × List ℕ) (c : Config) (e : Entry) (past : List Entry) (b : AttachBody) (k : ℕ) (m : LinkView) → AllFair c (e ∷ past) → (o : Option LinkView) → link i c past ≡ o → (shape o).ours ≡ None
    → link i c (e ∷ past) ≡ Some (attached_by_us b [] (or_this o (new_link k i.0 i.1))) → link i c (e ∷ past) ≡ Some m → Asked i.0 b m (tally i c (e ∷ past))
asked-fresh i c e past b k m h None found free to is =
    let one = same-some (link i c (e ∷ past)) (attached_by_us b [] (new_link k i.0 i.1)) m to is in
    let s = us-same b (new_link k i.0 i.1) in
    subst (λ (m : LinkView). Asked i.0 b m (tally i c (e ∷ past))) one
    (record {
      fresh = record { none = tally-new i c e past found; sending' = s.sending'; receiving' = s.receiving' };
      first = λ r. us-first b (new_link k i.0 i.1) r;
      credit = λ r. s.credit;
    })
asked-fresh i c e past b k m h (Some l) found free to is =
    let one = same-some (link i c (e ∷ past)) (attached_by_us b [] l) m to is in
    let s = us-same b l in
    let t = tallied i c past h.0 l found in
    let f = t.fresh (rw free refl) in
    let role : l.role ≡ i.0 = (let n = named-is i.0 i.1 l (found-passes (has_name i.0 i.1) (at c past).links l found) in sym n.role_is) in
    subst (λ (m : LinkView). Asked i.0 b m (tally i c (e ∷ past))) one
    (record {
      fresh = record {
        none = tally-from i c e past l (attached_by_us b [] l) found to ∙ nothing-more (tally i c past) l.credit.passed (attached_by_us b [] l).credit.passed f.0 s.passed;
        sending' = s.sending' ∙ f.1.0;
        receiving' = s.receiving' ∙ f.1.1;
      };
      first = λ r. us-first b l (role ∙ r);
      credit = λ r. s.credit ∙ idle-receiver i.0 l r t.idle' (rw free refl);
    })

pub met-fresh : (i : Role × List ℕ) (c : Config) (e : Entry) (past : List Entry) (b : AttachBody) (k : ℕ) (m : LinkView) → AllFair c (e ∷ past) → (o : Option LinkView) → link i c past ≡ o → (shape o).theirs ≡ None
    → link i c (e ∷ past) ≡ Some (attached_by_peer b (or_this o (new_link k i.0 i.1))) → link i c (e ∷ past) ≡ Some m → Met i.0 b m (tally i c (e ∷ past))
met-fresh i c e past b k m h None found free to is =
    let one = same-some (link i c (e ∷ past)) (attached_by_peer b (new_link k i.0 i.1)) m to is in
    let s = peer-same b (new_link k i.0 i.1) in
    subst (λ (m : LinkView). Met i.0 b m (tally i c (e ∷ past))) one
    (record {
      fresh = record { none = tally-new i c e past found; sending' = s.sending'; receiving' = s.receiving' };
      first = λ r. peer-first b (new_link k i.0 i.1) r;
      credit = λ r. s.credit;
    })
met-fresh i c e past b k m h (Some l) found free to is =
    let one = same-some (link i c (e ∷ past)) (attached_by_peer b l) m to is in
    let s = peer-same b l in
    let t = tallied i c past h.0 l found in
    let f = t.fresh (theirs-none l free) in
    let role : l.role ≡ i.0 = (let n = named-is i.0 i.1 l (found-passes (has_name i.0 i.1) (at c past).links l found) in sym n.role_is) in
    subst (λ (m : LinkView). Met i.0 b m (tally i c (e ∷ past))) one
    (record {
      fresh = record {
        none = tally-from i c e past l (attached_by_peer b l) found to ∙ nothing-more (tally i c past) l.credit.passed (attached_by_peer b l).credit.passed f.0 s.passed;
        sending' = s.sending' ∙ f.1.0;
        receiving' = s.receiving' ∙ f.1.1;
      };
      first = λ r. peer-first b l (role ∙ r);
      credit = λ r. s.credit ∙ idle-sender i.0 l r t.idle' (rw free refl);
    })

-- an attach passes
pub attach-agrees : (role : Role) (b : AttachBody) (l : LinkView) (n : ℕ) (m : LinkView) (k : ℕ) → Asked role b l n → Met (opposite role) b m k → Agreed role l n m k
attach-agrees Sender b l n m k x y = (x.first refl ∙ sym (y.first refl), (x.fresh.none ∙ sym y.fresh.none, (x.fresh.sending' ∙ sym (ap (λ (d : Option Delivery). option_map size_of d) y.fresh.receiving'), subst (λ (d : Option Delivery). Fits l.ours d) (sym y.fresh.receiving') tt)))
attach-agrees Receiver b l n m k x y = by n k l.credit.credit m.credit.credit x.fresh.none y.fresh.none (x.credit refl) (y.credit refl)
  where
    by : (n k c d : ℕ) → n ≡ 0 → k ≡ 0 → c ≡ 0 → d ≡ 0 → n + c ≡ k + d
    by n k c d x y z w = omega (arith, x, y, z, w)
