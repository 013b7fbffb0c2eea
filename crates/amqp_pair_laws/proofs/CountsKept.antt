-- The claim over the counts of links is kept by each way in which a tight world goes on.
use Rattle.std.proofs.Common.{suc, ◌≡◌, ◌≤◌, ◌<◌, ℕ, ◌+◌, ◌^◌, ◌&&◌, Bool, true, false, cond, Option, Some, None, List, ◌∷◌, arith, refl, sym, ap, ◌∙◌, subst, is_some, []}
use Rattle.amqp_flow.specs.Serial.{distance}
use Rattle.amqp_flow.specs.Credit.{CreditView}
use Rattle.amqp_performatives.specs.declared.bodies.Role.{Role}
use Rattle.amqp_performatives.specs.declared.bodies.Role.TheVariants.{Sender, Receiver}
use Rattle.amqp_performatives.specs.declared.bodies.AttachBody.{AttachBody}
use Rattle.amqp_performatives.specs.declared.performative.Performative.{Performative}
use Rattle.amqp_rules.specs.declared.config.Config.{Config}
use Rattle.amqp_rules.specs.View.{EndView, LinkView, has_name, new_link, opposite}
use Rattle.amqp_rules.specs.Attach.{attached_by_peer, attached_by_us}
use Rattle.amqp_rules.proofs.Listed.{by-bool}
use Rattle.amqp_laws.specs.declared.entry.Entry.{Entry}
use Rattle.amqp_laws.specs.Said.{body_heard}
use Rattle.amqp_laws.specs.At.{at}
use Rattle.amqp_pair_laws.specs.Moves.{count}
use Rattle.amqp_pair_laws.specs.World.{IsFair, Tight, World, hears, sends}
use Rattle.amqp_pair_laws.proofs.Lag as lag
use Rattle.amqp_pair_laws.proofs.Slots.{kept}
use Rattle.amqp_pair_laws.proofs.SlotOf.{shape, slot_of}
use Rattle.amqp_pair_laws.proofs.SlotActs.{AllFair, Lives, slots-known}
use Rattle.amqp_pair_laws.proofs.Named.{found-passes, named-is, or_this}
use Rattle.amqp_pair_laws.proofs.Opens.{deaf-body}
use Rattle.amqp_pair_laws.proofs.Over.{behind-lives}
use Rattle.amqp_pair_laws.proofs.Windows.{lives-goes}
use Rattle.amqp_pair_laws.proofs.Turns.{Goes, Turn, asks, away, both_ends, goes, hearing, leaving, meets, rests, sending, tells}
use Rattle.amqp_pair_laws.proofs.Tallies.{IsSmall, link, peer-same, tallied, tally, tally-from, turn-of, us-same}
use Rattle.amqp_pair_laws.proofs.Counts.{Agreed, ahead-agrees, hearing-agrees, rests-agreed, rests-agrees, small-there}
use Rattle.amqp_pair_laws.proofs.CountsKnown.{CountsAgree, answered-there, behind, peer-kept, same-some, us-kept}

-- # One journal

pub fair-both : (ca cb : Config) (n : ℕ) (a b : List Entry) → World ca cb n a b → AllFair ca a × AllFair cb b
fair-both ca cb n a b w = (lag.all-fair sends hears IsFair ca cb n a b w, lag.all-fair sends hears IsFair cb ca n b a (lag.swapped sends hears IsFair ca cb n a b w))

pub small-of : (i : Role × List ℕ) (c : Config) (past : List Entry) (l : LinkView) → AllFair c past → link i c past ≡ Some l → IsSmall i.0 l
small-of i c past l h found = (tallied i c past h l found).small

pub role-of : (i : Role × List ℕ) (c : Config) (past : List Entry) (l : LinkView) → link i c past ≡ Some l → l.role ≡ i.0
role-of i c past l found = let n = named-is i.0 i.1 l (found-passes (has_name i.0 i.1) (at c past).links l found) in sym n.role_is

-- the first end has one entry more
pub to-first : (role : Role) (name : List ℕ) (c : Config) (e : Entry) (past : List Entry) (l l' m : LinkView) (k : ℕ) → link (role, name) c past ≡ Some l → link (role, name) c (e ∷ past) ≡ Some l'
    → Agreed role l' (tally (role, name) c past + distance l.credit.passed l'.credit.passed) m k → Agreed role l' (tally (role, name) c (e ∷ past)) m k
to-first role name c e past l l' m k found to a = subst (λ (n : ℕ). Agreed role l' n m k) (sym (tally-from (role, name) c e past l l' found to)) a

-- the other has
pub to-other : (role : Role) (name : List ℕ) (c : Config) (e : Entry) (past : List Entry) (l : LinkView) (n : ℕ) (m m' : LinkView) → link (opposite role, name) c past ≡ Some m → link (opposite role, name) c (e ∷ past) ≡ Some m'
    → Agreed role l n m' (tally (opposite role, name) c past + distance m.credit.passed m'.credit.passed) → Agreed role l n m' (tally (opposite role, name) c (e ∷ past))
to-other role name c e past l n m m' found to a = subst (λ (k : ℕ). Agreed role l n m' k) (sym (tally-from (opposite role, name) c e past m m' found to)) a

-- the first end meets the peer's attach
met-agrees : (role : Role) (b : AttachBody) (l : LinkView) (n : ℕ) (m : LinkView) (k : ℕ) → l.role ≡ role → Agreed role l n m k → Agreed role (attached_by_peer b l) (n + distance l.credit.passed (attached_by_peer b l).credit.passed) m k
met-agrees role b l n m k is a =
    let s = peer-same b l in
    rests-agrees role l (attached_by_peer b l) n m k (λ h. ap (λ (c : CreditView). c.first_count) (peer-kept b l (is ∙ h))) s.passed s.credit s.sending' refl a

opposite-sender : (r : Role) → r ≡ Sender → opposite r ≡ Receiver
opposite-sender Sender h = refl
opposite-sender Receiver h = absurd (cc (h))

-- the other end asks
asked-agrees : (role : Role) (b : AttachBody) (l : LinkView) (n : ℕ) (m : LinkView) (k : ℕ) → m.role ≡ opposite role → Agreed role l n m k → Agreed role l n (attached_by_us b [] m) (k + distance m.credit.passed (attached_by_us b [] m).credit.passed)
asked-agrees role b l n m k is a =
    let s = us-same b m in
    rests-agreed role l n m (attached_by_us b [] m) k (λ h. ap (λ (c : CreditView). c.first_count) (us-kept b m (is ∙ opposite-sender role h))) s.passed s.credit s.receiving' a

-- # The first end alone

pub kept-quiet : (ca cb : Config) (n : ℕ) (e : Entry) (a b : List Entry) → World ca cb (suc n) (e ∷ a) b → sends e ≡ None → CountsAgree ca cb a b → CountsAgree ca cb (e ∷ a) b
kept-quiet ca cb n e a b w silent k lives role name l' m fl fm ours stays stays' = by (turn-of (role, name) ca e a (fair-both ca cb (suc n) (e ∷ a) b w).0)
  where
    K : ℕ
    K = tally (opposite role, name) cb b

    old : (l : LinkView) → link (role, name) ca a ≡ Some l → is_some l.ours ≡ true → l.left ≡ false → Agreed role l (tally (role, name) ca a) m K
    old l found some left' = k lives role name l m found fm some left' stays'

    met : (o : Option LinkView) (b' : AttachBody) (h : ℕ) → link (role, name) ca a ≡ o → link (role, name) ca (e ∷ a) ≡ Some (attached_by_peer b' (or_this o (new_link h role name))) → Agreed role l' (tally (role, name) ca (e ∷ a)) m K
    met None b' h found to =
        let one = same-some (link (role, name) ca (e ∷ a)) (attached_by_peer b' (new_link h role name)) l' to fl in
        let none : is_some l'.ours ≡ false = ap (λ (l : LinkView). is_some l.ours) (sym one) in
        absurd (cc (none, ours))
    met (Some l) b' h found to =
        let one = same-some (link (role, name) ca (e ∷ a)) (attached_by_peer b' l) l' to fl in
        let some : is_some l.ours ≡ true = ap (λ (l : LinkView). is_some l.ours) one ∙ ours in
        let left' : l.left ≡ false = ap (λ (l : LinkView). l.left) one ∙ stays in
        let now = met-agrees role b' l (tally (role, name) ca a) m K (role-of (role, name) ca a l found) (old l found some left') in
        subst (λ (l' : LinkView). Agreed role l' (tally (role, name) ca (e ∷ a)) m K) one (to-first role name ca e a l (attached_by_peer b' l) m K found to now)

    on : (l : LinkView) → link (role, name) ca a ≡ Some l → l'.ours ≡ l.ours → Agreed role l (tally (role, name) ca a) m K → Goes role name (at ca a) (is_some (body_heard e.step)) l l' (sends e)
        → Agreed role l' (tally (role, name) ca a + distance l.credit.passed l'.credit.passed) m K
    on l found u x (rests c s r aside) =
        rests-agrees role l l' (tally (role, name) ca a) m K (λ h. ap (λ (c : CreditView). c.first_count) c) (ap (λ (c : CreditView). c.passed) c) (ap (λ (c : CreditView). c.credit) c) s u x
    on l found u x (tells j f p own' dr s r told) = let y = told.is_sent in absurd (cc (y, silent))
    on l found u x (leaving left' both c mute) = absurd (cc (left', stays))
    on l found u x (sending is c some r told) = let y = told.is_sent in absurd (cc (y, silent))
    on l found u x (hearing j h f p numbers dr s theirs early told) =
        hearing-agrees role l l' (tally (role, name) ca a) m K j f p numbers s u (small-of (role, name) ca a l (fair-both ca cb (suc n) (e ∷ a) b w).0.0 found) x

    by : Turn role name (at ca a) (at ca (e ∷ a)) (body_heard e.step) (sends e) → Agreed role l' (tally (role, name) ca (e ∷ a)) m K
    by (away gone why) = absurd (cc (gone, fl))
    by (asks b' f h none sent body free to) = absurd (cc (sent, silent))
    by (meets b' h none sent free to) = met (link (role, name) ca a) b' h refl to
    by (goes l x found to o t left' g) =
        let one = same-some (link (role, name) ca (e ∷ a)) x l' to fl in
        let g' = subst (λ (x : LinkView). Goes role name (at ca a) (is_some (body_heard e.step)) l x (sends e)) one g in
        let some : is_some l.ours ≡ true = ap (λ (o : Option EndView). is_some o) (sym o) ∙ ap (λ (l : LinkView). is_some l.ours) one ∙ ours in
        let stayed : l.left ≡ false = left' (ap (λ (l : LinkView). l.left) one ∙ stays) in
        to-first role name ca e a l l' m K found fl (on l found (ap (λ (l : LinkView). l.ours) (sym one) ∙ o) (old l found some stayed) g')

-- # The other end alone

few-here : (ca cb : Config) (n : ℕ) (a b : List Entry) → lag.Known sends hears IsFair CountsAgree (suc n) → Tight ca cb n a b → Lives b → (role : Role) (name : List ℕ) (l m : LinkView)
    → link (role, name) ca a ≡ Some l → link (opposite role, name) cb b ≡ Some m → l.left ≡ false → m.left ≡ false → Agreed role l (tally (role, name) ca a) m (tally (opposite role, name) cb b) → m.credit.credit < 2 ^ 32
few-here ca cb n a b known t lives Sender name l m fl fm stays stays' x =
    let s = small-of (Receiver, name) cb b m (fair-both ca cb n a b t.world).1 fm in below m.credit.credit s
  where
    below : (c : ℕ) → c ≤ 2147483647 → c < 2 ^ 32
    below c h = omega (arith, h)
few-here ca cb n a b known t lives Receiver name l m fl fm stays stays' x =
    let y = tallied (Receiver, name) ca a (fair-both ca cb n a b t.world).0 l fl in
    by-bool (is_some l.theirs)
    (λ (some : is_some l.theirs ≡ true).
    let k = answered-there ca cb n a b t lives Receiver name l fl some stays in
    let ours : is_some m.ours ≡ true = ap (λ o. is_some (shape o).ours) (sym fm) ∙ k.ours in
    let behind' = behind ca cb n a b known t.world (behind-lives ca cb n a b t lives) lives Receiver name l m fl fm stays ours stays' k.none in
    small-there l (tally (Receiver, name) ca a) m (tally (Sender, name) cb b) x behind' y.small)
    (λ (none : is_some l.theirs ≡ false).
    let apart : both_ends l ≡ false = and-none (is_some l.ours) (is_some l.theirs) none in
    let zero' = (y.fresh apart).0 in
    let none' = y.idle' apart in
    none-there (tally (Receiver, name) ca a) l.credit.credit (tally (Sender, name) cb b) m.credit.credit zero' none' x)
  where
    and-none : (a b : Bool) → b ≡ false → a && b ≡ false
    and-none true b h = h
    and-none false b h = refl

    none-there : (n c k d : ℕ) → n ≡ 0 → c ≡ 0 → n + c ≡ k + d → d < 2 ^ 32
    none-there n c k d x y z = omega (arith, x, y, z)

pub kept-ahead : (ca cb : Config) (n : ℕ) (e : Entry) (a b : List Entry) → lag.Known sends hears IsFair CountsAgree (suc n) → World ca cb (suc n) a (e ∷ b) → Tight ca cb n a b → hears e ≡ None → CountsAgree ca cb a b → CountsAgree ca cb a (e ∷ b)
kept-ahead ca cb n e a b known w t deaf k lives role name l m' fl fm ours stays stays' = by (turn-of (opposite role, name) cb e b (fair-both ca cb (suc n) a (e ∷ b) w).1)
  where
    none : body_heard e.step ≡ None
    none = deaf-body e.step deaf

    lived : Lives b
    lived = (lives-goes e b lives).lived

    N : ℕ
    N = tally (role, name) ca a

    old : (m : LinkView) → link (opposite role, name) cb b ≡ Some m → m.left ≡ false → Agreed role l N m (tally (opposite role, name) cb b)
    old m found left' = k lived role name l m fl found ours stays left'

    there : is_some m'.theirs ≡ true
    there =
        let all-heard : count sends a ≡ count hears b = t.tight in
        let same : count sends a ≡ count hears (e ∷ b) = rw deaf all-heard in
        let x = slots-known ca cb (suc n) a (e ∷ b) (record { world = w; tight = same }) lives role name in
        let mine : kept (slot_of role name (at ca a).links) ≡ l.ours = ap (λ o. kept (shape o)) fl ∙ by-left l.left l.ours stays in
        ap (λ (o : Option EndView). is_some o) (sym (ap (λ o. (shape o).theirs) fm)) ∙ ap (λ (o : Option EndView). is_some o) (sym x.asked ∙ mine) ∙ ours
      where
        by-left : (left' : Bool) (o : Option EndView) → left' ≡ false → cond left' None o ≡ o
        by-left true o h = absurd (cc (h))
        by-left false o h = refl

    asked : (o : Option LinkView) (b' : AttachBody) (h : ℕ) → link (opposite role, name) cb b ≡ o → link (opposite role, name) cb (e ∷ b) ≡ Some (attached_by_us b' [] (or_this o (new_link h (opposite role) name)))
        → Agreed role l N m' (tally (opposite role, name) cb (e ∷ b))
    asked None b' h found to =
        let one = same-some (link (opposite role, name) cb (e ∷ b)) (attached_by_us b' [] (new_link h (opposite role) name)) m' to fm in
        let none' : is_some m'.theirs ≡ false = ap (λ (l : LinkView). is_some l.theirs) (sym one) in
        let some = there in
        absurd (cc (none', some))
    asked (Some m) b' h found to =
        let one = same-some (link (opposite role, name) cb (e ∷ b)) (attached_by_us b' [] m) m' to fm in
        let left' : m.left ≡ false = ap (λ (l : LinkView). l.left) one ∙ stays' in
        let now = asked-agrees role b' l N m (tally (opposite role, name) cb b) (role-of (opposite role, name) cb b m found) (old m found left') in
        subst (λ (m' : LinkView). Agreed role l N m' (tally (opposite role, name) cb (e ∷ b))) one (to-other role name cb e b l N m (attached_by_us b' [] m) found to now)

    by : Turn (opposite role) name (at cb b) (at cb (e ∷ b)) (body_heard e.step) (sends e) → Agreed role l N m' (tally (opposite role, name) cb (e ∷ b))
    by (away gone why) = absurd (cc (gone, fm))
    by (asks b' f h none' sent body free to) = asked (link (opposite role, name) cb b) b' h refl to
    by (meets b' h is sent free to) = let x = none in absurd (cc (x, is))
    by (goes m x found to o t' left' g) =
        let one = same-some (link (opposite role, name) cb (e ∷ b)) x m' to fm in
        let g' = subst (λ (x : LinkView). Goes (opposite role) name (at cb b) (is_some (body_heard e.step)) m x (sends e)) one g in
        let alone : is_some (body_heard e.step) ≡ false = ap (λ (o : Option Performative). is_some o) none in
        let g'' = subst (λ (h : Bool). Goes (opposite role) name (at cb b) h m m' (sends e)) alone g' in
        let stayed : m.left ≡ false = left' (ap (λ (l : LinkView). l.left) one ∙ stays') in
        let x' = old m found stayed in
        let few = few-here ca cb n a b known t lived role name l m fl found stays stayed x' in
        to-other role name cb e b l N m m' found fm (ahead-agrees role name (at cb b) l N m m' (tally (opposite role, name) cb b) (sends e) g'' stays' few x')
