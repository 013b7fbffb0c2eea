-- The slot of a role and a name in a session: steps that send and hear no attach, detach or end leave it as it is.
use Rattle.std.proofs.Common.{◌≡◌, ℕ, Bool, true, false, cond, Option, Some, None, List, [], ◌∷◌, refl, find, map}
use Rattle.amqp_performatives.specs.declared.bodies.Role.{Role}
use Rattle.amqp_performatives.specs.declared.performative.Performative.{Performative}
use Rattle.amqp_performatives.specs.declared.performative.Performative.TheVariants as heard
use Rattle.amqp_rules.specs.declared.op.Op.{Op}
use Rattle.amqp_rules.specs.declared.op.Op.TheVariants.{Begin, Attach, Start, Carry, Abort, Dispose, Learn, Grant, Offer, Drained, Refresh, Take, Detach, Suspend, Rejoin, Resume, End, Beat}
use Rattle.amqp_rules.specs.View.{EndView, LinkView, View, change_first, has_name, has_peer_handle}
use Rattle.amqp_rules.specs.Answer.{next_body, next_own}
use Rattle.amqp_rules.specs.Flow.{flow_link, flow_links, flowed}
use Rattle.amqp_rules.specs.PeerTransfer.{heard_on, received_on}
use Rattle.amqp_rules.specs.PeerDisposition.{told_more}
use Rattle.amqp_rules.specs.Deliveries.{sent_by_body}
use Rattle.amqp_rules.proofs.Listed.{by-bool}
use Rattle.amqp_pair_laws.proofs.Slots.{Slot, no_slot}

abbrev pub shape : Option LinkView → Slot EndView
shape None = no_slot
shape (Some l) = record { ours = l.ours; theirs = l.theirs; left = l.left }

-- the slot, by the links that are not gone
abbrev pub slot_of : Role → List ℕ → List LinkView → Slot EndView
slot_of role name links = shape (find (has_name role name) links)

pub record KeepsSlot (change : LinkView → LinkView) : Type 0 where
  pub role : (l : LinkView) → (change l).role ≡ l.role
  pub name : (l : LinkView) → (change l).name ≡ l.name
  pub shows : (l : LinkView) → shape (Some (change l)) ≡ shape (Some l)

named-same : (role : Role) (name : List ℕ) (change : LinkView → LinkView) → KeepsSlot change → (l : LinkView) → has_name role name (change l) ≡ has_name role name l
named-same role name change k l = let r = k.role l in let n = k.name l in rw (r, n) refl

pub slot-changed : (role : Role) (name : List ℕ) (test : LinkView → Bool) (change : LinkView → LinkView) (links : List LinkView) → KeepsSlot change
    → slot_of role name (change_first test change links) ≡ slot_of role name links
slot-changed role name test change [] k = refl
slot-changed role name test change (l ∷ links) k =
    let same = named-same role name change k l in
    by-bool (test l)
    (λ (t : test l ≡ true).
    by-bool (has_name role name l)
    (λ (h : has_name role name l ≡ true). rw (t, same, h) (k.shows l))
    (λ (h : has_name role name l ≡ false). rw (t, same, h) refl))
    (λ (t : test l ≡ false).
    by-bool (has_name role name l)
    (λ (h : has_name role name l ≡ true). rw (t, h) refl)
    (λ (h : has_name role name l ≡ false). rw (t, h) (slot-changed role name test change links k)))

pub slot-mapped : (role : Role) (name : List ℕ) (change : LinkView → LinkView) (links : List LinkView) → KeepsSlot change → slot_of role name (map change links) ≡ slot_of role name links
slot-mapped role name change [] k = refl
slot-mapped role name change (l ∷ links) k =
    let same = named-same role name change k l in
    by-bool (has_name role name l)
    (λ (h : has_name role name l ≡ true). rw (same, h) (k.shows l))
    (λ (h : has_name role name l ≡ false). rw (same, h) (slot-mapped role name change links k))

-- operations that send neither attach, detach nor end
abbrev pub IsIdle : Op → Type 0
IsIdle (Attach name role snd rcv source target count max_message) = ⊥
IsIdle (Detach link error) = ⊥
IsIdle (Suspend link) = ⊥
IsIdle (Rejoin r) = ⊥
IsIdle (Resume link tag settled) = ⊥
IsIdle (End error) = ⊥
IsIdle _ = Unit {0}

plain : (change : LinkView → LinkView) → ((l : LinkView) → (change l).role ≡ l.role) → ((l : LinkView) → (change l).name ≡ l.name) → ((l : LinkView) → shape (Some (change l)) ≡ shape (Some l)) → KeepsSlot change
plain change r n s = record { role = r; name = n; shows = s }

pub own-idle : (role : Role) (name : List ℕ) (v : View) (op : Op) → IsIdle op → slot_of role name (next_own v op).links ≡ slot_of role name v.links
own-idle role name v Begin i = refl
own-idle role name v (Attach name' role' snd rcv source target count max_message) i = absurd i
own-idle role name v (Start link tag format settled payload more) i = slot-changed role name _ _ v.links (plain _ (λ l. refl) (λ l. refl) (λ l. refl))
own-idle role name v (Carry link payload more) i = slot-changed role name _ _ v.links (plain _ (λ l. refl) (λ l. refl) (λ l. refl))
own-idle role name v (Abort link) i = slot-changed role name _ _ v.links (plain _ (λ l. refl) (λ l. refl) (λ l. refl))
own-idle role name v (Dispose role' first last settled state) i = refl
own-idle role name v (Learn link) i = slot-changed role name _ _ v.links (plain _ (λ l. refl) (λ l. refl) (λ l. refl))
own-idle role name v (Grant link credit drain echo) i = slot-changed role name _ _ v.links (plain _ (λ l. refl) (λ l. refl) (λ l. refl))
own-idle role name v (Offer link available) i = slot-changed role name _ _ v.links (plain _ (λ l. refl) (λ l. refl) (λ l. refl))
own-idle role name v (Drained link) i = slot-changed role name _ _ v.links (plain _ (λ l. refl) (λ l. refl) (λ l. refl))
own-idle role name v (Refresh echo) i = refl
own-idle role name v (Take link) i = slot-changed role name _ _ v.links (plain _ (λ l. refl) (λ l. refl) (λ l. refl))
own-idle role name v (Detach link error) i = absurd i
own-idle role name v (Suspend link) i = absurd i
own-idle role name v (Rejoin r) i = absurd i
own-idle role name v (Resume link tag settled) i = absurd i
own-idle role name v (End error) i = absurd i
own-idle role name v Beat i = refl

unless-left : (change : LinkView → LinkView) → KeepsSlot change → KeepsSlot (λ l. cond l.left l (change l))
unless-left change k = record { role = λ l. r l l.left; name = λ l. n l l.left; shows = λ l. s l l.left }
  where
    r : (l : LinkView) (b : Bool) → (cond b l (change l)).role ≡ l.role
    r l true = refl
    r l false = k.role l

    n : (l : LinkView) (b : Bool) → (cond b l (change l)).name ≡ l.name
    n l true = refl
    n l false = k.name l

    s : (l : LinkView) (b : Bool) → shape (Some (cond b l (change l))) ≡ shape (Some l)
    s l true = refl
    s l false = k.shows l

-- bodies that are neither attach, detach nor end
abbrev pub IsIdleBody : Option Performative → Type 0
IsIdleBody (Some (heard.Attach b)) = ⊥
IsIdleBody (Some (heard.Detach b)) = ⊥
IsIdleBody (Some (heard.End b)) = ⊥
IsIdleBody _ = Unit {0}

pub body-idle : (role : Role) (name : List ℕ) (v : View) (body : Option Performative) (payload : List ℕ) → IsIdleBody body → slot_of role name (next_body v body payload).links ≡ slot_of role name v.links
body-idle role name v (Some (heard.Attach b)) payload i = absurd i
body-idle role name v (Some (heard.Detach b)) payload i = absurd i
body-idle role name v (Some (heard.End b)) payload i = absurd i
body-idle role name v (Some (heard.Flow b)) payload i = by b.handle
  where
    by : (h : Option ℕ) → slot_of role name (flow_links b h v.links) ≡ slot_of role name v.links
    by None = refl
    by (Some h) = slot-changed role name (has_peer_handle h) (flow_link b) v.links (unless-left (flowed b) (plain (flowed b) (λ l. refl) (λ l. refl) (λ l. refl)))
body-idle role name v (Some (heard.Transfer b)) payload i =
    slot-changed role name (has_peer_handle b.handle) (heard_on b payload) v.links (unless-left (received_on b payload) (plain (received_on b payload) (λ l. refl) (λ l. refl) (λ l. refl)))
body-idle role name v (Some (heard.Disposition b)) payload i =
    slot-mapped role name (told_more (sent_by_body v (Some (heard.Disposition b))) v.sent) v.links (plain (told_more (sent_by_body v (Some (heard.Disposition b))) v.sent) (λ l. refl) (λ l. refl) (λ l. refl))
body-idle role name v _ payload i = refl
