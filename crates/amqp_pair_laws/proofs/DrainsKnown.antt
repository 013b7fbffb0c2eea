-- A drain that is open at the receiver is wished at the sender which has heard all, as long as that one has credit left.
use Rattle.std.proofs.Common.{suc, ◌≡◌, ◌≤◌, ◌<◌, inl, inr, ℕ, ◌-◌, Bool, true, false, cond, Option, Some, None, List, [], ◌∷◌, arith, refl, sym, ap, ◌∙◌, subst, find, is_some, nat_lt, unwrap_or}
use Rattle.amqp_flow.specs.Credit.{CreditView, delivery_begun}
use Rattle.amqp_flow.specs.Receiver.{has_open_drain}
use Rattle.amqp_performatives.specs.declared.bodies.Role.TheVariants.{Sender, Receiver}
use Rattle.amqp_performatives.specs.declared.bodies.AttachBody.{AttachBody}
use Rattle.amqp_performatives.specs.declared.performative.Performative.{Performative}
use Rattle.amqp_performatives.specs.declared.performative.Performative.TheVariants as heard
use Rattle.amqp_frames.specs.declared.frame.Frame.{Frame}
use Rattle.amqp_rules.specs.declared.config.Config.{Config}
use Rattle.amqp_rules.specs.View.{EndView, LinkView, View, handle_of, has_name, new_link}
use Rattle.amqp_rules.specs.Answer.{next_body}
use Rattle.amqp_rules.specs.Attach.{attached_by_peer, attached_by_us}
use Rattle.amqp_rules.specs.Flow.{credit_heard}
use Rattle.amqp_laws.specs.declared.entry.Entry.{Entry}
use Rattle.amqp_laws.specs.Said.{body_heard}
use Rattle.amqp_laws.specs.At.{at}
use Rattle.amqp_laws.proofs.Twice.{and-both}
use Rattle.amqp_pair_laws.specs.World.{IsFair, Moves, Tight, World, hears, sends}
use Rattle.amqp_pair_laws.proofs.Lag as lag
use Rattle.amqp_pair_laws.proofs.Slots.{kept}
use Rattle.amqp_pair_laws.proofs.SlotOf.{shape}
use Rattle.amqp_pair_laws.proofs.SlotActs.{AllFair, Lives, is-met, one-more, slots-known}
use Rattle.amqp_pair_laws.proofs.Named.{or_this}
use Rattle.amqp_pair_laws.proofs.Opens.{deaf-body}
use Rattle.amqp_pair_laws.proofs.Windows.{lives-goes}
use Rattle.amqp_pair_laws.proofs.Turns.{Goes, HeardNumbers, IsAside, OwnNumbers, TellsFlow, Turn, asks, away, goes, hearing, leaving, meets, rests, sending, tells}
use Rattle.amqp_pair_laws.proofs.Tallies.{link, turn-of}
use Rattle.amqp_pair_laws.proofs.CountsKnown.{answered-there, aside-still, asked-fresh, heard-next, same-some}
use Rattle.amqp_pair_laws.proofs.CountsKept.{fair-both, role-of}
use Rattle.amqp_pair_laws.proofs.CountsPass.{attached-ends, flow-heard, flow-open, left-kept}

abbrev DrainsAgree : Config → Config → List Entry → List Entry → Type 0
DrainsAgree ca cb a b =
    Lives b → (name : List ℕ) (l m : LinkView) → link (Receiver, name) ca a ≡ Some l → link (Sender, name) cb b ≡ Some m → is_some l.ours ≡ true → l.left ≡ false → m.left ≡ false
    → has_open_drain l.credit ≡ true → 0 < m.credit.credit → m.credit.drain ≡ true

-- # Numbers

pub open-some : (c : CreditView) → has_open_drain c ≡ true → 0 < c.credit
open-some c h = let k = (and-both c.drain (nat_lt 0 c.credit) h).1 in grind (arith, k)

open-asks : (c : CreditView) → has_open_drain c ≡ true → c.drain ≡ true
open-asks c h = (and-both c.drain (nat_lt 0 c.credit) h).0

none-open : (c : CreditView) → c.credit ≡ 0 → has_open_drain c ≡ true → ⊥
none-open c none h = let some = open-some c h in absurd (omega (arith, none, some))

-- a drain that is open now was open where the credit was no less
was-open : (c c' : CreditView) → c'.drain ≡ c.drain → c'.credit ≤ c.credit → has_open_drain c' ≡ true → has_open_drain c ≡ true
was-open c c' same fewer h =
    let asks' : c.drain ≡ true = sym same ∙ open-asks c' h in
    let some : nat_lt 0 c.credit ≡ true = (let k = open-some c' h in grind (arith, k, fewer)) in
    rw (asks', some) refl

heard-fewer : (j : ℕ) (c c' : ℕ) → HeardNumbers Receiver j c c' → c' ≤ c
heard-fewer j c c' h = omega (arith, h)

own-some : (j : ℕ) (c c' : ℕ) → OwnNumbers Sender j c c' → 0 < c' → 0 < c
own-some j c c' h some = omega (arith, h, some)

-- # Attaches

peer-drain : (b : AttachBody) (l : LinkView) → l.role ≡ Receiver → ((attached_by_peer b l).credit.drain ≡ l.credit.drain) × ((attached_by_peer b l).credit.credit ≡ l.credit.credit)
peer-drain b l is = rw is (refl, refl)

us-drain : (b : AttachBody) (l : LinkView) → l.role ≡ Sender → ((attached_by_us b [] l).credit.drain ≡ l.credit.drain) × ((attached_by_us b [] l).credit.credit ≡ l.credit.credit)
us-drain b l is = rw is (refl, refl)

-- # The receiver alone

at-most : (x y : ℕ) → x ≡ y → x ≤ y
at-most x y e = omega (arith, e)

drains-quiet : (ca cb : Config) (n : ℕ) (e : Entry) (a b : List Entry) → World ca cb (suc n) (e ∷ a) b → sends e ≡ None → DrainsAgree ca cb a b → DrainsAgree ca cb (e ∷ a) b
drains-quiet ca cb n e a b w silent k lives name l' m fl fm ours stays stays' open' some = by (turn-of (Receiver, name) ca e a (fair-both ca cb (suc n) (e ∷ a) b w).0)
  where
    met : (o : Option LinkView) (b' : AttachBody) (h : ℕ) → link (Receiver, name) ca a ≡ o → link (Receiver, name) ca (e ∷ a) ≡ Some (attached_by_peer b' (or_this o (new_link h Receiver name))) → m.credit.drain ≡ true
    met None b' h found to =
        let one = same-some (link (Receiver, name) ca (e ∷ a)) (attached_by_peer b' (new_link h Receiver name)) l' to fl in
        absurd (none-open l'.credit (ap (λ (l : LinkView). l.credit.credit) (sym one)) open')
    met (Some l) b' h found to =
        let one = same-some (link (Receiver, name) ca (e ∷ a)) (attached_by_peer b' l) l' to fl in
        let d = peer-drain b' l (role-of (Receiver, name) ca a l found) in
        let same : l'.credit.drain ≡ l.credit.drain = ap (λ (l : LinkView). l.credit.drain) (sym one) ∙ d.0 in
        let few : l'.credit.credit ≡ l.credit.credit = ap (λ (l : LinkView). l.credit.credit) (sym one) ∙ d.1 in
        k lives name l m found fm (ap (λ (l : LinkView). is_some l.ours) one ∙ ours) (ap (λ (l : LinkView). l.left) one ∙ stays) stays' (was-open l.credit l'.credit same (at-most l'.credit.credit l.credit.credit few) open') some

    on : (l : LinkView) → Goes Receiver name (at ca a) (is_some (body_heard e.step)) l l' (sends e) → has_open_drain l.credit ≡ true
    on l (rests c s r aside) = ap has_open_drain (sym c) ∙ open'
    on l (tells j f p own' dr s r told) = let y = told.is_sent in absurd (cc (y, silent))
    on l (leaving left' both c mute) = absurd (cc (left', stays))
    on l (sending is c some' r told) = absurd (cc (is))
    on l (hearing j h f p numbers dr s theirs early told) = was-open l.credit l'.credit dr (heard-fewer j l.credit.credit l'.credit.credit numbers) open'

    by : Turn Receiver name (at ca a) (at ca (e ∷ a)) (body_heard e.step) (sends e) → m.credit.drain ≡ true
    by (away gone why) = absurd (cc (gone, fl))
    by (asks b' f h none sent body free to) = absurd (cc (sent, silent))
    by (meets b' h none sent free to) = met (link (Receiver, name) ca a) b' h refl to
    by (goes l x found to o t left' g) =
        let one = same-some (link (Receiver, name) ca (e ∷ a)) x l' to fl in
        let g' = subst (λ (x : LinkView). Goes Receiver name (at ca a) (is_some (body_heard e.step)) l x (sends e)) one g in
        let ours' : is_some l.ours ≡ true = ap (λ (o : Option EndView). is_some o) (sym o) ∙ ap (λ (l : LinkView). is_some l.ours) one ∙ ours in
        k lives name l m found fm ours' (left' (ap (λ (l : LinkView). l.left) one ∙ stays)) stays' (on l g') some

-- # The sender alone

drains-ahead : (ca cb : Config) (n : ℕ) (e : Entry) (a b : List Entry) → World ca cb (suc n) a (e ∷ b) → hears e ≡ None → DrainsAgree ca cb a b → DrainsAgree ca cb a (e ∷ b)
drains-ahead ca cb n e a b w deaf k lives name l m' fl fm ours stays stays' open' some = by (turn-of (Sender, name) cb e b (fair-both ca cb (suc n) a (e ∷ b) w).1)
  where
    none : body_heard e.step ≡ None
    none = deaf-body e.step deaf

    lived : Lives b
    lived = (lives-goes e b lives).lived

    old : (m : LinkView) → link (Sender, name) cb b ≡ Some m → m.left ≡ false → 0 < m.credit.credit → m.credit.drain ≡ true
    old m found left' some' = k lived name l m fl found ours stays left' open' some'

    none-left : (c : ℕ) → c ≡ 0 → 0 < c → ⊥
    none-left c e h = absurd (omega (arith, e, h))

    asked : (o : Option LinkView) (b' : AttachBody) (h : ℕ) → link (Sender, name) cb b ≡ o → link (Sender, name) cb (e ∷ b) ≡ Some (attached_by_us b' [] (or_this o (new_link h Sender name))) → m'.credit.drain ≡ true
    asked None b' h found to =
        let one = same-some (link (Sender, name) cb (e ∷ b)) (attached_by_us b' [] (new_link h Sender name)) m' to fm in
        absurd (none-left m'.credit.credit (ap (λ (l : LinkView). l.credit.credit) (sym one)) some)
    asked (Some m) b' h found to =
        let one = same-some (link (Sender, name) cb (e ∷ b)) (attached_by_us b' [] m) m' to fm in
        let d = us-drain b' m (role-of (Sender, name) cb b m found) in
        ap (λ (l : LinkView). l.credit.drain) (sym one) ∙ d.0
        ∙ old m found (ap (λ (l : LinkView). l.left) one ∙ stays') (subst (λ c. 0 < c) (ap (λ (l : LinkView). l.credit.credit) (sym one) ∙ d.1) some)

    begun : (unfinished : Bool) (c c' : CreditView) → c' ≡ cond unfinished c (delivery_begun c) → (c'.drain ≡ c.drain) × (c'.credit ≤ c.credit)
    begun true c c' is = (ap (λ (c : CreditView). c.drain) is, at-most c'.credit c.credit (ap (λ (c : CreditView). c.credit) is))
    begun false c c' is = (ap (λ (c : CreditView). c.drain) is, less c'.credit c.credit (ap (λ (c : CreditView). c.credit) is))
      where
        less : (x y : ℕ) → x ≡ y - 1 → x ≤ y
        less x y e = omega (arith, e)

    on : (m : LinkView) → link (Sender, name) cb b ≡ Some m → m.left ≡ false → Goes Sender name (at cb b) false m m' (sends e) → m'.credit.drain ≡ true
    on m found left' (rests c s r aside) =
        ap (λ (c : CreditView). c.drain) c ∙ old m found left' (subst (λ (n : ℕ). 0 < n) (ap (λ (c : CreditView). c.credit) c) some)
    on m found left' (tells j f p own' dr s r told) = dr some ∙ old m found left' (own-some j m.credit.credit m'.credit.credit own' some)
    on m found left' (leaving left'' both c mute) = absurd (cc (left'', stays'))
    on m found left' (sending is c some' r told) =
        let d = begun (is_some m.sending) m.credit m'.credit c in
        d.0 ∙ old m found left' (more m'.credit.credit m.credit.credit some d.1)
      where
        more : (x y : ℕ) → 0 < x → x ≤ y → 0 < y
        more x y h k = omega (arith, h, k)
    on m found left' (hearing j h f p numbers dr s theirs early told) = absurd (cc (h))

    by : Turn Sender name (at cb b) (at cb (e ∷ b)) (body_heard e.step) (sends e) → m'.credit.drain ≡ true
    by (away gone why) = absurd (cc (gone, fm))
    by (asks b' f h none' sent body free to) = asked (link (Sender, name) cb b) b' h refl to
    by (meets b' h is sent free to) = let x = none in absurd (cc (x, is))
    by (goes m x found to o t left' g) =
        let one = same-some (link (Sender, name) cb (e ∷ b)) x m' to fm in
        let g' = subst (λ (x : LinkView). Goes Sender name (at cb b) (is_some (body_heard e.step)) m x (sends e)) one g in
        let alone : is_some (body_heard e.step) ≡ false = ap (λ (o : Option Performative). is_some o) none in
        let g'' = subst (λ (h : Bool). Goes Sender name (at cb b) h m m' (sends e)) alone g' in
        on m found (left' (ap (λ (l : LinkView). l.left) one ∙ stays')) g''

-- # A frame passes

drains-pass : (ca cb : Config) (n : ℕ) (e : Entry) (a : List Entry) (e' : Entry) (b : List Entry) (f : Frame) → World ca cb (suc n) (e ∷ a) b → Tight ca cb n a b → Moves cb e' b (e ∷ a)
    → sends e ≡ Some f → hears e' ≡ Some f → DrainsAgree ca cb a b → DrainsAgree ca cb (e ∷ a) (e' ∷ b)
drains-pass ca cb n e a e' b f world t mv' sent heard' k lives name l' m' fl fm ours stays stays' open' some = by (turn-of (Receiver, name) ca e a fa)
  where
    fa : AllFair ca (e ∷ a)
    fa = (fair-both ca cb (suc n) (e ∷ a) b world).0

    fb : AllFair cb (e' ∷ b)
    fb = ((fair-both ca cb (suc n) (e ∷ a) b world).1, mv'.fair)

    lb : Lives b
    lb = (lives-goes e' b lives).lived

    to' : find (has_name Sender name) (next_body (at cb b) f.body f.payload).links ≡ Some m'
    to' =
        let x = one-more (Sender, name) cb e' b fb in
        sym (ap (λ (v : View). find (has_name Sender name) v.links) (x.goes_on ∙ heard-next (at cb b) e'.step f lb heard')) ∙ fm

    -- the frame is of another link
    aside-on : (l : LinkView) → link (Receiver, name) ca a ≡ Some l → is_some l.ours ≡ true → l.left ≡ false → has_open_drain l.credit ≡ true → IsAside Receiver name (at ca a) (sends e) → m'.credit.drain ≡ true
    aside-on l found ours' left' was aside =
        let slot = slots-known ca cb n a b t lb Receiver name in
        let y = aside-still Receiver name (at ca a) (at cb b) f.body f.payload m' (one-more (Receiver, name) ca e a fa).sound (one-more (Sender, name) cb e' b fb).sound slot.asked
        (subst (λ (o : Option Frame). IsAside Receiver name (at ca a) o) sent aside) to' in
        ap (λ (c : CreditView). c.drain) y.credit
        ∙ k lb name l y.before found y.found ours' left' (sym y.left' ∙ stays') was (subst (λ (n : ℕ). 0 < n) (ap (λ (c : CreditView). c.credit) y.credit) some)

    -- the flow asks for it
    told-on : (l : LinkView) → link (Receiver, name) ca a ≡ Some l → TellsFlow l l' (sends e) → m'.credit.drain ≡ true
    told-on l found told =
        let one = same-some (sends e) told.frame f told.is_sent sent in
        let body : f.body ≡ Some (heard.Flow told.flow) = ap (λ (f : Frame). f.body) (sym one) ∙ told.body in
        let p = attached-ends l told.attached in
        let slot = slots-known ca cb n a b t lb Receiver name in
        let met = is-met Sender name (at cb b) l (handle_of l.ours) (one-more (Sender, name) cb e' b fb).sound told.attached refl (ap (λ o. kept (shape o)) (sym found) ∙ slot.asked) in
        let y = answered-there ca cb n a b t lb Receiver name l found p.1.0 p.1.1 in
        let m = met.link in
        let ours' : is_some m.ours ≡ true = ap (λ o. is_some (shape o).ours) (sym met.named) ∙ y.ours in
        let linked = flow-heard Sender name (at cb b) told.flow (handle_of l.ours) f.payload m' met told.handle
        (subst (λ (o : Option Performative). find (has_name Sender name) (next_body (at cb b) o f.payload).links ≡ Some m') body to') in
        let stayed : m.left ≡ false = sym (left-kept told.flow m) ∙ ap (λ (m : LinkView). m.left) linked ∙ stays' in
        let now = sym (flow-open told.flow m stayed) ∙ linked in
        let role-is : m.role ≡ Sender = role-of (Sender, name) cb b m met.named in
        let credit : m'.credit ≡ credit_heard Sender true told.flow m.credit = ap (λ (m : LinkView). m.credit) (sym now) ∙ rw (ours', role-is) refl in
        ap (λ (c : CreditView). c.drain) credit ∙ ap (λ (o : Option Bool). unwrap_or o false) (told.drains (role-of (Receiver, name) ca (e ∷ a) l' fl) open')

    on : (l : LinkView) → link (Receiver, name) ca a ≡ Some l → is_some l.ours ≡ true → l.left ≡ false → Goes Receiver name (at ca a) (is_some (body_heard e.step)) l l' (sends e) → m'.credit.drain ≡ true
    on l found ours' left' (rests c s r aside) = aside-on l found ours' left' (ap has_open_drain (sym c) ∙ open') aside
    on l found ours' left' (tells j first p own' dr s r told) = told-on l found told
    on l found ours' left' (leaving gone both c mute) = absurd (cc (gone, stays))
    on l found ours' left' (sending is c some' r told) = absurd (cc (is))
    on l found ours' left' (hearing j h first p numbers dr s theirs early (inl aside)) =
        aside-on l found ours' left' (was-open l.credit l'.credit dr (heard-fewer j l.credit.credit l'.credit.credit numbers) open') aside
    on l found ours' left' (hearing j h first p numbers dr s theirs early (inr told)) = told-on l found told

    by : Turn Receiver name (at ca a) (at ca (e ∷ a)) (body_heard e.step) (sends e) → m'.credit.drain ≡ true
    by (away gone why) = absurd (cc (gone, fl))
    by (asks b' f' h none s body free at') =
        let x = asked-fresh (Receiver, name) ca e a b' h l' fa (link (Receiver, name) ca a) refl free at' fl in
        absurd (none-open l'.credit (x.credit refl) open')
    by (meets b' h is none free at') = absurd (cc (none, sent))
    by (goes l x found at' o t' left' g) =
        let one = same-some (link (Receiver, name) ca (e ∷ a)) x l' at' fl in
        let g' = subst (λ (x : LinkView). Goes Receiver name (at ca a) (is_some (body_heard e.step)) l x (sends e)) one g in
        let ours' : is_some l.ours ≡ true = ap (λ (o : Option EndView). is_some o) (sym o) ∙ ap (λ (l : LinkView). is_some l.ours) one ∙ ours in
        on l found ours' (left' (ap (λ (l : LinkView). l.left) one ∙ stays)) g'

drains-kept : lag.IsKept sends hears IsFair DrainsAgree
drains-kept =
    record {
      starts = λ ca cb lives name l m f. absurd (cc (f));
      quiet = λ ca cb n e a b known w t m silent k. drains-quiet ca cb n e a b w silent k;
      ahead = λ ca cb n e a b known w t m deaf k. drains-ahead ca cb n e a b w deaf k;
      pass = λ ca cb n e a e' b f known w t m m' sent heard' k. drains-pass ca cb n e a e' b f w t m' sent heard' k;
    }

-- where b has heard all that a sent, and its session is not over, b wishes each drain that is open at a, as long as it has credit
pub drains-known : (ca cb : Config) (n : ℕ) (a b : List Entry) → Tight ca cb n a b → DrainsAgree ca cb a b
drains-known ca cb n a b t = lag.exact sends hears IsFair DrainsAgree drains-kept ca cb n a b t
