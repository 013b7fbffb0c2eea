-- A tag that is free where a delivery begins is free where its first transfer is heard: so each transfer is taken.
use Rattle.std.proofs.Common.{suc, ◌≡◌, inl, inr, ℕ, ◌==◌, ◌&&◌, ◌||◌, Bool, true, false, not, Option, Some, None, List, [], ◌∷◌, refl, sym, ap, ◌∙◌, subst, find, is_some, nat_eq, unwrap_or}
use Rattle.std.proofs.lemmas.Bool.{eq-eqb, eqb-true}
use Rattle.std.specs.List.{list_any}
use Rattle.std.specs.Cmp.Lexicographic.{pointwise}
use Rattle.amqp_performatives.specs.declared.bodies.Role.{Role}
use Rattle.amqp_performatives.specs.declared.bodies.Role.TheVariants.{Sender, Receiver}
use Rattle.amqp_performatives.specs.declared.bodies.TransferBody.{TransferBody}
use Rattle.amqp_performatives.specs.declared.performative.Performative.{Performative}
use Rattle.amqp_performatives.specs.declared.performative.Performative.TheVariants as heard
use Rattle.amqp_frames.specs.declared.frame.Frame.{Frame}
use Rattle.amqp_events.specs.Event.{Item}
use Rattle.amqp_events.specs.Tags.{is_tagged}
use Rattle.amqp_events.specs.Told.{SentItem}
use Rattle.amqp_rules.specs.declared.config.Config.{Config}
use Rattle.amqp_rules.specs.View.{LinkView, View, has_handle, has_name, has_number, has_peer_handle, is_over, opposite}
use Rattle.amqp_rules.specs.Start.{tag_is_held}
use Rattle.amqp_rules.specs.PeerTransfer.{tag_is_taken}
use Rattle.amqp_rules.proofs.Listed.{by-bool}
use Rattle.amqp_laws.specs.declared.entry.Entry.{Entry}
use Rattle.amqp_laws.specs.Said.{body_heard, own_in, starts}
use Rattle.amqp_laws.specs.At.{at}
use Rattle.amqp_laws.specs.Lawful.{next}
use Rattle.amqp_laws.proofs.Twice.{and-both}
use Rattle.amqp_pair_laws.proofs.Plain.{no-start}
use Rattle.amqp_pair_laws.proofs.FrameKinds.{AreTaken, IsTransfer}
use Rattle.amqp_pair_laws.proofs.Named.{texts-same, texts-self}
use Rattle.amqp_pair_laws.proofs.SlotActs.{attached-ours, by-handle, its-handle, one-more}
use Rattle.amqp_pair_laws.proofs.Sends.{step-sending}
use Rattle.amqp_pair_laws.proofs.Next.{Next, next-of}
use Rattle.amqp_pair_laws.proofs.Tallies.{link, tally}
use Rattle.amqp_pair_laws.proofs.Counts.{Agreed}
use Rattle.amqp_pair_laws.proofs.CountsKnown.{same-some}
use Rattle.amqp_pair_laws.proofs.CountsKept.{fair-both}
use Rattle.amqp_pair_laws.proofs.CountsPass.{attached-ends, counts-known}
use Rattle.amqp_pair_laws.proofs.Expected.{began, later-none}
use Rattle.amqp_pair_laws.proofs.TransferMet.{Met, met-by, sizes-none}
use Rattle.amqp_pair_laws.proofs.TransferTaken.{IsFreshTag, transfer-taken}
use Rattle.amqp_pair_laws.proofs.Members.{In}
use Rattle.amqp_pair_laws.proofs.Closed.{no-id}
use Rattle.amqp_pair_laws.proofs.HeldKnown.{Partner, held-known}
use Rattle.amqp_pair_laws.proofs.NoneWait.{none-wait, none-waits-on}

-- one that passes the test
record Passes {A : Type 0} (test : A → Bool) (xs : List A) : Type 0 where
  member : A
  there : In member xs
  passes : test member ≡ true

any-in : {A : Type 0} (test : A → Bool) (xs : List A) → list_any test xs ≡ true → Passes test xs
any-in test [] h = absurd (cc (h))
any-in test (x ∷ xs) h =
    by-bool (test x)
    (λ (t : test x ≡ true). record { member = x; there = inl refl; passes = t })
    (λ (f : test x ≡ false).
    let k = rw f at h in
    let p = any-in test xs k in
    record { member = p.member; there = inr p.there; passes = p.passes })

in-any : {A : Type 0} (test : A → Bool) (xs : List A) (x : A) → In x xs → test x ≡ true → list_any test xs ≡ true
in-any test [] x h is = absurd h
in-any test (y ∷ ys) x (inl e) is = let t : test y ≡ true = ap test (sym e) ∙ is in rw t refl
in-any test (y ∷ ys) x (inr h) is = by (test y) (in-any test ys x h is)
  where
    by : (b : Bool) → list_any test ys ≡ true → b || list_any test ys ≡ true
    by true k = refl
    by false k = k

-- the tag of a delivery that is held on a link here is held there on the link of the name
tag-there : (va vb : View) (name : List ℕ) (x y : LinkView) (tag : List ℕ) → find (has_name Sender name) va.links ≡ Some x → ((u : Item) → In u vb.received → u.link ≡ y.number → Partner va name u)
    → list_any (is_tagged y.number tag) vb.received ≡ true → tag_is_held va x tag ≡ true
tag-there va vb name x y tag found partner h =
    let p = any-in (is_tagged y.number tag) vb.received h in
    let both = and-both (p.member.link == y.number) (pointwise nat_eq tag p.member.tag) p.passes in
    let s = partner p.member p.there (eqb-true p.member.link y.number both.0) in
    let one : s.link' ≡ x = same-some (find (has_name Sender name) va.links) s.link' x s.found found in
    let at-x : s.held.item.link ≡ x.number = s.on ∙ ap (λ (l : LinkView). l.number) one in
    let same : tag ≡ s.held.item.tag = texts-same tag p.member.tag both.1 ∙ sym s.tag in
    let any = in-any (λ (s : SentItem). is_tagged x.number tag s.item) va.sent s.held s.there (tagged s.held.item x.number tag at-x same) in
    rw any refl
  where
    tagged : (i : Item) (k : ℕ) (tag : List ℕ) → i.link ≡ k → tag ≡ i.tag → is_tagged k tag i ≡ true
    tagged i k tag at-k same = let e = eq-eqb i.link k at-k in let f : pointwise nat_eq tag i.tag ≡ true = ap (λ t. pointwise nat_eq t i.tag) same ∙ texts-self i.tag in rw (e, f) refl

and-none : (b : Bool) → b && false ≡ false
and-none true = refl
and-none false = refl

-- a first transfer has the tag that was free
fresh-by : (ca cb : Config) (b : List Entry) (f : Frame) (x : Next ca cb b f) (t : TransferBody) → f.body ≡ Some (heard.Transfer t) → is_over (at cb b).session ≡ false → (m : Met ca cb b f x t)
    → m.link'.left ≡ false → m.link'.receiving ≡ None → tag_is_taken (at cb b) m.link' t ≡ false
fresh-by ca cb b f x t body lives m stays first =
    let s = m.sent-on' in
    let l = s.link' in
    let y = m.link' in
    let p = attached-ends l s.attached in
    let fairs = fair-both ca cb (suc x.moves) (x.entry ∷ x.before) b x.whole in
    let fair = fairs.0 in
    let sound = (one-more (Sender, []) ca x.entry x.before fair).sound in
    let agreed : Agreed l.role l (tally (l.role, l.name) ca x.before) y (tally (opposite l.role, l.name) cb b) = counts-known ca cb x.moves x.before b x.tight lives l.role l.name l y s.found m.named p.0 p.1.1 stays in
    let agreed' : Agreed Sender l (tally (l.role, l.name) ca x.before) y (tally (opposite l.role, l.name) cb b) = subst (λ (r : Role). Agreed r l (tally (l.role, l.name) ca x.before) y (tally (opposite l.role, l.name) cb b)) s.role-is agreed in
    let fresh : is_some l.sending ≡ false = sizes-none l.sending y.receiving agreed'.1.1.0 first in
    let named = (s.says.names fresh).0 in
    by-bool (starts x.entry)
    (λ (st : starts x.entry ≡ true).
    let q = began v x.entry.step x.entry.reply f x.answers st x.sent in
    let same : q.transfer ≡ t = (let k : ◌≡◌ {A = Option Performative} (Some (heard.Transfer q.transfer)) (Some (heard.Transfer t)) = sym q.body ∙ body in cc k) in
    let here = by-handle v t.handle (has_number q.number) q.link sound q.found (its-handle q.link.ours t.handle (attached-ours q.link q.attached) (ap (λ (t : TransferBody). t.handle) (sym same) ∙ q.handle)) in
    let there = by-handle v t.handle (has_name l.role l.name) l sound s.found (its-handle l.ours t.handle p.0 s.handle) in
    let one : q.link ≡ l = same-some (find (has_handle t.handle) v.links) q.link l here there in
    let tag : unwrap_or t.delivery_tag [] ≡ q.tag = ap (λ (t : TransferBody). unwrap_or t.delivery_tag []) (sym same ∙ q.transfer-is) in
    let free : tag_is_held v l q.tag ≡ false = ap (λ (l : LinkView). tag_is_held v l q.tag) (sym one) ∙ q.free in
    let found : find (has_name Sender l.name) v.links ≡ Some l = ap (λ (r : Role). find (has_name r l.name) v.links) (sym s.role-is) ∙ s.found in
    let found' : link (Receiver, l.name) cb b ≡ Some y = ap (λ (r : Role). link (opposite r, l.name) cb b) (sym s.role-is) ∙ m.named in
    by-bool (list_any (is_tagged y.number q.tag) (at cb b).received)
    (λ (taken : list_any (is_tagged y.number q.tag) (at cb b).received ≡ true).
    let held = tag-there v (at cb b) l.name l y q.tag found (λ u in' on. held-known ca cb x.moves x.before b x.tight lives l.name y u found' in' on) taken in
    absurd (cc (held, free)))
    (λ (none : list_any (is_tagged y.number q.tag) (at cb b).received ≡ false). let none' = ap (λ tag. list_any (is_tagged y.number tag) (at cb b).received) tag ∙ none in
    let idle = none-waits-on (has_peer_handle t.handle) (at cb b).links y (none-wait cb b fairs.1) m.found in
    rw (none', idle) (and-none (not (unwrap_or t.resume false)))))
    (λ (st : starts x.entry ≡ false).
    let none = no-id f.body t (later-none v (next v x.entry.step) (body_heard x.entry.step) (own_in x.entry.step) x.entry.reply f (step-sending v x.entry.step x.entry.reply x.answers) (no-start x.entry st) x.sent) body in
    absurd (cc (none, named)))
  where
    v : View
    v = at ca x.before

-- the next frame, where it is a transfer, is no violation
pub transfers-taken : AreTaken IsTransfer
transfers-taken ca cb n a b f w waits of =
    let t = by f.body refl of in
    transfer-taken ca cb n a b f t.0 w waits t.1 (λ lives. fresh t.0 t.1 lives)
  where
    by : (body : Option Performative) → f.body ≡ body → IsTransfer body → (t : TransferBody) × (f.body ≡ Some (heard.Transfer t))
    by (Some (heard.Transfer t)) e k = (t, e)
    by _ e k = absurd k

    fresh : (t : TransferBody) → f.body ≡ Some (heard.Transfer t) → is_over (at cb b).session ≡ false → IsFreshTag (at cb b) t
    fresh t body lives y found stays first =
        let x = next-of ca cb n a b f w waits in
        let m = met-by ca cb b f x t body lives in
        let one : m.link' ≡ y = same-some (find (has_peer_handle t.handle) (at cb b).links) m.link' y m.found found in
        let free = fresh-by ca cb b f x t body lives m (ap (λ (l : LinkView). l.left) one ∙ stays) (ap (λ (l : LinkView). l.receiving) one ∙ first) in
        ap (λ (l : LinkView). tag_is_taken (at cb b) l t) (sym one) ∙ free
