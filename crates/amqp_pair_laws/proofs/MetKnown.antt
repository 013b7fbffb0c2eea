-- What an end still holds of what it sent is held by the other end, too, which has heard of it, unless that end settled it or has left the link.
use Rattle.std.proofs.Common.{suc, ◌≡◌, ◌⊎◌, inl, inr, ℕ, ◌==◌, ◌||◌, Bool, true, false, cond, Option, Some, None, List, [], ◌∷◌, refl, sym, ap, ◌∙◌, subst, find, is_some, option_map, unwrap_or}
use Rattle.std.proofs.lemmas.Bool.{eq-eqb, eqb-true}
use Rattle.amqp_flow.specs.Serial.{is_inside}
use Rattle.amqp_performatives.specs.declared.bodies.Role.{Role}
use Rattle.amqp_performatives.specs.declared.bodies.Role.TheVariants.{Sender, Receiver}
use Rattle.amqp_performatives.specs.declared.bodies.DispositionBody.{DispositionBody}
use Rattle.amqp_performatives.specs.declared.bodies.TransferBody.{TransferBody}
use Rattle.amqp_performatives.specs.declared.state.DeliveryState.{DeliveryState}
use Rattle.amqp_performatives.specs.declared.performative.Performative.{Performative}
use Rattle.amqp_performatives.specs.declared.performative.Performative.TheVariants as heard
use Rattle.amqp_frames.specs.declared.frame.Frame.{Frame}
use Rattle.amqp_events.specs.Event.{Item, Leaves, Over, PassesOver}
use Rattle.amqp_events.specs.Joined.{Delivery}
use Rattle.amqp_events.specs.Told.{SentItem}
use Rattle.amqp_events.specs.Unsettled.{begins, ends}
use Rattle.amqp_rules.specs.declared.config.Config.{Config}
use Rattle.amqp_rules.specs.declared.op.Op.{Op}
use Rattle.amqp_rules.specs.declared.op.Op.TheVariants as own
use Rattle.amqp_rules.specs.declared.reply.Reply.{Reply}
use Rattle.amqp_rules.specs.declared.reply.Given.TheVariants as given
use Rattle.amqp_rules.specs.View.{LinkView, View, handle_of, has_name, has_number, has_peer_handle, is_attached, next_delivery, rcv_mode}
use Rattle.amqp_rules.specs.Sending.{frame_of, sends as sends'}
use Rattle.amqp_rules.specs.Telling.{flag}
use Rattle.amqp_rules.specs.Carry.{carry_refusals, later_body}
use Rattle.amqp_rules.specs.Deliveries.{begun_on, belongs_to, continued_on, disposition_of, heard_of, item_of, left_by_peer, received_by_body, said_of, sending_on, transfer_on, transferred}
use Rattle.amqp_rules.specs.Sound.{IsSound}
use Rattle.amqp_rules.proofs.Accepted.{on-link-ok, sends-ok}
use Rattle.amqp_rules.proofs.Listed.{by-bool}
use Rattle.amqp_laws.specs.declared.entry.Entry.{Entry}
use Rattle.amqp_laws.specs.declared.entry.Step.{Step}
use Rattle.amqp_laws.specs.declared.entry.Step.TheVariants.{Opened, Own, Heard}
use Rattle.amqp_laws.specs.Said.{body_heard, is_start, own_in}
use Rattle.amqp_laws.specs.Transfers.{size_of}
use Rattle.amqp_laws.specs.At.{at, received_by, sent_by}
use Rattle.amqp_laws.specs.Lawful.{next}
use Rattle.amqp_laws.proofs.Twice.{and-both}
use Rattle.amqp_pair_laws.proofs.Plain.{OwnAnswers, due, no-start, start-starts}
use Rattle.amqp_pair_laws.specs.Moves.{count}
use Rattle.amqp_pair_laws.specs.World.{IsFair, Moves, Tight, World, frame_among, frame_in, hears, sends}
use Rattle.amqp_pair_laws.proofs.Settles.{settles_by, was_settled}
use Rattle.amqp_pair_laws.proofs.Lag as lag
use Rattle.amqp_pair_laws.proofs.Slots.{kept}
use Rattle.amqp_pair_laws.proofs.SlotOf.{shape}
use Rattle.amqp_pair_laws.proofs.Named.{found-passes, name-self, named-found}
use Rattle.amqp_pair_laws.proofs.Sends.{IsOf, is_carrier, step-sending}
use Rattle.amqp_pair_laws.proofs.SlotActs.{AllFair, Lives, OneMore, is-met, one-more, slots-known}
use Rattle.amqp_pair_laws.proofs.Windows.{lives-goes, or-none}
use Rattle.amqp_pair_laws.proofs.Over.{behind-lives}
use Rattle.amqp_pair_laws.proofs.TurnOwn.{later_transfer}
use Rattle.amqp_pair_laws.proofs.Tallies.{link}
use Rattle.amqp_pair_laws.proofs.CountsKnown.{same-some}
use Rattle.amqp_pair_laws.proofs.CountsKept.{fair-both}
use Rattle.amqp_pair_laws.proofs.CountsPass.{attached-ends, counts-known}
use Rattle.amqp_pair_laws.proofs.Expected.{began, quiet-starts}
use Rattle.amqp_pair_laws.proofs.Members.{In, Was}
use Rattle.amqp_pair_laws.proofs.LinkSteps.{GoesOn, link-step, one-number, stays-on}
use Rattle.amqp_pair_laws.proofs.HeldSteps.{HeldStep, begins-ours, held-step}
use Rattle.amqp_pair_laws.proofs.Closed.{disposed-by, heard-body'}
use Rattle.amqp_pair_laws.proofs.Attached.{link-before}
use Rattle.amqp_pair_laws.proofs.HeldKnown.{abort-sent, one-sound, own-answers}
use Rattle.amqp_pair_laws.proofs.TakenKnown.{OtherWas, other-was}
use Rattle.amqp_pair_laws.proofs.TakenPass.{sends-transfer}
use Rattle.amqp_pair_laws.proofs.SameSource.{unleft-before}
use Rattle.amqp_pair_laws.proofs.OnSent.{name-attached, same-leave}

-- # Why one that was received is ended

-- by a disposition of either end, or by a transfer
data Stop (v : View) (step : Step) (i : Item) : Type 0 where
  says : (first last : ℕ) (state : Option DeliveryState) → step ≡ Own (own.Dispose Receiver first last true state) → is_inside i.id first last ≡ true → Stop v step i
  hears' : (f : Frame) (d : DispositionBody) → step ≡ Heard f → f.body ≡ Some (heard.Disposition d) → d.role ≡ Sender → (disposition_of d).settled ≡ true → is_inside i.id d.first (disposition_of d).last ≡ true → Stop v step i
  passes : (f : Frame) (t : TransferBody) (y : LinkView) (c : Delivery) → step ≡ Heard f → f.body ≡ Some (heard.Transfer t) → find (has_peer_handle t.handle) v.links ≡ Some y → y.left ≡ false → y.receiving ≡ Some c
      → unwrap_or t.settled false || unwrap_or t.aborted false ≡ true → i.id ≡ c.id → Stop v step i

data Ending (v : View) (step : Step) (i : Item) : Type 0 where
  stops : Stop v step i → Ending v step i
  leaves : received_by v step ≡ Leaves i.link → Ending v step i
  over : received_by v step ≡ Over → Ending v step i

body-ending : (v : View) (f : Frame) (body : Option Performative) (i : Item) → f.body ≡ body → ends (received_by_body v body) i ≡ true → Ending v (Heard f) i
body-ending v f (Some (heard.Transfer t)) i is h = by (find (has_peer_handle t.handle) v.links) refl h
  where
    at-link : (y : LinkView) → find (has_peer_handle t.handle) v.links ≡ Some y → y.left ≡ false → (o : Option Delivery) → y.receiving ≡ o → ends (belongs_to y.number y.waiting (transferred (rcv_mode y) t []) t.state o) i ≡ true → Ending v (Heard f) i
    at-link y found unleft None r h = absurd (cc (h))
    at-link y found unleft (Some c) r h =
        let both = and-both (unwrap_or t.settled false || unwrap_or t.aborted false) (i.id == c.id) h in
        stops (passes f t y c refl is found unleft r both.0 (eqb-true i.id c.id both.1))

    on : (y : LinkView) → find (has_peer_handle t.handle) v.links ≡ Some y → (left : Bool) → y.left ≡ left → ends (cond left (PassesOver t.delivery_id) (belongs_to y.number y.waiting (transferred (rcv_mode y) t []) t.state y.receiving)) i ≡ true → Ending v (Heard f) i
    on y found true l h = absurd (cc (h))
    on y found false l h = at-link y found l y.receiving refl h

    by : (o : Option LinkView) → find (has_peer_handle t.handle) v.links ≡ o → ends (transfer_on t o) i ≡ true → Ending v (Heard f) i
    by None found h = absurd (cc (h))
    by (Some y) found h = on y found y.left refl h
body-ending v f (Some (heard.Disposition d)) i is h = by d.role refl h
  where
    by : (role : Role) → d.role ≡ role → ends (heard_of Receiver d role) i ≡ true → Ending v (Heard f) i
    by Sender r h = let both = and-both (disposition_of d).settled (is_inside i.id d.first (disposition_of d).last) h in stops (hears' f d refl is r both.0 both.1)
    by Receiver r h = absurd (cc (h))
body-ending v f (Some (heard.Detach d)) i is h = by (find (has_peer_handle d.handle) v.links) refl h
  where
    by : (o : Option LinkView) → find (has_peer_handle d.handle) v.links ≡ o → ends (left_by_peer o) i ≡ true → Ending v (Heard f) i
    by None found h = absurd (cc (h))
    by (Some l) found h = let same : i.link ≡ l.number = eqb-true i.link l.number h in leaves (ap (received_by_body v) is ∙ ap left_by_peer found ∙ ap (λ k. Leaves k) (sym same))
body-ending v f (Some (heard.End d)) i is h = over (ap (received_by_body v) is)
body-ending v f _ i is h = absurd (cc (h))

ending : (v : View) (step : Step) (i : Item) → ends (received_by v step) i ≡ true → Ending v step i
ending v (Opened told) i h = absurd (cc (h))
ending v (Own (own.Dispose role first last settled state)) i h = by role settled h
  where
    by : (role : Role) (settled : Bool) → ends (said_of Receiver role (record { first = first; last = last; settled = settled; state = state })) i ≡ true → Ending v (Own (own.Dispose role first last settled state)) i
    by Receiver true h = stops (says first last state refl h)
    by Receiver false h = absurd (cc (h))
    by Sender settled h = absurd (cc (h))
ending v (Own (own.Detach link error)) i h = let same : i.link ≡ link = eqb-true i.link link h in leaves (ap (λ k. Leaves k) (sym same))
ending v (Own (own.Suspend link)) i h = let same : i.link ≡ link = eqb-true i.link link h in leaves (ap (λ k. Leaves k) (sym same))
ending v (Own (own.End error)) i h = over refl
ending v (Own _) i h = absurd (cc (h))
ending v (Heard f) i h = body-ending v f f.body i refl h

-- # The claim

-- of a delivery i that the other end sent, this end holds one with its id and its tag on the link y
pub record Holds (v : View) (y : LinkView) (i : Item) : Type 0 where
  pub item : Item
  pub there : In item v.received
  pub id : item.id ≡ i.id
  pub tag : item.tag ≡ i.tag
  pub on : item.link ≡ y.number

abbrev pub MetAgree : Config → Config → List Entry → List Entry → Type 0
MetAgree ca cb a b =
    Lives b → (name : List ℕ) (x y : LinkView) (u : SentItem) → link (Sender, name) ca a ≡ Some x → In u (at ca a).sent → u.item.link ≡ x.number → link (Receiver, name) cb b ≡ Some y → y.left ≡ false
    → was_settled u.item.id b ≡ false → Holds (at cb b) y u.item

holds-same : (v : View) (y : LinkView) (i j : Item) → j.id ≡ i.id → j.tag ≡ i.tag → Holds v y i → Holds v y j
holds-same v y i j id tag q = record { item = q.item; there = q.there; id = q.id ∙ sym id; tag = q.tag ∙ sym tag; on = q.on }

untold-as : (i j : ℕ) (b : List Entry) → j ≡ i → was_settled j b ≡ false → was_settled i b ≡ false
untold-as i j b same h = ap (λ id. was_settled id b) (sym same) ∙ h

-- the sender's link before the step
record OursWas (ca : Config) (a : List Entry) (name : List ℕ) (i : Item) : Type 0 where
  link' : LinkView
  found : link (Sender, name) ca a ≡ Some link'
  attached : is_attached link' ≡ true
  on : i.link ≡ link'.number

ours-was : (ca : Config) (e : Entry) (a : List Entry) (name : List ℕ) (x' : LinkView) (u : SentItem) → AllFair ca (e ∷ a) → Lives (e ∷ a) → link (Sender, name) ca (e ∷ a) ≡ Some x' → In u (at ca (e ∷ a)).sent → u.item.link ≡ x'.number
    → (w : Was (sent_by (at ca a) e.step) (at ca a).sent u) → OursWas ca a name w.before.item
ours-was ca e a name x' u fa lives fx there on w =
    let attached' = name-attached ca (e ∷ a) fa lives (one-sound ca (e ∷ a) fa) (has_name Sender name) x' u fx there on in
    let z = link-before ca e a fa lives Sender name x' fx attached' (attached-ends x' attached').1.1 in
    let on' : w.before.item.link ≡ z.link'.number = sym w.same.link ∙ on ∙ z.number in
    let attached = name-attached ca a fa.0 (lives-goes e a lives).lived (one-sound ca a fa.0) (has_name Sender name) z.link' w.before z.found w.there on' in
    record { link' = z.link'; found = z.found; attached = attached; on = on' }

-- the receiver takes a step that does not stop it
holds-goes : (cb : Config) (e : Entry) (b : List Entry) (name : List ℕ) (y y' : LinkView) (i : Item) → AllFair cb (e ∷ b) → Lives b → link (Receiver, name) cb b ≡ Some y → link (Receiver, name) cb (e ∷ b) ≡ Some y' → y'.left ≡ false
    → (q : Holds (at cb b) y i) → (Stop (at cb b) e.step q.item → ⊥) → Holds (at cb (e ∷ b)) y' i
holds-goes cb e b name y y' i fb lb fy to unleft q none =
    let h = held-step v e.step e.reply (due fb.1) lb in
    let k = h.kept q.item q.there (by-bool (ends (received_by v e.step) q.item) (λ (t : ends (received_by v e.step) q.item ≡ true). absurd (by (ending v e.step q.item t))) (λ (f : ends (received_by v e.step) q.item ≡ false). f)) in
    record {
      item = k.item;
      there = subst (λ (v : View). In k.item v.received) (sym o.goes_on) k.there;
      id = k.same.id ∙ q.id;
      tag = k.same.tag ∙ q.tag;
      on = k.same.link ∙ q.on ∙ sym g.number;
    }
  where
    v : View
    v = at cb b

    o : OneMore (Receiver, name) cb e b
    o = one-more (Receiver, name) cb e b fb

    g : GoesOn (sent_by v e.step) y y'
    g = stays-on v (next v e.step) (sent_by v e.step) (received_by v e.step) Receiver name y y' (link-step v e.step e.reply (due fb.1) lb) o.sound fy (ap (λ (v : View). find (has_name Receiver name) v.links) (sym o.goes_on) ∙ to) unleft

    by : Ending v e.step q.item → ⊥
    by (stops s) = none s
    by (leaves is) = g.stays q.item.link (same-leave v e.step (Leaves q.item.link) is refl) (sym q.on)
    by (over is) = g.lives (same-leave v e.step Over is refl)

met-quiet : (ca cb : Config) (n : ℕ) (e : Entry) (a b : List Entry) → World ca cb (suc n) (e ∷ a) b → Tight ca cb n a b → Moves ca e a b → sends e ≡ None → MetAgree ca cb a b → MetAgree ca cb (e ∷ a) b
met-quiet ca cb n e a b w t m silent k lives name x' y u fx there on fy unleft untold = by (h.ours u (subst (λ (v : View). In u v.sent) o.goes_on there))
  where
    fa : AllFair ca (e ∷ a)
    fa = (fair-both ca cb (suc n) (e ∷ a) b w).0

    la' : Lives (e ∷ a)
    la' = let tight : count sends (e ∷ a) ≡ count hears b = (let s = t.tight in rw silent s) in behind-lives ca cb (suc n) (e ∷ a) b (record { world = w; tight = tight }) lives

    o : OneMore (Sender, []) ca e a
    o = one-more (Sender, []) ca e a fa

    h : HeldStep (at ca a) (next (at ca a) e.step) (sent_by (at ca a) e.step) (received_by (at ca a) e.step)
    h = held-step (at ca a) e.step e.reply (due fa.1) (lives-goes e a la').lived

    by : Was (sent_by (at ca a) e.step) (at ca a).sent u ⊎ (begins (sent_by (at ca a) e.step) ≡ Some u.item) → Holds (at cb b) y u.item
    by (inl w) =
        let p = ours-was ca e a name x' u fa la' fx there on w in
        holds-same (at cb b) y w.before.item u.item w.same.id w.same.tag (k lives name p.link' y w.before p.found w.there p.on fy unleft (untold-as w.before.item.id u.item.id b w.same.id untold))
    by (inr is) =
        let z = begins-ours (at ca a) e.step e.reply (due m.fair) u.item is in
        let none = quiet-starts (at ca a) e.step e.reply (due m.fair) silent in
        let yes = ap (λ s. is_start (own_in s)) z.is-start in
        let none' = no-start e none in
        absurd (cc (none', yes))

met-ahead : (ca cb : Config) (n : ℕ) (e : Entry) (a b : List Entry) → World ca cb (suc n) a (e ∷ b) → Tight ca cb n a b → Moves cb e b a → hears e ≡ None → MetAgree ca cb a b → MetAgree ca cb a (e ∷ b)
met-ahead ca cb n e a b w t m deaf k lives name x y' u fx there on fy unleft' untold = holds-goes cb e b name z.link' y' u.item fb lb z.found fy unleft' q none
  where
    fair : AllFair ca a × AllFair cb (e ∷ b)
    fair = fair-both ca cb (suc n) a (e ∷ b) w

    fb : AllFair cb (e ∷ b)
    fb = fair.1

    lb : Lives b
    lb = (lives-goes e b lives).lived

    p : (is_some x.ours ≡ true) × ((is_some x.theirs ≡ true) × (x.left ≡ false))
    p = attached-ends x (name-attached ca a fair.0 (behind-lives ca cb n a b t lb) (one-sound ca a fair.0) (has_name Sender name) x u fx there on)

    z : OtherWas cb b name y'
    z = other-was ca cb n a e b name x y' t lb fb fx p.0 p.1.1 fy unleft'

    both : (settles_by e.step u.item.id ≡ false) × (was_settled u.item.id b ≡ false)
    both = or-none (settles_by e.step u.item.id) (was_settled u.item.id b) untold

    q : Holds (at cb b) z.link' u.item
    q = k lb name x z.link' u fx there on z.found (unleft-before cb e b name z.link' y' fb lb z.found fy z.number unleft') both.1

    none : Stop (at cb b) e.step q.item → ⊥
    none (says first last state is inside) =
        let yes : is_inside u.item.id first last ≡ true = ap (λ n. is_inside n first last) (sym q.id) ∙ inside in
        let told : settles_by e.step u.item.id ≡ true = ap (λ s. settles_by s u.item.id) is ∙ (rw yes refl) in
        let no = both.0 in
        absurd (cc (no, told))
    none (hears' f d is body role settled inside) = let some = ap frame_in is in absurd (cc (some, deaf))
    none (passes f t y c is body found unleft receiving over' id) = let some = ap frame_in is in absurd (cc (some, deaf))

-- # A frame passes

-- a later transfer that ends its delivery aborts it
aborts-by : (v : View) (op : Op) (reply : Reply) (f : Frame) (t : TransferBody) → OwnAnswers v op reply → is_carrier (Some op) ≡ true → is_start (Some op) ≡ false → frame_among reply.sent ≡ Some f → f.body ≡ Some (heard.Transfer t)
    → unwrap_or t.settled false || unwrap_or t.aborted false ≡ true → (link : ℕ) × (op ≡ own.Abort link)
aborts-by v (own.Start link tag format settled payload more) reply f t h carrier start sent is over' = absurd (cc (start))
aborts-by v (own.Carry link payload more) reply f t h carrier start sent is over' =
    let o = on-link-ok v link (λ l. sends' v.max_frame (carry_refusals v l payload) (later_body (handle_of l.ours) (flag more) None) payload given.Nothing) reply h in
    let k = sends-ok v.max_frame (carry_refusals v o.on payload) (later_body (handle_of o.on.ours) (flag more) None) payload given.Nothing reply o.said in
    let t0 = later_transfer (handle_of o.on.ours) (flag more) None in
    let sent' : frame_among reply.sent ≡ Some (frame_of (Some (heard.Transfer t0)) payload) = ap (λ (r : Reply). frame_among r.sent) (sym k.replies) in
    let one = same-some (frame_among reply.sent) (frame_of (Some (heard.Transfer t0)) payload) f sent' sent in
    let bodies : ◌≡◌ {A = Option Performative} (Some (heard.Transfer t0)) (Some (heard.Transfer t)) = ap (λ (f : Frame). f.body) one ∙ is in
    let same : t0 ≡ t = cc bodies in
    let no : unwrap_or t.settled false || unwrap_or t.aborted false ≡ false = ap (λ (t : TransferBody). unwrap_or t.settled false || unwrap_or t.aborted false) (sym same) in
    absurd (cc (no, over'))
aborts-by v (own.Abort link) reply f t h carrier start sent is over' = (link, refl)
aborts-by v _ reply f t h carrier start sent is over' = absurd (cc (carrier))

-- a disposition of the sender ends what it covers
says-ends : (v : View) (step : Step) (d : DispositionBody) (i : Item) → IsOf (own_in step) d → d.role ≡ Sender → (disposition_of d).settled ≡ true → is_inside i.id d.first (disposition_of d).last ≡ true → ends (sent_by v step) i ≡ true
says-ends v (Own (own.Dispose role first last settled state)) d i of r s inside = by role settled (sym of.0 ∙ r) (sym of.1.1.1.0 ∙ s)
  where
    inside' : is_inside i.id first last ≡ true
    inside' = ap (λ n. is_inside i.id n last) (sym of.1.0) ∙ ap (λ n. is_inside i.id d.first n) (sym of.1.1.0) ∙ inside

    by : (role : Role) (settled : Bool) → role ≡ Sender → settled ≡ true → ends (said_of Sender role (record { first = first; last = last; settled = settled; state = state })) i ≡ true
    by Sender true r s = inside'
    by Sender false r s = absurd (cc (s))
    by Receiver settled r s = absurd (cc (r))
says-ends v _ d i of r s inside = absurd of

own-of : (step : Step) → is_carrier (own_in step) ≡ true → (op : Op) × (step ≡ Own op)
own-of (Opened told) h = absurd (cc (h))
own-of (Own op) h = (op, refl)
own-of (Heard f) h = absurd (cc (h))

none-there : (o : Option Delivery) → option_map size_of o ≡ None → o ≡ None
none-there None h = refl
none-there (Some c) h = absurd (cc (h))

-- a delivery begins where none is unfinished, on a link that was not left
begins-item : (t : TransferBody) (y : LinkView) → y.left ≡ false → y.receiving ≡ None → unwrap_or t.settled false ≡ false → unwrap_or t.aborted false ≡ false → unwrap_or t.resume false ≡ false
    → begins (transfer_on t (Some y)) ≡ Some (item_of y.number (transferred (rcv_mode y) t []) t.state)
begins-item t y unleft none settled aborted new = rw (unleft, none, settled, aborted, new) refl

-- the delivery that a start begins unsettled
begun-item : (id number : ℕ) (tag : List ℕ) (settled : Bool) (l : LinkView) (i : Item) → begins (begun_on id number tag settled (Some l)) ≡ Some i
    → (settled ≡ false) × (record { id = id; link = number; tag = tag; second = rcv_mode l == 1; local = None; remote = None } ≡ i)
begun-item id number tag true l i h = absurd (cc (h))
begun-item id number tag false l i h = let one : record { id = id; link = number; tag = tag; second = rcv_mode l == 1; local = None; remote = None } ≡ i = cc h in (refl, one)

module _ (ca cb : Config) (n : ℕ) (e : Entry) (a : List Entry) (e' : Entry) (b : List Entry) (f : Frame) (t : Tight ca cb n a b) (m : Moves ca e a b) (sent : sends e ≡ Some f) (heard'' : hears e' ≡ Some f) (lb : Lives b)
    (fa : AllFair ca (e ∷ a)) (fb : AllFair cb (e' ∷ b)) (name : List ℕ) where
  abbrev va : View
  va = at ca a

  abbrev vb : View
  vb = at cb b

  sa : IsSound va
  sa = one-sound ca a fa.0

  sb : IsSound vb
  sb = one-sound cb b fb.0

  -- what is unfinished on the link that hears the transfer is what is unfinished on the link that sends it
  sizes-by : (l : LinkView) (number : ℕ) (t0 : TransferBody) (y : LinkView) → find (has_number number) va.links ≡ Some l → is_attached l ≡ true → l.role ≡ Sender → t0.handle ≡ handle_of l.ours → find (has_peer_handle t0.handle) vb.links ≡ Some y → y.left ≡ false
      → l.sending ≡ option_map size_of y.receiving
  sizes-by l number t0 y found attached role handle at-y unleft =
      let here : link (Sender, l.name) ca a ≡ Some l = named-found Sender l.name (has_number number) va.links l sa.links.names found (ap (λ (r : Role). has_name r l.name l) (sym role) ∙ name-self l.role l.name) in
      let met = is-met Receiver l.name vb l t0.handle sb attached handle (ap (λ o. kept (shape o)) (sym here) ∙ (slots-known ca cb n a b t lb Sender l.name).asked) in
      let one : met.link ≡ y = same-some (find (has_peer_handle t0.handle) vb.links) met.link y met.found at-y in
      let p = attached-ends l attached in
      let agreed = counts-known ca cb n a b t lb Sender l.name l y here (met.named ∙ ap (λ (l : LinkView). Some l) one) p.0 p.1.1 unleft in
      agreed.1.1.0

  -- a delivery that stays with the sender is not stopped
  stays-there : (i : Item) (y : LinkView) (q : Holds vb y i) → ends (sent_by va e.step) i ≡ false → Stop vb e'.step q.item → ⊥
  stays-there i y q stays (says first last state is inside) = let none : frame_in e'.step ≡ None = ap frame_in is in absurd (cc (none, heard''))
  stays-there i y q stays (hears' g d is body role settled inside) =
      let one : g ≡ f = same-some (frame_in e'.step) g f (ap frame_in is) heard'' in
      let body' : f.body ≡ Some (heard.Disposition d) = ap (λ (f : Frame). f.body) (sym one) ∙ body in
      let of = disposed-by va (next va e.step) (body_heard e.step) (own_in e.step) e.reply f d (step-sending va e.step e.reply (due m.fair)) sent body' in
      let yes = says-ends va e.step d i of role settled (ap (λ n. is_inside n d.first (disposition_of d).last) (sym q.id) ∙ inside) in
      absurd (cc (yes, stays))
  stays-there i y q stays (passes g t1 y2 c is body found unleft receiving over' id) =
      by-bool (is_start (own_in e.step)) (λ (yes : is_start (own_in e.step) ≡ true). begun yes) (λ (no : is_start (own_in e.step) ≡ false). later no)
    where
      body' : f.body ≡ Some (heard.Transfer t1)
      body' = let one : g ≡ f = same-some (frame_in e'.step) g f (ap frame_in is) heard'' in ap (λ (f : Frame). f.body) (sym one) ∙ body

      same-body : (t0 : TransferBody) → f.body ≡ Some (heard.Transfer t0) → t0 ≡ t1
      same-body t0 is' = let bodies : ◌≡◌ {A = Option Performative} (Some (heard.Transfer t0)) (Some (heard.Transfer t1)) = sym is' ∙ body' in cc bodies

      sizes : (l : LinkView) (number : ℕ) (t0 : TransferBody) → f.body ≡ Some (heard.Transfer t0) → find (has_number number) va.links ≡ Some l → is_attached l ≡ true → l.role ≡ Sender → t0.handle ≡ handle_of l.ours → l.sending ≡ Some (size_of c)
      sizes l number t0 is' found' attached role handle =
          sizes-by l number t0 y2 found' attached role handle (ap (λ (t : TransferBody). find (has_peer_handle t.handle) vb.links) (same-body t0 is') ∙ found) unleft ∙ ap (option_map size_of) receiving

      begun : is_start (own_in e.step) ≡ true → ⊥
      begun start =
          let bg = began va e.step e.reply f (due m.fair) (start-starts e start) sent in
          let some = sizes bg.link bg.number bg.transfer bg.body bg.found bg.attached bg.role-is bg.handle in
          let none = bg.fresh in
          absurd (cc (some, none))

      ended : (number : ℕ) → e.step ≡ Own (own.Abort number) → ⊥
      ended number is' =
          let z = abort-sent va number e.reply (own-answers va e.step e.reply (own.Abort number) (due m.fair) is') in
          let l = z.0 in
          let t0 = later_transfer (handle_of l.ours) None (Some true) in
          let one = same-some (frame_among e.reply.sent) (frame_of (Some (heard.Transfer t0)) []) f z.1.1.1.1 sent in
          let some = sizes l number t0 (ap (λ (f : Frame). f.body) (sym one)) z.1.0 z.1.1.0 z.1.1.1.0 refl in
          let event : sent_by va e.step ≡ continued_on true (Some (size_of c)) = ap (sent_by va) is' ∙ ap (λ o. continued_on true (sending_on o)) z.1.0 ∙ ap (continued_on true) some in
          let yes : ends (sent_by va e.step) i ≡ true = ap (λ e. ends e i) event ∙ eq-eqb i.id c.id (sym q.id ∙ id) in
          absurd (cc (yes, stays))

      later : is_start (own_in e.step) ≡ false → ⊥
      later other =
          let carrier = sends-transfer va (next va e.step) (body_heard e.step) (own_in e.step) e.reply f t1 (step-sending va e.step e.reply (due m.fair)) sent body' in
          let op = own-of e.step carrier in
          let carrier' : is_carrier (Some op.0) ≡ true = ap (λ s. is_carrier (own_in s)) (sym op.1) ∙ carrier in
          let no' : is_start (Some op.0) ≡ false = ap (λ s. is_start (own_in s)) (sym op.1) ∙ other in
          let x = aborts-by va op.0 e.reply f t1 (own-answers va e.step e.reply op.0 (due m.fair) op.1) carrier' no' sent body' over' in
          ended x.0 (op.1 ∙ ap (λ o. Own o) x.1)

  -- one that begins
  begins-there : (x' y' : LinkView) (u : SentItem) → Lives (e ∷ a) → link (Sender, name) ca (e ∷ a) ≡ Some x' → In u (at ca (e ∷ a)).sent → u.item.link ≡ x'.number → link (Receiver, name) cb (e' ∷ b) ≡ Some y' → y'.left ≡ false
      → is_start (own_in e.step) ≡ true → begins (sent_by va e.step) ≡ Some u.item → Holds (at cb (e' ∷ b)) y' u.item
  begins-there x' y' u la' fx there on fy unleft' start is =
      let bg = began va e.step e.reply f (due m.fair) (start-starts e start) sent in
      let l = bg.link in
      let t0 = bg.transfer in
      let id = next_delivery va in
      let i0 = begun-item id bg.number bg.tag bg.settled l u.item (ap (λ o. begins (begun_on id bg.number bg.tag bg.settled o)) (sym bg.found) ∙ ap (λ s. begins (sent_by va s)) (sym bg.is-start) ∙ is) in
      let attached' = name-attached ca (e ∷ a) fa la' (one-sound ca (e ∷ a) fa) (has_name Sender name) x' u fx there on in
      let zx = link-before ca e a fa la' Sender name x' fx attached' (attached-ends x' attached').1.1 in
      let number-is : l.number ≡ bg.number = eqb-true l.number bg.number (found-passes (has_number bg.number) va.links l bg.found) in
      let at-link : bg.number ≡ zx.link'.number = ap (λ (i : Item). i.link) i0.1 ∙ on ∙ zx.number in
      let one : zx.link' ≡ l = one-number va (has_name Sender name) (has_number bg.number) zx.link' l sa zx.found bg.found (sym at-link ∙ sym number-is) in
      let fxa : link (Sender, name) ca a ≡ Some l = zx.found ∙ ap (λ (l : LinkView). Some l) one in
      let p = attached-ends l bg.attached in
      let z = other-was ca cb n a e' b name l y' t lb fb fxa p.0 p.1.1 fy unleft' in
      let y = z.link' in
      let unleft = unleft-before cb e' b name y y' fb lb z.found fy z.number unleft' in
      let met = is-met Receiver name vb l t0.handle sb bg.attached bg.handle (ap (λ o. kept (shape o)) (sym fxa) ∙ (slots-known ca cb n a b t lb Sender name).asked) in
      let two : met.link ≡ y = same-some (link (Receiver, name) cb b) met.link y met.named z.found in
      let found : find (has_peer_handle t0.handle) vb.links ≡ Some y = met.found ∙ ap (λ (l : LinkView). Some l) two in
      let none = none-there y.receiving (sym (sizes-by l bg.number t0 y bg.found bg.attached bg.role-is bg.handle found unleft) ∙ bg.fresh) in
      let settled : unwrap_or t0.settled false ≡ false = ap (λ (t : TransferBody). unwrap_or t.settled false) bg.transfer-is ∙ ap (λ b. unwrap_or (flag b) false) i0.0 in
      let aborted : unwrap_or t0.aborted false ≡ false = ap (λ (t : TransferBody). unwrap_or t.aborted false) bg.transfer-is in
      let new : unwrap_or t0.resume false ≡ false = ap (λ (t : TransferBody). unwrap_or t.resume false) bg.transfer-is in
      let v0 = item_of y.number (transferred (rcv_mode y) t0 []) t0.state in
      let begun : begins (received_by vb e'.step) ≡ Some v0 = ap begins (heard-body' vb e'.step f heard'' ∙ ap (received_by_body vb) bg.body ∙ ap (transfer_on t0) found) ∙ begins-item t0 y unleft none settled aborted new in
      let h = held-step vb e'.step e'.reply (due fb.1) lb in
      let o = one-more (Receiver, name) cb e' b fb in
      record {
        item = v0;
        there = subst (λ (v : View). In v0 v.received) (sym o.goes_on) (h.entered v0 begun);
        id = ap (λ (t : TransferBody). unwrap_or t.delivery_id 0) bg.transfer-is ∙ ap (λ (i : Item). i.id) i0.1;
        tag = ap (λ (t : TransferBody). unwrap_or t.delivery_tag []) bg.transfer-is ∙ ap (λ (i : Item). i.tag) i0.1;
        on = sym z.number;
      }

met-pass : (ca cb : Config) (n : ℕ) (e : Entry) (a : List Entry) (e' : Entry) (b : List Entry) (f : Frame) → World ca cb (suc n) (e ∷ a) b → Tight ca cb n a b → Moves ca e a b → Moves cb e' b (e ∷ a)
    → sends e ≡ Some f → hears e' ≡ Some f → MetAgree ca cb a b → MetAgree ca cb (e ∷ a) (e' ∷ b)
met-pass ca cb n e a e' b f world t m m' sent heard'' k lives name x' y' u fx there on fy unleft' untold = by (h.ours u (subst (λ (v : View). In u v.sent) o.goes_on there))
  where
    fa : AllFair ca (e ∷ a)
    fa = (fair-both ca cb (suc n) (e ∷ a) b world).0

    fb : AllFair cb (e' ∷ b)
    fb = ((fair-both ca cb (suc n) (e ∷ a) b world).1, m'.fair)

    lb : Lives b
    lb = (lives-goes e' b lives).lived

    la' : Lives (e ∷ a)
    la' = let tight : count sends (e ∷ a) ≡ count hears (e' ∷ b) = (let s = t.tight in rw (sent, heard'', s) refl) in behind-lives ca cb (suc (suc n)) (e ∷ a) (e' ∷ b) (record { world = inr (world, m'); tight = tight }) lives

    o : OneMore (Sender, []) ca e a
    o = one-more (Sender, []) ca e a fa

    h : HeldStep (at ca a) (next (at ca a) e.step) (sent_by (at ca a) e.step) (received_by (at ca a) e.step)
    h = held-step (at ca a) e.step e.reply (due fa.1) (lives-goes e a la').lived

    by : Was (sent_by (at ca a) e.step) (at ca a).sent u ⊎ (begins (sent_by (at ca a) e.step) ≡ Some u.item) → Holds (at cb (e' ∷ b)) y' u.item
    by (inl w) =
        let i = w.before.item in
        let p = ours-was ca e a name x' u fa la' fx there on w in
        let ends' = attached-ends p.link' p.attached in
        let z = other-was ca cb n a e' b name p.link' y' t lb fb p.found ends'.0 ends'.1.1 fy unleft' in
        let untold' = untold-as i.id u.item.id b w.same.id (or-none (settles_by e'.step u.item.id) (was_settled u.item.id b) untold).1 in
        let q = k lb name p.link' z.link' w.before p.found w.there p.on z.found (unleft-before cb e' b name z.link' y' fb lb z.found fy z.number unleft') untold' in
        holds-same (at cb (e' ∷ b)) y' i u.item w.same.id w.same.tag
        (holds-goes cb e' b name z.link' y' i fb lb z.found fy unleft' q (stays-there ca cb n e a e' b f t m sent heard'' lb fa fb name i z.link' q w.stays))
    by (inr is) =
        let z = begins-ours (at ca a) e.step e.reply (due m.fair) u.item is in
        begins-there ca cb n e a e' b f t m sent heard'' lb fa fb name x' y' u la' fx there on fy unleft' (ap (λ s. is_start (own_in s)) z.is-start) is

met-kept : lag.IsKept sends hears IsFair MetAgree
met-kept =
    record {
      starts = λ ca cb lives name x y u f there. absurd there;
      quiet = λ ca cb n e a b known w t m silent k. met-quiet ca cb n e a b w t m silent k;
      ahead = λ ca cb n e a b known w t m deaf k. met-ahead ca cb n e a b w t m deaf k;
      pass = λ ca cb n e a e' b f known w t m m' sent heard'' k. met-pass ca cb n e a e' b f w t m m' sent heard'' k;
    }

-- where b has heard all that a sent, and its session is not over, it holds what a holds, unless it told its outcome or has left the link
pub met-known : (ca cb : Config) (n : ℕ) (a b : List Entry) → Tight ca cb n a b → MetAgree ca cb a b
met-known ca cb n a b t = lag.exact sends hears IsFair MetAgree met-kept ca cb n a b t
