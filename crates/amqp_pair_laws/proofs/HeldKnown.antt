-- Each delivery that one end holds is held by the end that sent it, on the link of the same name, with its id and its tag.
use Rattle.std.proofs.Common.{suc, ◌≡◌, ◌⊎◌, inl, inr, ℕ, ◌==◌, ◌&&◌, ◌||◌, Bool, true, false, not, cond, Option, Some, None, Ok, List, [], ◌∷◌, refl, sym, ap, ◌∙◌, subst, find, is_some, option_map, unwrap_or}
use Rattle.std.proofs.lemmas.Bool.{eq-eqb, eqb-true}
use Rattle.amqp_flow.specs.Serial.{is_inside}
use Rattle.amqp_performatives.specs.declared.bodies.Role.{Role}
use Rattle.amqp_performatives.specs.declared.bodies.Role.TheVariants.{Sender, Receiver}
use Rattle.amqp_performatives.specs.declared.bodies.DispositionBody.{DispositionBody}
use Rattle.amqp_performatives.specs.declared.bodies.TransferBody.{TransferBody}
use Rattle.amqp_performatives.specs.declared.state.DeliveryState.{DeliveryState}
use Rattle.amqp_performatives.specs.declared.performative.Performative.{Performative}
use Rattle.amqp_performatives.specs.declared.performative.Performative.TheVariants as heard
use Rattle.amqp_frames.specs.declared.frame.Frame.{Frame}
use Rattle.amqp_events.specs.Event.{Disposition, Event, Item, Leaves, Over, PassesOver, Nothing as No_event}
use Rattle.amqp_events.specs.Joined.{Delivery}
use Rattle.amqp_events.specs.Told.{SentItem}
use Rattle.amqp_events.specs.Unsettled.{begins, ends}
use Rattle.amqp_rules.specs.declared.config.Config.{Config}
use Rattle.amqp_rules.specs.declared.op.Op.{Op}
use Rattle.amqp_rules.specs.declared.op.Op.TheVariants as own
use Rattle.amqp_rules.specs.declared.reply.Reply.{Reply}
use Rattle.amqp_rules.specs.declared.reply.Given.TheVariants as given
use Rattle.amqp_rules.specs.View.{EndView, LinkView, SendingView, View, handle_of, has_name, has_number, has_peer_handle, is_attached, next_delivery, opposite, rcv_mode, same_role}
use Rattle.amqp_rules.specs.Sending.{frame_of, sends_ending}
use Rattle.amqp_rules.specs.Telling.{flag}
use Rattle.amqp_rules.specs.Deliveries.{begun_on, belongs_to, disposition_of, ended_by, received_by_body, received_by_own, sent_by_own, transfer_on, transferred}
use Rattle.amqp_rules.specs.Carry.{later_body}
use Rattle.amqp_rules.specs.Abort.{abort_refusals}
use Rattle.amqp_rules.specs.Dispose.{dispose_body, dispose_refusals}
use Rattle.amqp_rules.specs.Answer.{own_answer}
use Rattle.amqp_rules.specs.Sound.{IsSound}
use Rattle.amqp_rules.proofs.Accepted.{not-false, on-link-ok, sends-ending-ok}
use Rattle.amqp_rules.proofs.Listed.{by-bool}
use Rattle.amqp_laws.specs.declared.entry.Entry.{Entry}
use Rattle.amqp_laws.specs.declared.entry.Step.{Step}
use Rattle.amqp_laws.specs.declared.entry.Step.TheVariants.{Own, Heard}
use Rattle.amqp_laws.specs.Transfers.{size_of}
use Rattle.amqp_laws.specs.At.{at, received_by, sent_by}
use Rattle.amqp_laws.specs.Lawful.{next}
use Rattle.amqp_laws.proofs.Sound.{at-is-sound}
use Rattle.amqp_pair_laws.proofs.Plain.{Answers, OwnAnswers, due}
use Rattle.amqp_pair_laws.specs.Moves.{count, said_as}
use Rattle.amqp_pair_laws.specs.World.{IsFair, Moves, Tight, World, frame_among, frame_in, hears, sends}
use Rattle.amqp_pair_laws.proofs.Lag as lag
use Rattle.amqp_pair_laws.proofs.Slots.{kept}
use Rattle.amqp_pair_laws.proofs.SlotOf.{shape, slot_of}
use Rattle.amqp_pair_laws.proofs.SlotActs.{AllFair, Lives, is-met, one-more, slots-known}
use Rattle.amqp_pair_laws.proofs.Named.{found-passes, name-self, named-found, named-is, role-same}
use Rattle.amqp_pair_laws.proofs.Windows.{lives-goes}
use Rattle.amqp_pair_laws.proofs.Opens.{few-by, replayed-by}
use Rattle.amqp_pair_laws.proofs.Over.{behind-lives}
use Rattle.amqp_pair_laws.proofs.TurnOwn.{later_transfer}
use Rattle.amqp_pair_laws.proofs.Tallies.{link}
use Rattle.amqp_pair_laws.proofs.CountsKnown.{same-some}
use Rattle.amqp_pair_laws.proofs.CountsKept.{fair-both}
use Rattle.amqp_pair_laws.proofs.CountsPass.{attached-ends, counts-known}
use Rattle.amqp_pair_laws.proofs.Members.{In, Stayed}
use Rattle.amqp_pair_laws.proofs.LinkSteps.{link-step, one-number, stays-on}
use Rattle.amqp_pair_laws.proofs.HeldSteps.{Ending, Stop, aborts, ending, held-step, hears as hears', leaves, over, says, stops}
use Rattle.amqp_pair_laws.proofs.SendingIds.{ours-known}
use Rattle.amqp_pair_laws.proofs.Closed.{BeganHere, Starts, began-here, closed-known, heard-body', outside-range, own-begins, starts-there}
use Rattle.amqp_pair_laws.proofs.Attached.{attached-link, link-before}

-- # The claim

-- what the sender holds of a delivery u that the other end holds on the link of this name
pub record Partner (va : View) (name : List ℕ) (u : Item) : Type 0 where
  pub link' : LinkView
  pub found : find (has_name Sender name) va.links ≡ Some link'
  pub held : SentItem
  pub there : In held va.sent
  pub id : held.item.id ≡ u.id
  pub tag : held.item.tag ≡ u.tag
  pub on : held.item.link ≡ link'.number

abbrev pub HeldAgree : Config → Config → List Entry → List Entry → Type 0
HeldAgree ca cb a b =
    Lives b → (name : List ℕ) (y : LinkView) (u : Item) → link (Receiver, name) cb b ≡ Some y → In u (at cb b).received → u.link ≡ y.number → Partner (at ca a) name u

-- # The sender's link, after the step

-- where it is there, and not left
pub record Ours (va : View) (name : List ℕ) : Type 0 where
  pub link' : LinkView
  pub found : find (has_name Sender name) va.links ≡ Some link'
  pub unleft : link'.left ≡ false

pub ours-there : (ca cb : Config) (n : ℕ) (a b : List Entry) → Tight ca cb n a b → Lives b → (name : List ℕ) (y : LinkView) → link (Receiver, name) cb b ≡ Some y → is_attached y ≡ true → Ours (at ca a) name
ours-there ca cb n a b t lives name y found attached =
    let slot = slots-known ca cb n a b t lives Sender name in
    let some : is_some (kept (slot_of Sender name (at ca a).links)) ≡ true = ap (λ (o : Option EndView). is_some o) (slot.asked ∙ ap (λ o. (shape o).theirs) found) ∙ (attached-ends y attached).1.0 in
    by (find (has_name Sender name) (at ca a).links) refl some
  where
    on : (x : LinkView) → find (has_name Sender name) (at ca a).links ≡ Some x → (left : Bool) → x.left ≡ left → is_some (cond left None x.ours) ≡ true → Ours (at ca a) name
    on x found true l some = absurd (cc (some))
    on x found false l some = record { link' = x; found = found; unleft = l }

    by : (o : Option LinkView) → find (has_name Sender name) (at ca a).links ≡ o → is_some (kept (shape o)) ≡ true → Ours (at ca a) name
    by None found some = absurd (cc (some))
    by (Some x) found some = on x found x.left refl some

-- the sender takes a step by which what it holds is not stopped
partner-goes : (ca : Config) (e : Entry) (a : List Entry) → AllFair ca (e ∷ a) → Lives a → (name : List ℕ) (u : Item) → (p : Partner (at ca a) name u) → Ours (at ca (e ∷ a)) name → (Stop (at ca a) e.step p.held.item → ⊥)
    → Partner (at ca (e ∷ a)) name u
partner-goes ca e a fair la name u p x none =
    let o = one-more (Sender, name) ca e a fair in
    let h = held-step v e.step e.reply (due fair.1) la in
    let to : find (has_name Sender name) (next v e.step).links ≡ Some x.link' = ap (λ (v : View). find (has_name Sender name) v.links) (sym o.goes_on) ∙ x.found in
    let g = stays-on v (next v e.step) (sent_by v e.step) (received_by v e.step) Sender name p.link' x.link' (link-step v e.step e.reply (due fair.1) la) o.sound p.found to x.unleft in
    let kept' : ends (sent_by v e.step) p.held.item ≡ false =
    by-bool (ends (sent_by v e.step) p.held.item)
    (λ (t : ends (sent_by v e.step) p.held.item ≡ true). absurd (by (ending v e.step p.held.item t) (λ k e' n. g.stays k e' n) (λ e'. g.lives e')))
    (λ (f : ends (sent_by v e.step) p.held.item ≡ false). f) in
    let s = h.sent p.held p.there kept' in
    record {
      link' = x.link';
      found = x.found;
      held = s.held;
      there = subst (λ (v : View). In s.held v.sent) (sym o.goes_on) s.there;
      id = s.same.id ∙ p.id;
      tag = s.same.tag ∙ p.tag;
      on = s.same.link ∙ p.on ∙ sym g.number;
    }
  where
    v : View
    v = at ca a

    by : Ending v e.step p.held.item → ((k : ℕ) → sent_by v e.step ≡ Leaves k → p.link'.number ≡ k → ⊥) → (sent_by v e.step ≡ Over → ⊥) → ⊥
    by (stops s) stays lives = none s
    by (leaves is) stays lives = stays p.held.item.link is (sym p.on)
    by (over is) stays lives = lives is

partner-same : (va : View) (name : List ℕ) (i u : Item) → u.id ≡ i.id → u.tag ≡ i.tag → Partner va name i → Partner va name u
partner-same va name i u id tag p = record { link' = p.link'; found = p.found; held = p.held; there = p.there; id = p.id ∙ sym id; tag = p.tag ∙ sym tag; on = p.on }

-- # Frames that stop it

pub abort-sent : (v : View) (link : ℕ) (reply : Reply) → own_answer v (own.Abort link) ≡ Ok reply
    → (l : LinkView) × ((find (has_number link) v.links ≡ Some l) × ((is_attached l ≡ true) × ((l.role ≡ Sender) × (frame_among reply.sent ≡ Some (frame_of (Some (heard.Transfer (later_transfer (handle_of l.ours) None (Some true)))) [])))))
abort-sent v link reply h =
    let ended = ended_by (sent_by_own v (own.Abort link)) No_event v in
    let o = on-link-ok v link (λ l. sends_ending v.max_frame (abort_refusals v l) (later_body (handle_of l.ours) None (Some true)) ended given.Nothing) reply h in
    let k = sends-ending-ok v.max_frame (abort_refusals v o.on) (later_body (handle_of o.on.ours) None (Some true)) ended given.Nothing reply o.said in
    (o.on, (o.found, (not-false (is_attached o.on) k.none_holds.0, (sym (role-same Sender o.on.role (not-false (same_role Sender o.on.role) k.none_holds.1.0)), ap (λ (r : Reply). frame_among r.sent) (sym k.replies)))))

dispose-sent : (v : View) (first last : ℕ) (state : Option DeliveryState) (reply : Reply) → own_answer v (own.Dispose Sender first last true state) ≡ Ok reply
    → frame_among reply.sent ≡ Some (frame_of (dispose_body Sender (record { first = first; last = last; settled = true; state = state })) [])
dispose-sent v first last state reply h =
    let d : Disposition = record { first = first; last = last; settled = true; state = state } in
    let op = own.Dispose Sender first last true state in
    let k = sends-ending-ok v.max_frame (dispose_refusals v Sender d) (dispose_body Sender d) (ended_by (sent_by_own v op) (received_by_own v op) v) given.Nothing reply h in
    ap (λ (r : Reply). frame_among r.sent) (sym k.replies)

pub own-answers : (v : View) (step : Step) (reply : Reply) (op : Op) → Answers v step reply → step ≡ Own op → OwnAnswers v op reply
own-answers v step reply op h is = subst (λ (s : Step). Answers v s reply) is h

-- what a heard disposition stops is not held there any more
told-apart : (ca cb : Config) (n : ℕ) (e : Entry) (a b : List Entry) (f : Frame) (d : DispositionBody) (u i : Item) → World ca cb (suc n) (e ∷ a) b → Tight ca cb n a b → Moves ca e a b → Lives b → In u (at cb b).received → i.id ≡ u.id
    → e.step ≡ Heard f → f.body ≡ Some (heard.Disposition d) → d.role ≡ Receiver → (disposition_of d).settled ≡ true → is_inside i.id (disposition_of d).first (disposition_of d).last ≡ true → ⊥
told-apart ca cb n e a b f d u i w t m lb there same is body role settled inside =
    let fair = fair-both ca cb (suc n) (e ∷ a) b w in
    let heard'' : hears e ≡ Some f = ap frame_in is in
    let said : said_as sends (count hears a) b ≡ Some f = (let k = m.next in rw heard'' at k) in
    let out = outside-range cb (count hears a) b f d fair.1 said body role settled u.id (closed-known ca cb n a b t lb u there) in
    let yes : is_inside u.id (disposition_of d).first (disposition_of d).last ≡ true = ap (λ n. is_inside n (disposition_of d).first (disposition_of d).last) (sym same) ∙ inside in
    absurd (cc (yes, out))

pub one-sound : (c : Config) (past : List Entry) → AllFair c past → IsSound (at c past)
one-sound c past fair = at-is-sound c past (replayed-by c past fair) (few-by c past fair)

-- # One end alone

held-quiet : (ca cb : Config) (n : ℕ) (e : Entry) (a b : List Entry) → World ca cb (suc n) (e ∷ a) b → Tight ca cb n a b → Moves ca e a b → sends e ≡ None → HeldAgree ca cb a b → HeldAgree ca cb (e ∷ a) b
held-quiet ca cb n e a b w t m silent k lives name y u found there on =
    let fair = fair-both ca cb (suc n) (e ∷ a) b w in
    let sb = (one-sound cb b fair.1) in
    let attached = attached-link cb b fair.1 lives sb (has_name Receiver name) y u found there on in
    let tight : count sends (e ∷ a) ≡ count hears b = (let s = t.tight in rw silent s) in
    let x = ours-there ca cb (suc n) (e ∷ a) b (record { world = w; tight = tight }) lives name y found attached in
    let p = k lives name y u found there on in
    partner-goes ca e a fair.0 (behind-lives ca cb n a b t lives) name u p x (by p)
  where
    by : (p : Partner (at ca a) name u) → Stop (at ca a) e.step p.held.item → ⊥
    by p (aborts number l d is at-l sending id) =
        let z = abort-sent (at ca a) number e.reply (own-answers (at ca a) e.step e.reply (own.Abort number) (due m.fair) is) in
        let sent = z.1.1.1.1 in
        absurd (cc (sent, silent))
    by p (says first last state is inside) =
        let sent = dispose-sent (at ca a) first last state e.reply (own-answers (at ca a) e.step e.reply (own.Dispose Sender first last true state) (due m.fair) is) in
        absurd (cc (sent, silent))
    by p (hears' f d is body role settled inside) = told-apart ca cb n e a b f d u p.held.item w t m lives there p.id is body role settled inside

held-ahead : (ca cb : Config) (n : ℕ) (e : Entry) (a b : List Entry) → World ca cb (suc n) a (e ∷ b) → Moves cb e b a → hears e ≡ None → HeldAgree ca cb a b → HeldAgree ca cb a (e ∷ b)
held-ahead ca cb n e a b w m deaf k lives name y u found there on =
    let fb = (fair-both ca cb (suc n) a (e ∷ b) w).1 in
    let lb = (lives-goes e b lives).lived in
    let o = one-more (Sender, []) cb e b fb in
    let attached = attached-link cb (e ∷ b) fb lives (one-sound cb (e ∷ b) fb) (has_name Receiver name) y u found there on in
    let z = link-before cb e b fb lives Receiver name y found attached (attached-ends y attached).1.1 in
    let h = held-step (at cb b) e.step e.reply (due m.fair) lb in
    by z.link' z.found z.number lb (h.received u (subst (λ (v : View). In u v.received) o.goes_on there))
  where
    by : (y0 : LinkView) → link (Receiver, name) cb b ≡ Some y0 → y.number ≡ y0.number → Lives b → Stayed (received_by (at cb b) e.step) (at cb b).received u ⊎ (begins (received_by (at cb b) e.step) ≡ Some u) → Partner (at ca a) name u
    by y0 was number lb (inl s) = partner-same (at ca a) name s.item u s.same.id s.same.tag (k lb name y0 s.item was s.there (sym s.same.link ∙ on ∙ number))
    by y0 was number lb (inr is) = absurd (own-begins (at cb b) e.step u deaf is)

-- # A frame passes

module _ (ca cb : Config) (n : ℕ) (e : Entry) (a : List Entry) (e' : Entry) (b : List Entry) (f : Frame) (world : World ca cb (suc n) (e ∷ a) b) (t : Tight ca cb n a b) (m : Moves ca e a b) (m' : Moves cb e' b (e ∷ a))
    (sent : sends e ≡ Some f) (heard'' : hears e' ≡ Some f) (lb : Lives b) (la : Lives a) (fa : AllFair ca (e ∷ a)) (fb : AllFair cb (e' ∷ b)) (name : List ℕ) (x : Ours (at ca (e ∷ a)) name) (y0 : LinkView) (was : link (Receiver, name) cb b ≡ Some y0)
    (u : Item) where
  abbrev va : View
  va = at ca a

  abbrev vb : View
  vb = at cb b

  -- a delivery that stays
  pass-stays : HeldAgree ca cb a b → (s : Stayed (received_by vb e'.step) vb.received u) → u.link ≡ y0.number → Partner (at ca (e ∷ a)) name u
  pass-stays k s on =
      let on' : s.item.link ≡ y0.number = sym s.same.link ∙ on in
      let p = k lb name y0 s.item was s.there on' in
      partner-same (at ca (e ∷ a)) name s.item u s.same.id s.same.tag (partner-goes ca e a fa la name s.item p x (by on' p))
    where
      er : Event
      er = received_by_body vb f.body

      unended : ends er s.item ≡ false
      unended = ap (λ (e : Event). ends e s.item) (sym (heard-body' vb e'.step f heard'')) ∙ s.stays

      by : s.item.link ≡ y0.number → (p : Partner va name s.item) → Stop va e.step p.held.item → ⊥
      by on' p (hears' g d is body role settled inside) = told-apart ca cb n e a b g d s.item p.held.item world t m lb s.there p.id is body role settled inside
      by on' p (says first last state is inside) =
          let d : Disposition = record { first = first; last = last; settled = true; state = state } in
          let one = same-some (sends e) (frame_of (dispose_body Sender d) []) f (dispose-sent va first last state e.reply (own-answers va e.step e.reply (own.Dispose Sender first last true state) (due m.fair) is)) sent in
          let body : f.body ≡ dispose_body Sender d = ap (λ (f : Frame). f.body) (sym one) in
          let inside' : is_inside s.item.id first last ≡ true = ap (λ n. is_inside n first last) (sym p.id) ∙ inside in
          let stays : is_inside s.item.id first last ≡ false = ap (λ (o : Option Performative). ends (received_by_body vb o) s.item) (sym body) ∙ unended in
          absurd (cc (stays, inside'))
      by on' p (aborts number l d is at-l sending id) =
          let z = abort-sent va number e.reply (own-answers va e.step e.reply (own.Abort number) (due m.fair) is) in
          let same-l : z.0 ≡ l = same-some (find (has_number number) va.links) z.0 l z.1.0 at-l in
          aborted p on' l d at-l sending id
          (ap is_attached (sym same-l) ∙ z.1.1.0)
          (ap (λ (l : LinkView). l.role) (sym same-l) ∙ z.1.1.1.0)
          (subst (λ (l : LinkView). frame_among e.reply.sent ≡ Some (frame_of (Some (heard.Transfer (later_transfer (handle_of l.ours) None (Some true)))) [])) same-l z.1.1.1.1)
        where
          aborted : (p : Partner va name s.item) → s.item.link ≡ y0.number → (l : LinkView) (d : SendingView) → find (has_number number) va.links ≡ Some l → l.sending ≡ Some d → p.held.item.id ≡ d.id → is_attached l ≡ true → l.role ≡ Sender
              → frame_among e.reply.sent ≡ Some (frame_of (Some (heard.Transfer (later_transfer (handle_of l.ours) None (Some true)))) []) → ⊥
          aborted p on' l d at-l sending id attached role-is sent' =
              let o = one-more (Sender, []) ca e a fa in
              let sound = o.sound in
              let sb = (one-more (Sender, []) cb e' b fb).sound in
              let t0 = later_transfer (handle_of l.ours) None (Some true) in
              let here = named-found Sender l.name (has_number number) va.links l sound.links.names at-l (ap (λ (r : Role). has_name r l.name l) (sym role-is) ∙ name-self l.role l.name) in
              let ends' = attached-ends l attached in
              let ours = ours-known ca a fa.0 la l.name l d here ends'.1.1 sending in
              let at-number : p.held.item.link ≡ l.number = ours.on p.held p.there id in
              let one : p.link' ≡ l = one-number va (has_name Sender name) (has_number number) p.link' l sound p.found at-l (sym p.on ∙ at-number) in
              let found : link (Sender, name) ca a ≡ Some l = p.found ∙ ap (λ (l : LinkView). Some l) one in
              let open' = attached-link cb b fb.0 lb sb (has_name Receiver name) y0 s.item was s.there on' in
              let there' = attached-ends y0 open' in
              let agreed = counts-known ca cb n a b t lb Sender name l y0 found was ends'.0 ends'.1.1 there'.1.1 in
              let slot = slots-known ca cb n a b t lb Sender name in
              let met = is-met Receiver name vb l (handle_of l.ours) sb attached refl (ap (λ o. kept (shape o)) (sym found) ∙ slot.asked) in
              let same-y : met.link ≡ y0 = same-some (find (has_name Receiver name) vb.links) met.link y0 met.named was in
              let found' : find (has_peer_handle t0.handle) vb.links ≡ Some y0 = met.found ∙ ap (λ (l : LinkView). Some l) same-y in
              let f0 = frame_of (Some (heard.Transfer t0)) [] in
              let one-f = same-some (sends e) f0 f sent' sent in
              let body : f.body ≡ Some (heard.Transfer t0) = ap (λ (f : Frame). f.body) (sym one-f) in
              let stays : ends (transfer_on t0 (find (has_peer_handle t0.handle) vb.links)) s.item ≡ false = ap (λ (o : Option Performative). ends (received_by_body vb o) s.item) (sym body) ∙ unended in
              let stays' : ends (transfer_on t0 (Some y0)) s.item ≡ false = ap (λ (o : Option LinkView). ends (transfer_on t0 o) s.item) (sym found') ∙ stays in
              let sizes : Some d ≡ option_map size_of y0.receiving = sym sending ∙ agreed.1.1.0 in
              stopped t0 y0 s.item d refl there'.1.1 y0.receiving refl sizes (sym p.id ∙ id) stays'
            where
              stopped : (t0 : TransferBody) (y : LinkView) (i : Item) (d : SendingView) → unwrap_or t0.aborted false ≡ true → y.left ≡ false → (r : Option Delivery) → y.receiving ≡ r → Some d ≡ option_map size_of r → i.id ≡ d.id
                  → ends (transfer_on t0 (Some y)) i ≡ false → ⊥
              stopped t0 y i d gone unleft None r sizes same stays = absurd (cc (sizes))
              stopped t0 y i d gone unleft (Some c) r sizes same stays =
                  let ids : d ≡ size_of c = cc sizes in
                  let same' : i.id ≡ c.id = same ∙ ap (λ (d : SendingView). d.id) ids in
                  let k : ends (cond y.left (PassesOver t0.delivery_id) (belongs_to y.number y.waiting (transferred (rcv_mode y) t0 []) t0.state (Some c))) i ≡ false = ap (λ (o : Option Delivery). ends (cond y.left (PassesOver t0.delivery_id) (belongs_to y.number y.waiting (transferred (rcv_mode y) t0 []) t0.state o)) i) (sym r) ∙ stays in
                  let k' : ends (belongs_to y.number y.waiting (transferred (rcv_mode y) t0 []) t0.state (Some c)) i ≡ false = ap (λ (l : Bool). ends (cond l (PassesOver t0.delivery_id) (belongs_to y.number y.waiting (transferred (rcv_mode y) t0 []) t0.state (Some c))) i) (sym unleft) ∙ k in
                  over' (unwrap_or t0.settled false) (unwrap_or t0.aborted false) (i.id == c.id) gone (eq-eqb i.id c.id same') k'
                where
                  over' : (s g same : Bool) → g ≡ true → same ≡ true → (s || g) && same ≡ false → ⊥
                  over' true g same h k x = absurd (cc (k, x))
                  over' false g same h k x = let y = rw (h, k) at x in absurd (cc (y))

  -- a delivery that begins
  pass-begins : begins (received_by vb e'.step) ≡ Some u → u.link ≡ y0.number → Partner (at ca (e ∷ a)) name u
  pass-begins is on =
      let z = began-here vb f.body u (ap begins (sym (heard-body' vb e'.step f heard'')) ∙ is) in
      let s = starts-there ca cb n e a e' b f m m' lb sent heard'' u z in
      began s z
    where
      began : Starts ca e a f u → BeganHere vb f.body u → Partner (at ca (e ∷ a)) name u
      began s z =
          let q = s.began' in
          let l = q.link in
          let sound = (one-more (Sender, []) ca e a fa).sound in
          let sb = (one-more (Sender, []) cb e' b fb).sound in
          let o = one-more (Sender, name) ca e a fa in
          let h = held-step va e.step e.reply (due fa.1) la in
          let same-t : q.transfer ≡ z.transfer = (let k : ◌≡◌ {A = Option Performative} (Some (heard.Transfer q.transfer)) (Some (heard.Transfer z.transfer)) = sym q.body ∙ z.body-is in cc k) in
          let here = named-found l.role l.name (has_number q.number) va.links l sound.links.names q.found (name-self l.role l.name) in
          let slot = slots-known ca cb n a b t lb l.role l.name in
          let met = is-met (opposite l.role) l.name vb l q.transfer.handle sb q.attached q.handle (ap (λ o. kept (shape o)) (sym here) ∙ slot.asked) in
          let found' : find (has_peer_handle q.transfer.handle) vb.links ≡ Some z.link' = ap (λ (t : TransferBody). find (has_peer_handle t.handle) vb.links) same-t ∙ z.found in
          let same-y : met.link ≡ z.link' = same-some (find (has_peer_handle q.transfer.handle) vb.links) met.link z.link' met.found found' in
          let link-is : u.link ≡ z.link'.number = ap (λ (i : Item). i.link) z.item in
          let one : y0 ≡ z.link' = one-number vb (has_name Receiver name) (has_peer_handle z.transfer.handle) y0 z.link' sb was z.found (sym on ∙ link-is) in
          let n1 = named-is (opposite l.role) l.name met.link (found-passes (has_name (opposite l.role) l.name) vb.links met.link met.named) in
          let n2 = named-is Receiver name y0 (found-passes (has_name Receiver name) vb.links y0 was) in
          let names : name ≡ l.name = n2.name_is ∙ ap (λ (l : LinkView). l.name) (one ∙ sym same-y) ∙ sym n1.name_is in
          let l-found : find (has_name Sender name) va.links ≡ Some l = ap (λ n. find (has_name Sender n) va.links) names ∙ ap (λ (r : Role). find (has_name r l.name) va.links) (sym q.role-is) ∙ here in
          let to : find (has_name Sender name) (next va e.step).links ≡ Some x.link' = ap (λ (v : View). find (has_name Sender name) v.links) (sym o.goes_on) ∙ x.found in
          let g = stays-on va (next va e.step) (sent_by va e.step) (received_by va e.step) Sender name l x.link' (link-step va e.step e.reply (due fa.1) la) o.sound l-found to x.unleft in
          let open' : q.settled ≡ false = unsettled q.settled (unwrap_or z.transfer.aborted false) (ap (λ (t : TransferBody). unwrap_or t.settled false) (sym q.transfer-is ∙ same-t)) z.unsettled in
          let i : Item = record { id = next_delivery va; link = q.number; tag = q.tag; second = rcv_mode l == 1; local = None; remote = None } in
          let now : begins (sent_by va e.step) ≡ Some i = ap (λ (s : Step). begins (sent_by va s)) q.is-start ∙ begun-now q.number q.tag q.settled l q.found open' in
          record {
            link' = x.link';
            found = x.found;
            held = record { item = i; told = false };
            there = subst (λ (v : View). In (record { item = i; told = false }) v.sent) (sym o.goes_on) (h.begun i now);
            id = sym s.id;
            tag = ap (λ (t : TransferBody). unwrap_or t.delivery_tag []) (sym q.transfer-is ∙ same-t) ∙ ap (λ (i : Item). i.tag) (sym z.item);
            on = sym (eqb-true l.number q.number (found-passes (has_number q.number) va.links l q.found)) ∙ sym g.number;
          }
        where
          begun-now : (number : ℕ) (tag : List ℕ) (settled : Bool) (l : LinkView) → find (has_number number) va.links ≡ Some l → settled ≡ false
              → begins (begun_on (next_delivery va) number tag settled (find (has_number number) va.links)) ≡ Some (record { id = next_delivery va; link = number; tag = tag; second = rcv_mode l == 1; local = None; remote = None })
          begun-now number tag settled l found open' = rw (found, open') refl

          unsettled : (settled aborted : Bool) {s : Bool} → unwrap_or (flag settled) false ≡ s → not (s || aborted) ≡ true → settled ≡ false
          unsettled true aborted e h = let k = rw (← e) at h in absurd (cc (k))
          unsettled false aborted e h = refl

held-pass : (ca cb : Config) (n : ℕ) (e : Entry) (a : List Entry) (e' : Entry) (b : List Entry) (f : Frame) → World ca cb (suc n) (e ∷ a) b → Tight ca cb n a b → Moves ca e a b → Moves cb e' b (e ∷ a)
    → sends e ≡ Some f → hears e' ≡ Some f → HeldAgree ca cb a b → HeldAgree ca cb (e ∷ a) (e' ∷ b)
held-pass ca cb n e a e' b f w t m m' sent heard'' k lives name y u found there on =
    let fair = fair-both ca cb (suc n) (e ∷ a) b w in
    let fb : AllFair cb (e' ∷ b) = (fair.1, m'.fair) in
    let lb = (lives-goes e' b lives).lived in
    let la = behind-lives ca cb n a b t lb in
    let o = one-more (Sender, []) cb e' b fb in
    let attached = attached-link cb (e' ∷ b) fb lives (one-sound cb (e' ∷ b) fb) (has_name Receiver name) y u found there on in
    let tight : count sends (e ∷ a) ≡ count hears (e' ∷ b) = (let s = t.tight in rw (sent, heard'', s) refl) in
    let x = ours-there ca cb (suc (suc n)) (e ∷ a) (e' ∷ b) (record { world = inr (w, m'); tight = tight }) lives name y found attached in
    let z = link-before cb e' b fb lives Receiver name y found attached (attached-ends y attached).1.1 in
    let h = held-step (at cb b) e'.step e'.reply (due m'.fair) lb in
    by fair.0 fb lb la x z.link' z.found (on ∙ z.number) (h.received u (subst (λ (v : View). In u v.received) o.goes_on there))
  where
    by : AllFair ca (e ∷ a) → AllFair cb (e' ∷ b) → Lives b → Lives a → Ours (at ca (e ∷ a)) name → (y0 : LinkView) → link (Receiver, name) cb b ≡ Some y0 → u.link ≡ y0.number
        → Stayed (received_by (at cb b) e'.step) (at cb b).received u ⊎ (begins (received_by (at cb b) e'.step) ≡ Some u) → Partner (at ca (e ∷ a)) name u
    by fa fb lb la x y0 was on' (inl s) = pass-stays ca cb n e a e' b f w t m m' sent heard'' lb la fa fb name x y0 was u k s on'
    by fa fb lb la x y0 was on' (inr is) = pass-begins ca cb n e a e' b f w t m m' sent heard'' lb la fa fb name x y0 was u is on'

held-kept : lag.IsKept sends hears IsFair HeldAgree
held-kept =
    record {
      starts = λ ca cb lives name y u found there on. absurd there;
      quiet = λ ca cb n e a b known w t m silent k. held-quiet ca cb n e a b w t m silent k;
      ahead = λ ca cb n e a b known w t m deaf k. held-ahead ca cb n e a b w m deaf k;
      pass = λ ca cb n e a e' b f known w t m m' sent heard'' k. held-pass ca cb n e a e' b f w t m m' sent heard'' k;
    }

-- where b has heard all that a sent, and its session is not over, a holds each delivery that b holds
pub held-known : (ca cb : Config) (n : ℕ) (a b : List Entry) → Tight ca cb n a b → HeldAgree ca cb a b
held-known ca cb n a b t = lag.exact sends hears IsFair HeldAgree held-kept ca cb n a b t
