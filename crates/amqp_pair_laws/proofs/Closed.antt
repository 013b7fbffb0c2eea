-- What an end still holds of what it received is in no range that it disposed and settled.
use Rattle.std.proofs.Common.{suc, ◌≡◌, ◌<◌, inl, inr, ◌⊎◌, ℕ, ◌^◌, ◌==◌, ◌||◌, Bool, true, false, not, cond, Option, Some, None, Ok, List, [], ◌∷◌, arith, refl, sym, ap, ◌∙◌, subst, find, unwrap_or, is_some}
use Rattle.amqp_flow.specs.Serial.{is_inside, wire}
use Rattle.amqp_performatives.specs.declared.bodies.Role.{Role}
use Rattle.amqp_performatives.specs.declared.bodies.Role.TheVariants.{Sender, Receiver}
use Rattle.amqp_performatives.specs.declared.bodies.DispositionBody.{DispositionBody}
use Rattle.amqp_performatives.specs.declared.bodies.TransferBody.{TransferBody}
use Rattle.amqp_performatives.specs.declared.performative.Performative.{Performative}
use Rattle.amqp_performatives.specs.declared.performative.Performative.TheVariants as heard
use Rattle.amqp_frames.specs.declared.frame.Frame.{Frame}
use Rattle.amqp_events.specs.Event.{Item, PassesOver}
use Rattle.amqp_events.specs.Joined.{Delivery}
use Rattle.amqp_events.specs.Named.{is_among}
use Rattle.amqp_events.specs.Unsettled.{begins, ends}
use Rattle.amqp_rules.specs.declared.config.Config.{Config}
use Rattle.amqp_rules.specs.declared.op.Op.{Op}
use Rattle.amqp_rules.specs.declared.op.Op.TheVariants as own
use Rattle.amqp_rules.specs.declared.reply.Reply.{Reply}
use Rattle.amqp_rules.specs.View.{LinkView, View, has_peer_handle, next_delivery, rcv_mode}
use Rattle.amqp_waiting.specs.Waiting.{WaitingItem}
use Rattle.amqp_performatives.specs.declared.state.DeliveryState.{DeliveryState}
use Rattle.amqp_rules.specs.Deliveries.{begins_unsettled, brought_by, state_brought, belongs_to, heard_of, item_of, left_by_peer, received_by_body, said_of, disposition_of, transfer_on, transferred}
use Rattle.amqp_rules.specs.PeerTransfer.{is_nameless}
use Rattle.amqp_rules.specs.Answer.{body_answer}
use Rattle.amqp_rules.proofs.Listed.{by-bool}
use Rattle.amqp_laws.specs.declared.entry.Entry.{Entry}
use Rattle.amqp_laws.specs.declared.entry.Step.{Step}
use Rattle.amqp_laws.specs.declared.entry.Step.TheVariants.{Opened, Own, Heard}
use Rattle.amqp_laws.specs.Said.{body_heard, own_in, starts}
use Rattle.amqp_laws.specs.Live.{live}
use Rattle.amqp_laws.specs.At.{at, received_by}
use Rattle.amqp_laws.specs.Lawful.{next}
use Rattle.amqp_laws.proofs.Twice.{and-both}
use Rattle.amqp_pair_laws.proofs.Plain.{due, no-start}
use Rattle.amqp_pair_laws.specs.Premise.{ids_heard}
use Rattle.amqp_pair_laws.specs.Moves.{count, said_as}
use Rattle.amqp_pair_laws.specs.World.{IsFair, Moves, Tight, World, frame_among, frame_in, hears, sends}
use Rattle.amqp_pair_laws.proofs.Lag as lag
use Rattle.amqp_pair_laws.proofs.SlotActs.{AllFair, Lives, one-more}
use Rattle.amqp_pair_laws.proofs.Sends.{IsOf, Sending, begins as begins', flows, others, silent, step-sending, transfers}
use Rattle.amqp_pair_laws.proofs.Opens.{body-of}
use Rattle.amqp_pair_laws.proofs.Windows.{lives-goes}
use Rattle.amqp_pair_laws.proofs.TurnHeard.{transfer-accepts}
use Rattle.amqp_pair_laws.proofs.CountsKept.{fair-both}
use Rattle.amqp_pair_laws.proofs.CountsKnown.{same-some}
use Rattle.amqp_pair_laws.proofs.Ids.{ids-known}
use Rattle.amqp_pair_laws.proofs.Expected.{Began, NoId, began, heard-answers, later-none}
use Rattle.amqp_pair_laws.proofs.Members.{In, Stayed}
use Rattle.amqp_pair_laws.proofs.HeldSteps.{held-step}
use Rattle.amqp_pair_laws.proofs.Fresh.{AllOutside, IsOutside, next-fresh, outside-new}

-- # One step

-- what stays is outside of the step's range
outside-stays : (v : View) (step : Step) (i : Item) → ends (received_by v step) i ≡ false → IsOutside step i.id
outside-stays v (Own (own.Dispose Receiver first last true state)) i h = h
outside-stays v _ i h = tt

all-same : (past : List Entry) (i j : ℕ) → j ≡ i → AllOutside past i → AllOutside past j
all-same past i j same h = subst (λ (n : ℕ). AllOutside past n) (sym same) h

pub own-begins : (v : View) (step : Step) (j : Item) → frame_in step ≡ None → begins (received_by v step) ≡ Some j → ⊥
own-begins v (Opened told) j none is = absurd (cc (is))
own-begins v (Own (own.Dispose role first last settled state)) j none is = by role is
  where
    by : (role : Role) → begins (said_of Receiver role (record { first = first; last = last; settled = settled; state = state })) ≡ Some j → ⊥
    by Sender is = absurd (cc (is))
    by Receiver is = absurd (cc (is))
own-begins v (Own op) j none is = absurd (cc (is))
own-begins v (Heard f) j none is = absurd (cc (none))

-- a delivery begins that is heard
pub record BeganHere (v : View) (body : Option Performative) (j : Item) : Type 0 where
  pub transfer : TransferBody
  pub link' : LinkView
  pub body-is : body ≡ Some (heard.Transfer transfer)
  pub found : find (has_peer_handle transfer.handle) v.links ≡ Some link'
  pub stays : link'.left ≡ false
  pub first : link'.receiving ≡ None
  pub ours : Option DeliveryState
  -- it has a state of ours only where it is brought in
  pub bare : unwrap_or transfer.resume false ≡ false → ours ≡ None
  pub item : j ≡ record (item_of link'.number (transferred (rcv_mode link') transfer []) transfer.state) { local = ours }
  pub unsettled : not (unwrap_or transfer.settled false || unwrap_or transfer.aborted false) ≡ true

pub began-here : (v : View) (body : Option Performative) (j : Item) → begins (received_by_body v body) ≡ Some j → BeganHere v body j
began-here v (Some (heard.Transfer t)) j is = by (find (has_peer_handle t.handle) v.links) refl is
  where
    begin : (l : LinkView) → find (has_peer_handle t.handle) v.links ≡ Some l → l.left ≡ false → l.receiving ≡ None → (brought : Option WaitingItem) → (unwrap_or t.resume false ≡ false → state_brought brought ≡ None) → (u : Bool) → begins_unsettled (transferred (rcv_mode l) t []) brought ≡ u
        → cond u (Some (record (item_of l.number (transferred (rcv_mode l) t []) t.state) { local = state_brought brought })) None ≡ Some j → BeganHere v (Some (heard.Transfer t)) j
    begin l found stays first brought bare true u is =
        let one : record (item_of l.number (transferred (rcv_mode l) t []) t.state) { local = state_brought brought } ≡ j = cc is in
        record {
          transfer = t;
          link' = l;
          body-is = refl;
          found = found;
          stays = stays;
          first = first;
          ours = state_brought brought;
          bare = bare;
          item = sym one;
          unsettled = (and-both (not (unwrap_or t.settled false || unwrap_or t.aborted false)) (not (unwrap_or t.resume false) || is_some brought) u).0;
        }
    begin l found stays first brought bare false u is = absurd (cc (is))

    on : (l : LinkView) → find (has_peer_handle t.handle) v.links ≡ Some l → (left : Bool) → l.left ≡ left → (d : Option Delivery) → l.receiving ≡ d
        → begins (cond left (PassesOver t.delivery_id) (belongs_to l.number l.waiting (transferred (rcv_mode l) t []) t.state d)) ≡ Some j → BeganHere v (Some (heard.Transfer t)) j
    on l found true e d r is = absurd (cc (is))
    on l found false e (Some d) r is = absurd (cc (is))
    on l found false e None r is = begin l found e r (brought_by (transferred (rcv_mode l) t []) l.waiting) (λ new. rw new refl) (begins_unsettled (transferred (rcv_mode l) t []) (brought_by (transferred (rcv_mode l) t []) l.waiting)) refl is

    by : (o : Option LinkView) → find (has_peer_handle t.handle) v.links ≡ o → begins (transfer_on t o) ≡ Some j → BeganHere v (Some (heard.Transfer t)) j
    by None found is = absurd (cc (is))
    by (Some l) found is = on l found l.left refl l.receiving refl is
began-here v (Some (heard.Disposition d)) j is = absurd (by d.role is)
  where
    by : (role : Role) → begins (heard_of Receiver d role) ≡ Some j → ⊥
    by Sender is = absurd (cc (is))
    by Receiver is = absurd (cc (is))
began-here v (Some (heard.Detach d)) j is = absurd (by (find (has_peer_handle d.handle) v.links) is)
  where
    by : (o : Option LinkView) → begins (left_by_peer o) ≡ Some j → ⊥
    by None is = absurd (cc (is))
    by (Some l) is = absurd (cc (is))
began-here v _ j is = absurd (cc (is))

-- the end that sent it began the delivery, too
pub record Starts (ca : Config) (e : Entry) (a : List Entry) (f : Frame) (j : Item) : Type 0 where
  pub starts' : starts e ≡ true
  pub began' : Began (at ca a) e.step f
  pub id : j.id ≡ next_delivery (at ca a)

nameless-none : (t : TransferBody) → t.delivery_id ≡ None → is_nameless t ≡ true
nameless-none t none = rw none refl

pub no-id : (o : Option Performative) (t : TransferBody) → NoId o → o ≡ Some (heard.Transfer t) → t.delivery_id ≡ None
no-id o t h is = (let k : NoId (Some (heard.Transfer t)) = subst (λ (o : Option Performative). NoId o) is h in k)

pub starts-there : (ca cb : Config) (n : ℕ) (e : Entry) (a : List Entry) (e' : Entry) (b : List Entry) (f : Frame) → Moves ca e a b → Moves cb e' b (e ∷ a) → Lives b → sends e ≡ Some f → hears e' ≡ Some f
    → (j : Item) → (x : BeganHere (at cb b) f.body j) → Starts ca e a f j
starts-there ca cb n e a e' b f m m' lb sent heard' j x =
    let t = x.transfer in
    let answer : body_answer (at cb b) f.body f.payload ≡ Ok e'.reply = heard-answers (at cb b) e'.step e'.reply f (due m'.fair) lb heard' in
    let answer' : body_answer (at cb b) (Some (heard.Transfer t)) f.payload ≡ Ok e'.reply = subst (λ (o : Option Performative). body_answer (at cb b) o f.payload ≡ Ok e'.reply) x.body-is answer in
    let accepts = transfer-accepts (at cb b) t f.payload e'.reply answer' in
    let one : accepts.on ≡ x.link' = same-some (find (has_peer_handle t.handle) (at cb b).links) accepts.on x.link' accepts.found x.found in
    let named : is_nameless t ≡ false = accepts.named (ap (λ (l : LinkView). l.left) one ∙ x.stays) (ap (λ (l : LinkView). l.receiving) one ∙ x.first) in
    by-bool (starts e)
    (λ (s : starts e ≡ true).
    let y = began (at ca a) e.step e.reply f (due m.fair) s sent in
    let same : y.transfer ≡ t = (let k : ◌≡◌ {A = Option Performative} (Some (heard.Transfer y.transfer)) (Some (heard.Transfer t)) = sym y.body ∙ x.body-is in cc k) in
    let id : t.delivery_id ≡ Some (next_delivery (at ca a)) = ap (λ (t : TransferBody). t.delivery_id) (sym same) ∙ y.named in
    record { starts' = s; began' = y; id = ap (λ (i : Item). i.id) x.item ∙ ap (λ (o : Option ℕ). unwrap_or o 0) id })
    (λ (s : starts e ≡ false).
    let none = no-id f.body t (later-none (at ca a) (next (at ca a) e.step) (body_heard e.step) (own_in e.step) e.reply f (step-sending (at ca a) e.step e.reply (due m.fair)) (no-start e s) sent) x.body-is in
    let yes = nameless-none t none in
    absurd (cc (yes, named)))

-- # The claim

abbrev pub ClosedAgree : Config → Config → List Entry → List Entry → Type 0
ClosedAgree ca cb a b = Lives b → (u : Item) → In u (at cb b).received → AllOutside b u.id

closed-stays : (c : Config) (e : Entry) (b : List Entry) → Lives b → (u : Item) → Stayed (received_by (at c b) e.step) (at c b).received u → ((i : Item) → In i (at c b).received → AllOutside b i.id) → AllOutside (e ∷ b) u.id
closed-stays c e b lb u s k =
    let same : u.id ≡ s.item.id = s.same.id in
    all-same (e ∷ b) s.item.id u.id same (outside-stays (at c b) e.step s.item s.stays, k s.item s.there)

closed-ahead : (ca cb : Config) (n : ℕ) (e : Entry) (a b : List Entry) → World ca cb (suc n) a (e ∷ b) → Moves cb e b a → hears e ≡ None → ClosedAgree ca cb a b → ClosedAgree ca cb a (e ∷ b)
closed-ahead ca cb n e a b w m deaf k lives u there =
    let fb = (fair-both ca cb (suc n) a (e ∷ b) w).1 in
    let lb = (lives-goes e b lives).lived in
    let o = one-more (Sender, []) cb e b fb in
    let h = held-step (at cb b) e.step e.reply (due m.fair) lb in
    by (h.received u (subst (λ (v : View). In u v.received) o.goes_on there)) lb
  where
    by : Stayed (received_by (at cb b) e.step) (at cb b).received u ⊎ (begins (received_by (at cb b) e.step) ≡ Some u) → Lives b → AllOutside (e ∷ b) u.id
    by (inl s) lb = closed-stays cb e b lb u s (k lb)
    by (inr is) lb = absurd (own-begins (at cb b) e.step u deaf is)

pub wire-small : (n : ℕ) → wire n < 2 ^ 32
wire-small n = omega arith

pub heard-body' : (v : View) (step : Step) (f : Frame) → frame_in step ≡ Some f → received_by v step ≡ received_by_body v f.body
heard-body' v (Opened told) f is = absurd (cc (is))
heard-body' v (Own op) f is = absurd (cc (is))
heard-body' v (Heard g) f is = let one : g ≡ f = cc is in ap (λ (f : Frame). received_by_body v f.body) one

closed-pass : (ca cb : Config) (n : ℕ) (e : Entry) (a : List Entry) (e' : Entry) (b : List Entry) (f : Frame) → World ca cb (suc n) (e ∷ a) b → Tight ca cb n a b → Moves ca e a b → Moves cb e' b (e ∷ a)
    → sends e ≡ Some f → hears e' ≡ Some f → ClosedAgree ca cb a b → ClosedAgree ca cb (e ∷ a) (e' ∷ b)
closed-pass ca cb n e a e' b f w t m m' sent heard' k lives u there =
    let fair = fair-both ca cb (suc n) (e ∷ a) b w in
    let lb = (lives-goes e' b lives).lived in
    let o = one-more (Sender, []) cb e' b (fair.1, m'.fair) in
    let h = held-step (at cb b) e'.step e'.reply (due m'.fair) lb in
    by (h.received u (subst (λ (v : View). In u v.received) o.goes_on there)) lb
  where
    heard-outside : (step : Step) (id : ℕ) → frame_in step ≡ Some f → IsOutside step id
    heard-outside (Heard g) id is = tt
    heard-outside (Opened told) id is = absurd (cc (is))
    heard-outside (Own op) id is = absurd (cc (is))

    by : Stayed (received_by (at cb b) e'.step) (at cb b).received u ⊎ (begins (received_by (at cb b) e'.step) ≡ Some u) → Lives b → AllOutside (e' ∷ b) u.id
    by (inl s) lb = closed-stays cb e' b lb u s (k lb)
    by (inr is) lb =
        let fair = fair-both ca cb (suc n) (e ∷ a) b w in
        let x = began-here (at cb b) f.body u (ap begins (sym (heard-body' (at cb b) e'.step f heard')) ∙ is) in
        let s = starts-there ca cb n e a e' b f m m' lb sent heard' u x in
        let new : is_among (ids_heard (live b)) (next_delivery (at ca a)) ≡ false = ap (λ ids. is_among ids (next_delivery (at ca a))) (ids-known ca cb n a b t lb) ∙ next-fresh ca a fair.0.0 in
        all-same (e' ∷ b) (next_delivery (at ca a)) u.id s.id (heard-outside e'.step (next_delivery (at ca a)) heard', outside-new cb b (next_delivery (at ca a)) fair.1 (wire-small _) new)

closed-kept : lag.IsKept sends hears IsFair ClosedAgree
closed-kept =
    record {
      starts = λ ca cb lives u there. absurd there;
      quiet = λ ca cb n e a b known w t m silent k. k;
      ahead = λ ca cb n e a b known w t m deaf k. closed-ahead ca cb n e a b w m deaf k;
      pass = λ ca cb n e a e' b f known w t m m' sent heard' k. closed-pass ca cb n e a e' b f w t m m' sent heard' k;
    }

-- where b has heard all that a sent, and its session is not over, nothing that it holds is in a range that it disposed and settled
pub closed-known : (ca cb : Config) (n : ℕ) (a b : List Entry) → Tight ca cb n a b → ClosedAgree ca cb a b
closed-known ca cb n a b t = lag.exact sends hears IsFair ClosedAgree closed-kept ca cb n a b t

-- # A disposition on its way back

pub disposed-by : (v after : View) (heard' : Option Performative) (op : Option Op) (reply : Reply) (g : Frame) (d : DispositionBody) → Sending v after heard' op reply → frame_among reply.sent ≡ Some g → g.body ≡ Some (heard.Disposition d) → IsOf op d
disposed-by v after heard' op reply g d (silent q) sent body = absurd (cc (q, sent))
disposed-by v after heard' op reply g d (transfers t payload deaf mapped room named carries' is) sent body = let k = body-of reply.sent (heard.Transfer t) payload g is sent in absurd (cc (k, body))
disposed-by v after heard' op reply g d (flows w t mapped open' begun numbers is) sent body = let k = body-of reply.sent (heard.Flow w) [] g is sent in absurd (cc (k, body))
disposed-by v after heard' op reply g d (begins' w deaf is-begin unsent open' takes comes is) sent body = let k = body-of reply.sent (heard.Begin w) [] g is sent in absurd (cc (k, body))
disposed-by v after heard' op reply g d (others p payload t w beside is) sent body = let k = body-of reply.sent p payload g is sent in beside.says d (sym k ∙ body)

outside-of : (step : Step) (d : DispositionBody) (id : ℕ) → IsOf (own_in step) d → d.role ≡ Receiver → (disposition_of d).settled ≡ true → IsOutside step id → is_inside id (disposition_of d).first (disposition_of d).last ≡ false
outside-of (Own (own.Dispose role first last settled state)) d id of r s outside =
    ap (λ n. is_inside id n (disposition_of d).last) of.1.0 ∙ ap (λ n. is_inside id first n) of.1.1.0 ∙ by role settled of.0 of.1.1.1.0 outside
  where
    by : (role : Role) (settled : Bool) → d.role ≡ role → (disposition_of d).settled ≡ settled → IsOutside (Own (own.Dispose role first last settled state)) id → is_inside id first last ≡ false
    by Receiver true e f h = h
    by Receiver false e f h = absurd (cc (f, s))
    by Sender settled e f h = absurd (cc (e, r))
outside-of _ d id of r s outside = absurd of

-- a disposition that b sent of what it received, and by which it settled, has none of what is outside in its range
pub outside-range : (c : Config) (n : ℕ) (b : List Entry) (g : Frame) (d : DispositionBody) → AllFair c b → said_as sends n b ≡ Some g → g.body ≡ Some (heard.Disposition d) → d.role ≡ Receiver → (disposition_of d).settled ≡ true
    → (id : ℕ) → AllOutside b id → is_inside id (disposition_of d).first (disposition_of d).last ≡ false
outside-range c n [] g d fair said body r s id outside = absurd (cc (said))
outside-range c n (e ∷ b) g d fair said body r s id outside =
    by-bool (count sends b == n)
    (λ (t : (count sends b == n) ≡ true).
    let sent : sends e ≡ Some g = (let k = rw t at said in k) in
    let of = disposed-by (at c b) (next (at c b) e.step) (body_heard e.step) (own_in e.step) e.reply g d (step-sending (at c b) e.step e.reply (due fair.1)) sent body in
    outside-of e.step d id of r s outside.0)
    (λ (f : (count sends b == n) ≡ false). let k : said_as sends n b ≡ Some g = (let k = rw f at said in k) in outside-range c n b g d fair.0 k body r s id outside.1)
