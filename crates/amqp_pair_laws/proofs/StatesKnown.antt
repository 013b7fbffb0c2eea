-- What the sender of a delivery said of it last is what the other end, which has heard all, heard of it last.
use Rattle.std.proofs.Common.{suc, ◌≡◌, ◌⊎◌, inl, inr, ℕ, ◌+◌, ◌==◌, not, Bool, true, false, cond, Option, Some, None, List, [], ◌∷◌, refl, sym, ap, ◌∙◌, subst, find, filter, map}
use Rattle.amqp_flow.specs.Serial.{is_inside}
use Rattle.amqp_performatives.specs.declared.bodies.Role.{Role}
use Rattle.amqp_performatives.specs.declared.bodies.Role.TheVariants.{Sender, Receiver}
use Rattle.amqp_performatives.specs.declared.bodies.DispositionBody.{DispositionBody}
use Rattle.amqp_performatives.specs.declared.bodies.TransferBody.{TransferBody}
use Rattle.amqp_performatives.specs.declared.state.DeliveryState.{DeliveryState}
use Rattle.amqp_performatives.specs.declared.performative.Performative.{Performative}
use Rattle.amqp_performatives.specs.declared.performative.Performative.TheVariants as heard
use Rattle.amqp_frames.specs.declared.frame.Frame.{Frame}
use Rattle.amqp_events.specs.Event.{Event, Item, PassesOver}
use Rattle.amqp_events.specs.Joined.{Delivery}
use Rattle.amqp_events.specs.Since.{or_earlier}
use Rattle.amqp_events.specs.Told.{SentItem, added_sent, next_sent, next_sent_held}
use Rattle.amqp_events.specs.Unsettled.{added, begins, ends, next_held, said_to, says_local, says_remote}
use Rattle.amqp_rules.specs.declared.config.Config.{Config}
use Rattle.amqp_rules.specs.declared.op.Op.{Op}
use Rattle.amqp_rules.specs.declared.op.Op.TheVariants as own
use Rattle.amqp_rules.specs.declared.reply.Reply.{Reply}
use Rattle.amqp_rules.specs.declared.reply.Given.TheVariants as given
use Rattle.amqp_rules.specs.View.{LinkView, View, handle_of, has_number, has_peer_handle, next_delivery, rcv_mode}
use Rattle.amqp_rules.specs.Sending.{frame_of, sends as sends'}
use Rattle.amqp_rules.specs.Telling.{flag}
use Rattle.amqp_rules.specs.Start.{start_body, start_refusals}
use Rattle.amqp_rules.specs.Carry.{carry_refusals, later_body}
use Rattle.amqp_rules.specs.Deliveries.{begun_on, belongs_to, continued_on, disposition_of, heard_of, left_by_peer, received_by_body, said_of, sending_on, sent_by_body, transfer_on, transferred}
use Rattle.amqp_rules.proofs.Accepted.{on-link-ok, sends-ok}
use Rattle.amqp_rules.proofs.Listed.{by-bool}
use Rattle.amqp_laws.specs.declared.entry.Entry.{Entry}
use Rattle.amqp_laws.specs.declared.entry.Step.{Step}
use Rattle.amqp_laws.specs.declared.entry.Step.TheVariants.{Opened, Own, Heard}
use Rattle.amqp_laws.specs.Said.{body_heard, is_start, own_in}
use Rattle.amqp_laws.specs.Live.{live}
use Rattle.amqp_laws.specs.At.{at, received_by, sent_by, started}
use Rattle.amqp_laws.specs.Lawful.{next}
use Rattle.amqp_pair_laws.specs.Moves.{count}
use Rattle.amqp_pair_laws.specs.World.{IsFair, Moves, Tight, World, frame_among, frame_in, hears, sends}
use Rattle.amqp_pair_laws.proofs.Lag as lag
use Rattle.amqp_pair_laws.proofs.Plain.{Answers, OwnAnswers, due, no-start, of-resumed}
use Rattle.amqp_pair_laws.proofs.SlotActs.{AllFair, Lives}
use Rattle.amqp_pair_laws.proofs.Sends.{IsOf, is_carrier, step-sending}
use Rattle.amqp_pair_laws.proofs.Windows.{Goes, lives-goes}
use Rattle.amqp_pair_laws.proofs.Over.{behind-lives}
use Rattle.amqp_pair_laws.proofs.CountsKnown.{same-some}
use Rattle.amqp_pair_laws.proofs.CountsKept.{fair-both}
use Rattle.amqp_pair_laws.proofs.Members.{In, in-append}
use Rattle.amqp_pair_laws.proofs.Expected.{quiet-starts}
use Rattle.amqp_pair_laws.proofs.HeldSteps.{begins-ours}
use Rattle.amqp_pair_laws.proofs.HeldKnown.{abort-sent, own-answers}
use Rattle.amqp_pair_laws.proofs.Closed.{began-here, disposed-by, heard-body', own-begins, starts-there}
use Rattle.amqp_pair_laws.proofs.TakenPass.{sends-transfer}
use Rattle.amqp_pair_laws.proofs.Fresh.{serial-apart, started-few}
use Rattle.amqp_pair_laws.proofs.SaidKnown.{dispose-loud}
use Rattle.amqp_pair_laws.proofs.Ordered.{number}
use Rattle.amqp_pair_laws.proofs.Serials.{item_id, received-ascends, received-is, received-next, received_now, sent-ascends, sent-is, sent-next, sent_id, sent_now}

-- # One event

-- it was there before, and this is what the event made of it
record Came (e : Event) (items : List SentItem) (s : SentItem) : Type 0 where
  before : SentItem
  there : In before items
  is : s ≡ next_sent e before

came-more : (e : Event) (t : SentItem) (items : List SentItem) (s : SentItem) → Came e items s → Came e (t ∷ items) s
came-more e t items s c = record { before = c.before; there = inr c.there; is = c.is }

came : (e : Event) (items : List SentItem) (s : SentItem) → In s (map (next_sent e) (filter (λ s. not (ends e s.item)) items)) → Came e items s
came e [] s h = absurd h
came e (t ∷ items) s h =
    by-bool (not (ends e t.item))
    (λ (b : not (ends e t.item) ≡ true).
    let k : (s ≡ next_sent e t) ⊎ In s (map (next_sent e) (filter (λ s. not (ends e s.item)) items)) = (let k = rw b at h in k) in
    by (came e items s) k)
    (λ (b : not (ends e t.item) ≡ false). let k = rw b at h in came-more e t items s (came e items s k))
  where
    by : (In s (map (next_sent e) (filter (λ s. not (ends e s.item)) items)) → Came e items s) → (s ≡ next_sent e t) ⊎ In s (map (next_sent e) (filter (λ s. not (ends e s.item)) items)) → Came e (t ∷ items) s
    by later (inl is) = record { before = t; there = inl refl; is = is }
    by later (inr rest) = came-more e t items s (later rest)

came-sent : (e : Event) (items : List SentItem) (s : SentItem) → In s (next_sent_held e items) → Came e items s ⊎ (begins e ≡ Some s.item)
came-sent e items s h = by (in-append s (map (next_sent e) (filter (λ s. not (ends e s.item)) items)) (added_sent (begins e)) h)
  where
    now : (o : Option Item) → In s (added_sent o) → o ≡ Some s.item
    now None h = absurd h
    now (Some i) (inl is) = ap (λ (t : SentItem). Some t.item) (sym is)
    now (Some i) (inr h) = absurd h

    by : In s (map (next_sent e) (filter (λ s. not (ends e s.item)) items)) ⊎ In s (added_sent (begins e)) → Came e items s ⊎ (begins e ≡ Some s.item)
    by (inl k) = inl (came e items s k)
    by (inr k) = inr (now (begins e) k)

record Stood (e : Event) (items : List Item) (j : Item) : Type 0 where
  before : Item
  there : In before items
  is : j ≡ said_to e before

stood-more : (e : Event) (i : Item) (items : List Item) (j : Item) → Stood e items j → Stood e (i ∷ items) j
stood-more e i items j c = record { before = c.before; there = inr c.there; is = c.is }

stood : (e : Event) (items : List Item) (j : Item) → In j (map (said_to e) (filter (λ i. not (ends e i)) items)) → Stood e items j
stood e [] j h = absurd h
stood e (i ∷ items) j h =
    by-bool (not (ends e i))
    (λ (b : not (ends e i) ≡ true).
    let k : (j ≡ said_to e i) ⊎ In j (map (said_to e) (filter (λ i. not (ends e i)) items)) = (let k = rw b at h in k) in
    by (stood e items j) k)
    (λ (b : not (ends e i) ≡ false). let k = rw b at h in stood-more e i items j (stood e items j k))
  where
    by : (In j (map (said_to e) (filter (λ i. not (ends e i)) items)) → Stood e items j) → (j ≡ said_to e i) ⊎ In j (map (said_to e) (filter (λ i. not (ends e i)) items)) → Stood e (i ∷ items) j
    by later (inl is) = record { before = i; there = inl refl; is = is }
    by later (inr rest) = stood-more e i items j (later rest)

stood-held : (e : Event) (items : List Item) (j : Item) → In j (next_held e items) → Stood e items j ⊎ (begins e ≡ Some j)
stood-held e items j h = by (in-append j (map (said_to e) (filter (λ i. not (ends e i)) items)) (added (begins e)) h)
  where
    now : (o : Option Item) → In j (added o) → o ≡ Some j
    now None h = absurd h
    now (Some i) (inl is) = ap (λ i. Some i) (sym is)
    now (Some i) (inr h) = absurd h

    by : In j (map (said_to e) (filter (λ i. not (ends e i)) items)) ⊎ In j (added (begins e)) → Stood e items j ⊎ (begins e ≡ Some j)
    by (inl k) = inl (stood e items j k)
    by (inr k) = inr (now (begins e) k)

-- # What a step says

none-either : (b : Bool) → cond {A = Option DeliveryState} b None None ≡ None
none-either true = refl
none-either false = refl

own-local : (v : View) (step : Step) (i : Item) → ((first last : ℕ) (settled : Bool) (state : Option DeliveryState) → step ≡ Own (own.Dispose Sender first last settled state) → ⊥) → says_local i (sent_by v step) ≡ None
own-local v (Own (own.Start link tag format settled payload more)) i none = by (find (has_number link) v.links)
  where
    by : (o : Option LinkView) → says_local i (begun_on (next_delivery v) link tag settled o) ≡ None
    by None = refl
    by (Some l) = refl
own-local v (Own (own.Carry link payload more)) i none = by (sending_on (find (has_number link) v.links))
  where
    by : (o : _) → says_local i (continued_on false o) ≡ None
    by None = refl
    by (Some d) = refl
own-local v (Own (own.Abort link)) i none = by (sending_on (find (has_number link) v.links))
  where
    by : (o : _) → says_local i (continued_on true o) ≡ None
    by None = refl
    by (Some d) = refl
own-local v (Own (own.Dispose Sender first last settled state)) i none = absurd (none first last settled state refl)
own-local v (Own (own.Dispose Receiver first last settled state)) i none = refl
own-local v (Own (own.Resume link tag settled)) i none = of-resumed (λ e. says_local i e ≡ None) refl (λ j unsettled. refl) (next_delivery v) link tag settled (find (has_number link) v.links)
own-local v (Heard f) i none = by f.body
  where
    left : (o : Option LinkView) → says_local i (left_by_peer o) ≡ None
    left None = refl
    left (Some l) = refl

    said : (d : DispositionBody) (role : Role) → says_local i (heard_of Sender d role) ≡ None
    said d Sender = refl
    said d Receiver = refl

    by : (body : Option Performative) → says_local i (sent_by_body v body) ≡ None
    by (Some (heard.Disposition d)) = said d d.role
    by (Some (heard.Detach d)) = left (find (has_peer_handle d.handle) v.links)
    by _ = refl
own-local v _ i none = refl

local-loud : (v : View) (step : Step) (reply : Reply) (i : Item) → Answers v step reply → ((f : Frame) (d : DispositionBody) → frame_among reply.sent ≡ Some f → f.body ≡ Some (heard.Disposition d) → ⊥) → says_local i (sent_by v step) ≡ None
local-loud v step reply i h none =
    own-local v step i (λ first last settled state is. none _ _ (dispose-loud v Sender first last settled state reply (own-answers v step reply (own.Dispose Sender first last settled state) h is)) refl)

own-hears : (v : View) (step : Step) (j : Item) → frame_in step ≡ None → says_remote j (received_by v step) ≡ None
own-hears v (Own (own.Dispose role first last settled state)) j none = by role
  where
    by : (role : Role) → says_remote j (said_of Receiver role (record { first = first; last = last; settled = settled; state = state })) ≡ None
    by Sender = refl
    by Receiver = refl
own-hears v (Heard f) j none = absurd (cc (none))
own-hears v _ j none = refl

-- a transfer gives no state
body-hears : (v : View) (body : Option Performative) (j : Item) → ((d : DispositionBody) → body ≡ Some (heard.Disposition d) → ⊥) → ((t : TransferBody) → body ≡ Some (heard.Transfer t) → t.state ≡ None) → says_remote j (received_by_body v body) ≡ None
body-hears v (Some (heard.Disposition d)) j none bare = absurd (none d refl)
body-hears v (Some (heard.Transfer t)) j none bare = by (find (has_peer_handle t.handle) v.links)
  where
    of : (l : LinkView) (o : Option Delivery) → says_remote j (belongs_to l.number l.waiting (transferred (rcv_mode l) t []) t.state o) ≡ None
    of l None = refl
    of l (Some c) = ap (λ s. cond (j.id == c.id) s None) (bare t refl) ∙ none-either (j.id == c.id)

    on : (l : LinkView) (left : Bool) → says_remote j (cond left (PassesOver t.delivery_id) (belongs_to l.number l.waiting (transferred (rcv_mode l) t []) t.state l.receiving)) ≡ None
    on l true = refl
    on l false = of l l.receiving

    by : (o : Option LinkView) → says_remote j (transfer_on t o) ≡ None
    by None = refl
    by (Some l) = on l l.left
body-hears v (Some (heard.Detach d)) j none bare = by (find (has_peer_handle d.handle) v.links)
  where
    by : (o : Option LinkView) → says_remote j (left_by_peer o) ≡ None
    by None = refl
    by (Some l) = refl
body-hears v _ j none bare = refl

abbrev state_in : Option Performative → Option DeliveryState
state_in (Some (heard.Transfer t)) = t.state
state_in _ = None

carrier-bare : (v : View) (op : Op) (reply : Reply) (f : Frame) (t : TransferBody) → OwnAnswers v op reply → is_carrier (Some op) ≡ true → frame_among reply.sent ≡ Some f → f.body ≡ Some (heard.Transfer t) → t.state ≡ None
carrier-bare v (own.Start number tag format settled payload more) reply f t h carrier sent is =
    let id = next_delivery v in
    let o = on-link-ok v number (λ l. sends' v.max_frame (start_refusals v l tag settled payload) (start_body (handle_of l.ours) id tag format settled more) payload (given.Delivery id)) reply h in
    let k = sends-ok v.max_frame (start_refusals v o.on tag settled payload) (start_body (handle_of o.on.ours) id tag format settled more) payload (given.Delivery id) reply o.said in
    let sent' : frame_among reply.sent ≡ Some (frame_of (start_body (handle_of o.on.ours) id tag format settled more) payload) = ap (λ (r : Reply). frame_among r.sent) (sym k.replies) in
    let one = same-some (frame_among reply.sent) (frame_of (start_body (handle_of o.on.ours) id tag format settled more) payload) f sent' sent in
    sym (ap (λ (f : Frame). state_in f.body) one ∙ ap state_in is)
carrier-bare v (own.Carry link payload more) reply f t h carrier sent is =
    let o = on-link-ok v link (λ l. sends' v.max_frame (carry_refusals v l payload) (later_body (handle_of l.ours) (flag more) None) payload given.Nothing) reply h in
    let k = sends-ok v.max_frame (carry_refusals v o.on payload) (later_body (handle_of o.on.ours) (flag more) None) payload given.Nothing reply o.said in
    let sent' : frame_among reply.sent ≡ Some (frame_of (later_body (handle_of o.on.ours) (flag more) None) payload) = ap (λ (r : Reply). frame_among r.sent) (sym k.replies) in
    let one = same-some (frame_among reply.sent) (frame_of (later_body (handle_of o.on.ours) (flag more) None) payload) f sent' sent in
    sym (ap (λ (f : Frame). state_in f.body) one ∙ ap state_in is)
carrier-bare v (own.Abort link) reply f t h carrier sent is =
    let x = abort-sent v link reply h in
    let one = same-some (frame_among reply.sent) _ f x.1.1.1.1 sent in
    sym (ap (λ (f : Frame). state_in f.body) one ∙ ap state_in is)
carrier-bare v _ reply f t h carrier sent is = absurd (cc (carrier))

-- a disposition passes: what the sender says the other end hears
same-both : (v w : View) (step : Step) (d : DispositionBody) (t j : Item) → IsOf (own_in step) d → t.id ≡ j.id → says_local t (sent_by v step) ≡ says_remote j (received_by_body w (Some (heard.Disposition d)))
same-both v w (Own (own.Dispose role first last settled state)) d t j of same = by role of.0
  where
    by : (role : Role) → d.role ≡ role → says_local t (said_of Sender role (record { first = first; last = last; settled = settled; state = state })) ≡ says_remote j (heard_of Receiver d d.role)
    by Sender is =
        ap (λ n. cond (is_inside n first last) state None) same
        ∙ sym (ap (λ r. says_remote j (heard_of Receiver d r)) is ∙ ap (λ n. cond (is_inside j.id n (disposition_of d).last) d.state None) of.1.0 ∙ ap (λ n. cond (is_inside j.id first n) d.state None) of.1.1.0
        ∙ ap (λ s. cond (is_inside j.id first last) s None) of.1.1.1.1)
    by Receiver is = sym (ap (λ r. says_remote j (heard_of Receiver d r)) is)
same-both v w _ d t j of same = absurd of

-- # What is claimed

abbrev pub StatesHeard : Config → Config → List Entry → List Entry → Type 0
StatesHeard ca cb a b = Lives b → (s : SentItem) → In s (at ca a).sent → (i : Item) → In i (at cb b).received → s.item.id ≡ i.id → s.item.local ≡ i.remote

states-quiet : (ca cb : Config) (n : ℕ) (e : Entry) (a b : List Entry) → World ca cb (suc n) (e ∷ a) b → Tight ca cb n a b → Moves ca e a b → sends e ≡ None → StatesHeard ca cb a b → StatesHeard ca cb (e ∷ a) b
states-quiet ca cb n e a b w t m silent k lives s in-s i in-i same =
    let tight : count sends (e ∷ a) ≡ count hears b = (let s = t.tight in rw silent s) in
    let g = lives-goes e a (behind-lives ca cb (suc n) (e ∷ a) b (record { world = w; tight = tight }) lives) in
    by (came-sent es (at ca a).sent s (subst (λ (l : List SentItem). In s l) (sent-next ca e a g) in-s))
  where
    es : Event
    es = sent_now ca e a

    by : Came es (at ca a).sent s ⊎ (begins es ≡ Some s.item) → s.item.local ≡ i.remote
    by (inl c) =
        let none = ap (says_local c.before.item) (sent-is ca e a) ∙ local-loud (at ca a) e.step e.reply c.before.item (due m.fair) (λ f d sent body. absurd (cc (sent, silent))) in
        ap (λ (s : SentItem). s.item.local) c.is ∙ ap (λ o. or_earlier o c.before.item.local) none ∙ k lives c.before c.there i in-i (sym (ap sent_id c.is) ∙ same)
    by (inr is) =
        let z = begins-ours (at ca a) e.step e.reply (due m.fair) s.item (ap begins (sym (sent-is ca e a)) ∙ is) in
        let none = quiet-starts (at ca a) e.step e.reply (due m.fair) silent in
        let yes = ap (λ s. is_start (own_in s)) z.is-start in
        let none' = no-start e none in
        absurd (cc (none', yes))

states-ahead : (ca cb : Config) (e : Entry) (a b : List Entry) → hears e ≡ None → StatesHeard ca cb a b → StatesHeard ca cb a (e ∷ b)
states-ahead ca cb e a b deaf k lives s in-s i in-i same =
    let g = lives-goes e b lives in
    by g.lived (stood-held er (at cb b).received i (subst (λ (l : List Item). In i l) (received-next cb e b g) in-i))
  where
    er : Event
    er = received_now cb e b

    by : Lives b → Stood er (at cb b).received i ⊎ (begins er ≡ Some i) → s.item.local ≡ i.remote
    by lb (inl c) =
        let none = ap (says_remote c.before) (received-is cb e b) ∙ own-hears (at cb b) e.step c.before deaf in
        k lb s in-s c.before c.there (same ∙ ap item_id c.is) ∙ sym (ap (λ (i : Item). i.remote) c.is ∙ ap (λ o. or_earlier o c.before.remote) none)
    by lb (inr is) = absurd (own-begins (at cb b) e.step i deaf (ap begins (sym (received-is cb e b)) ∙ is))

states-pass : (ca cb : Config) (n : ℕ) (e : Entry) (a : List Entry) (e' : Entry) (b : List Entry) (f : Frame) → World ca cb (suc n) (e ∷ a) b → Tight ca cb n a b → Moves ca e a b → Moves cb e' b (e ∷ a)
    → sends e ≡ Some f → hears e' ≡ Some f → StatesHeard ca cb a b → StatesHeard ca cb (e ∷ a) (e' ∷ b)
states-pass ca cb n e a e' b f w t m m' sent heard' k lives s in-s i in-i same =
    by (came-sent es va.sent s (subst (λ (l : List SentItem). In s l) (sent-next ca e a ga) in-s)) (stood-held er vb.received i (subst (λ (l : List Item). In i l) (received-next cb e' b gb) in-i))
  where
    va : View
    va = at ca a

    vb : View
    vb = at cb b

    es : Event
    es = sent_now ca e a

    er : Event
    er = received_now cb e' b

    gb : Goes e' b
    gb = lives-goes e' b lives

    ga : Goes e a
    ga =
        let all-heard : count sends a ≡ count hears b = t.tight in
        let after' : Tight ca cb (suc (suc n)) (e ∷ a) (e' ∷ b) = record { world = inr (w, m'); tight = rw (sent, heard') (ap (λ k. k + 1) all-heard) } in
        lives-goes e a (behind-lives ca cb (suc (suc n)) (e ∷ a) (e' ∷ b) after' lives)

    fa : AllFair ca a
    fa = (fair-both ca cb n a b t.world).0

    bare : (tb : TransferBody) → f.body ≡ Some (heard.Transfer tb) → tb.state ≡ None
    bare tb is = on e.step refl (sends-transfer va (next va e.step) (body_heard e.step) (own_in e.step) e.reply f tb (step-sending va e.step e.reply (due m.fair)) sent is)
      where
        on : (step : Step) → e.step ≡ step → is_carrier (own_in e.step) ≡ true → tb.state ≡ None
        on (Own op) e' c = carrier-bare va op e.reply f tb (own-answers va e.step e.reply op (due m.fair) e') (ap (λ s. is_carrier (own_in s)) (sym e') ∙ c) sent is
        on (Opened told) e' c = let no = ap (λ s. is_carrier (own_in s)) e' in absurd (cc (no, c))
        on (Heard g) e' c = let no = ap (λ s. is_carrier (own_in s)) e' in absurd (cc (no, c))

    other : (x j : Item) (body : Option Performative) → f.body ≡ body → ((d : DispositionBody) → body ≡ Some (heard.Disposition d) → ⊥) → says_local x (sent_by va e.step) ≡ says_remote j (received_by_body vb body)
    other x j body is none =
        local-loud va e.step e.reply x (due m.fair) (λ g d sent' body'. (let one = same-some (sends e) g f sent' sent in none d (sym is ∙ ap (λ (f : Frame). f.body) (sym one) ∙ body')))
        ∙ sym (body-hears vb body j none (λ tb is'. bare tb (is ∙ is')))

    says : (x j : Item) → x.id ≡ j.id → (body : Option Performative) → f.body ≡ body → says_local x (sent_by va e.step) ≡ says_remote j (received_by_body vb body)
    says x j ids (Some (heard.Disposition d)) is = same-both va vb e.step d x j (disposed-by va (next va e.step) (body_heard e.step) (own_in e.step) e.reply f d (step-sending va e.step e.reply (due m.fair)) sent is) ids
    says x j ids _ is = other x j _ is (λ d e. absurd (cc (e)))

    hears-er : er ≡ received_by_body vb f.body
    hears-er = received-is cb e' b ∙ heard-body' vb e'.step f heard'

    by : Came es va.sent s ⊎ (begins es ≡ Some s.item) → Stood er vb.received i ⊎ (begins er ≡ Some i) → s.item.local ≡ i.remote
    by (inl c) (inl d) =
        let x = c.before.item in
        let j = d.before in
        let ids : x.id ≡ j.id = sym (ap sent_id c.is) ∙ same ∙ ap item_id d.is in
        let both : says_local x es ≡ says_remote j er = ap (says_local x) (sent-is ca e a) ∙ says x j ids f.body refl ∙ ap (says_remote j) (sym hears-er) in
        ap (λ (s : SentItem). s.item.local) c.is ∙ ap (λ o. or_earlier o x.local) both ∙ ap (or_earlier (says_remote j er)) (k gb.lived c.before c.there d.before d.there ids) ∙ sym (ap (λ (i : Item). i.remote) d.is)
    by (inl c) (inr is) =
        let z = began-here vb f.body i (ap begins (sym hears-er) ∙ is) in
        let q = starts-there ca cb n e a e' b f m m' gb.lived sent heard' i z in
        let x = number sent_id ca.first_id 0 va.sent (started (live a)) (sent-ascends ca a fa ga.lived) c.before c.there in
        absurd (serial-apart ca (started (live a)) c.before.item.id (started-few ca a fa) (x.k, (x.most, x.is)) (sym (ap sent_id c.is) ∙ same ∙ q.id))
    by (inr is) (inl d) =
        let z = begins-ours va e.step e.reply (due m.fair) s.item (ap begins (sym (sent-is ca e a)) ∙ is) in
        let x = number item_id ca.first_id 0 vb.received (started (live a)) (received-ascends ca cb n a b t gb.lived) d.before d.there in
        absurd (serial-apart ca (started (live a)) d.before.id (started-few ca a fa) (x.k, (x.most, x.is)) (sym (ap item_id d.is) ∙ sym same ∙ z.id))
    by (inr is) (inr is') =
        let x = begins-ours va e.step e.reply (due m.fair) s.item (ap begins (sym (sent-is ca e a)) ∙ is) in
        let z = began-here vb f.body i (ap begins (sym hears-er) ∙ is') in
        x.local ∙ sym (ap (λ (i : Item). i.remote) z.item ∙ bare z.transfer z.body-is)

states-kept : lag.IsKept sends hears IsFair StatesHeard
states-kept =
    record {
      starts = λ ca cb lives s in-s. absurd in-s;
      quiet = λ ca cb n e a b known w t m silent k. states-quiet ca cb n e a b w t m silent k;
      ahead = λ ca cb n e a b known w t m deaf k. states-ahead ca cb e a b deaf k;
      pass = λ ca cb n e a e' b f known w t m m' sent heard' k. states-pass ca cb n e a e' b f w t m m' sent heard' k;
    }

-- where b has heard all that a sent, and its session is not over, what it heard of a delivery that it holds is what a said of it
pub states-heard : (ca cb : Config) (n : ℕ) (a b : List Entry) → Tight ca cb n a b → StatesHeard ca cb a b
states-heard ca cb n a b t = lag.exact sends hears IsFair StatesHeard states-kept ca cb n a b t
