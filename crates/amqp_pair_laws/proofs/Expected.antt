-- The id that is expected next is that of the next delivery.
use Rattle.std.proofs.Common.{suc, ◌≡◌, ℕ, ◌+◌, ◌==◌, ◌&&◌, Bool, true, false, cond, Option, Some, None, Ok, List, [], ◌∷◌, ◌++◌, arith, refl, sym, ap, ◌∙◌, subst, find, is_some}
use Rattle.std.proofs.lemmas.Bool.{eq-eqb}
use Rattle.amqp_flow.specs.Serial.{wire}
use Rattle.amqp_performatives.specs.declared.bodies.Role.{Role}
use Rattle.amqp_performatives.specs.declared.bodies.Role.TheVariants.{Sender}
use Rattle.amqp_performatives.specs.declared.bodies.AttachBody.{AttachBody}
use Rattle.amqp_performatives.specs.declared.bodies.TransferBody.{TransferBody}
use Rattle.amqp_performatives.specs.declared.performative.Performative.{Performative}
use Rattle.amqp_performatives.specs.declared.performative.Performative.TheVariants as heard
use Rattle.amqp_frames.specs.declared.frame.Frame.{Frame}
use Rattle.amqp_events.specs.Event.{PassesOver}
use Rattle.amqp_events.specs.Numbers.{id_used, one_past}
use Rattle.amqp_events.specs.Joined.{Delivery}
use Rattle.amqp_rules.specs.declared.config.Config.{Config}
use Rattle.amqp_rules.specs.declared.op.Op.{Op}
use Rattle.amqp_rules.specs.declared.op.Op.TheVariants as own
use Rattle.amqp_rules.specs.declared.reply.Reply.{Reply}
use Rattle.amqp_rules.specs.declared.reply.Given.TheVariants as given
use Rattle.amqp_rules.specs.View.{LinkView, View, change_first, handle_of, has_number, is_asked_as, is_attached, is_offered_as, is_over, new_link, next_delivery, opposite, rcv_mode, same_role}
use Rattle.amqp_rules.specs.Sending.{frame_of, sends as sends'}
use Rattle.amqp_rules.specs.Deliveries.{belongs_to, transfer_on, transferred, sent_by_own}
use Rattle.amqp_rules.specs.Attach.{attach_sent, attached_by_peer, attached_by_us}
use Rattle.amqp_waiting.specs.Waiting.{WaitingItem}
use Rattle.amqp_flow.specs.Windows.{windows_sent}
use Rattle.amqp_events.specs.Told.{next_sent_held}
use Rattle.amqp_rules.specs.Rejoin.{rejoined}
use Rattle.amqp_rules.specs.Resume.{begin_resumed, resume_begins, resumed_from}
use Rattle.amqp_rules.specs.Start.{start_body, start_refusals, tag_is_held}
use Rattle.amqp_rules.specs.Answer.{body_answer, is_dropped, next_body, next_own}
use Rattle.amqp_rules.specs.PeerTransfer.{is_nameless}
use Rattle.amqp_rules.specs.Sound.{IsSound}
use Rattle.amqp_rules.proofs.Accepted.{not-false, on-link-ok, sends-ok}
use Rattle.amqp_rules.proofs.Listed.{by-bool}
use Rattle.amqp_laws.specs.declared.entry.Entry.{Entry}
use Rattle.amqp_laws.specs.declared.entry.Step.{Step}
use Rattle.amqp_laws.specs.declared.entry.Step.TheVariants.{Opened, Own, Heard}
use Rattle.amqp_laws.specs.Past.{some_entry}
use Rattle.amqp_laws.specs.Said.{body_heard, ends, hears_no_end, is_start, own_in, starts, transfer_in}
use Rattle.amqp_laws.specs.Live.{live}
use Rattle.amqp_laws.specs.At.{at, started}
use Rattle.amqp_laws.specs.Lawful.{next}
use Rattle.amqp_pair_laws.proofs.Plain.{Answers, OwnAnswers, due, starts-alone, no-start}
use Rattle.amqp_pair_laws.specs.World.{IsFair, Moves, Tight, World, frame_among, frame_in, hears, sends}
use Rattle.amqp_pair_laws.proofs.Lag as lag
use Rattle.amqp_pair_laws.proofs.Slots.{kept}
use Rattle.amqp_pair_laws.proofs.SlotOf.{shape}
use Rattle.amqp_pair_laws.proofs.SlotActs.{Lives, is-met, one-more, slots-known}
use Rattle.amqp_pair_laws.proofs.Named.{name-self, named-found, none-is, role-same}
use Rattle.amqp_pair_laws.proofs.Opens.{body-of}
use Rattle.amqp_pair_laws.proofs.Sends.{Sending, begins as begins', flows, others, silent, step-sending, transfers}
use Rattle.amqp_pair_laws.proofs.Windows.{lives-goes, or-none, sender-lives}
use Rattle.amqp_pair_laws.proofs.TurnOwn.{none-size, start_transfer}
use Rattle.amqp_pair_laws.proofs.TurnHeard.{transfer-accepts}
use Rattle.amqp_pair_laws.proofs.Tallies.{tally}
use Rattle.amqp_pair_laws.proofs.Counts.{Agreed}
use Rattle.amqp_pair_laws.proofs.CountsKnown.{heard-next, same-some}
use Rattle.amqp_pair_laws.proofs.CountsKept.{fair-both}
use Rattle.amqp_pair_laws.proofs.CountsPass.{attached-ends, counts-known}

-- # The end that sends

-- a start: its transfer, and the link
pub record Began (v : View) (step : Step) (f : Frame) : Type 0 where
  pub link : LinkView
  pub number : ℕ
  pub transfer : TransferBody
  pub found : find (has_number number) v.links ≡ Some link
  pub attached : is_attached link ≡ true
  pub role-is : link.role ≡ Sender
  pub fresh : link.sending ≡ None
  pub body : f.body ≡ Some (heard.Transfer transfer)
  pub handle : transfer.handle ≡ handle_of link.ours
  pub named : transfer.delivery_id ≡ Some (next_delivery v)
  pub tag : List ℕ
  pub format : ℕ
  pub settled : Bool
  pub payload : List ℕ
  pub more : Bool
  pub is-start : step ≡ Own (own.Start number tag format settled payload more)
  pub free : tag_is_held v link tag ≡ false
  pub transfer-is : transfer ≡ start_transfer (handle_of link.ours) (next_delivery v) tag format settled more

began-own : (v : View) (op : Op) (reply : Reply) (f : Frame) → OwnAnswers v op reply → is_start (Some op) ≡ true → frame_among reply.sent ≡ Some f → Began v (Own op) f
began-own v (own.Start number tag format settled payload more) reply f h is sent =
    let id = next_delivery v in
    let o = on-link-ok v number (λ l. sends' v.max_frame (start_refusals v l tag settled payload) (start_body (handle_of l.ours) id tag format settled more) payload (given.Delivery id)) reply h in
    let k = sends-ok v.max_frame (start_refusals v o.on tag settled payload) (start_body (handle_of o.on.ours) id tag format settled more) payload (given.Delivery id) reply o.said in
    let l = o.on in
    let g = frame_of (start_body (handle_of l.ours) id tag format settled more) payload in
    let sent' : frame_among reply.sent ≡ Some g = ap (λ (r : Reply). frame_among r.sent) (sym k.replies) in
    let one = same-some (frame_among reply.sent) g f sent' sent in
    record {
      link = l;
      number = number;
      transfer = start_transfer (handle_of l.ours) id tag format settled more;
      found = o.found;
      attached = not-false (is_attached l) k.none_holds.0;
      role-is = sym (role-same Sender l.role (not-false (same_role Sender l.role) k.none_holds.1.0));
      fresh = none-is l.sending k.none_holds.1.1.0;
      body = ap (λ (f : Frame). f.body) (sym one);
      handle = refl;
      named = refl;
      tag = tag;
      format = format;
      settled = settled;
      payload = payload;
      more = more;
      is-start = refl;
      free = k.none_holds.1.1.1.0;
      transfer-is = refl;
    }
began-own v _ reply f h is sent = absurd (cc (is))

pub began : (v : View) (step : Step) (reply : Reply) (f : Frame) → Answers v step reply → starts (record { step = step; reply = reply }) ≡ true → frame_among reply.sent ≡ Some f → Began v step f
began v (Opened told) reply f h is sent = absurd (cc (is))
began v (Own op) reply f h is sent = began-own v op reply f h (sym (starts-alone v (Own op) reply h) ∙ is) sent
began v (Heard g) reply f h is sent = absurd (cc (is))

-- a start sends a frame
pub start-loud : (v : View) (op : Op) (reply : Reply) → OwnAnswers v op reply → is_start (Some op) ≡ true → frame_among reply.sent ≡ None → ⊥
start-loud v (own.Start number tag format settled payload more) reply h is none =
    let id = next_delivery v in
    let o = on-link-ok v number (λ l. sends' v.max_frame (start_refusals v l tag settled payload) (start_body (handle_of l.ours) id tag format settled more) payload (given.Delivery id)) reply h in
    let k = sends-ok v.max_frame (start_refusals v o.on tag settled payload) (start_body (handle_of o.on.ours) id tag format settled more) payload (given.Delivery id) reply o.said in
    let sent' : frame_among reply.sent ≡ Some (frame_of (start_body (handle_of o.on.ours) id tag format settled more) payload) = ap (λ (r : Reply). frame_among r.sent) (sym k.replies) in
    absurd (cc (sent', none))
start-loud v _ reply h is none = absurd (cc (is))

pub quiet-starts : (v : View) (step : Step) (reply : Reply) → Answers v step reply → frame_among reply.sent ≡ None → starts (record { step = step; reply = reply }) ≡ false
quiet-starts v (Opened told) reply h none = refl
quiet-starts v (Own op) reply h none = starts-alone v (Own op) reply h ∙ by-bool (is_start (Some op)) (λ (t : is_start (Some op) ≡ true). absurd (start-loud v op reply h t none)) (λ (f : is_start (Some op) ≡ false). f)
quiet-starts v (Heard g) reply h none = refl

-- no other step sends an id
abbrev pub NoId : Option Performative → Type 0
NoId (Some (heard.Transfer t)) = t.delivery_id ≡ None
NoId _ = Unit {0}

pub later-none : (v after : View) (heard' : Option Performative) (op : Option Op) (reply : Reply) (f : Frame) → Sending v after heard' op reply → is_start op ≡ false → frame_among reply.sent ≡ Some f → NoId f.body
later-none v after heard' op reply f (silent q) other sent = absurd (cc (q, sent))
later-none v after heard' op reply f (transfers t payload deaf mapped room named carries' one) other sent = subst (λ (o : Option Performative). NoId o) (sym (body-of reply.sent (heard.Transfer t) payload f one sent)) (named other)
later-none v after heard' op reply f (flows w t mapped open' begun numbers one) other sent = subst (λ (o : Option Performative). NoId o) (sym (body-of reply.sent (heard.Flow w) [] f one sent)) tt
later-none v after heard' op reply f (begins' w deaf is-begin unsent open' takes comes one) other sent = subst (λ (o : Option Performative). NoId o) (sym (body-of reply.sent (heard.Begin w) [] f one sent)) tt
later-none v after heard' op reply f (others p payload t w beside one) other sent = subst (λ (o : Option Performative). NoId o) (sym (body-of reply.sent p payload f one sent)) (by p t)
  where
    by : (p : Performative) → transfer_in (Some p) ≡ None → NoId (Some p)
    by (heard.Transfer t) h = absurd (cc (h))
    by _ h = tt

started-still : (e : Entry) (past : List Entry) → starts e ≡ false → started (live (e ∷ past)) ≡ started (live past)
started-still e past other = by (some_entry ends (live past) && hears_no_end e.step)
  where
    by : (dropped : Bool) → started (cond dropped (live past) (e ∷ live past)) ≡ started (live past)
    by true = refl
    by false = rw other refl

-- # The end that hears

-- the id is used up, also where the link was left
begun-expected : (left : Bool) (k mode : ℕ) (ws : List WaitingItem) (t : TransferBody) (d : Option Delivery) (after : Option ℕ) (id y : ℕ) → t.delivery_id ≡ Some id → (left ≡ false → d ≡ None) → ((x : ℕ) → after ≡ Some x → x ≡ id)
    → one_past (id_used (cond left (PassesOver t.delivery_id) (belongs_to k ws (transferred mode t []) t.state d)) after) after ≡ Some y → y ≡ wire (id + 1)
begun-expected true k mode ws t d None id y named first known is = let h = rw named at is in absurd (cc (h))
begun-expected true k mode ws t d (Some x) id y named first known is =
    let one : id ≡ x = sym (known x refl) in
    let same : (id == x) ≡ true = eq-eqb id x one in
    let h = rw (named, same) at is in
    let e : ◌≡◌ {A = Option ℕ} (Some (wire (id + 1))) (Some y) = h in
    let z : wire (id + 1) ≡ y = cc e in
    sym z
begun-expected false k mode ws t (Some d) after id y named first known is = let n = first refl in absurd (cc (n))
begun-expected false k mode ws t None after id y named first known is =
    let h = rw named at is in
    let e : ◌≡◌ {A = Option ℕ} (Some (wire (id + 1))) (Some y) = h in
    let z : wire (id + 1) ≡ y = cc e in
    sym z

later-expected : (left : Bool) (k mode : ℕ) (ws : List WaitingItem) (t : TransferBody) (d : Option Delivery) (after : Option ℕ) → t.delivery_id ≡ None → (left ≡ false → d ≡ None → ⊥)
    → one_past (id_used (cond left (PassesOver t.delivery_id) (belongs_to k ws (transferred mode t []) t.state d)) after) after ≡ after
later-expected true k mode ws t d None none some = rw none refl
later-expected true k mode ws t d (Some x) none some = rw none refl
later-expected false k mode ws t None after none some = absurd (some refl refl)
later-expected false k mode ws t (Some d) after none some = refl

no-id-still : (v : View) (body : Option Performative) (payload : List ℕ) (reply : Reply) → body_answer v body payload ≡ Ok reply → NoId body → (next_body v body payload).expected ≡ v.expected
no-id-still v (Some (heard.Transfer t)) payload reply h none =
    let a = transfer-accepts v t payload reply h in
    let found = a.found in
    rw found (later-expected a.on.left a.on.number (rcv_mode a.on) a.on.waiting t a.on.receiving v.expected none (λ stays begins. (let n = a.named stays begins in let y : is_nameless t ≡ true = rw none refl in absurd (cc (n, y)))))
no-id-still v (Some (heard.Begin b)) payload reply h none = refl
no-id-still v (Some (heard.Attach b)) payload reply h none = by (is_some (find (is_asked_as (opposite b.role) b.name) v.links))
  where
    by : (met : Bool) → (cond met (record v { steps = v.steps + 1; links = change_first (is_asked_as (opposite b.role) b.name) (attached_by_peer b) v.links }) (record v { steps = v.steps + 1; made = v.made + 1; links = v.links ++ attached_by_peer b (new_link v.made (opposite b.role) b.name) ∷ [] })).expected ≡ v.expected
    by true = refl
    by false = refl
no-id-still v (Some (heard.Flow b)) payload reply h none = refl
no-id-still v (Some (heard.Disposition b)) payload reply h none = refl
no-id-still v (Some (heard.Detach b)) payload reply h none = refl
no-id-still v (Some (heard.End b)) payload reply h none = refl
no-id-still v _ payload reply h none = refl

own-still : (v : View) (op : Op) → (next_own v op).expected ≡ v.expected
own-still v (own.Attach name role snd rcv source target count max_message) = by (is_some (find (is_offered_as role name) v.links))
  where
    b : AttachBody
    b = attach_sent v (record { name = name; role = role; snd = snd; rcv = rcv; source = source; target = target; count = count; max_message = max_message; items = [] })

    by : (met : Bool) → (cond met (record v { steps = v.steps + 1; links = change_first (is_offered_as role name) (attached_by_us b []) v.links }) (record v { steps = v.steps + 1; made = v.made + 1; links = v.links ++ attached_by_us b [] (new_link v.made role name) ∷ [] })).expected ≡ v.expected
    by true = refl
    by false = refl
own-still v own.Begin = refl
own-still v (own.Start link tag format settled payload more) = refl
own-still v (own.Carry link payload more) = refl
own-still v (own.Abort link) = refl
own-still v (own.Dispose role first last settled state) = refl
own-still v (own.Learn link) = refl
own-still v (own.Grant link credit drain echo) = refl
own-still v (own.Offer link available) = refl
own-still v (own.Drained link) = refl
own-still v (own.Refresh echo) = refl
own-still v (own.Take link) = refl
own-still v (own.Detach link error) = refl
own-still v (own.Suspend link) = refl
own-still v (own.Rejoin r) = by (is_some (find (is_offered_as r.role r.name) v.links))
  where
    b : AttachBody
    b = attach_sent v (rejoined r)

    by : (met : Bool) → (cond met (record v { steps = v.steps + 1; links = change_first (is_offered_as r.role r.name) (attached_by_us b r.items) v.links }) (record v { steps = v.steps + 1; made = v.made + 1; links = v.links ++ attached_by_us b r.items (new_link v.made r.role r.name) ∷ [] })).expected ≡ v.expected
    by true = refl
    by false = refl
own-still v (own.Resume link tag settled) = by (resume_begins tag (find (has_number link) v.links))
  where
    by : (anew : Bool) → (cond anew (record v { steps = v.steps + 1; windows = windows_sent v.windows; deliveries = v.deliveries + 1; links = change_first (has_number link) (begin_resumed tag) v.links; sent = next_sent_held (sent_by_own v (own.Resume link tag settled)) v.sent }) (record v { steps = v.steps + 1; links = change_first (has_number link) (resumed_from tag) v.links })).expected ≡ v.expected
    by true = refl
    by false = refl
own-still v (own.End error) = refl
own-still v own.Beat = refl

deaf-still : (v : View) (step : Step) → frame_in step ≡ None → (next v step).expected ≡ v.expected
deaf-still v (Opened told) none = refl
deaf-still v (Own op) none = own-still v op
deaf-still v (Heard f) none = absurd (cc (none))

pub heard-answers : (v : View) (step : Step) (reply : Reply) (f : Frame) → Answers v step reply → is_over v.session ≡ false → frame_in step ≡ Some f → body_answer v f.body f.payload ≡ Ok reply
heard-answers v (Opened told) reply f h o is = absurd (cc (is))
heard-answers v (Own op) reply f h o is = absurd (cc (is))
heard-answers v (Heard g) reply f h o is =
    let one : g ≡ f = cc is in
    let unsent : v.session.end_sent ≡ false = (or-none v.session.end_sent v.session.end_heard o).0 in
    let kept' : is_dropped v g.body ≡ false = rw unsent refl in
    let k : body_answer v g.body g.payload ≡ Ok reply = (let k = rw kept' at h in k) in
    ap (λ (f : Frame). body_answer v f.body f.payload) (sym one) ∙ k

-- # The claim

abbrev pub ExpectedAgree : Config → Config → List Entry → List Entry → Type 0
ExpectedAgree ca cb a b = Lives b → (id : ℕ) → (at cb b).expected ≡ Some id → id ≡ next_delivery (at ca a)

expected-quiet : (ca cb : Config) (e : Entry) (a b : List Entry) → Moves ca e a b → sends e ≡ None → ExpectedAgree ca cb a b → ExpectedAgree ca cb (e ∷ a) b
expected-quiet ca cb e a b m quiet k lives id is =
    let other = quiet-starts (at ca a) e.step e.reply (due m.fair) quiet in
    k lives id is ∙ ap (λ n. wire (ca.first_id + n)) (sym (started-still e a other))

expected-ahead : (ca cb : Config) (n : ℕ) (e : Entry) (a b : List Entry) → World ca cb (suc n) a (e ∷ b) → hears e ≡ None → ExpectedAgree ca cb a b → ExpectedAgree ca cb a (e ∷ b)
expected-ahead ca cb n e a b w deaf k lives id is =
    let fb = (fair-both ca cb (suc n) a (e ∷ b) w).1 in
    let m = one-more (Sender, []) cb e b fb in
    let same : (at cb (e ∷ b)).expected ≡ (at cb b).expected = ap (λ (v : View). v.expected) m.goes_on ∙ deaf-still (at cb b) e.step deaf in
    k (lives-goes e b lives).lived id (sym same ∙ is)

-- a start passes
start-passes : (ca cb : Config) (n : ℕ) (a b : List Entry) (step : Step) (f : Frame) → Tight ca cb n a b → Lives b → IsSound (at ca a) → IsSound (at cb b) → Began (at ca a) step f → ExpectedAgree ca cb a b → (y : ℕ)
    → (next_body (at cb b) f.body f.payload).expected ≡ Some y → y ≡ wire (next_delivery (at ca a) + 1)
start-passes ca cb n a b step f t lives sa sb x k y is =
    let l = x.link in
    let there = named-found l.role l.name (has_number x.number) (at ca a).links l sa.links.names x.found (name-self l.role l.name) in
    let slot = slots-known ca cb n a b t lives l.role l.name in
    let met = is-met (opposite l.role) l.name (at cb b) l x.transfer.handle sb x.attached x.handle (ap (λ o. kept (shape o)) (sym there) ∙ slot.asked) in
    let m = met.link in
    let p = attached-ends l x.attached in
    let role-is = x.role-is in
    let first : m.left ≡ false → m.receiving ≡ None =
    λ (stays : m.left ≡ false).
    let agreed = counts-known ca cb n a b t lives l.role l.name l m there met.named p.0 p.1.1 stays in
    let agreed' : Agreed Sender l (tally (l.role, l.name) ca a) m (tally (opposite l.role, l.name) cb b) =
    subst (λ (r : Role). Agreed r l (tally (l.role, l.name) ca a) m (tally (opposite l.role, l.name) cb b)) role-is agreed in
    none-size m.receiving (sym x.fresh ∙ agreed'.1.1.0) in
    let body = x.body in
    let found = met.found in
    let is' : (next_body (at cb b) (Some (heard.Transfer x.transfer)) f.payload).expected ≡ Some y = subst (λ (o : Option Performative). (next_body (at cb b) o f.payload).expected ≡ Some y) body is in
    let is'' : one_past (id_used (transfer_on x.transfer (Some m)) (at cb b).expected) (at cb b).expected ≡ Some y =
    subst (λ (o : Option LinkView). one_past (id_used (transfer_on x.transfer o) (at cb b).expected) (at cb b).expected ≡ Some y) found is' in
    begun-expected m.left m.number (rcv_mode m) m.waiting x.transfer m.receiving (at cb b).expected (next_delivery (at ca a)) y x.named first (λ z e. k lives z e) is''

expected-pass : (ca cb : Config) (n : ℕ) (e : Entry) (a : List Entry) (e' : Entry) (b : List Entry) (f : Frame) → World ca cb (suc n) (e ∷ a) b → Tight ca cb n a b → Moves ca e a b → Moves cb e' b (e ∷ a)
    → sends e ≡ Some f → hears e' ≡ Some f → ExpectedAgree ca cb a b → ExpectedAgree ca cb (e ∷ a) (e' ∷ b)
expected-pass ca cb n e a e' b f w t m m' sent heard' k lives y is =
    let fair = fair-both ca cb (suc n) (e ∷ a) b w in
    let lb = (lives-goes e' b lives).lived in
    let oa = one-more (Sender, []) ca e a fair.0 in
    let ob = one-more (Sender, []) cb e' b (fair.1, m'.fair) in
    let now : (at cb (e' ∷ b)).expected ≡ (next_body (at cb b) f.body f.payload).expected = ap (λ (v : View). v.expected) (ob.goes_on ∙ heard-next (at cb b) e'.step f lb heard') in
    let is' = sym now ∙ is in
    by-bool (starts e)
    (λ (yes : starts e ≡ true).
    let x = began (at ca a) e.step e.reply f (due m.fair) yes sent in
    let more' : started (live (e ∷ a)) ≡ started (live a) + 1 = ap started (sender-lives ca a e.step e.reply f (due m.fair) sent) ∙ rw yes refl in
    start-passes ca cb n a b e.step f t lb oa.sound ob.sound x k y is' ∙ one-on ca.first_id (started (live a)) ∙ ap (λ n. wire (ca.first_id + n)) (sym more'))
    (λ (other : starts e ≡ false).
    let none = later-none (at ca a) (next (at ca a) e.step) (body_heard e.step) (own_in e.step) e.reply f (step-sending (at ca a) e.step e.reply (due m.fair)) (no-start e other) sent in
    let same = no-id-still (at cb b) f.body f.payload e'.reply (heard-answers (at cb b) e'.step e'.reply f (due m'.fair) lb heard') none in
    k lb y (sym same ∙ is') ∙ ap (λ n. wire (ca.first_id + n)) (sym (started-still e a other)))
  where
    one-on : (first n : ℕ) → wire (wire (first + n) + 1) ≡ wire (first + (n + 1))
    one-on first n = omega arith

expected-kept : lag.IsKept sends hears IsFair ExpectedAgree
expected-kept =
    record {
      starts = λ ca cb lives id is. absurd (cc (is));
      quiet = λ ca cb n e a b known w t m silent k. expected-quiet ca cb e a b m silent k;
      ahead = λ ca cb n e a b known w t m deaf k. expected-ahead ca cb n e a b w deaf k;
      pass = λ ca cb n e a e' b f known w t m m' sent heard' k. expected-pass ca cb n e a e' b f w t m m' sent heard' k;
    }

-- where b has heard all that a sent, and its session is not over, it expects the id of a's next delivery, or any
pub expected-known : (ca cb : Config) (n : ℕ) (a b : List Entry) → Tight ca cb n a b → ExpectedAgree ca cb a b
expected-known ca cb n a b t = lag.exact sends hears IsFair ExpectedAgree expected-kept ca cb n a b t
