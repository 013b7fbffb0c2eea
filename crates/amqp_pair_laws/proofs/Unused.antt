-- On a link without an attach of ours nothing was sent; on one without an attach of the peer's nothing was taken, and nothing waits.
use Rattle.std.proofs.Common.{◌≡◌, ◌⊎◌, inl, inr, ◌≤◌, ◌<◌, ℕ, ◌+◌, ◌==◌, ◌&&◌, ◌++◌, Bool, true, false, not, cond, Option, Some, None, List, [], ◌∷◌, arith, refl, sym, ap, ◌∙◌, subst, drop, find, map, is_some, option_map}
use Rattle.std.proofs.lemmas.Bool.{eqb-true}
use Rattle.amqp_performatives.specs.declared.bodies.Role.{Role}
use Rattle.amqp_performatives.specs.declared.bodies.Role.TheVariants.{Sender}
use Rattle.amqp_performatives.specs.declared.bodies.TransferBody.{TransferBody}
use Rattle.amqp_performatives.specs.declared.performative.Performative.{Performative}
use Rattle.amqp_performatives.specs.declared.performative.Performative.TheVariants as heard
use Rattle.amqp_frames.specs.declared.frame.Frame.{Frame}
use Rattle.amqp_events.specs.Event.{Nothing as No_event}
use Rattle.amqp_events.specs.Joined.{Delivery}
use Rattle.amqp_rules.specs.declared.config.Config.{Config}
use Rattle.amqp_rules.specs.declared.op.Op.{Op}
use Rattle.amqp_rules.specs.declared.op.Op.TheVariants as own
use Rattle.amqp_rules.specs.declared.reply.Reply.{Reply}
use Rattle.amqp_rules.specs.declared.reply.Given.{Given}
use Rattle.amqp_rules.specs.declared.reply.Given.TheVariants as given
use Rattle.amqp_rules.specs.View.{EndView, LinkView, View, change_first, handle_of, has_number, has_peer_handle, holds, is_asked_as, is_attached, is_offered_as, new_link, next_delivery, opposite, same_role}
use Rattle.amqp_rules.specs.Sending.{frame_of, sends as sends', sends_ending, sent_of}
use Rattle.amqp_rules.specs.Telling.{flag}
use Rattle.amqp_rules.specs.Attach.{attach_sent, attached_by_peer, attached_by_us, join_link}
use Rattle.amqp_rules.specs.Start.{start_body, start_refusals}
use Rattle.amqp_rules.specs.Carry.{carry_refusals, later_body}
use Rattle.amqp_rules.specs.Abort.{abort_refusals}
use Rattle.amqp_rules.specs.Take.{taken_from, taken_of}
use Rattle.amqp_rules.specs.PeerTransfer.{heard_on, received_on}
use Rattle.amqp_rules.specs.Deliveries.{ended_by, sent_by_own, transferred}
use Rattle.amqp_rules.specs.Answer.{is_dropped, next_body, next_own}
use Rattle.amqp_rules.specs.Sound.{Ascends, IsSound, keys}
use Rattle.amqp_rules.proofs.Accepted.{not-false, on-link-ok, sends-ok, sends-ending-ok}
use Rattle.amqp_rules.proofs.Listed.{by-bool}
use Rattle.amqp_laws.specs.declared.entry.Entry.{Entry}
use Rattle.amqp_laws.specs.declared.entry.Step.{Step}
use Rattle.amqp_laws.specs.declared.entry.Step.TheVariants.{Opened, Own, Heard}
use Rattle.amqp_laws.specs.Said.{own_in, transfer_among}
use Rattle.amqp_laws.specs.At.{at}
use Rattle.amqp_laws.specs.Lawful.{next}
use Rattle.amqp_rules.specs.Rejoin.{rejoined}
use Rattle.amqp_rules.specs.Resume.{begin_resumed, resume_begins, resumed_from}
use Rattle.amqp_flow.specs.Windows.{windows_sent}
use Rattle.amqp_events.specs.Told.{next_sent_held}
use Rattle.amqp_pair_laws.proofs.Plain.{Answers, OwnAnswers, due}
use Rattle.amqp_pair_laws.specs.World.{frame_among}
use Rattle.amqp_pair_laws.specs.Passing.{names, sent_now, sent_on, taken_in, taken_on}
use Rattle.amqp_pair_laws.proofs.Named.{found-passes, role-same}
use Rattle.amqp_pair_laws.proofs.Sends.{is_carrier}
use Rattle.amqp_pair_laws.proofs.SlotActs.{AllFair, Lives, OneMore, one-more}
use Rattle.amqp_pair_laws.proofs.Windows.{lives-goes}
use Rattle.amqp_pair_laws.proofs.TurnOwn.{later_transfer, start_transfer}
use Rattle.amqp_pair_laws.proofs.CountsKnown.{same-some}
use Rattle.amqp_pair_laws.proofs.Members.{In}
use Rattle.amqp_pair_laws.proofs.ReadySteps.{From, New, ReadyStep, Rests, Same, found-in, from-same, hears, in-changed, in-number, ready-step, rests, takes}

-- # An operation that sends a transfer

pub record Transfers (v : View) (e : Entry) (f : Frame) : Type 0 where
  pub number : ℕ
  pub link' : LinkView
  pub found : find (has_number number) v.links ≡ Some link'
  pub attached : is_attached link' ≡ true
  pub role-is : link'.role ≡ Sender
  pub transfer : TransferBody
  pub body : f.body ≡ Some (heard.Transfer transfer)
  pub handle : transfer.handle ≡ handle_of link'.ours
  pub now : (k : ℕ) → sent_now k e ≡ cond (number == k) (Some (transferred 0 transfer f.payload)) None

sent-by : (k number : ℕ) (reply : Reply) (t : TransferBody) (payload : List ℕ) (f : Frame) → reply.sent ≡ sent_of (Some (heard.Transfer t)) payload ∷ [] → frame_of (Some (heard.Transfer t)) payload ≡ f
    → cond (number == k) (option_map (λ t. transferred 0 t.0 t.1) (transfer_among reply.sent)) None ≡ cond (number == k) (Some (transferred 0 t f.payload)) None
sent-by k number reply t payload f is one = rw (is, ← one) refl

carries-own : (v : View) (op : Op) (reply : Reply) (f : Frame) → OwnAnswers v op reply → is_carrier (Some op) ≡ true → frame_among reply.sent ≡ Some f → Transfers v (record { step = Own op; reply = reply }) f
carries-own v (own.Start link tag format settled payload more) reply f h is sent =
    let id = next_delivery v in
    let o = on-link-ok v link (λ l. sends' v.max_frame (start_refusals v l tag settled payload) (start_body (handle_of l.ours) id tag format settled more) payload (given.Delivery id)) reply h in
    let k = sends-ok v.max_frame (start_refusals v o.on tag settled payload) (start_body (handle_of o.on.ours) id tag format settled more) payload (given.Delivery id) reply o.said in
    let t = start_transfer (handle_of o.on.ours) id tag format settled more in
    let all : reply.sent ≡ sent_of (Some (heard.Transfer t)) payload ∷ [] = ap (λ (r : Reply). r.sent) (sym k.replies) in
    let one = same-some (frame_among reply.sent) (frame_of (Some (heard.Transfer t)) payload) f (ap frame_among all) sent in
    record {
      number = link;
      link' = o.on;
      found = o.found;
      attached = not-false (is_attached o.on) k.none_holds.0;
      role-is = sym (role-same Sender o.on.role (not-false (same_role Sender o.on.role) k.none_holds.1.0));
      transfer = t;
      body = ap (λ (f : Frame). f.body) (sym one);
      handle = refl;
      now = λ n. sent-by n link reply t payload f all one;
    }
carries-own v (own.Carry link payload more) reply f h is sent =
    let o = on-link-ok v link (λ l. sends' v.max_frame (carry_refusals v l payload) (later_body (handle_of l.ours) (flag more) None) payload given.Nothing) reply h in
    let k = sends-ok v.max_frame (carry_refusals v o.on payload) (later_body (handle_of o.on.ours) (flag more) None) payload given.Nothing reply o.said in
    let t = later_transfer (handle_of o.on.ours) (flag more) None in
    let all : reply.sent ≡ sent_of (Some (heard.Transfer t)) payload ∷ [] = ap (λ (r : Reply). r.sent) (sym k.replies) in
    let one = same-some (frame_among reply.sent) (frame_of (Some (heard.Transfer t)) payload) f (ap frame_among all) sent in
    record {
      number = link;
      link' = o.on;
      found = o.found;
      attached = not-false (is_attached o.on) k.none_holds.0;
      role-is = sym (role-same Sender o.on.role (not-false (same_role Sender o.on.role) k.none_holds.1.0));
      transfer = t;
      body = ap (λ (f : Frame). f.body) (sym one);
      handle = refl;
      now = λ n. sent-by n link reply t payload f all one;
    }
carries-own v (own.Abort link) reply f h is sent =
    let ended = ended_by (sent_by_own v (own.Abort link)) No_event v in
    let o = on-link-ok v link (λ l. sends_ending v.max_frame (abort_refusals v l) (later_body (handle_of l.ours) None (Some true)) ended given.Nothing) reply h in
    let k = sends-ending-ok v.max_frame (abort_refusals v o.on) (later_body (handle_of o.on.ours) None (Some true)) ended given.Nothing reply o.said in
    let t = later_transfer (handle_of o.on.ours) None (Some true) in
    let all : reply.sent ≡ sent_of (Some (heard.Transfer t)) [] ∷ [] = ap (λ (r : Reply). r.sent) (sym k.replies) in
    let one = same-some (frame_among reply.sent) (frame_of (Some (heard.Transfer t)) []) f (ap frame_among all) sent in
    record {
      number = link;
      link' = o.on;
      found = o.found;
      attached = not-false (is_attached o.on) k.none_holds.0;
      role-is = sym (role-same Sender o.on.role (not-false (same_role Sender o.on.role) k.none_holds.1.0));
      transfer = t;
      body = ap (λ (f : Frame). f.body) (sym one);
      handle = refl;
      now = λ n. sent-by n link reply t [] f all one;
    }
carries-own v _ reply f h is sent = absurd (cc (is))

pub carries : (v : View) (e : Entry) (f : Frame) → Answers v e.step e.reply → is_carrier (own_in e.step) ≡ true → frame_among e.reply.sent ≡ Some f → Transfers v e f
carries v e f h is sent = by e.step e.reply h is sent
  where
    by : (step : Step) (reply : Reply) → Answers v step reply → is_carrier (own_in step) ≡ true → frame_among reply.sent ≡ Some f → Transfers v (record { step = step; reply = reply }) f
    by (Opened told) reply h is sent = absurd (cc (is))
    by (Own op) reply h is sent = carries-own v op reply f h is sent
    by (Heard g) reply h is sent = absurd (cc (is))

-- others send none on any link
not-named : (k : ℕ) (op : Option Op) → is_carrier op ≡ false → names k op ≡ false
not-named k None h = refl
not-named k (Some (own.Start link tag format settled payload more)) h = absurd (cc (h))
not-named k (Some (own.Carry link payload more)) h = absurd (cc (h))
not-named k (Some (own.Abort link)) h = absurd (cc (h))
not-named k (Some _) h = refl

pub sent-none : (k : ℕ) (e : Entry) → is_carrier (own_in e.step) ≡ false → sent_now k e ≡ None
sent-none k e h = let f = not-named k (own_in e.step) h in rw f refl

-- a carrier sends a frame
carrier-loud : (v : View) (op : Op) (reply : Reply) → OwnAnswers v op reply → is_carrier (Some op) ≡ true → frame_among reply.sent ≡ None → ⊥
carrier-loud v (own.Start link tag format settled payload more) reply h is none =
    let id = next_delivery v in
    let o = on-link-ok v link (λ l. sends' v.max_frame (start_refusals v l tag settled payload) (start_body (handle_of l.ours) id tag format settled more) payload (given.Delivery id)) reply h in
    let k = sends-ok v.max_frame (start_refusals v o.on tag settled payload) (start_body (handle_of o.on.ours) id tag format settled more) payload (given.Delivery id) reply o.said in
    let sent : frame_among reply.sent ≡ Some (frame_of (start_body (handle_of o.on.ours) id tag format settled more) payload) = ap (λ (r : Reply). frame_among r.sent) (sym k.replies) in
    absurd (cc (sent, none))
carrier-loud v (own.Carry link payload more) reply h is none =
    let o = on-link-ok v link (λ l. sends' v.max_frame (carry_refusals v l payload) (later_body (handle_of l.ours) (flag more) None) payload given.Nothing) reply h in
    let k = sends-ok v.max_frame (carry_refusals v o.on payload) (later_body (handle_of o.on.ours) (flag more) None) payload given.Nothing reply o.said in
    let sent : frame_among reply.sent ≡ Some (frame_of (later_body (handle_of o.on.ours) (flag more) None) payload) = ap (λ (r : Reply). frame_among r.sent) (sym k.replies) in
    absurd (cc (sent, none))
carrier-loud v (own.Abort link) reply h is none =
    let ended = ended_by (sent_by_own v (own.Abort link)) No_event v in
    let o = on-link-ok v link (λ l. sends_ending v.max_frame (abort_refusals v l) (later_body (handle_of l.ours) None (Some true)) ended given.Nothing) reply h in
    let k = sends-ending-ok v.max_frame (abort_refusals v o.on) (later_body (handle_of o.on.ours) None (Some true)) ended given.Nothing reply o.said in
    let sent : frame_among reply.sent ≡ Some (frame_of (later_body (handle_of o.on.ours) None (Some true)) []) = ap (λ (r : Reply). frame_among r.sent) (sym k.replies) in
    absurd (cc (sent, none))
carrier-loud v _ reply h is none = absurd (cc (is))

pub silent-carrier : (v : View) (step : Step) (reply : Reply) → Answers v step reply → frame_among reply.sent ≡ None → is_carrier (own_in step) ≡ false
silent-carrier v (Opened told) reply h none = refl
silent-carrier v (Own op) reply h none = by-bool (is_carrier (Some op)) (λ (t : is_carrier (Some op) ≡ true). absurd (carrier-loud v op reply h t none)) (λ (f : is_carrier (Some op) ≡ false). f)
silent-carrier v (Heard g) reply h none = refl

-- # Links that are there

in-below : (made n : ℕ) (xs : List LinkView) (l : LinkView) → Ascends made n (map keys xs) → In l xs → l.number < made
in-below made n [] l a h = absurd h
in-below made n (x ∷ xs) l a (inl e) =
    let rest : x.number + 1 ≤ made = over made (x.number + 1) xs a.1 in
    let same : l.number ≡ x.number = ap (λ (l : LinkView). l.number) e in
    omega (arith, rest, same)
  where
    over : (made n : ℕ) (xs : List LinkView) → Ascends made n (map keys xs) → n ≤ made
    over made n [] a = a
    over made n (x ∷ xs) a = let first : n ≤ x.number = a.0 in let rest : x.number + 1 ≤ made = over made (x.number + 1) xs a.1 in omega (arith, first, rest)
in-below made n (x ∷ xs) l a (inr h) = in-below made (x.number + 1) xs l a.1 h

pub below : (v : View) (l : LinkView) → IsSound v → In l v.links → l.number < v.made
below v l s h = in-below v.made 0 v.links l s.links.numbers h

pub number-is : (v : View) (k : ℕ) (l : LinkView) → find (has_number k) v.links ≡ Some l → l.number ≡ k
number-is v k l found = eqb-true l.number k (found-passes (has_number k) v.links l found)

made-joined : (v : View) (test : LinkView → Bool) (role : Role) (name : List ℕ) (change : LinkView → LinkView) → v.made ≤ (join_link test role name change v).made
made-joined v test role name change = by (is_some (find test v.links))
  where
    by : (met : Bool)
        → v.made ≤ (cond met (record v { steps = v.steps + 1; links = change_first test change v.links }) (record v { steps = v.steps + 1; made = v.made + 1; links = v.links ++ change (new_link v.made role name) ∷ [] })).made
    by true = omega arith
    by false = omega arith

own-made : (v : View) (op : Op) → v.made ≤ (next_own v op).made
own-made v (own.Attach name role snd rcv source target count max_message) =
    made-joined v (is_offered_as role name) role name (attached_by_us (attach_sent v (record { name = name; role = role; snd = snd; rcv = rcv; source = source; target = target; count = count; max_message = max_message; items = [] })) [])
own-made v (own.Rejoin r) = made-joined v (is_offered_as r.role r.name) r.role r.name (attached_by_us (attach_sent v (rejoined r)) r.items)
own-made v (own.Resume link tag settled) = by (resume_begins tag (find (has_number link) v.links))
  where
    by : (anew : Bool)
        → v.made ≤ (cond anew (record v { steps = v.steps + 1; windows = windows_sent v.windows; deliveries = v.deliveries + 1; links = change_first (has_number link) (begin_resumed tag) v.links; sent = next_sent_held (sent_by_own v (own.Resume link tag settled)) v.sent }) (record v { steps = v.steps + 1; links = change_first (has_number link) (resumed_from tag) v.links })).made
    by true = omega arith
    by false = omega arith
own-made v _ = omega arith

body-made : (v : View) (body : Option Performative) (payload : List ℕ) → v.made ≤ (next_body v body payload).made
body-made v (Some (heard.Attach b)) payload = made-joined v (is_asked_as (opposite b.role) b.name) (opposite b.role) b.name (attached_by_peer b)
body-made v _ payload = omega arith

pub made-grows : (v : View) (step : Step) → v.made ≤ (next v step).made
made-grows v (Opened told) = omega arith
made-grows v (Own op) = own-made v op
made-grows v (Heard f) = by (is_dropped v f.body)
  where
    by : (b : Bool) → v.made ≤ (cond b (record v { steps = v.steps + 1 }) (next_body v f.body f.payload)).made
    by true = omega arith
    by false = body-made v f.body f.payload

same-self : (l : LinkView) → Same l l
same-self l = record { number = refl; role = refl; name = refl; ours = λ h. h; theirs = λ h. h; unleft = λ h. h }

heard-same : (t : TransferBody) (payload : List ℕ) (l : LinkView) → Same l (heard_on t payload l)
heard-same t payload l = by l.left
  where
    by : (b : Bool) → Same l (cond b l (received_on t payload l))
    by true = same-self l
    by false = record { number = refl; role = refl; name = refl; ours = λ h. h; theirs = λ h. h; unleft = λ h. h }

-- what a link was that is there after a step
pub comes : (v after : View) (step : Step) (g : Given) → ReadyStep v after step g → IsSound v → (m : LinkView) → In m after.links → From v m ⊎ New v m
comes v after step g (rests mute f none) s m h = by (f m h)
  where
    by : Rests v m ⊎ New v m → From v m ⊎ New v m
    by (inl r) = inl r.was
    by (inr n) = inr n
comes v after step g (takes l d ds n take found ready to is) s m h =
    let x = in-changed (has_number n) taken_from v.links m (subst (λ (links : List LinkView). In m links) to h) in
    inl (by x.0 x.1.0 x.1.1)
  where
    by : (k : LinkView) → In k v.links → (m ≡ k) ⊎ ((m ≡ taken_from k) × (has_number n k ≡ true)) → From v m
    by k h (inl e) = from-same v k m s h (subst (λ (m : LinkView). Same k m) (sym e) (same-self k))
    by k h (inr e) = from-same v k m s h (subst (λ (m : LinkView). Same k m) (sym e.0) (record { number = refl; role = refl; name = refl; ours = λ h. h; theirs = λ h. h; unleft = λ h. h }))
comes v after step g (hears f t at' body to none) s m h =
    let x = in-changed (has_peer_handle t.handle) (heard_on t f.payload) v.links m (subst (λ (links : List LinkView). In m links) to h) in
    inl (by x.0 x.1.0 x.1.1)
  where
    by : (k : LinkView) → In k v.links → (m ≡ k) ⊎ ((m ≡ heard_on t f.payload k) × (has_peer_handle t.handle k ≡ true)) → From v m
    by k h (inl e) = from-same v k m s h (subst (λ (m : LinkView). Same k m) (sym e) (same-self k))
    by k h (inr e) = from-same v k m s h (subst (λ (m : LinkView). Same k m) (sym e.0) (heard-same t f.payload k))

-- # Attaches stay

-- a number that was given to a link that has the attach, where it is there
pub record IsUsed (v : View) (k : ℕ) (end : LinkView → Option EndView) : Type 0 where
  pub made : k < v.made
  pub attach : (l : LinkView) → find (has_number k) v.links ≡ Some l → is_some (end l) ≡ true

pub used-later : (v : View) (step : Step) (g : Given) (k : ℕ) (end : LinkView → Option EndView) → ReadyStep v (next v step) step g → IsSound v
    → ((m : LinkView) (f : From v m) → is_some (end f.before) ≡ true → is_some (end m) ≡ true) → IsUsed v k end → IsUsed (next v step) k end
used-later v step g k end r s stays u =
    record {
      made = (let few : k < v.made = u.made in let more : v.made ≤ (next v step).made = made-grows v step in omega (arith, few, more));
      attach = λ l found. by l (number-is (next v step) k l found) (comes v (next v step) step g r s l (found-in (has_number k) (next v step).links l found));
    }
  where
    by : (l : LinkView) → l.number ≡ k → From v l ⊎ New v l → is_some (end l) ≡ true
    by l n (inl f) = stays l f (u.attach f.before (ap (λ k. find (has_number k) v.links) (sym n) ∙ f.found))
    by l n (inr new) = let few : k < v.made = u.made in let at-made : l.number ≡ v.made = new.number in absurd (omega (arith, few, at-made, n))

abbrev pub its-ours : LinkView → Option EndView
its-ours l = l.ours

abbrev pub its-theirs : LinkView → Option EndView
its-theirs l = l.theirs

-- # What was sent

names-own : (v : View) (op : Op) (reply : Reply) (k : ℕ) → OwnAnswers v op reply → names k (Some op) ≡ true → (l : LinkView) × ((find (has_number k) v.links ≡ Some l) × (is_attached l ≡ true))
names-own v (own.Start link tag format settled payload more) reply k h is =
    let id = next_delivery v in
    let o = on-link-ok v link (λ l. sends' v.max_frame (start_refusals v l tag settled payload) (start_body (handle_of l.ours) id tag format settled more) payload (given.Delivery id)) reply h in
    let y = sends-ok v.max_frame (start_refusals v o.on tag settled payload) (start_body (handle_of o.on.ours) id tag format settled more) payload (given.Delivery id) reply o.said in
    let same : link ≡ k = eqb-true link k is in
    (o.on, (ap (λ n. find (has_number n) v.links) (sym same) ∙ o.found, not-false (is_attached o.on) y.none_holds.0))
names-own v (own.Carry link payload more) reply k h is =
    let o = on-link-ok v link (λ l. sends' v.max_frame (carry_refusals v l payload) (later_body (handle_of l.ours) (flag more) None) payload given.Nothing) reply h in
    let y = sends-ok v.max_frame (carry_refusals v o.on payload) (later_body (handle_of o.on.ours) (flag more) None) payload given.Nothing reply o.said in
    let same : link ≡ k = eqb-true link k is in
    (o.on, (ap (λ n. find (has_number n) v.links) (sym same) ∙ o.found, not-false (is_attached o.on) y.none_holds.0))
names-own v (own.Abort link) reply k h is =
    let ended = ended_by (sent_by_own v (own.Abort link)) No_event v in
    let o = on-link-ok v link (λ l. sends_ending v.max_frame (abort_refusals v l) (later_body (handle_of l.ours) None (Some true)) ended given.Nothing) reply h in
    let y = sends-ending-ok v.max_frame (abort_refusals v o.on) (later_body (handle_of o.on.ours) None (Some true)) ended given.Nothing reply o.said in
    let same : link ≡ k = eqb-true link k is in
    (o.on, (ap (λ n. find (has_number n) v.links) (sym same) ∙ o.found, not-false (is_attached o.on) y.none_holds.0))
names-own v _ reply k h is = absurd (cc (is))

names-found : (v : View) (step : Step) (reply : Reply) (k : ℕ) → Answers v step reply → names k (own_in step) ≡ true → (l : LinkView) × ((find (has_number k) v.links ≡ Some l) × (is_attached l ≡ true))
names-found v (Opened told) reply k h is = absurd (cc (is))
names-found v (Own op) reply k h is = names-own v op reply k h is
names-found v (Heard f) reply k h is = absurd (cc (is))

attached-some : (l : LinkView) → is_attached l ≡ true → is_some l.ours ≡ true
attached-some l h = by (is_some l.ours) (is_some l.theirs) l.left h
  where
    by : (o t left : Bool) → (o && t) && not left ≡ true → o ≡ true
    by true t left h = refl
    by false t left h = absurd (cc (h))

-- nothing was sent on a link without an attach of ours
pub none-sent-on : (c : Config) (past : List Entry) → AllFair c past → Lives past → (k : ℕ) → (sent_on k past ≡ []) ⊎ IsUsed (at c past) k its-ours
none-sent-on c [] fair lives k = inl refl
none-sent-on c (e ∷ past) fair lives k = by (names k (own_in e.step)) refl (none-sent-on c past fair.0 lp k)
  where
    v : View
    v = at c past

    lp : Lives past
    lp = (lives-goes e past lives).lived

    o : OneMore (Sender, []) c e past
    o = one-more (Sender, []) c e past fair

    r : ReadyStep v (next v e.step) e.step e.reply.given
    r = ready-step v e.step e.reply (due fair.1) lp o.sound

    later : IsUsed v k its-ours → IsUsed (at c (e ∷ past)) k its-ours
    later u = subst (λ (v : View). IsUsed v k its-ours) (sym o.goes_on) (used-later v e.step e.reply.given k its-ours r o.sound (λ m f h. f.ours h) u)

    by : (b : Bool) → names k (own_in e.step) ≡ b → (sent_on k past ≡ []) ⊎ IsUsed v k its-ours → (sent_on k (e ∷ past) ≡ []) ⊎ IsUsed (at c (e ∷ past)) k its-ours
    by true is before =
        let l = names-found v e.step e.reply k (due fair.1) is in
        let n = number-is v k l.0 l.1.0 in
        let few : l.0.number < v.made = below v l.0 o.sound (found-in (has_number k) v.links l.0 l.1.0) in
        inr (later (record {
          made = omega (arith, few, n);
          attach = λ m found. ap (λ (l : LinkView). is_some l.ours) (same-some (find (has_number k) v.links) m l.0 found l.1.0) ∙ attached-some l.0 l.1.1;
        }))
    by false is (inl none) = inl (rw (is, none) refl)
    by false is (inr u) = inr (later u)

-- # What was taken

pub record NoneTaken (c : Config) (past : List Entry) (k : ℕ) : Type 0 where
  pub taken : taken_on k past ≡ []
  pub ready : (l : LinkView) → find (has_number k) (at c past).links ≡ Some l → l.ready ≡ []

nothing-more : {A : Type 0} (xs ys : List A) → xs ≡ [] → ys ≡ [] → xs ++ ys ≡ []
nothing-more xs ys h k = rw (h, k) refl

pub theirs-some : (h : ℕ) (l : LinkView) → has_peer_handle h l ≡ true → is_some l.theirs ≡ true
theirs-some h l is = by l.theirs is
  where
    by : (o : Option EndView) → holds (λ e. e.handle == h) o ≡ true → is_some o ≡ true
    by None h = absurd (cc (h))
    by (Some e) h = refl

-- nothing was taken on a link without an attach of the peer's, and nothing waits
pub none-taken-on : (c : Config) (past : List Entry) → AllFair c past → Lives past → (k : ℕ) → NoneTaken c past k ⊎ IsUsed (at c past) k its-theirs
none-taken-on c [] fair lives k = inl (record { taken = refl; ready = λ l found. absurd (cc (found)) })
none-taken-on c (e ∷ past) fair lives k = by (none-taken-on c past fair.0 lp k)
  where
    v : View
    v = at c past

    lp : Lives past
    lp = (lives-goes e past lives).lived

    o : OneMore (Sender, []) c e past
    o = one-more (Sender, []) c e past fair

    r : ReadyStep v (next v e.step) e.step e.reply.given
    r = ready-step v e.step e.reply (due fair.1) lp o.sound

    later : IsUsed v k its-theirs → IsUsed (at c (e ∷ past)) k its-theirs
    later u = subst (λ (v : View). IsUsed v k its-theirs) (sym o.goes_on) (used-later v e.step e.reply.given k its-theirs r o.sound (λ m f h. f.theirs h) u)

    -- by the links after the step
    none-by : taken_on k past ≡ [] → taken_in k e.reply.given ≡ [] → ((l : LinkView) → l.number ≡ k → In l (next v e.step).links → l.ready ≡ []) → NoneTaken c (e ∷ past) k
    none-by none now ready' =
        record {
          taken = nothing-more (taken_on k past) (taken_in k e.reply.given) none now;
          ready = λ l found. (let found' = ap (λ (v : View). find (has_number k) v.links) (sym o.goes_on) ∙ found in ready' l (number-is (next v e.step) k l found') (found-in (has_number k) (next v e.step).links l found'));
        }

    ready-of : NoneTaken c past k → (l : LinkView) → l.number ≡ k → In l v.links → l.ready ≡ []
    ready-of x l n h = x.ready l (ap (λ k. find (has_number k) v.links) (sym n) ∙ in-number v l o.sound h)

    on : NoneTaken c past k → ReadyStep v (next v e.step) e.step e.reply.given → NoneTaken c (e ∷ past) k ⊎ IsUsed (at c (e ∷ past)) k its-theirs
    on x (rests mute f none) = inl (none-by x.taken (none k) (λ l n h. one l n (f l h)))
      where
        one : (l : LinkView) → l.number ≡ k → Rests v l ⊎ New v l → l.ready ≡ []
        one l n (inl r) = r.ready ∙ x.ready r.was.before (ap (λ k. find (has_number k) v.links) (sym n) ∙ r.was.found)
        one l n (inr new) = new.ready
    on x (takes l d ds n take found is to g) = inl (none-by x.taken (ap (taken_in k) g ∙ other l n found is) (λ m at-k h. (let y = in-changed (has_number n) taken_from v.links m (subst (λ (links : List LinkView). In m links) to h) in one m at-k y.0 y.1.0 y.1.1)))
      where
        some : (ds : List Delivery) (d : Delivery) (rest : List Delivery) → ds ≡ d ∷ rest → ds ≡ [] → ⊥
        some ds d rest e f = absurd (cc (e, f))

        other : (l : LinkView) (n : ℕ) → find (has_number n) v.links ≡ Some l → l.ready ≡ d ∷ ds → taken_in k (given.Taken (taken_of l.number d)) ≡ []
        other l n found is =
            by-bool (l.number == k)
            (λ (t : (l.number == k) ≡ true). absurd (some l.ready d ds is (ready-of x l (eqb-true l.number k t) (found-in (has_number n) v.links l found))))
            (λ (f : (l.number == k) ≡ false). rw f refl)

        one : (m : LinkView) → m.number ≡ k → (y : LinkView) → In y v.links → (m ≡ y) ⊎ ((m ≡ taken_from y) × (has_number n y ≡ true)) → m.ready ≡ []
        one m at-k y h (inl e) = ap (λ (l : LinkView). l.ready) e ∙ ready-of x y (sym (ap (λ (l : LinkView). l.number) e) ∙ at-k) h
        one m at-k y h (inr e) =
            let none = ready-of x y (sym (ap (λ (l : LinkView). l.number) e.0) ∙ at-k) h in
            ap (λ (l : LinkView). l.ready) e.0 ∙ ap (drop 1) none
    on x (hears f t at' body to none) = hear (find (has_number k) v.links) refl
      where
        mine : (m : LinkView) → m.number ≡ k → (y : LinkView) → In y v.links → ((y : LinkView) → In y v.links → y.number ≡ k → has_peer_handle t.handle y ≡ false) → (m ≡ y) ⊎ ((m ≡ heard_on t f.payload y) × (has_peer_handle t.handle y ≡ true)) → m.ready ≡ []
        mine m at-k y h not-met (inl e) = ap (λ (l : LinkView). l.ready) e ∙ ready-of x y (sym (ap (λ (l : LinkView). l.number) e) ∙ at-k) h
        mine m at-k y h not-met (inr e) =
            let n : y.number ≡ k = sym (ap (λ (l : LinkView). l.number) e.0 ∙ same-number y) ∙ at-k in
            let f = not-met y h n in
            let t' = e.1 in
            absurd (cc (f, t'))
          where
            same-number : (y : LinkView) → (heard_on t f.payload y).number ≡ y.number
            same-number y = by-left y.left
              where
                by-left : (b : Bool) → (cond b y (received_on t f.payload y)).number ≡ y.number
                by-left true = refl
                by-left false = refl

        unmet : ((y : LinkView) → In y v.links → y.number ≡ k → has_peer_handle t.handle y ≡ false) → NoneTaken c (e ∷ past) k
        unmet not-met = none-by x.taken (none k) (λ m at-k h. (let y = in-changed (has_peer_handle t.handle) (heard_on t f.payload) v.links m (subst (λ (links : List LinkView). In m links) to h) in mine m at-k y.0 y.1.0 not-met y.1.1))

        hear : (b : Option LinkView) → find (has_number k) v.links ≡ b → NoneTaken c (e ∷ past) k ⊎ IsUsed (at c (e ∷ past)) k its-theirs
        hear None found = inl (unmet (λ y h n. (let there = ap (λ k. find (has_number k) v.links) (sym n) ∙ in-number v y o.sound h in absurd (cc (there, found)))))
        hear (Some l) found =
            by-bool (has_peer_handle t.handle l)
            (λ (t' : has_peer_handle t.handle l ≡ true).
            let few : l.number < v.made = below v l o.sound (found-in (has_number k) v.links l found) in
            let n = number-is v k l found in
            inr (later (record {
              made = omega (arith, few, n);
              attach = λ m at-k. ap (λ (l : LinkView). is_some l.theirs) (same-some (find (has_number k) v.links) m l at-k found) ∙ theirs-some t.handle l t';
            })))
            (λ (f : has_peer_handle t.handle l ≡ false).
            inl (unmet (λ y h n. (let there = ap (λ k. find (has_number k) v.links) (sym n) ∙ in-number v y o.sound h in ap (has_peer_handle t.handle) (same-some (find (has_number k) v.links) y l there found) ∙ f))))

    by : NoneTaken c past k ⊎ IsUsed v k its-theirs → NoneTaken c (e ∷ past) k ⊎ IsUsed (at c (e ∷ past)) k its-theirs
    by (inl x) = on x r
    by (inr u) = inr (later u)
