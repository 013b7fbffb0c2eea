-- Nothing was told of a link that is to come.
use Rattle.amqp_waiting.specs.Waiting.{WaitingItem, waits_as}
use Rattle.std.proofs.Common.{◌≡◌, ◌<◌, ◌≤◌, ℕ, ◌&&◌, Bool, true, false, not, cond, Option, Some, None, List, [], ◌∷◌, ◌++◌, length, map, filter, find, drop, refl, sym, ap, ◌∙◌, arith, eqb, length-append, ◌||◌, ◌==◌}
use Rattle.std.specs.List.{cons_option}
use Rattle.std.proofs.lemmas.Bool.{eqb-true}
use Rattle.amqp_performatives.specs.declared.bodies.DispositionBody.{DispositionBody}
use Rattle.amqp_performatives.specs.declared.bodies.Role.{Role}
use Rattle.amqp_performatives.specs.declared.bodies.Role.TheVariants.{Sender, Receiver}
use Rattle.amqp_performatives.specs.declared.performative.Performative.{Performative}
use Rattle.amqp_performatives.specs.declared.performative.Performative.TheVariants as heard
use Rattle.amqp_rules.specs.declared.config.Config.{Config}
use Rattle.amqp_rules.specs.declared.op.Op.{Op}
use Rattle.amqp_rules.specs.declared.op.Op.TheVariants.{Start, Carry, Abort, Dispose, Resume}
use Rattle.amqp_rules.specs.View.{LinkView, SendingView, has_number, has_peer_handle, is_over, next_delivery, change_first, rcv_mode}
use Rattle.amqp_rules.specs.Sound.{Every}
use Rattle.amqp_rules.specs.Deliveries.{begun_on, continued_on, sending_on, said_of, heard_of, left_by_peer, resumed_on, resumed_as, is_sent_anew, is_partial}
use Rattle.amqp_rules.proofs.Listed.{by-bool, length-changed}
use Rattle.amqp_events.specs.Event.{Disposition, Event, Item, Begins, Continues, PassesOver, Says, Hears, Leaves, Over, Learns, Takes, Nothing}
use Rattle.amqp_events.specs.Unsettled.{begins, ends}
use Rattle.amqp_events.specs.Told.{SentItem, Telling, added_sent, next_sent, next_sent_held, learnt, tellings, tells, tells_now, telling, to_learn, sent_held, is_learn}
use Rattle.amqp_events.specs.Laws.{AreLearnt}
use Rattle.amqp_events.proofs.ToldLaw.{sent-step, to-learn-step}
use Rattle.amqp_laws.specs.declared.entry.Entry.{Entry}
use Rattle.amqp_laws.specs.declared.entry.Step.{Step}
use Rattle.amqp_laws.specs.declared.entry.Step.TheVariants.{Opened, Own, Heard}
use Rattle.amqp_laws.specs.Links.{Concern, no_link, link_with, link_not_left, link_or_new, concern, LinkPast, joined, link_pasts, is_there_with, put, put_not_left}
use Rattle.amqp_laws.specs.Session.{session_at, links_at}
use Rattle.amqp_laws.specs.At.{base, sent_by, sent_events}
use Rattle.amqp_laws.proofs.Fresh.{links-rise, number-below}

-- links are never fewer
joined-grows : (c : Concern) (e : Entry) (links : List LinkPast) → length links ≤ length (joined c e links)
joined-grows no_link e links = omega arith
joined-grows (link_with test) e links = rw (length-changed (is_there_with test) (put e) links) (omega arith)
joined-grows (link_not_left test) e links = rw (length-changed (is_there_with test) (put_not_left e) links) (omega arith)
joined-grows (link_or_new test role name) e links = by _
  where
    by : (met : Bool) → length links ≤ length (cond met (change_first (is_there_with test) (put e) links) (links ++ record { number = length links; role = role; name = name; past = e ∷ [] } ∷ []))
    by true = rw (length-changed (is_there_with test) (put e) links) (omega arith)
    by false = rw length-append (omega arith)

-- each is on a link below m
abbrev AreBelow : ℕ → List SentItem → Type 0
AreBelow m items = Every (λ s. s.item.link < m) items

below-later : (m k : ℕ) (items : List SentItem) → m ≤ k → AreBelow m items → AreBelow k items
below-later m k [] h all = tt
below-later m k (s ∷ items) h all = let first : s.item.link < m = all.0 in (omega (arith, first, h), below-later m k items h all.1)

below-append : (m : ℕ) (xs ys : List SentItem) → AreBelow m xs → AreBelow m ys → AreBelow m (xs ++ ys)
below-append m [] ys a b = b
below-append m (x ∷ xs) ys a b = (a.0, below-append m xs ys a.1 b)

below-kept : (m : ℕ) (e : Event) (items : List SentItem) → AreBelow m items → AreBelow m (map (next_sent e) (filter (λ s. not (ends e s.item)) items))
below-kept m e [] all = tt
below-kept m e (s ∷ items) all = by (not (ends e s.item)) (below-kept m e items all.1)
  where
    by : (b : Bool) → AreBelow m (map (next_sent e) (filter (λ s. not (ends e s.item)) items)) → AreBelow m (map (next_sent e) (cond b (s ∷ filter (λ s. not (ends e s.item)) items) (filter (λ s. not (ends e s.item)) items)))
    by true rest = (all.0, rest)
    by false rest = rest

-- # What an event begins

begun-below : (m id k : ℕ) (tag : List ℕ) (settled : Bool) (links : List LinkView) (o : Option LinkView) → find (has_number k) links ≡ o
    → ((on : LinkView) → find (has_number k) links ≡ Some on → k < m) → AreBelow m (added_sent (begins (begun_on id k tag settled o)))
begun-below m id k tag settled links None h below = tt
begun-below m id k tag true links (Some l) h below = tt
begun-below m id k tag false links (Some l) h below = (below l h, tt)

item-below : (m id k : ℕ) (settled : Bool) (l : LinkView) (o : Option WaitingItem) → k < m → AreBelow m (added_sent (begins (resumed_as id k settled l o)))
item-below m id k settled l None h = tt
item-below m id k settled l (Some w) h = by (is_sent_anew w) (settled || is_partial w)
  where
    by : (b over : Bool) → AreBelow m (added_sent (begins (cond b (Begins (record { id = id; link = k; tag = w.tag; second = rcv_mode l == 1; local = w.state; remote = w.theirs }) (not over)) Nothing)))
    by true true = tt
    by true false = (h, tt)
    by false over = tt

resumed-below : (m id k : ℕ) (tag : List ℕ) (settled : Bool) (links : List LinkView) (o : Option LinkView) → find (has_number k) links ≡ o
    → ((on : LinkView) → find (has_number k) links ≡ Some on → k < m) → AreBelow m (added_sent (begins (resumed_on id k tag settled o)))
resumed-below m id k tag settled links None h below = tt
resumed-below m id k tag settled links (Some l) h below = item-below m id k settled l (find (waits_as tag) l.waiting) (below l h)

continued-below : (m : ℕ) (over : Bool) (o : Option SendingView) → AreBelow m (added_sent (begins (continued_on over o)))
continued-below m over None = tt
continued-below m over (Some d) = tt

said-below : (m : ℕ) (role : Role) (d : Disposition) → AreBelow m (added_sent (begins (said_of Sender role d)))
said-below m Sender d = tt
said-below m Receiver d = tt

heard-below : (m : ℕ) (b : DispositionBody) (role : Role) → AreBelow m (added_sent (begins (heard_of Sender b role)))
heard-below m b Sender = tt
heard-below m b Receiver = tt

left-below : (m : ℕ) (o : Option LinkView) → AreBelow m (added_sent (begins (left_by_peer o)))
left-below m None = tt
left-below m (Some l) = tt

map-same : (links : List LinkView) → map (λ l. l) links ≡ links
map-same [] = refl
map-same (l ∷ links) = ap (λ ls. l ∷ ls) (map-same links)

there-below : (past : List Entry) (k : ℕ) (on : LinkView) → find (has_number k) (links_at past) ≡ Some on → k < length (link_pasts past)
there-below past k on h =
    let rise = links-rise past (is_over (session_at past)) (λ l. l) (λ l. refl) in
    number-below (length (link_pasts past)) 0 k (links_at past) on (rw (map-same (links_at past)) at rise) h

own-below : (c : Config) (past : List Entry) (op : Op) → AreBelow (length (link_pasts past)) (added_sent (begins (sent_by (base c 0 past) (Own op))))
own-below c past (Start link tag format settled payload more) =
    begun-below (length (link_pasts past)) (next_delivery (base c 0 past)) link tag settled (links_at past) (find (has_number link) (links_at past)) refl (there-below past link)
own-below c past (Carry link payload more) = continued-below (length (link_pasts past)) false (sending_on (find (has_number link) (links_at past)))
own-below c past (Abort link) = continued-below (length (link_pasts past)) true (sending_on (find (has_number link) (links_at past)))
own-below c past (Dispose role first last settled state) = said-below (length (link_pasts past)) role (record { first = first; last = last; settled = settled; state = state })
own-below c past (Resume link tag settled) =
    resumed-below (length (link_pasts past)) (next_delivery (base c 0 past)) link tag settled (links_at past) (find (has_number link) (links_at past)) refl (there-below past link)
own-below c past _ = tt

body-below : (c : Config) (past : List Entry) (channel : ℕ) (body : Option Performative) (payload : List ℕ)
    → AreBelow (length (link_pasts past)) (added_sent (begins (sent_by (base c 0 past) (Heard (record { channel = channel; body = body; payload = payload })))))
body-below c past channel (Some (heard.Disposition b)) payload = heard-below (length (link_pasts past)) b b.role
body-below c past channel (Some (heard.Detach b)) payload = left-below (length (link_pasts past)) (find (has_peer_handle b.handle) (links_at past))
body-below c past channel _ payload = tt

step-below : (c : Config) (past : List Entry) (step : Step) → AreBelow (length (link_pasts past)) (added_sent (begins (sent_by (base c 0 past) step)))
step-below c past (Opened told) = tt
step-below c past (Own op) = own-below c past op
step-below c past (Heard f) = body-below c past f.channel f.body f.payload

items-below : (c : Config) (past : List Entry) → AreBelow (length (link_pasts past)) (sent_held (sent_events c past))
items-below c [] = tt
items-below c (e ∷ before) =
    let m = length (link_pasts before) in
    let event = sent_by (base c 0 before) e.step in
    let items = sent_held (sent_events c before) in
    rw (sent-step event (sent_events c before))
    (below-later m (length (joined (concern e.step) e (link_pasts before))) (next_sent_held event items) (joined-grows (concern e.step) e (link_pasts before))
    (below-append m (map (next_sent event) (filter (λ s. not (ends event s.item)) items)) (added_sent (begins event)) (below-kept m event items (items-below c before)) (step-below c before e.step)))

-- # What an event tells

tells-link : (e : Event) (i : Item) (known : Bool) (t : Telling) → tells_now e i known ≡ Some t → t.link ≡ i.link
tells-link (Hears d) i known t h = by (tells i (Hears d) && not known) h
  where
    by : (b : Bool) → cond b (Some (telling d i)) None ≡ Some t → t.link ≡ i.link
    by true h = let same : telling d i ≡ t = cc in ap (λ (t : Telling). t.link) (sym same)
    by false h = absurd (cc)
tells-link (Begins item unsettled) i known t h = absurd (cc)
tells-link (Continues id state over) i known t h = absurd (cc)
tells-link (PassesOver id) i known t h = absurd (cc)
tells-link (Says d) i known t h = absurd (cc)
tells-link (Leaves link) i known t h = absurd (cc)
tells-link Over i known t h = absurd (cc)
tells-link (Learns link) i known t h = absurd (cc)
tells-link (Takes link) i known t h = absurd (cc)
tells-link Nothing i known t h = absurd (cc)

none-told : (k : ℕ) (e : Event) (items : List SentItem) → AreBelow k items → filter (λ t. eqb t.link k) (tellings e items) ≡ []
none-told k e [] all = refl
none-told k e (s ∷ items) all = by (tells_now e s.item s.told) refl (none-told k e items all.1)
  where
    by : (o : Option Telling) → tells_now e s.item s.told ≡ o → filter (λ t. eqb t.link k) (tellings e items) ≡ [] → filter (λ t. eqb t.link k) (cons_option o (tellings e items)) ≡ []
    by None h rest = rest
    by (Some t) h rest =
        let is : t.link ≡ s.item.link = tells-link e s.item s.told t h in
        let first : s.item.link < k = all.0 in
        by-bool (eqb t.link k)
        (λ (same : eqb t.link k ≡ true). let same' : t.link ≡ k = eqb-true t.link k same in absurd (omega (arith, is, first, same')))
        (λ (other : eqb t.link k ≡ false). rw other rest)

learnt-none : (k : ℕ) (e : Event) → learnt k e [] ≡ []
learnt-none k e = by (is_learn k e)
  where
    by : (b : Bool) → cond b (drop {A = Telling} 1 []) [] ≡ []
    by true = refl
    by false = refl

-- no link from m on has anything to be learnt
pub none-to-learn : (c : Config) (past : List Entry) (k : ℕ) → AreLearnt (sent_events c past) → length (link_pasts past) ≤ k → to_learn k (sent_events c past) ≡ []
none-to-learn c [] k learnt h = refl
none-to-learn c (e ∷ before) k learnt h =
    let event = sent_by (base c 0 before) e.step in
    let events = sent_events c before in
    let grows = joined-grows (concern e.step) e (link_pasts before) in
    let few : length (link_pasts before) ≤ k = omega (arith, grows, h) in
    let below = below-later (length (link_pasts before)) k (sent_held events) few (items-below c before) in
    to-learn-step k event events learnt.0 ∙ rw (none-to-learn c before k learnt.0 few, learnt-none k event) (none-told k event (sent_held events) below)
