-- What was told, with each link, over the whole past and as single changes.
use Rattle.amqp_waiting.specs.Waiting.{WaitingItem, waits_as}
use Rattle.std.proofs.Common.{◌≡◌, ℕ, ◌<◌, ◌&&◌, Bool, true, false, cond, not, Option, None, Some, Ok, List, [], ◌∷◌, length, map, find, refl, subst, append-nil, arith, ◌||◌, ◌==◌}
use Rattle.std.proofs.lemmas.Bool.{eqb-true}
use Rattle.amqp_performatives.specs.declared.performative.Performative.{Performative}
use Rattle.amqp_performatives.specs.declared.performative.Performative.TheVariants as heard
use Rattle.amqp_performatives.specs.declared.bodies.DispositionBody.{DispositionBody}
use Rattle.amqp_performatives.specs.declared.bodies.Role.{Role}
use Rattle.amqp_performatives.specs.declared.bodies.Role.TheVariants.{Sender, Receiver}
use Rattle.amqp_rules.specs.declared.op.Op.{Op}
use Rattle.amqp_rules.specs.declared.op.Op.TheVariants.{Start, Carry, Abort, Dispose, Learn, Resume}
use Rattle.amqp_rules.specs.declared.reply.Reply.{Reply}
use Rattle.amqp_rules.specs.declared.refusal.Refusal.TheVariants.{NoLink, WrongRole}
use Rattle.amqp_rules.specs.declared.config.Config.{Config}
use Rattle.amqp_rules.specs.View.{LinkView, SendingView, has_number, has_peer_handle, change_first, same_role, next_delivery, rcv_mode}
use Rattle.amqp_rules.specs.Refusing.{unless}
use Rattle.amqp_rules.specs.Learn.{learn_answer, learn_first}
use Rattle.amqp_rules.specs.PeerDisposition.{told_more}
use Rattle.amqp_rules.specs.Deliveries.{begun_on, continued_on, sending_on, said_of, heard_of, left_by_peer, resumed_on, resumed_as, is_sent_anew, is_partial}
use Rattle.amqp_rules.proofs.Accepted.{there_Ok, unless_Ok}
use Rattle.amqp_events.specs.Event.{Disposition, Event, Begins, Continues, PassesOver, Says, Hears, Leaves, Over, Learns, Takes}
use Rattle.amqp_events.specs.Event.{Nothing as No_event}
use Rattle.amqp_events.specs.Told.{Telling, SentItem, tellings, to_learn, next_to_learn, sent_held}
use Rattle.amqp_events.specs.Laws.{LearnsSome, AreLearnt}
use Rattle.amqp_events.proofs.ToldLaw.{to-learn-step}
use Rattle.amqp_laws.specs.declared.entry.Entry.{Entry}
use Rattle.amqp_laws.specs.declared.entry.Step.{Step}
use Rattle.amqp_laws.specs.declared.entry.Step.TheVariants.{Opened, Own, Heard}
use Rattle.amqp_laws.specs.Past.{some_entry}
use Rattle.amqp_laws.specs.Said.{ends, hears_no_end}
use Rattle.amqp_laws.specs.Live.{live}
use Rattle.amqp_laws.specs.Session.{links_at}
use Rattle.amqp_laws.specs.At.{base, seen, with_told, sent_by, sent_events}
use Rattle.amqp_laws.specs.Lawful.{Answers, IsReplayed}
use Rattle.amqp_laws.proofs.SentOrder.{found-passes}

-- one event more tells each link of its deliveries
pub told-step : (e : Event) (events : List Event) (links : List LinkView) → AreLearnt events
    → map (with_told (e ∷ events)) links ≡ map (told_more e (sent_held events)) (map (with_told events) links)
told-step e events [] h = refl
told-step e events (l ∷ links) h = rw (to-learn-step l.number e events h, told-step e events links h) refl

-- a change of links that does not read or write what was told goes on beside it
pub change-told : (f : LinkView → LinkView) (test : LinkView → Bool) (change : LinkView → LinkView)
    → ((l : LinkView) → test (f l) ≡ test l) → ((l : LinkView) → f (change l) ≡ change (f l))
    → (links : List LinkView) → map f (change_first test change links) ≡ change_first test change (map f links)
change-told f test change t c [] = refl
change-told f test change t c (l ∷ links) = rw (t l) (by_test (test l) (change-told f test change t c links))
  where
    by_test : (b : Bool) → map f (change_first test change links) ≡ change_first test change (map f links)
        → map f (cond b (change l ∷ links) (l ∷ change_first test change links)) ≡ cond b (change (f l) ∷ map f links) (f l ∷ change_first test change (map f links))
    by_test true rest = rw (c l) refl
    by_test false rest = rw rest refl

-- # Events that tell nothing

abbrev pub IsMute : Event → Type 0
IsMute (Hears d) = ⊥
IsMute (Learns link) = ⊥
IsMute _ = Unit {0}

mute-tells : (e : Event) (items : List SentItem) → IsMute e → tellings e items ≡ []
mute-tells (Hears d) items h = absurd h
mute-tells e [] h = refl
mute-tells (Begins item unsettled) (s ∷ items) h = mute-tells (Begins item unsettled) items h
mute-tells (Continues id state over) (s ∷ items) h = mute-tells (Continues id state over) items h
mute-tells (PassesOver id) (s ∷ items) h = mute-tells (PassesOver id) items h
mute-tells (Says d) (s ∷ items) h = mute-tells (Says d) items h
mute-tells (Leaves link) (s ∷ items) h = mute-tells (Leaves link) items h
mute-tells Over (s ∷ items) h = mute-tells Over items h
mute-tells (Learns link) (s ∷ items) h = absurd h
mute-tells (Takes link) (s ∷ items) h = mute-tells (Takes link) items h
mute-tells No_event (s ∷ items) h = mute-tells No_event items h

mute-next : (k : ℕ) (e : Event) (items : List SentItem) (ts : List Telling) → IsMute e → next_to_learn k e items ts ≡ ts
mute-next k (Hears d) items ts h = absurd h
mute-next k (Learns link) items ts h = absurd h
mute-next k (Begins item unsettled) items ts h = rw (mute-tells (Begins item unsettled) items tt) (append-nil ts)
mute-next k (Continues id state over) items ts h = rw (mute-tells (Continues id state over) items tt) (append-nil ts)
mute-next k (PassesOver id) items ts h = rw (mute-tells (PassesOver id) items tt) (append-nil ts)
mute-next k (Says d) items ts h = rw (mute-tells (Says d) items tt) (append-nil ts)
mute-next k (Leaves link) items ts h = rw (mute-tells (Leaves link) items tt) (append-nil ts)
mute-next k Over items ts h = rw (mute-tells Over items tt) (append-nil ts)
mute-next k (Takes link) items ts h = rw (mute-tells (Takes link) items tt) (append-nil ts)
mute-next k No_event items ts h = rw (mute-tells No_event items tt) (append-nil ts)

pub mute-links : (e : Event) (items : List SentItem) (links : List LinkView) → IsMute e → map (told_more e items) links ≡ links
mute-links e items [] h = refl
mute-links e items (l ∷ links) h = rw (mute-next l.number e items l.told h, mute-links e items links h) refl

-- # Along lawful journals something is there where the application learns

learns-quietly : (o : Option SendingView) (over : Bool) (events : List Event) → LearnsSome (continued_on over o) events
learns-quietly None over events = tt
learns-quietly (Some d) over events = tt

begun-quietly : (id k : ℕ) (tag : List ℕ) (settled : Bool) (o : Option LinkView) (events : List Event) → LearnsSome (begun_on id k tag settled o) events
begun-quietly id k tag settled None events = tt
begun-quietly id k tag settled (Some l) events = tt

said-quietly : (role : Role) (d : Disposition) (events : List Event) → LearnsSome (said_of Sender role d) events
said-quietly Sender d events = tt
said-quietly Receiver d events = tt

heard-quietly : (b : DispositionBody) (role : Role) (events : List Event) → LearnsSome (heard_of Sender b role) events
heard-quietly b Sender events = tt
heard-quietly b Receiver events = tt

left-quietly : (o : Option LinkView) (events : List Event) → LearnsSome (left_by_peer o) events
left-quietly None events = tt
left-quietly (Some l) events = tt

some-told : (ts : List Telling) (reply : Reply) → learn_first ts ≡ Ok reply → 0 < length ts
some-told [] reply h = absurd (cc)
some-told (t ∷ ts) reply h = omega arith

learn-finds : (c : Config) (n : ℕ) (past : List Entry) (link : ℕ) (reply : Reply) → learn_answer (seen c n past) link ≡ Ok reply → 0 < length (to_learn link (sent_events c past))
learn-finds c n past link reply h =
    let links = map (with_told (sent_events c past)) (links_at past) in
    let t = there_Ok (find (has_number link) links) NoLink (λ l. unless (not (same_role Sender l.role)) WrongRole (learn_first l.told)) reply h in
    let u = unless_Ok (not (same_role Sender t.on.role)) WrongRole (learn_first t.on.told) reply t.said in
    let number : t.on.number ≡ link = eqb-true t.on.number link (found-passes (has_number link) links t.on t.found) in
    let told : t.on.told ≡ to_learn t.on.number (sent_events c past) = found-told (sent_events c past) (has_number link) (links_at past) t.on t.found in
    subst (λ (k : ℕ). 0 < length (to_learn k (sent_events c past))) number (subst (λ (ts : List Telling). 0 < length ts) told (some-told t.on.told reply u.1))
  where
    found-told : (events : List Event) (test : LinkView → Bool) (ls : List LinkView) (on : LinkView) → find test (map (with_told events) ls) ≡ Some on → on.told ≡ to_learn on.number events
    found-told events test [] on h = absurd (cc)
    found-told events test (l ∷ ls) on h = by_test (test (with_told events l)) h (found-told events test ls on)
      where
        by_test : (b : Bool) → cond b (Some (with_told events l)) (find test (map (with_told events) ls)) ≡ Some on
            → (find test (map (with_told events) ls) ≡ Some on → on.told ≡ to_learn on.number events) → on.told ≡ to_learn on.number events
        by_test true h rest = let same : with_told events l ≡ on = cc in rw (← same) refl
        by_test false h rest = rest h

item-quietly : (id k : ℕ) (settled : Bool) (l : LinkView) (o : Option WaitingItem) (events : List Event) → LearnsSome (resumed_as id k settled l o) events
item-quietly id k settled l None events = tt
item-quietly id k settled l (Some w) events = by (is_sent_anew w) (Begins (record { id = id; link = k; tag = w.tag; second = rcv_mode l == 1; local = w.state; remote = w.theirs }) (not (settled || is_partial w))) tt
  where
    by : (b : Bool) (e : Event) → LearnsSome e events → LearnsSome (cond b e No_event) events
    by true e h = h
    by false e h = tt

resumed-quietly : (id k : ℕ) (tag : List ℕ) (settled : Bool) (o : Option LinkView) (events : List Event) → LearnsSome (resumed_on id k tag settled o) events
resumed-quietly id k tag settled None events = tt
resumed-quietly id k tag settled (Some l) events = item-quietly id k settled l (find (waits_as tag) l.waiting) events

own-learns : (c : Config) (n : ℕ) (past : List Entry) (op : Op) (reply : Reply) → Answers (seen c n past) (Own op) reply → LearnsSome (sent_by (base c 0 past) (Own op)) (sent_events c past)
own-learns c n past (Start link tag format settled payload more) reply h = begun-quietly (next_delivery (base c 0 past)) link tag settled (find (has_number link) (links_at past)) (sent_events c past)
own-learns c n past (Carry link payload more) reply h = learns-quietly (sending_on (find (has_number link) (links_at past))) false (sent_events c past)
own-learns c n past (Abort link) reply h = learns-quietly (sending_on (find (has_number link) (links_at past))) true (sent_events c past)
own-learns c n past (Dispose role first last settled state) reply h = said-quietly role (record { first = first; last = last; settled = settled; state = state }) (sent_events c past)
own-learns c n past (Learn link) reply h = learn-finds c n past link reply h
own-learns c n past (Resume link tag settled) reply h = resumed-quietly (next_delivery (base c 0 past)) link tag settled (find (has_number link) (links_at past)) (sent_events c past)
own-learns c n past _ reply h = tt

body-learns : (c : Config) (past : List Entry) (body : Option Performative) (channel : ℕ) (payload : List ℕ) → LearnsSome (sent_by (base c 0 past) (Heard (record { channel = channel; body = body; payload = payload }))) (sent_events c past)
body-learns c past (Some (heard.Disposition b)) channel payload = heard-quietly b b.role (sent_events c past)
body-learns c past (Some (heard.Detach b)) channel payload = left-quietly (find (has_peer_handle b.handle) (links_at past)) (sent_events c past)
body-learns c past _ channel payload = tt

step-learns : (c : Config) (n : ℕ) (past : List Entry) (step : Step) (reply : Reply) → Answers (seen c n past) step reply → LearnsSome (sent_by (base c 0 past) step) (sent_events c past)
step-learns c n past (Opened told) reply h = tt
step-learns c n past (Own op) reply h = own-learns c n past op reply h
step-learns c n past (Heard f) reply h = body-learns c past f.body f.channel f.payload

pub are-learnt : (c : Config) (past : List Entry) → IsReplayed c past → AreLearnt (sent_events c (live past))
are-learnt c [] h = tt
are-learnt c (e ∷ before) h = by_live (some_entry ends (live before) && hears_no_end e.step) (are-learnt c before h.0)
  where
    by_live : (b : Bool) → AreLearnt (sent_events c (live before)) → AreLearnt (sent_events c (cond b (live before) (e ∷ live before)))
    by_live true s = s
    by_live false s = (s, step-learns c (length before) (live before) e.step e.reply h.1)
