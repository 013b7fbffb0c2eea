-- No delivery settles twice.
use Rattle.std.proofs.Common.{◌≡◌, ℕ, ◌≤◌, ◌<◌, ◌^◌, ◌&&◌, Bool, true, false, not, cond, Option, Some, Result, Ok, Err, List, [], ◌∷◌, ◌++◌, length, map, flat_map, reverse, refl, ap, sym, ◌∙◌, subst, arith, append-nil, AllPairs}
use Rattle.std.specs.List.{AllByRecursion}
use Rattle.std.proofs.lemmas.Bool.{and_right}
use Rattle.std.proofs.lemmas.List.{reverse-append, reverse-reverse, length-reverse}
use Rattle.std.proofs.lemmas.Grind.{flat_map-append}
use Rattle.amqp_performatives.specs.declared.bodies.Role.{Role}
use Rattle.amqp_performatives.specs.declared.bodies.Role.TheVariants.{Sender, Receiver}
use Rattle.amqp_performatives.specs.declared.performative.Performative.{Performative}
use Rattle.amqp_performatives.specs.declared.performative.Performative.TheVariants as heard
use Rattle.amqp_rules.specs.declared.reply.Reply.{Reply}
use Rattle.amqp_rules.specs.declared.config.Config.{Config}
use Rattle.amqp_rules.specs.View.{View, SessionView, awaits_begin, takes_frames, is_over, same_role}
use Rattle.amqp_rules.specs.Deliveries.{ended_by}
use Rattle.amqp_rules.specs.Answer.{body_answer, heard_answer, is_dropped, is_end}
use Rattle.amqp_events.specs.Event.{Event}
use Rattle.amqp_events.specs.Event.{Nothing as No_event}
use Rattle.amqp_events.specs.Named.{ids_gone}
use Rattle.amqp_events.specs.Named.{ended_by as events_end, named as events_name}
use Rattle.amqp_events.specs.Told.{next_sent_held}
use Rattle.amqp_events.specs.Unsettled.{next_held}
use Rattle.amqp_events.proofs.Lists.{Pairs, pairs-all}
use Rattle.amqp_events.proofs.Gone.{items-next}
use Rattle.amqp_events.proofs.UnsettledLaw.{held-step}
use Rattle.amqp_events.proofs.Numbered.{sent-numbered, heard-numbered, used-few}
use Rattle.amqp_events.proofs.Used.{used}
use Rattle.amqp_events.proofs.Settled.{named-all}
use Rattle.amqp_laws.specs.declared.entry.Entry.{Entry}
use Rattle.amqp_laws.specs.declared.entry.Step.{Step}
use Rattle.amqp_laws.specs.declared.entry.Step.TheVariants.{Opened, Own, Heard}
use Rattle.amqp_laws.specs.Past.{past, some_entry}
use Rattle.amqp_laws.specs.Said.{ends, hears_end, hears_no_end}
use Rattle.amqp_laws.specs.Live.{live}
use Rattle.amqp_laws.specs.At.{base, seen, sent_by, received_by, sent_events, received_events}
use Rattle.amqp_laws.specs.Lawful.{Answers, IsReplayed}
use Rattle.amqp_laws.specs.DeliveryLaws.{named, NeverTwice, only}
use Rattle.amqp_laws.proofs.Events.{sent-same, received-same}
use Rattle.amqp_laws.proofs.SentOrder.{sent-so}
use Rattle.amqp_laws.proofs.HeardOrder.{heard-so, kept-taken}
use Rattle.amqp_laws.proofs.Shown.{items-held, live-few, sent-events_many, received-events_many}
use Rattle.amqp_laws.proofs.EndedLaw.{Ends, own-ends, body-ends, ends-none}

-- # One role's ids

only-append : (role : Role) (ps qs : List (Role × ℕ)) → only role (ps ++ qs) ≡ only role ps ++ only role qs
only-append role [] qs = refl
only-append role (p ∷ ps) qs = by_role (same_role role p.0) (only-append role ps qs)
  where
    by_role : (b : Bool) → only role (ps ++ qs) ≡ only role ps ++ only role qs
        → cond b (p.1 ∷ only role (ps ++ qs)) (only role (ps ++ qs)) ≡ cond b (p.1 ∷ only role ps) (only role ps) ++ only role qs
    by_role true rest = ap (λ is. p.1 ∷ is) rest
    by_role false rest = rest

only-own : (role : Role) (ids : List ℕ) → same_role role role ≡ true → only role (map (λ id. (role, id)) ids) ≡ ids
only-own role [] h = refl
only-own role (id ∷ ids) h = rw (h, only-own role ids h) refl

only-other : (role other : Role) (ids : List ℕ) → same_role role other ≡ false → only role (map (λ id. (other, id)) ids) ≡ []
only-other role other [] h = refl
only-other role other (id ∷ ids) h = rw h (only-other role other ids h)

abbrev Differ : Role × ℕ → Role × ℕ → Type 0
Differ p q = p ≡ q → ⊥

abbrev Apart : ℕ → ℕ → Type 0
Apart i j = i ≡ j → ⊥

sender-apart : (i : ℕ) (ps : List (Role × ℕ)) → AllByRecursion (Apart i) (only Sender ps) → AllByRecursion (Differ (Sender, i)) ps
sender-apart i [] h = tt
sender-apart i (p ∷ ps) h = by_role p.0 p.1 (sender-apart i ps) h
  where
    by_role : (r : Role) (j : ℕ) → (AllByRecursion (Apart i) (only Sender ps) → AllByRecursion (Differ (Sender, i)) ps)
        → AllByRecursion (Apart i) (cond (same_role Sender r) (j ∷ only Sender ps) (only Sender ps))
        → Differ (Sender, i) (r, j) × AllByRecursion (Differ (Sender, i)) ps
    by_role Sender j rest h = ((λ same. h.0 (ap (λ p. p.1) same)), rest h.1)
    by_role Receiver j rest h = ((λ same. let e : Sender ≡ Receiver = ap (λ p. p.0) same in absurd (cc)), rest h)

receiver-apart : (i : ℕ) (ps : List (Role × ℕ)) → AllByRecursion (Apart i) (only Receiver ps) → AllByRecursion (Differ (Receiver, i)) ps
receiver-apart i [] h = tt
receiver-apart i (p ∷ ps) h = by_role p.0 p.1 (receiver-apart i ps) h
  where
    by_role : (r : Role) (j : ℕ) → (AllByRecursion (Apart i) (only Receiver ps) → AllByRecursion (Differ (Receiver, i)) ps)
        → AllByRecursion (Apart i) (cond (same_role Receiver r) (j ∷ only Receiver ps) (only Receiver ps))
        → Differ (Receiver, i) (r, j) × AllByRecursion (Differ (Receiver, i)) ps
    by_role Receiver j rest h = ((λ same. h.0 (ap (λ p. p.1) same)), rest h.1)
    by_role Sender j rest h = ((λ same. let e : Receiver ≡ Sender = ap (λ p. p.0) same in absurd (cc)), rest h)

-- where no two ids of a role are the same, no two pairs are
both-apart : (ps : List (Role × ℕ)) → Pairs Apart (only Sender ps) → Pairs Apart (only Receiver ps) → Pairs Differ ps
both-apart [] s r = tt
both-apart (p ∷ ps) s r = by_role p.0 p.1 (both-apart ps) s r
  where
    by_role : (role : Role) (i : ℕ) → (Pairs Apart (only Sender ps) → Pairs Apart (only Receiver ps) → Pairs Differ ps)
        → Pairs Apart (cond (same_role Sender role) (i ∷ only Sender ps) (only Sender ps))
        → Pairs Apart (cond (same_role Receiver role) (i ∷ only Receiver ps) (only Receiver ps))
        → AllByRecursion (Differ (role, i)) ps × Pairs Differ ps
    by_role Sender i rest s r = (sender-apart i ps s.0, rest s.1 r)
    by_role Receiver i rest s r = (receiver-apart i ps r.0, rest s r.1)

-- # One entry

ended-only_sender : (sent received : Event) (v : View) → only Sender (ended_by sent received v) ≡ ids_gone (map (λ s. s.item) v.sent) (map (λ s. s.item) (next_sent_held sent v.sent))
ended-only_sender sent received v =
    let xs = ids_gone (map (λ s. s.item) v.sent) (map (λ s. s.item) (next_sent_held sent v.sent)) in
    let ys = ids_gone v.received (next_held received v.received) in
    only-append Sender (map (λ id. (Sender, id)) xs) (map (λ id. (Receiver, id)) ys)
    ∙ rw (only-own Sender xs refl, only-other Sender Receiver ys refl) (append-nil xs)

ended-only_receiver : (sent received : Event) (v : View) → only Receiver (ended_by sent received v) ≡ ids_gone v.received (next_held received v.received)
ended-only_receiver sent received v =
    let xs = ids_gone (map (λ s. s.item) v.sent) (map (λ s. s.item) (next_sent_held sent v.sent)) in
    let ys = ids_gone v.received (next_held received v.received) in
    only-append Receiver (map (λ id. (Sender, id)) xs) (map (λ id. (Receiver, id)) ys)
    ∙ rw (only-other Receiver Sender xs refl, only-own Receiver ys refl) refl

-- its reply ends what its events end
step-ends : (c : Config) (n : ℕ) (past : List Entry) (step : Step) (reply : Reply) → some_entry ends past && hears_no_end step ≡ false → Answers (seen c n past) step reply
    → reply.ended ≡ ended_by (sent_by (seen c n past) step) (received_by (seen c n past) step) (seen c n past)
step-ends c n past (Opened told) reply kept h = ap (λ r. r.ended) (sym h) ∙ sym (ends-none No_event No_event (seen c n past) (λ i. refl) (λ i. refl))
step-ends c n past (Own op) reply kept h =
    let v = seen c n past in
    subst (λ (r : Result Reply _). Ends (ended_by (sent_by v (Own op)) (received_by v (Own op)) v) r) h (own-ends v op)
step-ends c n past (Heard f) reply kept h =
    let v = seen c n past in
    let taken : is_dropped v f.body ≡ false = kept-taken (some_entry ends past) (some_entry hears_end past) (is_end f.body) kept in
    let answer : body_answer v f.body f.payload ≡ Ok reply = rw taken at h in
    subst (λ (r : Result Reply _). Ends (ended_by (sent_by v (Heard f)) (received_by v (Heard f)) v) r) answer (body-ends v f.body f.payload)

pub record NamedSo (c : Config) (whole alive : List Entry) (names : List (Role × ℕ)) : Type 0 where
  pub sent : only Sender names ≡ events_name (sent_events c alive)
  pub received : only Receiver names ≡ events_name (received_events c alive)

names-more : (c : Config) (n : ℕ) (whole alive : List Entry) (e : Entry) (names : List (Role × ℕ))
    → some_entry ends alive && hears_no_end e.step ≡ false → Answers (seen c n alive) e.step e.reply
    → NamedSo c whole alive names → NamedSo c (e ∷ whole) (e ∷ alive) (names ++ e.reply.ended)
names-more c n whole alive e names kept h s =
    let v = seen c n alive in
    let es = sent_by v e.step in
    let er = received_by v e.step in
    let ended = step-ends c n alive e.step e.reply kept h in
    let gone_sent : ids_gone (map (λ s. s.item) v.sent) (map (λ s. s.item) (next_sent_held es v.sent)) ≡ events_end (sent_by (base c 0 alive) e.step) (sent_events c alive) =
    rw (items-next es v.sent, items-held (sent_events c alive), sent-same c n alive e.step, held-step (sent_by (base c 0 alive) e.step) (sent_events c alive)) refl in
    let gone_received : ids_gone v.received (next_held er v.received) ≡ events_end (received_by (base c 0 alive) e.step) (received_events c alive) =
    rw (received-same c n alive e.step, held-step (received_by (base c 0 alive) e.step) (received_events c alive)) refl in
    record {
      sent = only-append Sender names e.reply.ended ∙ rw (s.sent, ended, ended-only_sender es er v, gone_sent) refl;
      received = only-append Receiver names e.reply.ended ∙ rw (s.received, ended, ended-only_receiver es er v, gone_received) refl;
    }

-- # Frames that are dropped

abbrev pub NotOk : {E : Type 0} → Result Reply E → Type 0
NotOk (Ok r) = ⊥
NotOk (Err e) = Unit {0}

over-takes : (s : SessionView) → s.end_sent ≡ true → takes_frames s ≡ false
over-takes s h = and_right s.begin_heard (not (is_over s)) (rw h refl)

over-awaits : (s : SessionView) → s.end_sent ≡ true → awaits_begin s ≡ false
over-awaits s h = and_right (not s.begin_heard) (not (is_over s)) (rw h refl)

-- once our end was sent, no other body is answered
pub body-over : (v : View) (body : Option Performative) (payload : List ℕ) → v.session.end_sent ≡ true → is_end body ≡ false → NotOk (body_answer v body payload)
body-over v (Some (heard.Begin b)) payload h e = rw (over-awaits v.session h) tt
body-over v (Some (heard.Attach b)) payload h e = rw (over-takes v.session h) tt
body-over v (Some (heard.Flow b)) payload h e = rw (over-takes v.session h) tt
body-over v (Some (heard.Transfer b)) payload h e = rw (over-takes v.session h) tt
body-over v (Some (heard.Disposition b)) payload h e = rw (over-takes v.session h) tt
body-over v (Some (heard.Detach b)) payload h e = rw (over-takes v.session h) tt
body-over v (Some (heard.End b)) payload h e = absurd (cc)
body-over v _ payload h e = tt

pub and-both : (a b : Bool) → a && b ≡ true → (a ≡ true) × (b ≡ true)
and-both true true h = (refl, refl)
and-both true false h = absurd (cc)
and-both false b h = absurd (cc)

pub no-end : (b : Bool) → cond b false true ≡ true → b ≡ false
no-end true h = absurd (cc)
no-end false h = refl

-- what is dropped names nothing
dropped-ends : (c : Config) (n : ℕ) (past : List Entry) (step : Step) (reply : Reply) → some_entry ends past && hears_no_end step ≡ true → Answers (seen c n past) step reply → reply.ended ≡ []
dropped-ends c n past (Opened told) reply h a = ap (λ r. r.ended) (sym a)
dropped-ends c n past (Own op) reply h a = let p = and-both (some_entry ends past) false h in absurd (let e : false ≡ true = p.1 in cc)
dropped-ends c n past (Heard f) reply h a =
    let v = seen c n past in
    let p = and-both (some_entry ends past) (hears_no_end (Heard f)) h in
    by_dropped (is_dropped v f.body) refl (body-over v f.body f.payload p.0 (no-end (is_end f.body) p.1))
  where
    by_dropped : (b : Bool) → is_dropped (seen c n past) f.body ≡ b → NotOk (body_answer (seen c n past) f.body f.payload) → reply.ended ≡ []
    by_dropped true d refused = let same : heard_answer (seen c n past) f ≡ Ok reply = a in let is = rw d at same in ap (λ r. r.ended) (sym (ok-same is))
      where
        ok-same : {A E : Type 0} {x y : A} → ◌≡◌ {A = Result A E} (Ok x) (Ok y) → x ≡ y
        ok-same e = cc
    by_dropped false d refused =
        let answer : body_answer (seen c n past) f.body f.payload ≡ Ok reply = rw d at a in
        absurd (subst (λ (r : Result Reply _). NotOk r) answer refused)

-- # The whole journal

abbrev pub names_in : List Entry → List (Role × ℕ)
names_in [] = []
names_in (e ∷ before) = names_in before ++ e.reply.ended

pub names-so : (c : Config) (past : List Entry) → IsReplayed c past → NamedSo c past (live past) (names_in past)
names-so c [] h = record { sent = refl; received = refl }
names-so c (e ∷ before) h = by_live (some_entry ends (live before) && hears_no_end e.step) refl (names-so c before h.0)
  where
    by_live : (b : Bool) → some_entry ends (live before) && hears_no_end e.step ≡ b → NamedSo c before (live before) (names_in before)
        → NamedSo c (e ∷ before) (cond b (live before) (e ∷ live before)) (names_in before ++ e.reply.ended)
    by_live true d s =
        let none : e.reply.ended ≡ [] = dropped-ends c (length before) (live before) e.step e.reply d h.1 in
        let same : names_in before ++ e.reply.ended ≡ names_in before = rw none (append-nil (names_in before)) in
        record { sent = rw same s.sent; received = rw same s.received }
    by_live false k s = names-more c (length before) before (live before) e (names_in before) k h.1 s

pub names-named : (past : List Entry) → flat_map (λ e. e.reply.ended) (reverse past) ≡ names_in past
names-named [] = refl
names-named (e ∷ before) =
    ap (λ es. flat_map (λ e. e.reply.ended) es) (reverse-append (e ∷ []) before)
    ∙ flat_map-append (λ e. e.reply.ended) (reverse before) (e ∷ [])
    ∙ rw (names-named before, append-nil e.reply.ended) refl

pub never_twice : (c : Config) (journal : List Entry) → IsReplayed c (past journal) → length journal ≤ 2 ^ 30 → NeverTwice journal
never_twice c journal h few =
    let p = past journal in
    let names = names-so c p h in
    let s = sent-numbered c.first_id (sent_events c (live p)) (sent-so c p h).order in
    let r = heard-numbered (received_events c (live p)) (heard-so c p h).order in
    let short = live-few p in
    let same_length = length-reverse journal in
    let used_sent : used (sent_events c (live p)) < 2 ^ 32 =
    let u = used-few (sent_events c (live p)) in let m = sent-events_many c (live p) in omega (arith, u, m, short, same_length, few) in
    let used_received : used (received_events c (live p)) < 2 ^ 32 =
    let u = used-few (received_events c (live p)) in let m = received-events_many c (live p) in omega (arith, u, m, short, same_length, few) in
    let sent_apart = subst (λ (ids : List ℕ). Pairs Apart ids) (sym names.sent) (named-all c.first_id (sent_events c (live p)) s.numbered used_sent).apart in
    let received_apart = subst (λ (ids : List ℕ). Pairs Apart ids) (sym names.received) (named-all r.first (received_events c (live p)) r.numbered used_received).apart in
    let all : Pairs Differ (names_in p) = both-apart (names_in p) sent_apart received_apart in
    let is : names_in p ≡ named journal = sym (names-named p) ∙ ap named (reverse-reverse journal) in
    subst (λ (ps : List (Role × ℕ)). AllPairs (λ i j. i ≡ j → ⊥) ps) is (pairs-all Differ (names_in p) all)
