-- What the sender is told, as formulas over a whole journal and as single changes.
use Rattle.std.proofs.Common.{◌-◌, ◌≡◌, ◌<◌, ◌≤◌, ◌==◌, ℕ, ◌+◌, eqb, Bool, true, false, cond, Option, None, Some, List, [], ◌∷◌, ◌++◌, map, filter, filter_map, drop, length, refl, sym, ap, subst, ◌∙◌, arith, append-nil, length-append, length-drop, drop-drop}
use Rattle.std.specs.List.{cons_option}
use Rattle.std.proofs.lemmas.Bool.{eqb-true}
use Rattle.std.proofs.lemmas.List.{map-append, drop-append-le}
use Rattle.std.proofs.lemmas.List.Elements.{filter-append}
use Rattle.amqp_performatives.specs.declared.state.DeliveryState.{DeliveryState}
use Rattle.amqp_events.specs.Event.{Item, Event, Begins, Continues, PassesOver, Says, Hears, Leaves, Over, Learns, Takes, Nothing}
use Rattle.amqp_events.specs.Since.{more, with_one, now}
use Rattle.amqp_events.specs.Unsettled.{begins, ends, begun, is_held, shown, still_held}
use Rattle.amqp_events.specs.Told.{Telling, tells, tells_now, told_by, told, learns, told_on, to_learn, SentItem, sent_item, sent_held, next_sent, added_sent, next_sent_held, tellings, next_to_learn}
use Rattle.amqp_events.specs.Laws.{LearnsSome, AreLearnt}
use Rattle.amqp_events.proofs.Lists.{filter-step}
use Rattle.amqp_events.proofs.UnsettledLaw.{kept-later, shown-later}

tells-shown : (e : Event) (i : Item) (l r : Option DeliveryState) → tells (record i { local = l; remote = r }) e ≡ tells i e
tells-shown (Hears d) i l r = refl
tells-shown _ i l r = refl

sent-later : (e : Event) (d : Item × List Event) → sent_item (with_one e d) ≡ next_sent e (sent_item d)
sent-later e d =
    let i = shown d in
    rw (shown-later e d, tells-shown e d.0 i.local i.remote) refl

sent-now : (b : Option Item) → map sent_item (filter is_held (now b)) ≡ added_sent b
sent-now None = refl
sent-now (Some i) = refl

-- the unsettled deliveries that we sent, with what was told
pub sent-step : (e : Event) (past : List Event) → sent_held (e ∷ past) ≡ next_sent_held e (sent_held past)
sent-step e past =
    rw (
      filter-append is_held (map (with_one e) (begun past)) (now (begins e)),
      map-append sent_item (filter is_held (map (with_one e) (begun past))) (filter is_held (now (begins e))),
      sent-now (begins e),
      filter-step is_held (with_one e) sent_item (λ s. ends e s.item) (next_sent e) (kept-later e) (sent-later e) (begun past),
    )
    refl

-- what it says of each is what it says of them as they are shown
filter_map-map : {A B C : Type 0} (f : A → B) (h : B → Option C) (xs : List A) → filter_map h (map f xs) ≡ filter_map (λ a. h (f a)) xs
filter_map-map f h [] = refl
filter_map-map f h (x ∷ xs) = ap (cons_option (h (f x))) (filter_map-map f h xs)

pub told-by-held : (e : Event) (past : List Event) → told_by e past ≡ tellings e (sent_held past)
told-by-held e past = sym (filter_map-map sent_item (λ s. tells_now e s.item s.told) (still_held past))

-- # What is learnt

on_link : ℕ → Telling → Bool
on_link k t = eqb t.link k

told-on-step : (k : ℕ) (e : Event) (past : List Event) → told_on k (e ∷ past) ≡ told_on k past ++ filter (λ t. t.link == k) (tellings e (sent_held past))
told-on-step k e past = filter-append (λ t. t.link == k) (told past) (told_by e past) ∙ ap (λ ts. told_on k past ++ filter (λ t. t.link == k) ts) (told-by-held e past)

-- where the application learns, nothing is told
learn-tells-none : (link : ℕ) (items : List SentItem) → tellings (Learns link) items ≡ []
learn-tells-none link [] = refl
learn-tells-none link (s ∷ items) = learn-tells-none link items

drop-more : {A : Type 0} (n : ℕ) (xs : List A) → drop (n + 1) xs ≡ drop 1 (drop n xs)
drop-more n xs = sym (drop-drop 1 n xs)

-- # How many were learnt

some-left : {A : Type 0} (n : ℕ) (xs : List A) → 0 < length (drop n xs) → n < length xs
some-left n xs h = let e : length (drop n xs) ≡ length xs - n = length-drop n xs in omega (arith, e, h)

learns-one : (k : ℕ) (e : Event) (before : List Event) → LearnsSome e before → learns k before ≤ length (told_on k before)
    → learns k (e ∷ before) ≤ length (told_on k before)
learns-one k (Learns link) before some few = by_link (eqb link k) refl
  where
    by_link : (b : Bool) → eqb link k ≡ b → more (cond b 1 0) (learns k before) ≤ length (told_on k before)
    by_link true e =
        let same : link ≡ k = eqb-true link k e in
        let some' : 0 < length (drop (learns k before) (told_on k before)) = subst (λ (l : ℕ). 0 < length (to_learn l before)) same some in
        let k' : learns k before < length (told_on k before) = some-left (learns k before) (told_on k before) some' in
        omega (arith, k')
    by_link false e = few
learns-one k _ before some few = few

longer : (n : ℕ) (xs ys : List Telling) → n ≤ length xs → n ≤ length (xs ++ ys)
longer n xs ys h = let e : length (xs ++ ys) ≡ length xs + length ys = length-append xs ys in omega (arith, e, h)

pub learns-few : (k : ℕ) (past : List Event) → AreLearnt past → learns k past ≤ length (told_on k past)
learns-few k [] h = omega arith
learns-few k (e ∷ before) h =
    rw (told-on-step k e before)
    (longer (learns k (e ∷ before)) (told_on k before) (filter (λ t. t.link == k) (tellings e (sent_held before))) (learns-one k e before h.1 (learns-few k before h.0)))

-- # What is left to learn

learn-step : (k link : ℕ) (past : List Event) → to_learn k (Learns link ∷ past) ≡ next_to_learn k (Learns link) (sent_held past) (to_learn k past)
learn-step k link past =
    rw (told-on-step k (Learns link) past, learn-tells-none link (sent_held past), append-nil (told_on k past)) (by_link (eqb link k))
  where
    by_link : (b : Bool) → drop (more (cond b 1 0) (learns k past)) (told_on k past) ≡ cond b (drop 1 (to_learn k past)) (to_learn k past) ++ []
    by_link true = rw append-nil (drop-more (learns k past) (told_on k past))
    by_link false = rw append-nil refl

other-step : (k : ℕ) (e : Event) (past : List Event) → learns k past ≤ length (told_on k past)
    → drop (learns k past) (told_on k (e ∷ past)) ≡ to_learn k past ++ filter (λ t. t.link == k) (tellings e (sent_held past))
other-step k e past few =
    rw (told-on-step k e past) (drop-append-le (learns k past) (told_on k past) (filter (λ t. t.link == k) (tellings e (sent_held past))) few)

by-kind : (k : ℕ) (e : Event) (past : List Event) → learns k past ≤ length (told_on k past)
    → to_learn k (e ∷ past) ≡ next_to_learn k e (sent_held past) (to_learn k past)
by-kind k (Learns link) past few = learn-step k link past
by-kind k (Begins item unsettled) past few = other-step k (Begins item unsettled) past few
by-kind k (Continues id state over) past few = other-step k (Continues id state over) past few
by-kind k (PassesOver id) past few = other-step k (PassesOver id) past few
by-kind k (Says d) past few = other-step k (Says d) past few
by-kind k (Hears d) past few = other-step k (Hears d) past few
by-kind k (Leaves link) past few = other-step k (Leaves link) past few
by-kind k Over past few = other-step k Over past few
by-kind k (Takes link) past few = other-step k (Takes link) past few
by-kind k Nothing past few = other-step k Nothing past few

pub to-learn-step : (k : ℕ) (e : Event) (past : List Event) → AreLearnt past
    → to_learn k (e ∷ past) ≡ next_to_learn k e (sent_held past) (to_learn k past)
to-learn-step k e past h = by-kind k e past (learns-few k past h)
