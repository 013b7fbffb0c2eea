-- No two unsettled deliveries of a link have the same tag.
use Rattle.std.proofs.Common.{◌≡◌, not, true, false, Option, None, Some, List, [], ◌∷◌, map, filter}
use Rattle.std.specs.List.{AllByRecursion, list_any}
use Rattle.std.proofs.lemmas.Bool.{or_parts}
use Rattle.amqp_events.specs.Event.{Item, Event, Begins}
use Rattle.amqp_events.specs.Unsettled.{begins, ends, held, said_to, added}
use Rattle.amqp_events.specs.Tags.{is_tagged, IsFree, AreFree, AreApart}
use Rattle.amqp_events.proofs.UnsettledLaw.{held-step}
use Rattle.amqp_events.proofs.Lists.{all-map, all-filter, Pairs, pairs-append, pairs-map, pairs-filter, pairs-all}

abbrev Apart : Item → Item → Type 0
Apart i j = is_tagged j.link j.tag i ≡ false

each-untagged : (j : Item) (items : List Item) → list_any (is_tagged j.link j.tag) items ≡ false → AllByRecursion (λ i. Apart i j) items
each-untagged j [] h = tt
each-untagged j (i ∷ items) h =
    let p = or_parts (is_tagged j.link j.tag i) (list_any (is_tagged j.link j.tag) items) h in (p.0, each-untagged j items p.1)

none-behind : {A : Type 0} (P : A → A → Type 0) (xs : List A) → AllByRecursion (λ x. AllByRecursion (P x) []) xs
none-behind P [] = tt
none-behind P (x ∷ xs) = (tt, none-behind P xs)

one-behind : {A : Type 0} (P : A → A → Type 0) (y : A) (xs : List A) → AllByRecursion (λ x. P x y) xs → AllByRecursion (λ x. AllByRecursion (P x) (y ∷ [])) xs
one-behind P y [] h = tt
one-behind P y (x ∷ xs) h = ((h.0, tt), one-behind P y xs h.1)

behind : (e : Event) (before : List Event) → IsFree e before
    → AllByRecursion (λ i. AllByRecursion (Apart i) (added (begins e))) (map (said_to e) (filter (λ i. not (ends e i)) (held before)))
behind (Begins item true) before h =
    let items = filter (λ i. not (ends (Begins item true) i)) (held before) in
    one-behind Apart item (map (said_to (Begins item true)) items)
    (all-map (λ i. Apart i item) (said_to (Begins item true)) items (all-filter (λ i. Apart i item) (λ i. not (ends (Begins item true) i)) (held before) (each-untagged item (held before) h)))
behind (Begins item false) before h = none-behind Apart _
behind _ before h = none-behind Apart _

alone : (b : Option Item) → Pairs Apart (added b)
alone None = tt
alone (Some i) = (tt, tt)

held-apart : (past : List Event) → AreFree past → Pairs Apart (held past)
held-apart [] h = tt
held-apart (e ∷ before) h =
    let kept = filter (λ i. not (ends e i)) (held before) in
    rw (held-step e before)
    (pairs-append Apart (map (said_to e) kept) (added (begins e))
    (pairs-map Apart (said_to e) kept (pairs-filter Apart (λ i. not (ends e i)) (held before) (held-apart before h.0)))
    (alone (begins e)) (behind e before h.1))

pub tags-apart : (past : List Event) → AreFree past → AreApart (held past)
tags-apart past h = pairs-all Apart (held past) (held-apart past h)
