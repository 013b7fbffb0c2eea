-- The laws, in the words of their statements.
use Rattle.std.proofs.Common.{◌≡◌, ◌<◌, ◌≤◌, ℕ, ◌+◌, ◌^◌, true, Option, IfSome, List, length, arith, ⊎_elim, sym, subst}
use Rattle.std.proofs.lemmas.List.Elements.{All-from_recursion}
use Rattle.amqp_flow.specs.Serial.{wire, is_before}
use Rattle.amqp_events.specs.Event.{Event}
use Rattle.amqp_events.specs.Unsettled.{held}
use Rattle.amqp_events.specs.Numbers.{deliveries, expected, AreSentInOrder, AreHeardInOrder}
use Rattle.amqp_events.proofs.Used.{used}
use Rattle.amqp_events.specs.Named.{named}
use Rattle.amqp_events.specs.Laws.{AreInOrder, IsPast, AreDistinct}
use Rattle.amqp_events.proofs.Numbered.{sent-numbered, heard-numbered, used-few}
use Rattle.amqp_events.proofs.Order.{held-serial, held-followed}
use Rattle.amqp_events.proofs.Settled.{never-twice}
use Rattle.amqp_events.proofs.ToldOnce.{told-all}
use Rattle.amqp_events.proofs.Lists.{pairs-all, pairs-map}
use Rattle.amqp_events.specs.Told.{told}
use Rattle.std.proofs.Common.{map}

few-used : (past : List Event) → length past ≤ 2 ^ 30 → used past < 2 ^ 31
few-used past h = let f = used-few past in omega (arith, f, h)

pub sent-order : (first : ℕ) (past : List Event) → AreSentInOrder first past → length past ≤ 2 ^ 30 → AreInOrder (held past)
sent-order first past h few =
    let s = sent-numbered first past h in
    let f = few-used past few in held-serial first past s.numbered (omega (arith, f))

pub sent-past : (first : ℕ) (past : List Event) → AreSentInOrder first past → length past ≤ 2 ^ 30 → IsPast (wire (first + deliveries past)) (held past)
sent-past first past h few =
    let s = sent-numbered first past h in
    let f = few-used past few in
    let P : ℕ → Type 0 = λ n. IsPast (wire (first + n)) (held past) in
    subst P s.count (All-from_recursion (λ i. is_before i.id (wire (first + used past)) ≡ true) (held past) (held-followed first past s.numbered f))

pub sent-once : (first : ℕ) (past : List Event) → AreSentInOrder first past → length past ≤ 2 ^ 30 → AreDistinct (named past)
sent-once first past h few =
    let s = sent-numbered first past h in
    let f = few-used past few in never-twice first past s.numbered (omega (arith, f))

pub heard-order : (past : List Event) → AreHeardInOrder past → length past ≤ 2 ^ 30 → AreInOrder (held past)
heard-order past h few =
    let s = heard-numbered past h in
    let f = few-used past few in held-serial s.first past s.numbered (omega (arith, f))

pub heard-past : (past : List Event) → AreHeardInOrder past → length past ≤ 2 ^ 30 → IfSome (expected past) (λ next. IsPast next (held past))
heard-past past h few =
    let s = heard-numbered past h in
    let f = few-used past few in
    let P : Option ℕ → Type 0 = λ o. IfSome o (λ next. IsPast next (held past)) in
    ⊎_elim
    (λ a. subst P (sym a.1) tt)
    (λ a. subst P (sym a.1) (All-from_recursion (λ i. is_before i.id (wire (s.first + used past)) ≡ true) (held past) (held-followed s.first past s.numbered f)))
    s.expects

pub heard-once : (past : List Event) → AreHeardInOrder past → length past ≤ 2 ^ 30 → AreDistinct (named past)
heard-once past h few =
    let s = heard-numbered past h in
    let f = few-used past few in never-twice s.first past s.numbered (omega (arith, f))

pub learnt-once : (first : ℕ) (past : List Event) → AreSentInOrder first past → length past ≤ 2 ^ 30 → AreDistinct (map (λ t. t.id) (told past))
learnt-once first past h few =
    let s = sent-numbered first past h in
    let f = few-used past few in
    let R : ℕ → ℕ → Type 0 = λ i j. i ≡ j → ⊥ in
    pairs-all R (map (λ t. t.id) (told past)) (pairs-map R (λ t. t.id) (told past) (told-all first past s.numbered (omega (arith, f))).apart)
