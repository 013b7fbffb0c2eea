-- The unsettled deliveries stand in the order of their serial numbers.
use Rattle.std.proofs.Common.{◌≡◌, ◌<◌, ◌≤◌, ℕ, ◌+◌, ◌^◌, Bool, true, false, cond, List, [], ◌∷◌, ◌++◌, map, filter, append-nil, arith, AllPairs}
use Rattle.std.specs.List.{AllByRecursion}
use Rattle.amqp_flow.specs.Serial.{wire, distance, is_before}
use Rattle.amqp_flow.proofs.SerialLaws.{distance-counted}
use Rattle.amqp_events.specs.Event.{Item, Event, Begins, PassesOver}
use Rattle.amqp_events.specs.Since.{more, with_one}
use Rattle.amqp_events.specs.Unsettled.{begun, is_held, shown, still_held, held}
use Rattle.amqp_events.specs.Numbers.{expected}
use Rattle.amqp_events.proofs.Used.{uses, used}
use Rattle.amqp_events.proofs.Numbered.{AreNumbered}
use Rattle.amqp_events.proofs.Lists.{all-append, all-map, all-weaker, all-filter, Rises, rises-map, rises-filter, rises-push, pairs-rising, pairs-all}

-- how far a delivery is from the first id
abbrev pub far : ℕ → Item × List Event → ℕ
far first d = distance first d.0.id

abbrev pub far_item : ℕ → Item → ℕ
far_item first i = distance first i.id

-- things stand in order, and are less far than so many
pub record InOrder {X : Type 0} (key : X → ℕ) (n : ℕ) (xs : List X) : Type 0 where
  pub below : AllByRecursion (λ x. key x < n) xs
  pub rising : Rises key xs

order-wider : {X : Type 0} (key : X → ℕ) (n m : ℕ) (xs : List X) → n ≤ m → InOrder key n xs → InOrder key m xs
order-wider key n m xs h o =
    record { below = all-weaker (λ x. key x < n) (λ x. key x < m) xs (λ x k. omega (arith, h, k)) o.below; rising = o.rising }

order-push : {X : Type 0} (key : X → ℕ) (n : ℕ) (xs : List X) (y : X) → key y ≡ n → InOrder key n xs → InOrder key (n + 1) (xs ++ y ∷ [])
order-push key n xs y e o =
    record {
      below = all-append (λ x. key x < n + 1) xs (y ∷ []) (all-weaker (λ x. key x < n) (λ x. key x < n + 1) xs (λ x k. omega (arith, k)) o.below) (omega (arith, e), tt);
      rising = rises-push key xs y o.rising (all-weaker (λ x. key x < n) (λ x. key x < key y) xs (λ x k. omega (arith, k, e)) o.below);
    }

pub order-filter : {X : Type 0} (key : X → ℕ) (n : ℕ) (test : X → Bool) (xs : List X) → InOrder key n xs → InOrder key n (filter test xs)
order-filter key n test xs o = record { below = all-filter (λ x. key x < n) test xs o.below; rising = rises-filter key test xs o.rising }

pub order-map : {X Y : Type 0} (key : Y → ℕ) (f : X → Y) (n : ℕ) (xs : List X) → InOrder (λ x. key (f x)) n xs → InOrder key n (map f xs)
order-map key f n xs o = record { below = all-map (λ x. key x < n) f xs o.below; rising = rises-map key f xs o.rising }

append-none : {X : Type 0} (key : X → ℕ) (n : ℕ) (xs : List X) → InOrder key n xs → InOrder key n (xs ++ [])
append-none key n xs o = rw append-nil o

pub some-more : (b : Bool) (n : ℕ) → n ≤ more (cond b 1 0) n
some-more true n = omega arith
some-more false n = omega arith

-- how far the delivery with this number is
pub far-counted : (first n id : ℕ) → wire id ≡ wire (first + n) → n < 2 ^ 32 → distance first id ≡ n
far-counted first n id e h = omega (arith, e, h)

one-order : (first : ℕ) (e : Event) (before : List Event) → AreNumbered first (e ∷ before) → used (e ∷ before) ≤ 2 ^ 32
    → InOrder (far first) (used before) (map (with_one e) (begun before))
    → InOrder (far first) (used (e ∷ before)) (begun (e ∷ before))
one-order first (Begins item true) before h few o =
    let here : distance first item.id ≡ used before = far-counted first (used before) item.id h.1 (omega (arith, few)) in
    order-push (far first) (used before) (map (with_one (Begins item true)) (begun before)) (item, []) here o
one-order first (Begins item false) before h few o =
    order-wider (far first) (used before) (used before + 1) (map (with_one (Begins item false)) (begun before) ++ []) (omega arith) (append-none (far first) (used before) (map (with_one (Begins item false)) (begun before)) o)
one-order first (PassesOver id) before h few o =
    order-wider (far first) (used before) (used (PassesOver id ∷ before)) (map (with_one (PassesOver id)) (begun before) ++ []) (some-more (uses (PassesOver id) (expected before)) (used before)) (append-none (far first) (used before) (map (with_one (PassesOver id)) (begun before)) o)
one-order first _ before h few o = append-none (far first) (used before) _ o

pub begun-order : (first : ℕ) (past : List Event) → AreNumbered first past → used past ≤ 2 ^ 32 → InOrder (far first) (used past) (begun past)
begun-order first [] h few = record { below = tt; rising = tt }
begun-order first (e ∷ before) h few =
    let more' : used before ≤ used (e ∷ before) = some-more (uses e (expected before)) (used before) in
    let o = begun-order first before h.0 (omega (arith, more', few)) in
    one-order first e before h few (order-map (far first) (with_one e) (used before) (begun before) o)

pub held-order : (first : ℕ) (past : List Event) → AreNumbered first past → used past ≤ 2 ^ 32 → InOrder (far_item first) (used past) (held past)
held-order first past h few =
    order-map (far_item first) shown (used past) (still_held past) (order-filter (far first) (used past) is_held (begun past) (begun-order first past h few))

-- # By serial numbers

pub before-by : (first a b : ℕ) → distance first a < distance first b → distance first b < 2 ^ 31 → is_before a b ≡ true
before-by first a b h k = grind arith

pub held-serial : (first : ℕ) (past : List Event) → AreNumbered first past → used past ≤ 2 ^ 31 → AllPairs (λ i j. is_before i.id j.id ≡ true) (held past)
held-serial first past h few =
    let o = held-order first past h (omega (arith, few)) in
    pairs-all (λ i j. is_before i.id j.id ≡ true) (held past) (pairs-rising (λ i j. is_before i.id j.id ≡ true) (far_item first) (used past) (λ i j k l. before-by first i.id j.id k (omega (arith, l, few))) (held past) o.below o.rising)

-- the next id comes after all of them
pub held-followed : (first : ℕ) (past : List Event) → AreNumbered first past → used past < 2 ^ 31
    → AllByRecursion (λ i. is_before i.id (wire (first + used past)) ≡ true) (held past)
held-followed first past h few =
    let o = held-order first past h (omega (arith, few)) in
    let next : distance first (wire (first + used past)) ≡ used past = distance-counted first (used past) (omega (arith, few)) in
    all-weaker (λ i. far_item first i < used past) (λ i. is_before i.id (wire (first + used past)) ≡ true) (held past) (λ i k. before-by first i.id (wire (first + used past)) (rw next k) (rw next few)) o.below
