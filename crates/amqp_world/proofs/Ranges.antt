-- A range reaches ahead exactly where one of its ids is none of those that were heard.
use Rattle.std.proofs.Common.{zero, suc, ℕ, ◌≡◌, ◌≤◌, ◌<◌, ◌+◌, ◌^◌, ◌==◌, ◌||◌, Bool, true, false, length, arith, refl, ap, subst, nat_le, nat_lt}
use Rattle.std.proofs.lemmas.Bool.{and_parts, and_from, eqb-true}
use Rattle.std.proofs.lemmas.Bool.Decides.{nat_tests}
use Rattle.amqp_flow.specs.Serial.{wire, distance, is_inside}
use Rattle.amqp_events.specs.Named.{is_among}
use Rattle.amqp_world.specs.Knowing.{passes, serials}

by-bool : {P : Type 0} (b : Bool) → (b ≡ true → P) → (b ≡ false → P) → P
by-bool true t f = t refl
by-bool false t f = f refl

or-two : (a b : Bool) → a || b ≡ true → a ≡ false → b ≡ true
or-two true b h f = absurd (cc (f))
or-two false b h f = h

equal-true : (m n : ℕ) → m ≡ n → (m == n) ≡ true
equal-true m n h = grind (arith, h)

pub serials-length : (first n : ℕ) → length (serials first n) ≡ n
serials-length first zero = refl
serials-length first (suc n) = ap suc (serials-length first n)

-- the ids of the first n deliveries are these
pub is-serial : (first n k : ℕ) → k < n → is_among (serials first n) (wire (first + k)) ≡ true
is-serial first zero k h = absurd (omega (arith, h))
is-serial first (suc n) k h =
    by-bool (k == n)
    (λ (t : (k == n) ≡ true). let same : k ≡ n = eqb-true k n t in rw (same, equal-true (wire (first + n)) (wire (first + n)) refl) refl)
    (λ (f : (k == n) ≡ false).
    let fewer : k < n = grind (arith, h, f) in
    either (wire (first + n) == wire (first + k)) (is_among (serials first n) (wire (first + k))) (is-serial first n k fewer))
  where
    either : (a b : Bool) → b ≡ true → a || b ≡ true
    either true b h = refl
    either false b h = h

pub serial-is : (first n id : ℕ) → is_among (serials first n) id ≡ true → (k : ℕ) × ((k < n) × (wire (first + k) ≡ id))
serial-is first zero id h = absurd (cc (h))
serial-is first (suc n) id h =
    by-bool (wire (first + n) == id)
    (λ (t : (wire (first + n) == id) ≡ true). (n, (omega arith, eqb-true (wire (first + n)) id t)))
    (λ (f : (wire (first + n) == id) ≡ false).
    let x = serial-is first n id (or-two (wire (first + n) == id) (is_among (serials first n) id) h f) in
    let few = x.1.0 in
    (x.0, (omega (arith, few), x.1.1)))

-- # Ranges

le-holds : (m n : ℕ) → nat_le m n ≡ true → m ≤ n
le-holds m n h = grind (arith, nat_tests, h)

le-fails : (m n : ℕ) → nat_le m n ≡ false → n < m
le-fails m n h = grind (arith, nat_tests, h)

le-is : (m n : ℕ) → m ≤ n → nat_le m n ≡ true
le-is m n h = grind (arith, nat_tests, h)

counted : (first_id first id : ℕ) → id < 2 ^ 32 → wire (first_id + (distance first_id first + distance first id)) ≡ id
counted first_id first id small = omega (arith, small)

-- a range that does not pass what was heard holds nothing else
pub all-heard : (first_id n first last : ℕ) → passes first_id n first last ≡ false → (id : ℕ) → id < 2 ^ 32 → is_inside id first last ≡ true → is_among (serials first_id n) id ≡ true
all-heard first_id n first last h id small inside =
    let x = and_parts (nat_le (distance first id) (distance first last)) (nat_lt (distance first last) (2 ^ 31)) inside in
    let near : distance first id ≤ distance first last = le-holds (distance first id) (distance first last) x.0 in
    let k = rw x.1 at h in
    let below : distance first_id first + distance first last < n = le-fails n (distance first_id first + distance first last) k in
    let fewer = by (distance first_id first) (distance first id) (distance first last) n near below in
    subst (λ (i : ℕ). is_among (serials first_id n) i ≡ true) (counted first_id first id small) (is-serial first_id n (distance first_id first + distance first id) fewer)
  where
    by : (a b c n : ℕ) → b ≤ c → a + c < n → a + b < n
    by a b c n h k = omega (arith, h, k)

not-first : (first_id first k : ℕ) → k < 2 ^ 32 → k < distance first_id first → wire (first_id + k) ≡ wire first → ⊥
not-first first_id first k small h e = omega (arith, small, h, e)

not-next : (first_id n k : ℕ) → k < n → n ≤ 2 ^ 30 → wire (first_id + k) ≡ wire (first_id + n) → ⊥
not-next first_id n k h few e = omega (arith, h, few, e)

next-near : (first_id n first last : ℕ) → n ≤ 2 ^ 30 → distance first_id first < n → n ≤ distance first_id first + distance first last → distance first (wire (first_id + n)) ≤ distance first last
next-near first_id n first last few h k = omega (arith, few, h, k)

self-near : (first last : ℕ) → distance first (wire first) ≤ distance first last
self-near first last = omega arith

-- one that passes it holds an id that was not heard
pub not-heard : (first_id n first last : ℕ) → n ≤ 2 ^ 30 → passes first_id n first last ≡ true → ((id : ℕ) → id < 2 ^ 32 → is_inside id first last ≡ true → is_among (serials first_id n) id ≡ true) → ⊥
not-heard first_id n first last few h all =
    let x = and_parts (nat_lt (distance first last) (2 ^ 31)) (nat_le n (distance first_id first + distance first last)) h in
    let past : n ≤ distance first_id first + distance first last = le-holds n (distance first_id first + distance first last) x.1 in
    by-bool (nat_le n (distance first_id first))
    (λ (t : nat_le n (distance first_id first) ≡ true).
    let far : n ≤ distance first_id first = le-holds n (distance first_id first) t in
    let s = serial-is first_id n (wire first) (all (wire first) (omega arith) (and_from (nat_le (distance first (wire first)) (distance first last)) (nat_lt (distance first last) (2 ^ 31)) (le-is (distance first (wire first)) (distance first last) (self-near first last)) x.0)) in
    not-first first_id first s.0 (less-few s.0 n s.1.0 few) (less-far s.0 n (distance first_id first) s.1.0 far) s.1.1)
    (λ (f : nat_le n (distance first_id first) ≡ false).
    let near : distance first_id first < n = le-fails n (distance first_id first) f in
    let id = wire (first_id + n) in
    let s = serial-is first_id n id (all id (omega arith) (and_from (nat_le (distance first id) (distance first last)) (nat_lt (distance first last) (2 ^ 31)) (le-is (distance first id) (distance first last) (next-near first_id n first last few near past)) x.0)) in
    not-next first_id n s.0 s.1.0 few s.1.1)
  where
    less-few : (k n : ℕ) → k < n → n ≤ 2 ^ 30 → k < 2 ^ 32
    less-few k n h few = omega (arith, h, few)

    less-far : (k n m : ℕ) → k < n → n ≤ m → k < m
    less-far k n m h j = omega (arith, h, j)
