-- Serial numbers against numbers that are counted without bound.
use Rattle.std.proofs.Common.{◌≡◌, ◌<◌, ◌≤◌, ℕ, ◌+◌, ◌-◌, ◌%◌, ◌^◌, zero, suc, eqb, ⊎_elim, arith, ◌∙◌}
use Rattle.std.proofs.lemmas.Bool.{cases_Bool, eqb-true, eqb-false}
use Rattle.amqp_flow.specs.Serial.{wire, distance, numbered}

-- # Over the wire

pub wire-wire : (n : ℕ) → wire (wire n) ≡ wire n
wire-wire n = omega arith

pub wire-more : (first n : ℕ) → wire (wire (first + n) + 1) ≡ wire (first + (n + 1))
wire-more first n = omega arith

-- # How far

pub distance-counted : (a n : ℕ) → n < 2 ^ 32 → distance a (wire (a + n)) ≡ n
distance-counted a n h = omega arith

-- # The number of an id

far-more : (a b d : ℕ) → a < 2 ^ 32 → d < 2 ^ 32 → b ≡ (a + 1) % 2 ^ 32 → (b ≡ d → ⊥) → (b + 2 ^ 32 - d) % 2 ^ 32 ≡ (a + 2 ^ 32 - d) % 2 ^ 32 + 1
far-more a b d ha hd e ne = omega arith

-- one further on, unless that is where it began
distance-more : (id x : ℕ) → (wire (x + 1) ≡ wire id → ⊥) → distance id (wire (x + 1)) ≡ distance id (wire x) + 1
distance-more id x ne =
    rw (wire-wire (x + 1), wire-wire x) (far-more (wire x) (wire (x + 1)) (wire id) (omega arith) (omega arith) (omega arith) ne)

one-less : (d far n : ℕ) → far ≤ suc n → far ≡ d + 1 → d ≤ n
one-less d far n h e = omega arith

both-less : (d far n m : ℕ) → far ≡ d + 1 → m ≡ n - d → m ≡ suc n - far
both-less d far n m e f = omega arith

-- the number of an id lies as far back as the distance says
pub numbered-back : (first id n : ℕ) → distance id (wire (first + n)) ≤ n → numbered first id n ≡ n - distance id (wire (first + n))
numbered-back first id zero h = omega arith
numbered-back first id (suc n) h =
    ⊎_elim
    (λ e. let same : wire (first + suc n) ≡ wire id = eqb-true (wire (first + suc n)) (wire id) e in rw e (omega arith))
    (λ e. let other : wire (first + suc n) ≡ wire id → ⊥ = eqb-false (wire (first + suc n)) (wire id) e in
    let k : first + suc n ≡ (first + n) + 1 = omega arith in
    let back : distance id (wire (first + suc n)) ≡ distance id (wire (first + n)) + 1 = rw k (distance-more id (first + n) (rw k at other)) in
    let step = numbered-back first id n (one-less _ _ n h back) in
    rw e (both-less (distance id (wire (first + n))) _ n (numbered first id n) back step))
    (cases_Bool (eqb (wire (first + suc n)) (wire id)))

-- how far back a number lies whose id is known
pub distance-of_number : (first id n k : ℕ) → k ≤ n → n < k + 2 ^ 32 → wire (first + k) ≡ wire id → distance id (wire (first + n)) ≡ n - k
distance-of_number first id n k h near e = omega arith

back-again : (k n far : ℕ) → k ≤ n → far ≡ n - k → n - far ≡ k
back-again k n far h e = omega arith

-- the number of an id is the only one in reach that goes over the wire as it does
pub numbered-only : (first id n k : ℕ) → k ≤ n → n < k + 2 ^ 32 → wire (first + k) ≡ wire id → numbered first id n ≡ k
numbered-only first id n k h near e =
    let far : distance id (wire (first + n)) ≡ n - k = distance-of_number first id n k h near e in
    numbered-back first id n (omega arith) ∙ back-again k n (distance id (wire (first + n))) h far
