-- Counts and serial numbers.
use Rattle.std.proofs.Common.{◌≡◌, ℕ, ◌+◌, ◌-◌, zero, suc, arith}
use Rattle.amqp_flow.specs.Serial.{wire}
use Rattle.amqp_laws.specs.Past.{more}

pub left-none : (n : ℕ) → n - 0 ≡ n
left-none n = omega arith

pub more-is : (k n : ℕ) → more k n ≡ n + k
more-is zero n = omega arith
more-is (suc k) n = let e : more k n ≡ n + k = more-is k n in omega (arith, e)

pub wire-more : (n k : ℕ) → wire (n + k) ≡ wire (wire n + k)
wire-more n k = omega arith

pub count-wire : (first n : ℕ) → wire (first + wire n) ≡ wire (first + n)
count-wire first n = omega arith
