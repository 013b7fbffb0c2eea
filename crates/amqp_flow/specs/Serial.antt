-- Serial numbers of 32 bits (OASIS AMQP 1.0, part 2, 2.8.10; RFC 1982).
use Rattle.std.specs.Prelude.{ℕ, ◌<◌, ◌+◌, ◌-◌, ◌%◌, ◌^◌, ◌==◌, ◌&&◌, zero, suc, nat_lt, nat_le, Bool, cond}

-- a number as it goes over the wire
abbrev pub wire : ℕ → ℕ
wire n = n % 2 ^ 32

-- how many steps of one lead from a to b: (b - a) mod 2^32
abbrev pub distance : ℕ → ℕ → ℕ
distance a b = (wire b + 2 ^ 32 - wire a) % 2 ^ 32

-- a comes before b (RFC 1982, 3.2)
abbrev pub is_before : ℕ → ℕ → Bool
is_before a b = nat_lt 0 (distance a b) && nat_lt (distance a b) (2 ^ 31)

-- x is one of the numbers from first to last, which are less than 2^31 apart
abbrev pub is_inside : ℕ → ℕ → ℕ → Bool
is_inside x first last = nat_le (distance first x) (distance first last) && nat_lt (distance first last) (2 ^ 31)

-- two counts lie less than 2^31 apart
pub record AreClose (i j : ℕ) : Type 0 where
  pub below : i < j + 2 ^ 31
  pub above : j < i + 2 ^ 31

-- the greatest number k, at most n, with first + k going over the wire as id does, or 0
abbrev pub numbered : ℕ → ℕ → ℕ → ℕ
numbered first id zero = 0
numbered first id (suc n) = cond (wire (first + suc n) == wire id) (suc n) (numbered first id n)
