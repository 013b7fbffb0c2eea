-- How long spellings are.
use Rattle.std.proofs.Common.{◌+◌, ◌-◌, ◌^◌, ℕ, List, length, min, Option, Some}
use Rattle.amqp_types.specs.Reading.{◌>>=◌}

-- so many octets, and what is behind them
abbrev pub capped_behind : ℕ → Option (List ℕ) → Option ℕ
capped_behind n form = form >>= λ x. Some (min (n + length x) (2 ^ 64 - 1))
