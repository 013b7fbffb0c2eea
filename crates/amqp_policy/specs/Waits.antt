-- Heartbeats and silence, counted in ticks of 250 milliseconds (part 2, 2.4.5).
use Rattle.std.specs.Prelude.{ℕ, ◌+◌, ◌*◌, ◌/◌, ◌&&◌, Bool, false, cond, min, nat_le, nat_lt, ◌==◌, Option, Some, None, option_map}

pub record WaitsView : Type 0 where
  -- so many reads in vain are too many
  pub most : Option ℕ
  -- reads in vain since octets came
  pub silent : ℕ
  -- turns since anything was put out
  pub idle : ℕ
  -- how many units were put out at the last turn
  pub put_out : ℕ

-- one more, of a count in 32 bits
abbrev pub one_more : ℕ → ℕ
one_more n = min (n + 1) 4294967295

-- four ticks are a second
abbrev pub waits_for : Option ℕ → WaitsView
waits_for seconds = record { most = option_map (λ s. min (s * 4) 4294967295) seconds; silent = 0; idle = 0; put_out = 0 }

abbrev pub heard : WaitsView → WaitsView
heard w = record w { silent = 0 }

abbrev pub waited : WaitsView → WaitsView
waited w = record w { silent = one_more w.silent }

abbrev pub reaches : ℕ → Option ℕ → Bool
reaches n None = false
reaches n (Some most) = nat_le most n

-- the peer has been silent for too long
abbrev pub is_over : WaitsView → Bool
is_over w = reaches w.silent w.most

abbrev pub after_turn : ℕ → WaitsView → WaitsView
after_turn put_out w = cond (put_out == w.put_out) (record w { idle = one_more w.idle }) (record w { idle = 0; put_out = put_out })

-- a quarter of the idle time-out, which is in milliseconds, has gone in so many ticks
abbrev pub is_quarter : ℕ → Option ℕ → Bool
is_quarter idle None = false
is_quarter idle (Some milliseconds) = nat_lt 0 milliseconds && nat_le (milliseconds / 4 / 250) idle

-- nothing was put out in this turn, nor in the quarter of the idle time-out before
abbrev pub is_beat_due : ℕ → Option ℕ → WaitsView → Bool
is_beat_due put_out idle_time_out w = put_out == w.put_out && is_quarter (one_more w.idle) idle_time_out
