-- Pauses between attempts to connect, in milliseconds.
use Rattle.std.specs.Prelude.{ℕ, ◌-◌, ◌*◌, ◌==◌, cond, min, Option, Some, None}

pub record BackoffView : Type 0 where
  -- how long all pauses may take together
  pub limit : ℕ
  -- how much of that is left
  pub left : ℕ
  -- the next pause
  pub pause : ℕ

abbrev pub fresh : ℕ → BackoffView
fresh limit = record { limit = limit; left = limit; pause = 500 }

-- never more than is left
abbrev pub next_pause : BackoffView → Option ℕ
next_pause b = cond (b.left == 0) None (Some (min b.left b.pause))

-- the pause after it is twice as long, up to 8 seconds
abbrev pub after_pause : BackoffView → BackoffView
after_pause b = cond (b.left == 0) b (record b { left = b.left - min b.left b.pause; pause = min (b.pause * 2) 8000 })
