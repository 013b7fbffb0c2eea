-- The configuration that settings describe.
use Rattle.std.specs.Prelude.{ℕ, zero, suc, ◌^◌, Option, Some, None, List}
use Rattle.amqp_conn.specs.declared.config.Config.{Config}
use Rattle.amqp_caller.specs.declared.settings.Settings.{Settings}
use Rattle.amqp_caller.specs.Arguments.{named}

-- 0 stands for another number
abbrev pub or_else : ℕ → ℕ → ℕ
or_else zero m = m
or_else (suc n) m = suc n

abbrev pub counted : ℕ → Option ℕ
counted zero = None
counted (suc n) = Some (suc n)

abbrev pub config_told : List ℕ → List ℕ → Settings → Config
config_told name host s = record { container_id = name; hostname = named host; max_frame = or_else s.max_frame 65536; idle_time_out = counted s.idle_time_out; first_id = s.first_id; window = or_else s.window 2048; journal_limit = or_else s.journal_limit (2 ^ 30) }
