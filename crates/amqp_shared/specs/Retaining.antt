-- What a shared connection keeps of its journal.
use Rattle.std.specs.Prelude.{◌≡◌, Bool, true, false}
use Rattle.amqp_journal.specs.Log.{Log}
use Rattle.amqp_conn.specs.Connection.{Connection}
use Rattle.amqp_conn.specs.Calling.{forgotten}
use Rattle.amqp_shared.specs.declared.retention.Retention.{Retention}
use Rattle.amqp_shared.specs.declared.retention.Retention.TheVariants.{All, UntilForgotten}

-- If all entries are to be kept, none was forgotten: the stored journal is the whole journal. With the other retention
-- entries may have been forgotten, and nothing is said of how many.
abbrev pub IsRetained : Retention → Log → Type 0
IsRetained retention l = retention ≡ All → l.forgotten ≡ 0

-- a session of this retention forgets entries when it is asked to
abbrev pub may_forget : Retention → Bool
may_forget All = false
may_forget UntilForgotten = true

-- the entries so far are forgotten, if they may be
abbrev pub forgetting_by : Retention → Connection → Connection
forgetting_by All c = c
forgetting_by UntilForgotten c = forgotten c
