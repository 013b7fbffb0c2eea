-- When no thread is woken for a link: a take would be refused because nothing is ready.
use Rattle.std.specs.Prelude.{ℕ, ◌≡◌, Err}
use Rattle.amqp_rules.specs.declared.refusal.Refusal.TheVariants.{Nothing}
use Rattle.amqp_rules.specs.Take.{take_answer}
use Rattle.amqp_laws.specs.Past.{past}
use Rattle.amqp_laws.specs.At.{at}
use Rattle.amqp_conn.specs.Connection.{Connection}

-- a take of the link would be refused with `Nothing`
abbrev pub IsNothingYet : Connection → ℕ → Type 0
IsNothingYet c link = take_answer (at c.core.log.config (past c.core.log.journal)) link ≡ Err Nothing
