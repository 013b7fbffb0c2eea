-- When a consumer grants its credit again (part 2, 2.6.7).
use Rattle.std.specs.Prelude.{ℕ, ◌==◌, ◌/◌, nat_le, Bool, true, Option, Some, None, IsTrue, IsFalse, ⊤}
use Rattle.amqp_rules.specs.Status.{status_of}
use Rattle.amqp_rules.specs.declared.status.LinkStatus.{LinkStatus}
use Rattle.amqp_laws.specs.Past.{past}
use Rattle.amqp_laws.specs.At.{at}
use Rattle.amqp_conn.specs.Connection.{Connection}
use Rattle.amqp_shared.specs.declared.renewal.Renewal.{Renewal}
use Rattle.amqp_shared.specs.declared.renewal.Renewal.TheVariants as renewal

-- credit is to be granted again when rest of it is left
abbrev pub is_due : Renewal → ℕ → ℕ → Bool
is_due renewal.Each credit rest = true
is_due renewal.AtHalf credit rest = nat_le rest (credit / 2)
is_due renewal.AtZero credit rest = rest == 0

-- a consumer may go on without a grant
abbrev pub MayRest : Renewal → Type 0
MayRest renewal.Each = ⊥
MayRest renewal.AtHalf = ⊤
MayRest renewal.AtZero = ⊤

abbrev pub credit_told : Option LinkStatus → ℕ
credit_told (Some s) = s.credit
credit_told None = 0

-- how many deliveries of this link may still begin
abbrev pub credit_on : Connection → ℕ → ℕ
credit_on c link = credit_told (status_of (at c.core.log.config (past c.core.log.journal)) link)

abbrev pub IsDue : Renewal → ℕ → ℕ → Connection → Type 0
IsDue r credit link c = IsTrue (is_due r credit (credit_on c link))

abbrev pub IsNotDue : Renewal → ℕ → ℕ → Connection → Type 0
IsNotDue r credit link c = IsFalse (is_due r credit (credit_on c link))
