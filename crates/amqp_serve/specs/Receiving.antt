-- What becomes of a message that came.
use Rattle.std.specs.Prelude.{Bool, true, false, cond, Option, Some, None}
use Rattle.amqp_policy.specs.declared.outcome.Outcome.{Outcome}
use Rattle.amqp_policy.specs.declared.outcome.Outcome.TheVariants.{Accepted, Rejected, Released}
use Rattle.amqp_serve.specs.declared.receipt.Receipt.{Receipt}
use Rattle.amqp_serve.specs.declared.receipt.Receipt.TheVariants.{Stored, NoRoom, Unroutable}

-- what its sender is to know
abbrev pub outcome_of : Receipt → Outcome
outcome_of Stored = Accepted
outcome_of NoRoom = Released
outcome_of (Unroutable reason) = Rejected

-- the sender of a message that came settled is not told
abbrev pub outcome_for : Receipt → Bool → Option Outcome
outcome_for receipt is_settled = cond is_settled None (Some (outcome_of receipt))

abbrev pub receipt_of : Bool → Receipt
receipt_of is_in = cond is_in Stored NoRoom

-- a message that was not settled comes again if its connection has ended
abbrev pub is_kept : Bool → Bool → Bool
is_kept is_settled is_over = cond is_settled true (cond is_over false true)
