-- What an outcome means for a message (part 3, 3.4).
use Rattle.std.specs.Prelude.{ℕ, ◌+◌, Bool, false, cond, min, Option, Some, None}
use Rattle.amqp_performatives.specs.declared.state.DeliveryState.{DeliveryState}
use Rattle.amqp_performatives.specs.declared.state.DeliveryState.TheVariants as S
use Rattle.amqp_policy.specs.declared.outcome.Outcome.{Outcome}
use Rattle.amqp_policy.specs.declared.outcome.Outcome.TheVariants.{Accepted, Rejected, Released, Modified, Unknown}
use Rattle.amqp_policy.specs.declared.outcome.Outcomes.{Outcomes}
use Rattle.amqp_policy.specs.declared.outcome.AfterOutcome.{AfterOutcome}
use Rattle.amqp_policy.specs.declared.outcome.AfterOutcome.TheVariants.{Finished, Returned, Pending}

-- one more, of a count in 64 bits
abbrev pub one_more : ℕ → ℕ
one_more n = min (n + 1) 18446744073709551615

abbrev pub counted : Outcome → Outcomes → Outcomes
counted Accepted o = record o { accepted = one_more o.accepted }
counted Rejected o = record o { rejected = one_more o.rejected }
counted Released o = record o { released = one_more o.released }
counted Modified o = record o { modified = one_more o.modified }
counted Unknown o = record o { unknown = one_more o.unknown }

abbrev pub outcome_of : Option DeliveryState → Outcome
outcome_of None = Unknown
outcome_of (Some (S.Received section_number section_offset)) = Unknown
outcome_of (Some S.Accepted) = Accepted
outcome_of (Some (S.Rejected error)) = Rejected
outcome_of (Some S.Released) = Released
outcome_of (Some (S.Modified delivery_failed undeliverable_here message_annotations)) = Modified
outcome_of (Some (S.Other value)) = Unknown

-- an absent flag is false
abbrev pub is_set : Option Bool → Bool
is_set None = false
is_set (Some flag) = flag

-- a message that is settled without an outcome is done with
abbrev pub without_outcome : Bool → AfterOutcome
without_outcome is_settled = cond is_settled Finished Pending

abbrev pub after_outcome : Option DeliveryState → Bool → AfterOutcome
after_outcome None is_settled = without_outcome is_settled
after_outcome (Some (S.Received section_number section_offset)) is_settled = without_outcome is_settled
after_outcome (Some S.Accepted) is_settled = Finished
after_outcome (Some (S.Rejected error)) is_settled = Finished
after_outcome (Some S.Released) is_settled = Returned false false
after_outcome (Some (S.Modified delivery_failed undeliverable_here message_annotations)) is_settled =
    Returned (is_set delivery_failed) (is_set undeliverable_here)
after_outcome (Some (S.Other value)) is_settled = without_outcome is_settled
