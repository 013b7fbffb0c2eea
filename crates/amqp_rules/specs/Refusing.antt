-- Answers that a table of refusals gives.
use Rattle.std.specs.Prelude.{ℕ, Bool, Option, Some, None, Result, Ok, Err, List, [], ◌∷◌, cond}
use Rattle.amqp_rules.specs.declared.violation.Violation.{Violation}
use Rattle.amqp_rules.specs.declared.violation.ViolationKind.{ViolationKind}
use Rattle.amqp_rules.specs.declared.violation.ViolationKind.TheVariants.{NoMemory}

-- the first refusal in the table whose condition holds
abbrev pub first_refusal : {E : Type 0} → List (Bool × E) → Option E
first_refusal [] = None
first_refusal (row ∷ rows) = cond row.0 (Some row.1) (first_refusal rows)

-- the refusal, or the reply where there is none
abbrev pub answered : {A E : Type 0} → Option E → A → Result A E
answered None reply = Ok reply
answered (Some e) reply = Err e

-- what is said of the thing that is there, or the refusal
abbrev pub if_there : {A B E : Type 0} → Option A → E → (A → Result B E) → Result B E
if_there None refusal say = Err refusal
if_there (Some x) refusal say = say x

-- the refusal where the condition holds, or else what is said
abbrev pub unless : {A E : Type 0} → Bool → E → Result A E → Result A E
unless condition refusal answer = cond condition (Err refusal) answer

-- a violation that names no link
abbrev pub unlinked : ViolationKind → Violation
unlinked kind = record { kind = kind; link = None }

-- a violation of this link
abbrev pub of_link : ℕ → ViolationKind → Violation
of_link k kind = record { kind = kind; link = Some k }

abbrev pub no_memory : Violation
no_memory = unlinked NoMemory
