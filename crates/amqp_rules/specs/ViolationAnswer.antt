-- How a violation is answered (part 2, 2.8.14, 2.8.15, 2.8.17 and 2.8.18): the session is ended, or the link is detached, with a condition of the standard's.
use Rattle.std.specs.Prelude.{ℕ, Option, None, Some, List, codes}
use Rattle.amqp_performatives.specs.declared.error.AmqpError.{AmqpError}
use Rattle.amqp_rules.specs.declared.op.Op.{Op}
use Rattle.amqp_rules.specs.declared.op.Op.TheVariants.{Detach, End}
use Rattle.amqp_rules.specs.declared.violation.Violation.{Violation}
use Rattle.amqp_rules.specs.declared.violation.ViolationKind.{ViolationKind}
use Rattle.amqp_rules.specs.declared.violation.ViolationKind.TheVariants.{JournalFull, OutOfSession, BadHandle, HandleTaken, NameTaken, CountAhead, Window, MissingField, IdOrder, TagHeld, Mode, Credit, TooLong, BadRange, NoMemory}

-- an error with this condition alone
abbrev pub error_of : List ℕ → Option AmqpError
error_of condition = Some (record { condition = condition; description = None; info = None })

abbrev pub ends_with : List ℕ → Option Op
ends_with condition = Some (End (error_of condition))

-- the link that broke its limit is detached
abbrev pub detaches_with : Option ℕ → List ℕ → Option Op
detaches_with None condition = None
detaches_with (Some link) condition = Some (Detach link (error_of condition))

abbrev pub answer_to : ViolationKind → Option ℕ → Option Op
answer_to BadHandle link = ends_with (codes "amqp:session:unattached-handle")
answer_to HandleTaken link = ends_with (codes "amqp:session:handle-in-use")
answer_to NameTaken link = ends_with (codes "amqp:not-allowed")
answer_to CountAhead link = ends_with (codes "amqp:invalid-field")
answer_to Window link = ends_with (codes "amqp:session:window-violation")
answer_to MissingField link = ends_with (codes "amqp:invalid-field")
answer_to IdOrder link = ends_with (codes "amqp:invalid-field")
answer_to TagHeld link = ends_with (codes "amqp:invalid-field")
answer_to Mode link = ends_with (codes "amqp:invalid-field")
answer_to Credit link = detaches_with link (codes "amqp:link:transfer-limit-exceeded")
answer_to TooLong link = detaches_with link (codes "amqp:link:message-size-exceeded")
answer_to BadRange link = ends_with (codes "amqp:invalid-field")
answer_to JournalFull link = None
answer_to OutOfSession link = None
answer_to NoMemory link = None

-- the operation that answers it; none where the connection is closed, or the frame is to be fed again
abbrev pub violation_answer : Violation → Option Op
violation_answer v = answer_to v.kind v.link
