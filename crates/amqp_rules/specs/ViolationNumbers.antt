-- The numbers by which programs tell a violation: the order in which they are tested.
use Rattle.std.specs.Prelude.{ℕ}
use Rattle.amqp_rules.specs.declared.violation.ViolationKind.{ViolationKind}
use Rattle.amqp_rules.specs.declared.violation.ViolationKind.TheVariants.{JournalFull, OutOfSession, BadHandle, HandleTaken, NameTaken, CountAhead, Window, MissingField, IdOrder, TagHeld, Mode, Credit, TooLong, BadRange, NoMemory}

abbrev pub violation_number : ViolationKind → ℕ
violation_number JournalFull = 1
violation_number OutOfSession = 2
violation_number BadHandle = 3
violation_number HandleTaken = 4
violation_number NameTaken = 5
violation_number CountAhead = 6
violation_number Window = 7
violation_number MissingField = 8
violation_number IdOrder = 9
violation_number TagHeld = 10
violation_number Mode = 11
violation_number Credit = 12
violation_number TooLong = 13
violation_number BadRange = 14
violation_number NoMemory = 15
