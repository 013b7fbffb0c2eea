-- The numbers by which programs tell a refusal. They are tested in this order, but that 29 and 30 come directly after 10, and 31 directly after 9.
use Rattle.std.specs.Prelude.{ℕ}
use Rattle.amqp_rules.specs.declared.refusal.Refusal.{Refusal}
use Rattle.amqp_rules.specs.declared.refusal.Refusal.TheVariants.{NotRunning, JournalFull, AlreadyBegun, NotMapped, NoLink, NotAttached, WrongRole, NameInUse, HandleLimit, InDelivery, NotInDelivery, TagHeld, SettleMode, NoCredit, NoWindow, MessageTooLong, BadCredit, CreditRecedes, Draining, NotDraining, BadRange, NothingHeld, MustNotSettle, OutcomeFixed, Nothing, NotWritable, FrameTooBig, NoMemory, NotWaiting, Unclear, TagTwice}

abbrev pub refusal_number : Refusal → ℕ
refusal_number NotRunning = 1
refusal_number JournalFull = 2
refusal_number AlreadyBegun = 3
refusal_number NotMapped = 4
refusal_number NoLink = 5
refusal_number NotAttached = 6
refusal_number WrongRole = 7
refusal_number NameInUse = 8
refusal_number HandleLimit = 9
refusal_number InDelivery = 10
refusal_number NotInDelivery = 11
refusal_number TagHeld = 12
refusal_number SettleMode = 13
refusal_number NoCredit = 14
refusal_number NoWindow = 15
refusal_number MessageTooLong = 16
refusal_number BadCredit = 17
refusal_number CreditRecedes = 18
refusal_number Draining = 19
refusal_number NotDraining = 20
refusal_number BadRange = 21
refusal_number NothingHeld = 22
refusal_number MustNotSettle = 23
refusal_number OutcomeFixed = 24
refusal_number Nothing = 25
refusal_number NotWritable = 26
refusal_number FrameTooBig = 27
refusal_number NoMemory = 28
refusal_number NotWaiting = 29
refusal_number Unclear = 30
refusal_number TagTwice = 31
