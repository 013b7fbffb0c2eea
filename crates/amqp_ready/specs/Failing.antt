-- What a fault says of the stream: whether it has failed, or has ended.
use Rattle.std.specs.Prelude.{ℕ, ◌≡◌, Bool, true, List, Option, Some, None}
use Rattle.std.specs.Io.KnownBytes.{IsAtEnd}
use Rattle.amqp_ready.specs.declared.fault.SlotFault.{SlotFault}
use Rattle.amqp_ready.specs.declared.fault.SlotFault.TheVariants as fault

-- a stream that has failed stays so
abbrev pub Stays : Bool → Bool → Type 0
Stays failed failed' = failed ≡ true → failed' ≡ true

-- The stream has failed if the fault is of the stream, and has not failed since if there is no fault. After another
-- fault what was put out is written once more, and that may fail unreported.
abbrev pub TellsFailure : Option SlotFault → Bool → Bool → Type 0
TellsFailure None failed failed' = failed' ≡ failed
TellsFailure (Some (fault.Conn e)) failed failed' = Stays failed failed'
TellsFailure (Some (fault.Refused e)) failed failed' = Stays failed failed'
TellsFailure (Some fault.Read) failed failed' = failed' ≡ true
TellsFailure (Some fault.Write) failed failed' = failed' ≡ true
TellsFailure (Some fault.EndOfInput) failed failed' = Stays failed failed'
TellsFailure (Some fault.TimedOut) failed failed' = Stays failed failed'

-- The stream's octets have ended if the fault says so. Only the clock, and no turn, reports that a slot took too
-- long.
abbrev pub EndsSo : Option SlotFault → Option (List ℕ) → Type 0
EndsSo None remaining = Unit {0}
EndsSo (Some (fault.Conn e)) remaining = Unit {0}
EndsSo (Some (fault.Refused e)) remaining = Unit {0}
EndsSo (Some fault.Read) remaining = Unit {0}
EndsSo (Some fault.Write) remaining = Unit {0}
EndsSo (Some fault.EndOfInput) remaining = IsAtEnd remaining
EndsSo (Some fault.TimedOut) remaining = ⊥

-- a feed returned the fault, or the handler did
abbrev pub IsOfFeeding : Option SlotFault → Type 0
IsOfFeeding None = Unit {0}
IsOfFeeding (Some (fault.Conn e)) = Unit {0}
IsOfFeeding (Some (fault.Refused e)) = Unit {0}
IsOfFeeding (Some fault.Read) = ⊥
IsOfFeeding (Some fault.Write) = ⊥
IsOfFeeding (Some fault.EndOfInput) = ⊥
IsOfFeeding (Some fault.TimedOut) = ⊥
