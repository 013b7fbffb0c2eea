-- Reads, and what was read and not fed.
use Rattle.std.specs.Prelude.{ℕ, ◌≡◌, ◌≢◌, ◌≤◌, Bool, true, List, length, Option, Result, Ok, Err}
use Rattle.std.specs.Io.KnownBytes.{IsAtEnd}
use Rattle.amqp_ready.specs.declared.device.Moved.{Moved}
use Rattle.amqp_ready.specs.declared.device.Moved.TheVariants.{Octets, Waits}
use Rattle.amqp_ready.specs.declared.inbox.ReadFault.{ReadFault}
use Rattle.amqp_ready.specs.declared.inbox.ReadFault.TheVariants as fault
use Rattle.amqp_ready.specs.declared.slot.Brought.{Brought}
use Rattle.amqp_ready.specs.declared.slot.Brought.TheVariants as brought

-- the octets of a room from its start to its end
pub record IsSpan (room : List ℕ) (start end : ℕ) : Type 0 where
  pub ordered : start ≤ end
  pub within : end ≤ length room

-- if no octet came, the input has ended
abbrev pub Ends : Option (List ℕ) → Moved → Type 0
Ends remaining (Octets n) = n ≡ 0 → IsAtEnd remaining
Ends remaining Waits = Unit {0}

-- the stream has failed if the fault says so, and is as before if it was not called
abbrev pub CountsFailure : Result Moved ReadFault → Bool → Bool → Type 0
CountsFailure (Ok moved) failed failed' = failed' ≡ failed
CountsFailure (Err fault.Failed) failed failed' = failed' ≡ true
CountsFailure (Err fault.NoMemory) failed failed' = failed' ≡ failed

-- what a read of a slot brought is not fed yet; if it brought nothing, nothing is left
abbrev pub Brings : Brought → List ℕ → Type 0
Brings (brought.Octets n) unfed = (length unfed ≡ n) × (n ≢ 0)
Brings brought.End unfed = length unfed ≡ 0
Brings brought.Waits unfed = length unfed ≡ 0
Brings brought.Held unfed = Unit {0}
Brings brought.NoRoom unfed = length unfed ≡ 0
Brings brought.Later unfed = ⊥
