-- What is told of a failure and of the end, one part of a turn behind the other.
use Rattle.std.proofs.Common.{◌≡◌, ℕ, List, Bool, Option, Some, None, Result, Ok, Err, refl, sym, subst}
use Rattle.std.specs.Prelude.{IfOk, IfErr}
use Rattle.std.specs.Io.KnownBytes.{IsAtEnd}
use Rattle.amqp_ready.specs.declared.device.Moved.{Moved}
use Rattle.amqp_ready.specs.declared.device.Moved.TheVariants.{Octets}
use Rattle.amqp_ready.specs.declared.inbox.ReadFault.{ReadFault}
use Rattle.amqp_ready.specs.declared.fault.SlotFault.{SlotFault}
use Rattle.amqp_ready.specs.declared.fault.SlotFault.TheVariants as fault
use Rattle.amqp_ready.specs.Failing.{EndsSo, IsOfFeeding, Stays, TellsFailure}
use Rattle.amqp_ready.specs.Reading.{Ends}
use Rattle.amqp_ready.specs.Serving.{fault_in}

pub fails-then : (why : Option SlotFault) (a b c : Bool) → TellsFailure None a b → TellsFailure why b c → TellsFailure why a c
fails-then why a b c e f = subst (λ (x : Bool). TellsFailure why x c) e f

pub fails-last : (e : SlotFault) (a b c : Bool) → TellsFailure (Some e) a b → Stays b c → TellsFailure (Some e) a c
fails-last (fault.Conn f) a b c t s = λ h. s (t h)
fails-last (fault.Refused f) a b c t s = λ h. s (t h)
fails-last fault.Read a b c t s = s t
fails-last fault.Write a b c t s = s t
fails-last fault.EndOfInput a b c t s = λ h. s (t h)
fails-last fault.TimedOut a b c t s = λ h. s (t h)

-- feeding asks nothing of the stream
pub fails-fed : (why : Option SlotFault) (a : Bool) → IsOfFeeding why → TellsFailure why a a
fails-fed None a i = refl
fails-fed (Some (fault.Conn e)) a i = λ h. h
fails-fed (Some (fault.Refused e)) a i = λ h. h
fails-fed (Some fault.Read) a i = absurd i
fails-fed (Some fault.Write) a i = absurd i
fails-fed (Some fault.EndOfInput) a i = absurd i
fails-fed (Some fault.TimedOut) a i = absurd i

-- nor does the end of the input
pub fails-end : {A : Type 0} (r : Result A SlotFault) (a : Bool) → IfErr r (λ e. e ≡ fault.EndOfInput) → TellsFailure (fault_in r) a a
fails-end (Ok x) a i = refl
fails-end (Err e) a i = subst (λ (f : SlotFault). TellsFailure (Some f) a a) (sym i) (λ h. h)

-- feeding tells no end
pub ends-fed : (why : Option SlotFault) (s : Option (List ℕ)) → IsOfFeeding why → EndsSo why s
ends-fed None s i = tt
ends-fed (Some (fault.Conn e)) s i = tt
ends-fed (Some (fault.Refused e)) s i = tt
ends-fed (Some fault.Read) s i = absurd i
ends-fed (Some fault.Write) s i = absurd i
ends-fed (Some fault.EndOfInput) s i = absurd i
ends-fed (Some fault.TimedOut) s i = absurd i

-- nor does a read that failed
pub ends-read : {A : Type 0} (r : Result A SlotFault) (s : Option (List ℕ)) → IfErr r (λ e. e ≡ fault.Read) → EndsSo (fault_in r) s
ends-read (Ok x) s i = tt
ends-read (Err e) s i = subst (λ (f : SlotFault). EndsSo (Some f) s) (sym i) tt

-- where the octets have ended, that may be told
pub ends-end : {A : Type 0} (r : Result A SlotFault) (s : Option (List ℕ)) → IfErr r (λ e. e ≡ fault.EndOfInput) → IsAtEnd s → EndsSo (fault_in r) s
ends-end (Ok x) s i h = tt
ends-end (Err e) s i h = subst (λ (f : SlotFault). EndsSo (Some f) s) (sym i) h

-- a read that brought none
pub ends-none : (r : Result Moved ReadFault) (s : Option (List ℕ)) → IfOk r (Ends s) → r ≡ Ok (Octets 0) → IsAtEnd s
ends-none r s h e = subst (λ (x : Result Moved ReadFault). IfOk x (Ends s)) e h refl
