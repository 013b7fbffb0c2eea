-- Promises of the functions that treat a frame.
use Rattle.std.specs.Prelude.{ℕ, ◌≡◌, ◌≢◌, ◌⊎◌, take, true, false, Option, Some, None, Result, Ok, Err, List, [], IfSome, IsSome}
use Rattle.amqp_frames.specs.declared.fault.FrameFault.{FrameFault}
use Rattle.amqp_frames.specs.declared.fault.FrameFault.TheVariants.{ShortSize, BadDoff, TooBig, BadKind, BadBody, NoMemory}
use Rattle.amqp_frames.specs.declared.frame.Frame.{Frame}
use Rattle.amqp_frames.specs.Framer.{FramerState}
use Rattle.amqp_rules.specs.declared.reply.Given.TheVariants.{Nothing}
use Rattle.amqp_rules.specs.declared.violation.Violation.{Violation}
use Rattle.amqp_conn.specs.declared.fault.ConnFault.{ConnFault}
use Rattle.amqp_conn.specs.declared.fault.ConnFault.TheVariants as fault
use Rattle.amqp_conn.specs.declared.fed.Fed.{Fed}
use Rattle.amqp_conn.specs.declared.phase.Phase.TheVariants as phase
use Rattle.amqp_conn.specs.Connection.{Core, in_phase}
use Rattle.amqp_conn.specs.Octets.{header, last_words}
use Rattle.amqp_conn.specs.Treating.{Treatment, taken, again, ended, treat, greeted, hearing, ending}
use Rattle.amqp_rules.specs.Refusing.{no_memory}
use Rattle.amqp_journal.specs.Log.{IsRefusal, heard_due}
use Rattle.amqp_conn.specs.Feeding.{AddsEntry, Answers}

-- the frame is treated so; it was taken with so many octets, or answered, or the connection ended, or memory ran out
abbrev pub TreatsBy : Treatment → Core → Frame → ℕ → Fed → Option Violation → Core → Type 0
TreatsBy t old f used fed None new = (t ≡ taken new) × (fed.used ≡ used) × AddsEntry old.log.journal new.log.journal fed.stepped fed.given
TreatsBy t old f used fed (Some v) new = (t ≡ again new) × (fed.used ≡ 0) × (fed.stepped ≡ true) × Answers old f v fed.given new

abbrev pub TreatsAs : Treatment → Core → Frame → ℕ → Result Fed ConnFault → Core → Type 0
TreatsAs t old f used (Ok fed) new = TreatsBy t old f used fed fed.violation new
TreatsAs t old f used (Err fault.NoMemory) new = new ≡ old
TreatsAs t old f used (Err e) new = (t ≡ ended e) × (new ≡ ending e old)

abbrev pub Treats : Core → Frame → ℕ → Result Fed ConnFault → Core → Type 0
Treats old f used result new = TreatsAs (treat old f) old f used result new

-- any frame with this violation is treated so
abbrev pub IsMet : Violation → Core → Result Fed ConnFault → Core → Type 0
IsMet v old result new = (f : Frame) → (used : ℕ) → IsRefusal no_memory (heard_due old.log f) v → TreatsAs (hearing old f (heard_due old.log f)) old f used result new

-- the connection ended with this fault; or memory for its last close ran out, and nothing changed
abbrev pub EndsWith : ConnFault → Core → ConnFault → Core → Type 0
EndsWith e old told new = ((told ≡ e) × (new ≡ ending e old)) ⊎ ((told ≡ fault.NoMemory) × IsSome (last_words old.phase e) × (new ≡ old))

-- the framer is as before its last feed
abbrev pub Undone : FramerState → FramerState → Type 0
Undone old new = IfSome old.before (λ octets. new ≡ record { max_size = old.max_size; kept = octets; before = None })

abbrev pub PutsBackBy : Option Violation → FramerState → FramerState → Type 0
PutsBackBy None old new = new ≡ old
PutsBackBy (Some v) old new = Undone old new

-- a frame that was not taken goes back
abbrev pub PutsBack : Result Fed ConnFault → FramerState → FramerState → Type 0
PutsBack (Ok fed) old new = PutsBackBy fed.violation old new
PutsBack (Err fault.NoMemory) old new = Undone old new
PutsBack (Err e) old new = new ≡ old

-- the connection ended with this fault, and nothing is kept; or memory for its last close ran out, and nothing changed
abbrev pub EndsAll : ConnFault → Core → FramerState → ConnFault → Core → FramerState → Type 0
EndsAll e old f told new g =
    ((told ≡ e) × (new ≡ ending e old) × (g ≡ record { max_size = f.max_size; kept = []; before = None })) ⊎ ((told ≡ fault.NoMemory) × IsSome (last_words old.phase e) × (new ≡ old) × (g ≡ f))

-- the connection ended with a fault of the framer
abbrev pub EndsFor : FrameFault → Core → FramerState → ConnFault → Core → FramerState → Type 0
EndsFor ShortSize old f told new g = EndsAll (fault.Framing ShortSize) old f told new g
EndsFor BadDoff old f told new g = EndsAll (fault.Framing BadDoff) old f told new g
EndsFor TooBig old f told new g = EndsAll (fault.Framing TooBig) old f told new g
EndsFor BadKind old f told new g = EndsAll (fault.Framing BadKind) old f told new g
EndsFor BadBody old f told new g = EndsAll (fault.Framing BadBody) old f told new g
EndsFor NoMemory old f told new g = (told ≡ fault.NoMemory) × (new ≡ old) × (g ≡ f)

-- Eight octets were read: they are the header, and our open is queued; or they are not, and the connection has ended;
-- or memory ran out, and the octets that came last are removed again.
abbrev pub ReadsHeader : Core → List ℕ → ℕ → ℕ → Result Fed ConnFault → Core → List ℕ → Type 0
ReadsHeader old octets count used (Ok fed) new kept =
    (octets ≡ header) × (new ≡ greeted old) × (kept ≡ octets) × (fed ≡ record { used = used; stepped = false; given = Nothing; violation = None })
ReadsHeader old octets count used (Err fault.BadHeader) new kept = (octets ≢ header) × (new ≡ in_phase phase.Closed old) × (kept ≡ octets)
ReadsHeader old octets count used (Err fault.NoMemory) new kept = (octets ≡ header) × (new ≡ old) × (kept ≡ take count octets)
ReadsHeader old octets count used (Err e) new kept = ⊥

-- what the framer's answer does to the connection's parts
abbrev pub Acts : Result (ℕ × Option Frame) FrameFault → Core → FramerState → Result Fed ConnFault → Core → FramerState → Type 0
Acts (Err e) old f result new g = (told : ConnFault) × (result ≡ Err told) × EndsFor e old f told new g
Acts (Ok (used, None)) old f result new g = (result ≡ Ok (record { used = used; stepped = false; given = Nothing; violation = None })) × (new ≡ old) × (g ≡ f)
Acts (Ok (used, Some frame)) old f result new g = Treats old frame used result new × PutsBack result f g
