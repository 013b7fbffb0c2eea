-- What calls of a stream that never waits do.
use Rattle.std.specs.Prelude.{ℕ, ◌≡◌, ◌<◌, ◌+◌, ◌++◌, List, [], length, take, Option, Result, Ok, Err}
use Rattle.std.specs.Io.KnownBytes.{Consumes, Appends, IsAtEnd, Keeps}
use Rattle.amqp_ready.specs.declared.device.Moved.{Moved}
use Rattle.amqp_ready.specs.declared.device.Moved.TheVariants.{Octets, Waits}

-- how many octets were moved
abbrev pub count : Moved → ℕ
count (Octets n) = n
count Waits = 0

-- this many of the remaining octets came to the front of the buffer: none only at their end, or if the buffer has no
-- room
abbrev pub Gives : Option (List ℕ) → Option (List ℕ) → Moved → List ℕ → Type 0
Gives old new (Octets n) buffer = Consumes old new (take n buffer) × (n ≡ 0 → 0 < length buffer → IsAtEnd new)
Gives old new Waits buffer = Keeps old new

abbrev pub Reads : {E : Type 0} → Option (List ℕ) → Option (List ℕ) → Result Moved E → List ℕ → Type 0
Reads old new (Ok moved) buffer = Gives old new moved buffer
Reads old new (Err e) buffer = Keeps old new

-- this many of the octets came behind those that were written
abbrev pub Takes : Option (List ℕ) → Option (List ℕ) → Moved → List ℕ → Type 0
Takes old new (Octets n) octets = Appends old new (take n octets)
Takes old new Waits octets = Keeps old new

abbrev pub Writes : {E : Type 0} → Option (List ℕ) → Option (List ℕ) → Result Moved E → List ℕ → Type 0
Writes old new (Ok moved) octets = Takes old new moved octets
Writes old new (Err e) octets = Keeps old new

-- none were moved only if there are none
abbrev pub MovesSome : List ℕ → Moved → Type 0
MovesSome octets (Octets n) = n ≡ 0 → octets ≡ []
MovesSome octets Waits = Unit {0}

-- A front of what was left came behind what was written, and the rest is left: nothing twice, nothing skipped.
pub record PassesOn (written written' : Option (List ℕ)) (left left' : List ℕ) : Type 0 where
  pub front : List ℕ
  pub split : left ≡ front ++ left'
  pub appends : Appends written written' front

-- one call took this many of what was left, at least one if there are any; or the stream would wait
abbrev pub Sends : List ℕ → List ℕ → Moved → Type 0
Sends left left' (Octets n) = (n ≡ 0 → left ≡ []) × (length left' + n ≡ length left)
Sends left left' Waits = left' ≡ left
