-- Fields that are written one after the other into a small buffer: each is its octets, or none if it is absent.
use Rattle.std.specs.Prelude.{ℕ, Bool, true, false, if◌then◌else◌, nat_eq, nat_lt, ◌≡◌, ◌≤◌, Option, Some, None, Result, Ok, Err, List, [], ◌∷◌, ◌++◌, length, take}
use Rattle.std.specs.Int.{to_be_bytes, w32}
use Rattle.amqp_types.specs.Datum.{depth_of}
use Rattle.amqp_types.specs.Canon.{part_form}
use Rattle.amqp_performatives.specs.Part.{Part, Fields, absent, value, composite, no_field, field, canonical}
use Rattle.amqp_performatives.specs.declared.state.DeliveryState.{DeliveryState}
use Rattle.amqp_performatives.specs.declared.state.DeliveryState.TheVariants as state
use Rattle.amqp_frames.specs.declared.append.PlainState.{PlainState}
use Rattle.amqp_frames.specs.declared.append.PlainState.TheVariants as bare
use Rattle.amqp_frames.specs.declared.fault.FrameRefusal.{FrameRefusal}
use Rattle.amqp_frames.specs.declared.fault.FrameRefusal.TheVariants as refusal

-- an absent field is null
abbrev pub full : List (Option (List ℕ)) → List ℕ
full [] = []
full (Some x ∷ os) = x ++ full os
full (None ∷ os) = 0x40 ∷ full os

abbrev pub before_others : List (Option (List ℕ)) → List (Option (List ℕ))
before_others [] = []
before_others (o ∷ os) = None ∷ o ∷ os

-- the fields up to the last that is present
abbrev pub trim : List (Option (List ℕ)) → List (Option (List ℕ))
trim [] = []
trim (Some x ∷ os) = Some x ∷ trim os
trim (None ∷ os) = before_others (trim os)

-- behind the front, all fields so far are written up to `at`, and those up to the last present one up to `end`
pub record Holds (front head : List ℕ) (at end count : ℕ) (os : List (Option (List ℕ))) : Type 0 where
  pub low : 14 ≤ end
  pub order : end ≤ at
  pub inside : at ≤ length head
  pub all : take at head ≡ front ++ full os
  pub shown : take end head ≡ front ++ full (trim os)
  pub counted : count ≡ length (trim os)

abbrev pub uint_octets : ℕ → List ℕ
uint_octets n = if nat_eq n 0 then 0x43 ∷ [] else if nat_lt n 256 then 0x52 ∷ n ∷ [] else 0x70 ∷ to_be_bytes w32 n

abbrev pub boolean_octets : Bool → List ℕ
boolean_octets b = (if b then 0x41 else 0x42) ∷ []

abbrev pub ubyte_octets : ℕ → List ℕ
ubyte_octets n = 0x50 ∷ n ∷ []

abbrev pub binary_octets : List ℕ → List ℕ
binary_octets os = 0xa0 ∷ length os ∷ os

-- a state without fields: a described list of none
abbrev pub bare_octets : PlainState → Option (List ℕ)
bare_octets bare.Absent = None
bare_octets bare.Accepted = Some (0x00 ∷ 0x53 ∷ 0x24 ∷ 0x45 ∷ [])
bare_octets bare.Released = Some (0x00 ∷ 0x53 ∷ 0x26 ∷ 0x45 ∷ [])

abbrev pub state_of : PlainState → Option DeliveryState
state_of bare.Absent = None
state_of bare.Accepted = Some state.Accepted
state_of bare.Released = Some state.Released

-- the octets are the field's canonical encoding
abbrev pub IsShown : Part → Option (List ℕ) → Type 0
IsShown absent None = Unit {0}
IsShown absent (Some x) = ⊥
IsShown (value d) None = ⊥
IsShown (value d) (Some x) = (part_form None d ≡ Some x) × (depth_of d ≤ 3)
IsShown (composite type fs) None = ⊥
IsShown (composite type fs) (Some x) = (part_form None (canonical (composite type fs)) ≡ Some x) × (depth_of (canonical (composite type fs)) ≤ 3)

abbrev pub AreShown : Fields → List (Option (List ℕ)) → Type 0
AreShown no_field [] = Unit {0}
AreShown no_field (o ∷ os) = ⊥
AreShown (field p fs) [] = ⊥
AreShown (field p fs) (o ∷ os) = IsShown p o × AreShown fs os

-- On success the octets of the answer are appended to the old ones. On an error the old ones are unchanged.
abbrev pub Appended : Result (Unit {0}) FrameRefusal → Result (List ℕ) FrameRefusal → List ℕ → List ℕ → Type 0
Appended (Ok u) answer old new = (x : List ℕ) × (answer ≡ Ok x) × (new ≡ old ++ x)
Appended (Err refusal.NoMemory) (Ok x) old new = new ≡ old
Appended (Err e) answer old new = (answer ≡ Err e) × (new ≡ old)

-- `Appended` if the payload stays apart: the octets and then the payload are the old ones and then the answer.
abbrev pub AppendedHead : List ℕ → Result (Unit {0}) FrameRefusal → Result (List ℕ) FrameRefusal → List ℕ → List ℕ → Type 0
AppendedHead payload (Ok u) answer old new = (x : List ℕ) × (answer ≡ Ok x) × (new ++ payload ≡ old ++ x)
AppendedHead payload (Err e) answer old new = Appended (Err e) answer old new

-- `AppendedHead` if the payload stays apart, and otherwise `Appended`.
abbrev pub AppendedSo : Bool → List ℕ → Result (Unit {0}) FrameRefusal → Result (List ℕ) FrameRefusal → List ℕ → List ℕ → Type 0
AppendedSo true payload = AppendedHead payload
AppendedSo false payload = Appended
