-- Which octets are a frame (part 2, 2.3.1 and 2.3.2), and what octets in a frame's place show.
use Rattle.std.specs.Prelude.{ℕ, ◌≡◌, ◌≢◌, ◌+◌, ◌*◌, ◌^◌, ◌<◌, ◌≤◌, Bool, true, false, IsTrue, Option, Some, None, List, [], ◌∷◌, ◌++◌, length, take, ◌⊎◌}
use Rattle.std.specs.Int.{w16, w32, to_be_bytes, from_be_bytes}
use Rattle.std.specs.List.{slice_index_or}
use Rattle.amqp_frames.specs.declared.fault.FrameFault.{FrameFault}
use Rattle.amqp_frames.specs.declared.fault.FrameFault.TheVariants.{ShortSize, BadDoff, TooBig, BadKind, BadBody, NoMemory}
use Rattle.amqp_frames.specs.declared.frame.Frame.{Frame}
use Rattle.amqp_performatives.specs.declared.performative.Performative.{Performative}
use Rattle.amqp_performatives.specs.declared.performative.Performative.TheVariants.{Transfer}
use Rattle.amqp_performatives.specs.Spelling.{IsPerformative}

abbrev pub is_transfer : Performative → Bool
is_transfer (Transfer b) = true
is_transfer _ = false

-- only a transfer has a payload
abbrev pub MayFollow : List ℕ → Performative → Type 0
MayFollow payload p = IsTrue (is_transfer p) ⊎ (payload ≡ [])

-- what comes after a frame's header: nothing, or a performative and the payload
abbrev pub AreContents : Option Performative → List ℕ → List ℕ → Type 0
AreContents None payload x = (payload ≡ []) × (x ≡ [])
AreContents (Some p) payload x = (spelled : List ℕ) × IsPerformative p spelled × MayFollow payload p × (x ≡ spelled ++ payload)

-- size, data offset in words of four octets, type, channel; an extended header that is not read; the contents
pub record IsFrame (f : Frame) (x : List ℕ) : Type 0 where
  pub doff : ℕ
  pub extended : List ℕ
  pub contents : List ℕ
  pub size : length x < 2 ^ 32
  pub offset : 4 * doff ≡ 8 + length extended
  pub octet : doff < 256
  pub channel : f.channel < 2 ^ 16
  pub parts : x ≡ to_be_bytes w32 (length x) ++ (doff ∷ 0 ∷ []) ++ to_be_bytes w16 f.channel ++ extended ++ contents
  pub body : AreContents f.body f.payload contents

-- the size that the first four octets say
abbrev pub size_of : List ℕ → ℕ
size_of x = from_be_bytes w32 (take 4 x)

-- the data offset that the fifth octet says
abbrev pub doff_of : List ℕ → ℕ
doff_of x = slice_index_or x 4 0

-- the type that the sixth octet says
abbrev pub type_of : List ℕ → ℕ
type_of x = slice_index_or x 5 0

-- the header is there and shows no fault
pub record IsHeader (max : ℕ) (x : List ℕ) : Type 0 where
  pub whole : 8 ≤ length x
  pub some : 8 ≤ size_of x
  pub low : 2 ≤ doff_of x
  pub high : 4 * doff_of x ≤ size_of x
  pub small : size_of x ≤ max
  pub kind : type_of x ≡ 0

-- The octets show the fault, as the first of its order: the size once four octets are there, the rest of the header
-- once eight are, the body once the frame is whole. Octets never show an allocation failure.
abbrev pub Shows : FrameFault → ℕ → List ℕ → Type 0
Shows ShortSize max x = (4 ≤ length x) × (size_of x < 8)
Shows BadDoff max x = (8 ≤ length x) × (8 ≤ size_of x) × ((doff_of x < 2) ⊎ (size_of x < 4 * doff_of x))
Shows TooBig max x = (8 ≤ length x) × (8 ≤ size_of x) × (2 ≤ doff_of x) × (4 * doff_of x ≤ size_of x) × (max < size_of x)
Shows BadKind max x = (8 ≤ length x) × (8 ≤ size_of x) × (2 ≤ doff_of x) × (4 * doff_of x ≤ size_of x) × (size_of x ≤ max) × (type_of x ≢ 0)
Shows BadBody max x = IsHeader max x × (size_of x ≤ length x) × ((f : Frame) → IsFrame f (take (size_of x) x) → ⊥)
Shows NoMemory max x = ⊥

-- the octets begin a frame and show no fault: they are fewer than its size, or too few to say the size
abbrev pub IsUnfinished : ℕ → List ℕ → Type 0
IsUnfinished max x = (length x < 4) ⊎ (((4 ≤ length x) × (length x < 8) × (8 ≤ size_of x)) ⊎ (IsHeader max x × (length x < size_of x)))

-- the octets are these frames, each of at most max octets, one after the other, and then the rest
abbrev pub AreFrames : ℕ → List ℕ → List Frame → List ℕ → Type 0
AreFrames max x [] rest = x ≡ rest
AreFrames max x (f ∷ fs) rest = (front back : List ℕ) × IsFrame f front × (length front ≤ max) × (x ≡ front ++ back) × AreFrames max back fs rest
