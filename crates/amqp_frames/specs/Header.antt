-- A frame's header (part 2, 2.3.1), as its numbers.
use Rattle.std.specs.Prelude.{ℕ, ◌≡◌, ◌*◌, ◌^◌, ◌<◌, ◌≤◌, List, [], ◌∷◌, ◌++◌, length, ◌⊎◌}
use Rattle.std.specs.Int.{w16, w32, to_be_bytes}
use Rattle.amqp_frames.specs.declared.fault.FrameFault.{FrameFault}
use Rattle.amqp_frames.specs.declared.fault.FrameFault.TheVariants.{ShortSize, BadDoff, TooBig, BadKind, BadBody, NoMemory}
use Rattle.amqp_frames.specs.declared.header.Header.{Header}
use Rattle.amqp_frames.specs.Framing.{Shows, size_of}

-- size, data offset, type 0, channel
abbrev pub header_octets : Header → List ℕ
header_octets h = to_be_bytes w32 h.size ++ (h.doff ∷ 0 ∷ []) ++ to_be_bytes w16 h.channel

-- the octets begin with a header that shows no fault
pub record BeginsWith (h : Header) (max : ℕ) (x : List ℕ) : Type 0 where
  pub size_fits : h.size < 2 ^ 32
  pub octet : h.doff < 256
  pub channel : h.channel < 2 ^ 16
  pub low : 2 ≤ h.doff
  pub high : 4 * h.doff ≤ h.size
  pub small : h.size ≤ max
  pub rest : List ℕ
  pub parts : x ≡ header_octets h ++ rest

-- fewer octets than a header has, and no fault is shown
abbrev pub IsHeaderPart : List ℕ → Type 0
IsHeaderPart x = (length x < 4) ⊎ ((4 ≤ length x) × (length x < 8) × (8 ≤ size_of x))

-- the octets show a fault of the header
abbrev pub IsHeaderFault : FrameFault → ℕ → List ℕ → Type 0
IsHeaderFault ShortSize max x = Shows ShortSize max x
IsHeaderFault BadDoff max x = Shows BadDoff max x
IsHeaderFault TooBig max x = Shows TooBig max x
IsHeaderFault BadKind max x = Shows BadKind max x
IsHeaderFault BadBody max x = ⊥
IsHeaderFault NoMemory max x = ⊥
