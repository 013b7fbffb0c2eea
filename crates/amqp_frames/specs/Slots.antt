-- A slot that a frame is left in.
use Rattle.std.specs.Prelude.{ℕ, Bool, false, Option, Some, None, Result, Ok, Err, List}
use Rattle.amqp_performatives.specs.declared.performative.Performative.{Performative}
use Rattle.amqp_frames.specs.declared.fault.FrameFault.{FrameFault}
use Rattle.amqp_frames.specs.declared.frame.Frame.{Frame}
use Rattle.amqp_frames.specs.declared.filled.Filled.{Filled}
use Rattle.amqp_frames.specs.declared.filled.Filled.TheVariants.{Part, Whole}
use Rattle.amqp_frames.specs.Framing.{is_transfer}
use Rattle.amqp_frames.specs.Framer.{FramerState, FramerView, Feeds, Roomy}

abbrev pub holds_transfer : Option Performative → Bool
holds_transfer None = false
holds_transfer (Some p) = is_transfer p

-- how many octets a feed into a slot took
abbrev pub used_in : Filled → ℕ
used_in (Part used) = used
used_in (Whole used) = used

-- what a feed into a slot returns, with the frame if one is complete
abbrev pub told_with : Result Filled FrameFault → Frame → Result (ℕ × Option Frame) FrameFault
told_with (Ok (Part used)) slot = Ok (used, None)
told_with (Ok (Whole used)) slot = Ok (used, Some slot)
told_with (Err fault) slot = Err fault

-- What a feed returns and leaves: the slot holds the frame if one is complete.
abbrev pub FeedsSlot : FramerState → List ℕ → Result Filled FrameFault → Frame → FramerState → Type 0
FeedsSlot old piece result slot new = Feeds old piece (told_with result slot) new

-- the memory that the framer has after a feed into a slot
abbrev pub RoomySlot : FramerView → List ℕ → Result Filled FrameFault → Frame → FramerView → Type 0
RoomySlot old piece result slot new = Roomy old piece (told_with result slot) new
