-- The numbers by which programs report faults and refusals: the order in which they are tested.
use Rattle.std.specs.Prelude.{ℕ}
use Rattle.amqp_frames.specs.declared.fault.FrameFault.{FrameFault}
use Rattle.amqp_frames.specs.declared.fault.FrameFault.TheVariants.{ShortSize, BadDoff, TooBig, BadKind, BadBody, NoMemory}
use Rattle.amqp_frames.specs.declared.fault.FrameRefusal.{FrameRefusal}
use Rattle.amqp_frames.specs.declared.fault.FrameRefusal.TheVariants as refusal

abbrev pub fault_number : FrameFault → ℕ
fault_number ShortSize = 1
fault_number BadDoff = 2
fault_number TooBig = 3
fault_number BadKind = 4
fault_number BadBody = 5
fault_number NoMemory = 6

abbrev pub refusal_number : FrameRefusal → ℕ
refusal_number refusal.NotWritable = 1
refusal_number refusal.FrameTooBig = 2
refusal_number refusal.NoMemory = 3
