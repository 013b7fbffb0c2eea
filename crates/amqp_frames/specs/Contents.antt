-- Why octets are not read as a frame's contents.
use Rattle.std.specs.Prelude.{ℕ, ◌≡◌, List, ◌++◌, Option}
use Rattle.amqp_frames.specs.declared.fault.FrameFault.{FrameFault}
use Rattle.amqp_frames.specs.declared.fault.FrameFault.TheVariants.{ShortSize, BadDoff, TooBig, BadKind, BadBody, NoMemory}
use Rattle.amqp_performatives.specs.declared.performative.Performative.{Performative}
use Rattle.amqp_frames.specs.Framing.{AreContents}
use Rattle.amqp_performatives.specs.Spelling.{IsPerformative}

abbrev pub BeginsWithPerformative : List ℕ → Type 0
BeginsWithPerformative x = (p : Performative) × (spelled rest : List ℕ) × IsPerformative p spelled × (x ≡ spelled ++ rest)

-- the octets are no contents; or they are, and memory was refused
abbrev pub AreNoContents : FrameFault → List ℕ → Type 0
AreNoContents ShortSize x = ⊥
AreNoContents BadDoff x = ⊥
AreNoContents TooBig x = ⊥
AreNoContents BadKind x = ⊥
AreNoContents BadBody x = (body : Option Performative) (payload : List ℕ) → AreContents body payload x → ⊥
AreNoContents NoMemory x = (body : Option Performative) × (payload : List ℕ) × AreContents body payload x
