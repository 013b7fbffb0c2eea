-- A framer over a whole piece: the frames that become whole in it, and what it keeps of the next one.
use Rattle.std.specs.Prelude.{ℕ, ◌≡◌, ◌≤◌, ◌<◌, ◌⊎◌, List, [], ◌++◌, length, drop, Result, Ok, Err}
use Rattle.amqp_frames.specs.declared.fault.FrameFault.{FrameFault}
use Rattle.amqp_frames.specs.declared.frame.Frame.{Frame}
use Rattle.amqp_frames.specs.declared.stream.Stopped.{Stopped}
use Rattle.amqp_frames.specs.Framing.{IsUnfinished, AreFrames}
use Rattle.amqp_frames.specs.Framer.{FramerState, Faulty}

-- `used` octets of the piece were taken, and the frames `given` appended to those before: what was kept and the piece
-- are those frames, then what is kept now, then the rest of the piece.
pub record Takes (old : FramerState) (piece : List ℕ) (before : List Frame) (used : ℕ) (new : FramerState) (after : List Frame) : Type 0 where
  pub given : List Frame
  pub put : after ≡ before ++ given
  pub frames : AreFrames old.max_size (old.kept ++ piece) given (new.kept ++ drop used piece)
  pub within : used ≤ length piece
  pub max : new.max_size ≡ old.max_size

-- one feed: it ends with a frame, or with the piece
abbrev pub FeedsInto : FramerState → List ℕ → List Frame → Result ℕ FrameFault → FramerState → List Frame → Type 0
FeedsInto old piece before (Ok used) new after = Takes old piece before used new after × IsUnfinished old.max_size new.kept × ((new.kept ≡ []) ⊎ (used ≡ length piece))
FeedsInto old piece before (Err fault) new after = Faulty fault old.max_size old.kept piece × (after ≡ before) × (new.kept ≡ old.kept) × (new.max_size ≡ old.max_size)

-- nothing was taken, or all up to the end of a frame
abbrev pub EndsAFrame : FramerState → ℕ → FramerState → Type 0
EndsAFrame old used new = ((used ≡ 0) × (new.kept ≡ old.kept)) ⊎ (new.kept ≡ [])

-- feeding all: the whole piece is taken and what is kept is no whole frame, or the piece is taken up to a frame, and
-- what is kept and what is left show a fault
abbrev pub FeedsAll : FramerState → List ℕ → List Frame → Result (Unit {0}) Stopped → FramerState → List Frame → Type 0
FeedsAll old piece before (Ok done) new after = Takes old piece before (length piece) new after × IsUnfinished old.max_size new.kept
FeedsAll old piece before (Err stopped) new after =
    Takes old piece before stopped.used new after
    × EndsAFrame old stopped.used new
    × (stopped.used < length piece)
    × Faulty stopped.fault old.max_size new.kept (drop stopped.used piece)
