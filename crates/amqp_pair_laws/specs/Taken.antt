-- Frames that the other end takes: the next one on its way is no violation there.
use Rattle.std.specs.Prelude.{ℕ, ◌≡◌, Some, List, IsOk}
use Rattle.amqp_frames.specs.declared.frame.Frame.{Frame}
use Rattle.amqp_rules.specs.declared.config.Config.{Config}
use Rattle.amqp_rules.specs.Answer.{heard_answer}
use Rattle.amqp_laws.specs.declared.entry.Entry.{Entry}
use Rattle.amqp_laws.specs.At.{at}
use Rattle.amqp_pair_laws.specs.Moves.{count, said_as}
use Rattle.amqp_pair_laws.specs.World.{World, hears, sends}

-- the first frame of a's that b has not heard
abbrev pub IsNext : Frame → List Entry → List Entry → Type 0
IsNext f a b = said_as sends (count hears b) a ≡ Some f

-- in every world the next frame is no violation
abbrev pub NextIsTaken : Type 0
NextIsTaken = (ca cb : Config) (n : ℕ) (a b : List Entry) (f : Frame) → World ca cb n a b → IsNext f a b → IsOk (heard_answer (at cb b) f)
