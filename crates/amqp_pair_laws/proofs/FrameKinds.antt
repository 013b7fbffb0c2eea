-- Kinds of frames, to show that each is taken.
use Rattle.std.specs.Prelude.{ℕ, Option, Some, List, IsOk}
use Rattle.amqp_frames.specs.declared.frame.Frame.{Frame}
use Rattle.amqp_performatives.specs.declared.performative.Performative.{Performative}
use Rattle.amqp_performatives.specs.declared.performative.Performative.TheVariants as heard
use Rattle.amqp_rules.specs.declared.config.Config.{Config}
use Rattle.amqp_rules.specs.Answer.{heard_answer}
use Rattle.amqp_laws.specs.declared.entry.Entry.{Entry}
use Rattle.amqp_laws.specs.At.{at}
use Rattle.amqp_pair_laws.specs.World.{World}
use Rattle.amqp_pair_laws.specs.Taken.{IsNext}

-- in every world the next frame is no violation, where its body is of this kind
abbrev pub AreTaken : (Option Performative → Type 0) → Type 0
AreTaken Kind = (ca cb : Config) (n : ℕ) (a b : List Entry) (f : Frame) → World ca cb n a b → IsNext f a b → Kind f.body → IsOk (heard_answer (at cb b) f)

abbrev pub IsBegin : Option Performative → Type 0
IsBegin (Some (heard.Begin b)) = Unit {0}
IsBegin _ = ⊥

abbrev pub IsEnd : Option Performative → Type 0
IsEnd (Some (heard.End b)) = Unit {0}
IsEnd _ = ⊥

abbrev pub IsDisposition : Option Performative → Type 0
IsDisposition (Some (heard.Disposition b)) = Unit {0}
IsDisposition _ = ⊥

abbrev pub IsFlow : Option Performative → Type 0
IsFlow (Some (heard.Flow b)) = Unit {0}
IsFlow _ = ⊥

abbrev pub IsAttach : Option Performative → Type 0
IsAttach (Some (heard.Attach b)) = Unit {0}
IsAttach _ = ⊥

abbrev pub IsDetach : Option Performative → Type 0
IsDetach (Some (heard.Detach b)) = Unit {0}
IsDetach _ = ⊥

abbrev pub IsTransfer : Option Performative → Type 0
IsTransfer (Some (heard.Transfer b)) = Unit {0}
IsTransfer _ = ⊥
