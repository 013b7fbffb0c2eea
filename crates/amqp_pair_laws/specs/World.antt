-- Two sessions that speak with each other: each hears the frames that the other sent, in order.
use Rattle.std.specs.Prelude.{ℕ, ◌<◌, Option, None, Some, List, [], ◌∷◌, cond, is_some, length}
use Rattle.amqp_frames.specs.declared.frame.Frame.{Frame}
use Rattle.amqp_rules.specs.declared.config.Config.{Config}
use Rattle.amqp_rules.specs.declared.reply.Sent.{Sent}
use Rattle.amqp_rules.specs.Limits.{IsWithinLimits}
use Rattle.amqp_laws.specs.declared.entry.Entry.{Entry}
use Rattle.amqp_laws.specs.declared.entry.Step.{Step}
use Rattle.amqp_laws.specs.declared.entry.Step.TheVariants.{Heard}
use Rattle.amqp_laws.specs.At.{at}
use Rattle.amqp_laws.specs.Lawful.{Answers}
use Rattle.amqp_pair_laws.specs.Moves as moves
use Rattle.amqp_pair_laws.specs.Premise.{IsPlain, KeepsToHeard}

-- the frame with a body among those sent: a reply sends one at most; a frame without a body says nothing (part 2, 2.4.5)
abbrev pub frame_among : List Sent → Option Frame
frame_among [] = None
frame_among (s ∷ sent) = cond (is_some s.frame.body) (Some s.frame) (frame_among sent)

abbrev pub sends : Entry → Option Frame
sends e = frame_among e.reply.sent

abbrev pub frame_in : Step → Option Frame
frame_in (Heard f) = Some f
frame_in _ = None

abbrev pub hears : Entry → Option Frame
hears e = frame_in e.step

-- an entry that is accepted after those before it
pub record IsFair (c : Config) (e : Entry) (before : List Entry) : Type 0 where
  pub limits : IsWithinLimits c
  -- short of the journal limit
  pub room : length before < c.journal_limit
  -- with the reply that is due, so neither refused nor a violation
  pub answers : Answers (at c before) e.step e.reply
  -- the application disposes what it heard
  pub told : KeepsToHeard e.step before
  -- and brings nothing in
  pub plain : IsPlain e.step

-- a and b are reached by n moves: an operation of an end, or the hearing of the other's next frame
abbrev pub World : Config → Config → ℕ → List Entry → List Entry → Type 0
World = moves.World sends hears IsFair

abbrev pub Moves : Config → Entry → List Entry → List Entry → Type 0
Moves = moves.Moves sends hears IsFair

-- b has heard all that a sent
abbrev pub Tight : Config → Config → ℕ → List Entry → List Entry → Type 0
Tight = moves.Tight sends hears IsFair
