-- What the octets that an end puts out say to the other end.
use Rattle.std.specs.Prelude.{ℕ, ◌≡◌, Bool, max, None, List, [], ◌∷◌, ◌++◌, filter, is_some, map}
use Rattle.std.specs.List.{concat}
use Rattle.std.specs.Option.{option_to_list}
use Rattle.amqp_frames.specs.declared.frame.Frame.{Frame}
use Rattle.amqp_frames.specs.Framing.{AreFrames}
use Rattle.amqp_rules.specs.Opened.{no_reply}
use Rattle.amqp_laws.specs.declared.entry.Entry.{Entry}
use Rattle.amqp_laws.specs.declared.entry.Step.TheVariants.{Opened}
use Rattle.amqp_laws.specs.Past.{past}
use Rattle.amqp_laws.specs.Said.{max_told}
use Rattle.amqp_journal.specs.Log.{Log}
use Rattle.amqp_journal.specs.Units.{units}
use Rattle.amqp_pair_laws.specs.World.{hears}

-- the frames that were sent, the oldest first
abbrev pub frames_sent : List Entry → List Frame
frames_sent [] = []
frames_sent (e ∷ journal) = map (λ s. s.frame) e.reply.sent ++ frames_sent journal

-- the frames that were heard, the oldest first
abbrev pub frames_heard : List Entry → List Frame
frames_heard [] = []
frames_heard (e ∷ journal) = option_to_list (hears e) ++ frames_heard journal

-- a frame without a body only keeps a connection alive (part 2, 2.4.5)
abbrev pub has_body : Frame → Bool
has_body f = is_some f.body

-- the entry opens a journal, or no entry before it does and only the first of those does
abbrev pub OpensFirst : ℕ → Entry → List Entry → Type 0
OpensFirst told e [] = e ≡ record { step = Opened told; reply = no_reply }
OpensFirst told e (e' ∷ before) = (max_told e ≡ None) × OpensFirst told e' before

-- a journal, read backwards, begins with the peer's open, which states this length of frames, and has no other open
abbrev pub OpensOnce : ℕ → List Entry → Type 0
OpensOnce told [] = ⊥
OpensOnce told (e ∷ before) = OpensFirst told e before

-- what mine hears is what the octets of theirs say
pub record HearsTheOctets (mine theirs : Log) : Type 0 where
  -- the longest frame that mine takes: theirs was told at first, and once
  pub told : ℕ
  pub opens : OpensOnce told (past theirs.journal)
  -- the octets of all its units are just the frames that it sent, none longer than that (each peer takes 512 octets)
  pub framed : AreFrames (max 512 told) (concat (units theirs)) (frames_sent theirs.journal) []
  -- and what mine heard are the first of these that have a body
  pub rest : List Frame
  pub heard : filter has_body (frames_sent theirs.journal) ≡ frames_heard mine.journal ++ rest
