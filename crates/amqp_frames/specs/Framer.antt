-- A framer: what it holds, and what a piece of octets makes of it.
use Rattle.std.specs.Prelude.{ℕ, ◌≡◌, ◌≤◌, ◌+◌, ◌*◌, ◌⊎◌, max, List, [], ◌∷◌, ◌++◌, length, take, Option, Some, None, Result, Ok, Err}
use Rattle.amqp_frames.specs.declared.fault.FrameFault.{FrameFault}
use Rattle.amqp_frames.specs.declared.fault.FrameFault.TheVariants.{ShortSize, BadDoff, TooBig, BadKind, BadBody, NoMemory}
use Rattle.amqp_frames.specs.declared.frame.Frame.{Frame}
use Rattle.amqp_frames.specs.Framing.{IsFrame, Shows, IsUnfinished, size_of}

-- the most octets that a frame may have, the kept octets of the next frame, and those that unread restores
pub record FramerState : Type 0 where
  pub max_size : ℕ
  pub kept : List ℕ
  pub before : Option (List ℕ)

-- a framer: what it holds, and how many bytes of memory it has
pub record FramerView : Type 0 where
  pub state : FramerState
  pub room : ℕ

-- the framer keeps these octets now, and unread restores what it kept
abbrev pub keeping : FramerState → List ℕ → FramerState
keeping old octets = record { max_size = old.max_size; kept = octets; before = Some old.kept }

-- Octets of an unfinished frame, and room for the whole frame once its header is there and its size is at most the 512
-- octets that each peer accepts (part 2, 2.8.19).
pub record HasRoom (max room : ℕ) (octets : List ℕ) : Type 0 where
  pub unfinished : IsUnfinished max octets
  pub sized : 8 ≤ length octets → size_of octets ≤ 512 → size_of octets ≤ room

-- what is kept and what unread restores are beginnings of frames
pub record IsSound (max room : ℕ) (kept : List ℕ) (before : Option (List ℕ)) : Type 0 where
  pub now : HasRoom max room kept
  pub then : (octets : List ℕ) → before ≡ Some octets → HasRoom max room octets

-- a front of the octets is a frame that is not too long
abbrev pub BeginsWithFrame : ℕ → List ℕ → Type 0
BeginsWithFrame max x = (f : Frame) × (front back : List ℕ) × IsFrame f front × (length front ≤ max) × (x ≡ front ++ back)

-- What a fault says of the kept octets and then those of the piece: they show it, or they show none and memory ran out.
abbrev pub Faulty : FrameFault → ℕ → List ℕ → List ℕ → Type 0
Faulty ShortSize max kept piece = Shows ShortSize max (kept ++ piece)
Faulty BadDoff max kept piece = Shows BadDoff max (kept ++ piece)
Faulty TooBig max kept piece = Shows TooBig max (kept ++ piece)
Faulty BadKind max kept piece = Shows BadKind max (kept ++ piece)
Faulty BadBody max kept piece = Shows BadBody max (kept ++ piece)
Faulty NoMemory max kept piece = BeginsWithFrame max (kept ++ piece) ⊎ IsUnfinished max (kept ++ piece)

-- what a feed of a piece returns and leaves: a frame and the number of octets taken, no frame, or a fault
abbrev pub Feeds : FramerState → List ℕ → Result (ℕ × Option Frame) FrameFault → FramerState → Type 0
Feeds old piece (Ok (used, Some f)) new =
    (used ≤ length piece)
    × IsFrame f (old.kept ++ take used piece)
    × (length (old.kept ++ take used piece) ≤ old.max_size)
    × (new ≡ keeping old [])
Feeds old piece (Ok (used, None)) new = (used ≡ length piece) × IsUnfinished old.max_size (old.kept ++ piece) × (new ≡ keeping old (old.kept ++ piece))
Feeds old piece (Err fault) new = Faulty fault old.max_size old.kept piece × (new ≡ old)

-- How many octets came of a frame, if some were kept and then a piece brought `count`. A frame that lies whole in a
-- piece needs no room.
abbrev pub joined : List ℕ → ℕ → ℕ
joined [] count = 0
joined (x ∷ kept) count = length (x ∷ kept) + count

-- How much memory a feed may request, whatever size the frame's header says. For an unfinished frame it is room for the
-- 512 octets that each peer accepts (part 2, 2.8.19) or for twice as many as came of it; otherwise for those that came.
abbrev pub asked : FramerState → List ℕ → Result (ℕ × Option Frame) FrameFault → ℕ
asked old piece (Ok (used, Some f)) = joined old.kept used
asked old piece (Ok (used, None)) = max 512 (2 * (length old.kept + used))
asked old piece (Err fault) = joined old.kept (length piece)

-- The framer has no more memory than before, or than the feed may request.
abbrev pub Roomy : FramerView → List ℕ → Result (ℕ × Option Frame) FrameFault → FramerView → Type 0
Roomy old piece result new = new.room ≤ max old.room (asked old.state piece result)
