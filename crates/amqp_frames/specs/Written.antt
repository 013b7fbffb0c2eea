-- The octets of a written frame, and the refusal if there are none (part 2, 2.3).
use Rattle.std.specs.Prelude.{ℕ, ◌≡◌, ◌+◌, ◌^◌, ◌<◌, ◌&&◌, nat_lt, nat_le, Bool, true, Option, Some, None, Result, Ok, Err, List, [], ◌∷◌, ◌++◌, length, if◌then◌else◌}
use Rattle.std.specs.Int.{w16, w32, to_be_bytes}
use Rattle.amqp_types.specs.Canon.{canon}
use Rattle.amqp_types.specs.Reading.{◌>>=◌}
use Rattle.amqp_frames.specs.declared.fault.FrameRefusal.{FrameRefusal}
use Rattle.amqp_frames.specs.declared.fault.FrameRefusal.TheVariants as refusal
use Rattle.amqp_frames.specs.declared.frame.Frame.{Frame}
use Rattle.amqp_performatives.specs.declared.performative.Performative.{Performative}
use Rattle.amqp_performatives.specs.Part.{canonical}
use Rattle.amqp_performatives.specs.Bodies.{part_of}
use Rattle.amqp_performatives.specs.Fair.{is_fair}
use Rattle.amqp_frames.specs.Framing.{is_transfer, IsFrame}

-- only a transfer has a payload
abbrev pub may_follow : List ℕ → Performative → Bool
may_follow [] p = true
may_follow (o ∷ os) p = is_transfer p

-- what follows a frame header: nothing, or the canonical encoding of a performative that can be read again, and the
-- payload
abbrev pub contents_octets : Option Performative → List ℕ → Option (List ℕ)
contents_octets None [] = Some []
contents_octets None (o ∷ os) = None
contents_octets (Some p) payload = if is_fair p && may_follow payload p then canon (canonical (part_of p)) >>= (λ x. Some (x ++ payload)) else None

-- the size of the whole, two words of four octets up to the contents, type 0, the channel
abbrev pub framed : ℕ → List ℕ → Option (List ℕ)
framed channel contents =
    if nat_lt (8 + length contents) (2 ^ 32) then
    Some (to_be_bytes w32 (8 + length contents) ++ (2 ∷ 0 ∷ []) ++ to_be_bytes w16 channel ++ contents)
    else None

-- the octets of the frame, if it can be written
abbrev pub frame_octets : Frame → Option (List ℕ)
frame_octets f = contents_octets f.body f.payload >>= framed f.channel

abbrev pub within_size : ℕ → Option (List ℕ) → Result (List ℕ) FrameRefusal
within_size max None = Err refusal.NotWritable
within_size max (Some x) = if nat_le (length x) max then Ok x else Err refusal.FrameTooBig

-- the octets of a frame of at most max octets, or why there are none
abbrev pub write_answer : Frame → ℕ → Result (List ℕ) FrameRefusal
write_answer f max = within_size max (frame_octets f)

-- The result is the answer, except that memory may run out if the answer is octets.
abbrev pub Answers : Result (List ℕ) FrameRefusal → Result (List ℕ) FrameRefusal → Type 0
Answers (Ok octets) answer = answer ≡ Ok octets
Answers (Err refusal.NoMemory) (Ok x) = Unit {0}
Answers (Err e) answer = answer ≡ Err e

-- a written frame is a frame of its octets
abbrev pub WrittenIsFramed : Type 0
WrittenIsFramed = (f : Frame) (x : List ℕ) → f.channel < 2 ^ 16 → frame_octets f ≡ Some x → IsFrame f x
