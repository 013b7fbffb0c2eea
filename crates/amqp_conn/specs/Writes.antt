-- What the code that writes a frame promises.
use Rattle.std.specs.Prelude.{ℕ, ◌≡◌, Result, Ok, Err, IsOk, List}
use Rattle.amqp_frames.specs.declared.frame.Frame.{Frame}
use Rattle.amqp_frames.specs.declared.fault.FrameRefusal.{FrameRefusal}
use Rattle.amqp_frames.specs.declared.fault.FrameRefusal.TheVariants.{NotWritable, FrameTooBig, NoMemory}
use Rattle.amqp_frames.specs.Written.{write_answer}
use Rattle.amqp_rules.specs.Sending.{octets_of}

-- the octets of the frame, in at most max; or why there are none
abbrev pub Writes : Frame → ℕ → Result (List ℕ) FrameRefusal → Type 0
Writes f max (Ok octets) = (write_answer f max ≡ Ok (octets_of f)) × (octets ≡ octets_of f)
Writes f max (Err NotWritable) = write_answer f max ≡ Err NotWritable
Writes f max (Err FrameTooBig) = write_answer f max ≡ Err FrameTooBig
Writes f max (Err NoMemory) = IsOk (write_answer f max)
