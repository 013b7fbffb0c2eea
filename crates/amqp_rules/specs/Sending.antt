-- Frames that are sent (part 2, 2.3), all of them on channel 0.
use Rattle.std.specs.Prelude.{ℕ, Bool, Option, Result, List, [], ◌∷◌, option_map, unwrap_or}
use Rattle.std.specs.Option.{option_or}
use Rattle.std.specs.Result.{result_err}
use Rattle.amqp_performatives.specs.declared.bodies.Role.{Role}
use Rattle.amqp_performatives.specs.declared.performative.Performative.{Performative}
use Rattle.amqp_frames.specs.declared.frame.Frame.{Frame}
use Rattle.amqp_frames.specs.declared.fault.FrameRefusal.{FrameRefusal}
use Rattle.amqp_frames.specs.declared.fault.FrameRefusal.TheVariants as fault
use Rattle.amqp_frames.specs.Written.{frame_octets, write_answer}
use Rattle.amqp_rules.specs.declared.refusal.Refusal.{Refusal}
use Rattle.amqp_rules.specs.declared.refusal.Refusal.TheVariants.{NotWritable, FrameTooBig, NoMemory}
use Rattle.amqp_rules.specs.declared.reply.Sent.{Sent}
use Rattle.amqp_rules.specs.declared.reply.Reply.{Reply}
use Rattle.amqp_rules.specs.declared.reply.Given.{Given}
use Rattle.amqp_rules.specs.Refusing.{first_refusal, answered}

abbrev pub frame_of : Option Performative → List ℕ → Frame
frame_of body payload = record { channel = 0; body = body; payload = payload }

-- the octets of the frame; none where it cannot be written
unfoldable pub octets_of : Frame → List ℕ
octets_of f = unwrap_or (frame_octets f) []

-- the frame with this body and payload, with its octets
abbrev pub sent_of : Option Performative → List ℕ → Sent
sent_of body payload = record { frame = frame_of body payload; bytes = octets_of (frame_of body payload) }

-- the reply that sends this frame alone
abbrev pub reply_of : Option Performative → List ℕ → Given → Reply
reply_of body payload given = record { sent = sent_of body payload ∷ []; ended = []; given = given }

-- the reply that sends this frame alone, and by which these deliveries are ended
abbrev pub reply_ending : Option Performative → List ℕ → List (Role × ℕ) → Given → Reply
reply_ending body payload ended given = record { sent = sent_of body payload ∷ []; ended = ended; given = given }

-- a frame's refusal as that of an operation
abbrev pub told : FrameRefusal → Refusal
told fault.NotWritable = NotWritable
told fault.FrameTooBig = FrameTooBig
told fault.NoMemory = NoMemory

-- why the frame is not sent to a peer that takes frames of max octets; none where it is
unfoldable pub frame_refused : ℕ → Option Performative → List ℕ → Option Refusal
frame_refused max body payload = option_map told (result_err (write_answer (frame_of body payload) max))

-- the frame is sent, or the first refusal that is due: of the table, and last that of the frame
abbrev pub sends : ℕ → List (Bool × Refusal) → Option Performative → List ℕ → Given → Result Reply Refusal
sends max refusals body payload given = answered (option_or (first_refusal refusals) (frame_refused max body payload)) (reply_of body payload given)

abbrev pub sends_ending : ℕ → List (Bool × Refusal) → Option Performative → List (Role × ℕ) → Given → Result Reply Refusal
sends_ending max refusals body ended given = answered (option_or (first_refusal refusals) (frame_refused max body [])) (reply_ending body [] ended given)
