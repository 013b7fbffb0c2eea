-- The frames of a reply have octets (part 2, 2.3).
use Rattle.std.specs.Prelude.{ℕ, ◌≡◌, ◌≤◌, Some, All, length}
use Rattle.amqp_frames.specs.Written.{frame_octets}
use Rattle.amqp_rules.specs.declared.reply.Sent.{Sent}
use Rattle.amqp_rules.specs.declared.reply.Reply.{Reply}

-- the octets are those of the frame: at least the 8 of its header, and at most so many
pub record IsWritten (max : ℕ) (s : Sent) : Type 0 where
  pub octets : frame_octets s.frame ≡ Some s.bytes
  pub header : 8 ≤ length s.bytes
  pub short : length s.bytes ≤ max

-- each frame that the reply sends: one at most
pub record AllWritten (max : ℕ) (reply : Reply) : Type 0 where
  pub each : All (IsWritten max) reply.sent
  pub one : length reply.sent ≤ 1
