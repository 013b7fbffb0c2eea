-- What goes into a transfer (part 2, 2.6.14).
use Rattle.std.specs.Prelude.{ℕ, ◌+◌, Bool, false, nat_lt, List, length, take, drop}
use Rattle.amqp_rules.specs.declared.op.Op.{Op}
use Rattle.amqp_rules.specs.declared.op.Op.TheVariants.{Start, Carry}
use Rattle.amqp_serve.specs.declared.returning.Sending.{Sending}

-- more octets follow
abbrev pub follows : ℕ → ℕ → Sending → Bool
follows went part s = nat_lt (went + part) (length s.octets)

-- the first one has the message's format and its first octets
abbrev pub first_transfer : ℕ → ℕ → List ℕ → Sending → Op
first_transfer link part tag s = Start link tag s.message.format false (take part s.octets) (follows 0 part s)

-- a further one has the octets behind those that went
abbrev pub next_transfer : ℕ → ℕ → ℕ → Sending → Op
next_transfer link part went s = Carry link (take part (drop went s.octets)) (follows went part s)
