-- How a connection is driven.
use Rattle.std.specs.Prelude.{ℕ, Bool, nat_le}
use Rattle.amqp_ready.specs.declared.times.Limits.{Limits}

-- a peer that does not read is sent nothing more
abbrev pub is_behind : ℕ → Bool
is_behind unsent = nat_le 1048576 unsent

-- in milliseconds: a peer opens within ten seconds and closes within five. How long it is silent does not matter
abbrev pub limits : Limits
limits = record { «open» = 10000; silence = 18446744073709551615; close = 5000 }

-- a quarter of a second without an octet of the peer, or octets: then our header is written
abbrev pub is_met : ℕ → Bool
is_met waited = nat_le 250 waited
