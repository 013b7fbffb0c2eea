-- Octets in two places, one after the other.
use Rattle.std.specs.Prelude.{ℕ, List, ◌++◌}
use Rattle.amqp_halves.specs.declared.halves.Halves.{Halves}

abbrev pub whole : Halves → List ℕ
whole h = h.front.now ++ h.back.now
