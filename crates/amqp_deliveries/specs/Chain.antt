-- Octets in several slices.
use Rattle.std.specs.Prelude.{ℕ, List, ◌++◌}
use Rattle.std.specs.List.{concat}
use Rattle.amqp_deliveries.specs.declared.chain.Chain.{Chain}

-- the octets of slices that follow one another
abbrev pub chain_of : Chain → List ℕ
chain_of c = c.front.now ++ concat c.rest.now
