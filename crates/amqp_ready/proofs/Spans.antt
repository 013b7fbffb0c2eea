-- Octets of a room, from its start to its end.
use Rattle.std.proofs.Common.{◌≡◌, ◌-◌, ℕ, List, length, take, drop, arith, length-drop}
use Rattle.std.proofs.lemmas.List.{length-take-le}
use Rattle.amqp_ready.specs.Reading.{IsSpan}

pub span-length : (b : List ℕ) (s e : ℕ) → IsSpan b s e → length (take (e - s) (drop s b)) ≡ e - s
span-length b s e h =
    let n = length-drop s b in
    length-take-le (e - s) (drop s b) (omega (arith, n, h.within, h.ordered))
