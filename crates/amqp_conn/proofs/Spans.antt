-- Octets of a buffer, from its start to its end.
use Rattle.std.proofs.Common.{◌≡◌, ◌≤◌, ◌+◌, ◌-◌, ℕ, List, length, take, drop, sym, ap, ◌∙◌, arith, length-drop}
use Rattle.std.proofs.lemmas.List.{drop-take, drop-drop, length-take-le}
use Rattle.amqp_conn.specs.Turning.{IsSpan}

pub span-length : (b : List ℕ) (s e : ℕ) → IsSpan b s e → length (take (e - s) (drop s b)) ≡ e - s
span-length b s e h =
    let n = length-drop s b in
    length-take-le (e - s) (drop s b) (omega (arith, n, h.within, h.sized))

pub skipped : (b : List ℕ) (s e u : ℕ) → u ≤ e - s → take (e - (s + u)) (drop (s + u) b) ≡ drop u (take (e - s) (drop s b))
skipped b s e u h =
    let split : e - s ≡ u + (e - (s + u)) = omega (arith, h) in
    sym (ap (λ n. drop u (take n (drop s b))) split ∙ drop-take u (e - (s + u)) (drop s b) ∙ ap (take (e - (s + u))) (drop-drop u s b))
