-- A session has no more links than it had steps.
use Rattle.std.proofs.Common.{◌≤◌, ℕ, ◌+◌, List, [], ◌∷◌, length, map, arith, add-one}
use Rattle.amqp_rules.specs.View.{View}
use Rattle.amqp_rules.specs.Sound.{Ascends, IsSound, Keys, keys}
use Rattle.std.proofs.lemmas.List.{length-map}

-- so many links have at most so many numbers
ascends-length : (made n : ℕ) (ks : List Keys) → Ascends made n ks → n + length ks ≤ made
ascends-length made n [] a = omega (arith, a)
ascends-length made n (k ∷ ks) a =
    let first : n ≤ k.number = a.0 in
    let rest = ascends-length made (k.number + 1) ks a.1 in
    rw (← add-one (length ks)) (omega (arith, first, rest))

pub links-few : (v : View) → IsSound v → length v.links ≤ v.steps
links-few v s =
    let few = ascends-length v.made 0 (map keys v.links) s.links.numbers in
    let same = length-map v.links keys in
    let made : v.made ≤ v.steps = s.made in
    omega (arith, few, same, made)
