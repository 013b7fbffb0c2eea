use Rattle.std.proofs.Common.{◌≡◌, ◌≤◌, ◌++◌, ℕ, length, min, take, ap, ◌∙◌, arith}
use Rattle.std.proofs.Math.Nat.{min-le_left}
use Rattle.amqp_caller.proofs.Writing.{given-front}
use Rattle.amqp_caller.proofs.rest.Rest.give.Goals as goal

most : (n a b : ℕ) → n ≡ min a b → n ≤ a
most n a b e = omega (arith, e, min-le_left a b)

pub returns-clause-given : goal.returns-clause-given
returns-clause-given c =
    let n = c.copy-count.result in
    let room = c.copy-count.new.room in
    let some = most n (length c.front.result.now) (length c.args.room.now) c.copy-count.ensures.count in
    ap (λ y. take n room ++ y) c.advance.ensures ∙ given-front n c.front.result.now c.front.ensures.0 room c.args.self.now some c.front.ensures.1 c.copy-count.ensures.octets
