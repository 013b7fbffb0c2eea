use Rattle.std.proofs.Common.{rules, ◌≡◌, ◌∙◌, ap, []}
use Rattle.amqp_serve.proofs.Restored.{all_walked, none_left}
use Rattle.amqp_serve.proofs.returning.leave.Goals as goal

pub returns-clause-back : goal.returns-clause-back
returns-clause-back c h = let e : c.loop.sent.items ≡ [] = none_left _ (search rules) in all_walked _ _ _ _ e (c.loop.invariant.1 h)

pub returns-clause-stay : goal.returns-clause-stay
returns-clause-stay c h = let e : c.loop.sent.items ≡ [] = none_left _ (search rules) in ap (λ q. q.items) c.swap.ensures.x_after ∙ all_walked _ _ _ _ e (c.loop.invariant.2 h)
