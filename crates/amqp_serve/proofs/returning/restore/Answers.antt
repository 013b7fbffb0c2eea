use Rattle.std.proofs.Common.{rules, ◌≡◌, []}
use Rattle.amqp_serve.proofs.Restored.{all_restored, none_left}
use Rattle.amqp_serve.proofs.returning.restore.Goals as goal

pub returns-clause-restored : goal.returns-clause-restored
returns-clause-restored c h = let e : c.loop.back.items ≡ [] = none_left _ (search rules) in all_restored _ _ _ e (c.loop.invariant.1 h)
