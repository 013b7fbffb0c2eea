use Rattle.std.proofs.Common.{List, subst}
use Rattle.std.proofs.lemmas.Result.{IfOk-weaker}
use Rattle.amqp_events.specs.Told.{SentItem}
use Rattle.amqp_deliveries.specs.Held.{IsHeld}
use Rattle.amqp_deliveries.proofs.Ended.{all_named}
use Rattle.amqp_deliveries.proofs.held.Held.named_all.Goals as goal

pub returns : goal.returns
returns c =
    let items : List SentItem = c.args.self.now in
    let held = subst IsHeld c.self.view_is c.self.invariant.0 in
    IfOk-weaker c.all.result _ _ (λ v is. all_named c.args.role items v.items held is) c.all.ensures
