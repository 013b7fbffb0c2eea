use Rattle.std.proofs.Common.{◌==◌, List, refl, subst}
use Rattle.std.proofs.lemmas.Result.{IfOk-weaker}
use Rattle.amqp_events.specs.Told.{SentItem}
use Rattle.amqp_deliveries.specs.Held.{IsHeld, linked}
use Rattle.amqp_deliveries.proofs.Ended.{names_are}
use Rattle.amqp_deliveries.proofs.held.Held.named_of.Goals as goal

pub returns : goal.returns
returns c =
    let items : List SentItem = c.args.self.now in
    let held = subst IsHeld c.self.view_is c.self.invariant.0 in
    IfOk-weaker c.linked.result _ _ (λ v is. names_are c.args.role items (λ i. i.link == c.args.link) (linked c.args.link items) v.items held refl is) c.linked.ensures
