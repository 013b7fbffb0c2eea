use Rattle.std.proofs.Common.{◌++◌, ◌∙◌, List, sym, ap, map}
use Rattle.std.proofs.lemmas.List.{append-nil, append_assoc}
use Rattle.amqp_waiting.specs.declared.item.SuspendedItem.{SuspendedItem}
use Rattle.amqp_deliveries.specs.Held.{items_of}
use Rattle.amqp_rules.specs.Suspend.{is_put_aside, item_aside, waiting_aside}
use Rattle.amqp_links.proofs.Aside.{kept-one}
use Rattle.amqp_links.proofs.link.Link.put_aside.Goals as goal

pub loop-place-init : goal.loop-place-init
loop-place-init c = c.in_ok-items.ensures ∙ ap (λ l. map waiting_aside l.waiting) c.self.view_is ∙ sym (append-nil (map waiting_aside c.args.self.now.waiting))

pub loop-place-preserved : goal.loop-place-preserved
loop-place-preserved c =
    rw (c.in_ok-put_at.ensures, c.loop-place.invariant)
    (append_assoc (map waiting_aside c.args.self.now.waiting) _ _ ∙ ap (λ (is : List SuspendedItem). map waiting_aside c.args.self.now.waiting ++ is) (kept-one item_aside (is_put_aside c.args.self.now) (items_of c.args.held.now) c.loop-place.place))
