use Rattle.std.proofs.Common.{◌∙◌, ◌++◌, ◌∷◌, [], sym, ap}
use Rattle.std.specs.Prelude.{slice_get}
use Rattle.amqp_waiting.specs.declared.item.SuspendedItem.{SuspendedItem}
use Rattle.amqp_waiting.proofs.Aside.{next_aside}
use Rattle.amqp_waiting.proofs.waiting.suspended_entries.Goals as goal

pub loop-key-preserved : goal.loop-key-preserved
loop-key-preserved c =
    next_aside c.args.items.now.entries c.loop-key.place (c.in-Some.key.now, c.in-Some.standing.now) c.loop-key.aside.items _
    (ap (λ es. slice_get es c.loop-key.place) (sym c.as_slice-all.ensures.entries) ∙ sym c.in-Some.ensures.entry) c.loop-key.invariant
    (c.in_ok-push.ensures.items ∙ ap (λ (i : SuspendedItem). c.loop-key.aside.items ++ i ∷ []) c.in_ok-item.ensures)
