use Rattle.std.proofs.Common.{false, set, ap, ◌∙◌}
use Rattle.amqp_deliveries.specs.declared.item.Side.TheVariants.{Remote}
use Rattle.amqp_deliveries.specs.Edits.{stated}
use Rattle.amqp_deliveries.proofs.Kept.{change_one}
use Rattle.amqp_deliveries.proofs.held.loops.set_first.Goals as goal

pub returns-then-span : goal.returns-then-span
returns-then-span c =
    ap (set c.args.items.now.items c.args.span.start) c.set_state.ensures
    ∙ change_one c.args.span (stated Remote false c.args.state) c.args.items.now.items c.index_mut-item.result.now c.requires.few c.if-span.true c.requires.within.within c.index_mut-item.ensures.value
