use Rattle.std.proofs.Common.{refl, sym, ◌∙◌, arith}
use Rattle.amqp_performatives.specs.declared.performative.Performative.TheVariants.{Transfer}
use Rattle.amqp_frames.specs.Lent.{resuming_of}
use Rattle.amqp_frames.proofs.Measuring.{measures_lent}
use Rattle.amqp_frames.proofs.lent.measure_resuming.Goals as goal

pub returns : goal.returns
returns c channel =
    measures_lent c.measure_list.result (Transfer (resuming_of c.args.parts.now)) channel c.args.max _ (sym c.if-not-is_fair_resuming.false ∙ c.is_fair_resuming.ensures) c.resuming_fields.ensures (c.measure_list.ensures 0x14 channel _ (omega arith) (omega arith) refl)
