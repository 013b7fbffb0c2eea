use Rattle.std.proofs.Common.{refl, sym, ◌∙◌, arith}
use Rattle.amqp_performatives.specs.declared.performative.Performative.TheVariants.{End}
use Rattle.amqp_frames.specs.Lent.{end_of}
use Rattle.amqp_frames.proofs.Measuring.{measures_lent}
use Rattle.amqp_frames.proofs.lent.measure_end.Goals as goal

pub returns : goal.returns
returns c channel =
    measures_lent c.measure_list.result (End (end_of c.args.error.now)) channel c.args.max _ (sym c.if-not-is_fair_error.false ∙ c.is_fair_error.ensures) c.end_fields.ensures (c.measure_list.ensures 0x17 channel _ (omega arith) (omega arith) refl)
