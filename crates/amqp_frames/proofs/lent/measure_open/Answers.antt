use Rattle.std.proofs.Common.{refl, sym, ◌∙◌, arith}
use Rattle.amqp_performatives.specs.declared.performative.Performative.TheVariants.{Open}
use Rattle.amqp_frames.proofs.Measuring.{measures_lent}
use Rattle.amqp_frames.proofs.lent.measure_open.Goals as goal

pub returns : goal.returns
returns c channel =
    measures_lent c.measure_list.result (Open c.args.body.now) channel c.args.max _ (sym c.if-not-is_fair_open.false ∙ c.is_fair_open.ensures) c.open_fields.ensures (c.measure_list.ensures 0x10 channel _ (omega arith) (omega arith) refl)
