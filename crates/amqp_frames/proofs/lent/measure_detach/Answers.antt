use Rattle.std.proofs.Common.{refl, sym, ◌∙◌, arith}
use Rattle.amqp_performatives.specs.declared.performative.Performative.TheVariants.{Detach}
use Rattle.amqp_frames.specs.Lent.{detach_of}
use Rattle.amqp_frames.proofs.Measuring.{measures_lent}
use Rattle.amqp_frames.proofs.lent.measure_detach.Goals as goal

pub returns : goal.returns
returns c channel =
    measures_lent c.measure_list.result (Detach (detach_of c.args.handle c.args.closed c.args.error.now)) channel c.args.max _ (sym c.if-not-is_fair_error.false ∙ c.is_fair_error.ensures) c.detach_fields.ensures (c.measure_list.ensures 0x16 channel _ (omega arith) (omega arith) refl)
