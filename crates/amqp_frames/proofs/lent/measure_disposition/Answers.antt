use Rattle.std.proofs.Common.{refl, sym, ◌∙◌, arith}
use Rattle.amqp_performatives.specs.declared.performative.Performative.TheVariants.{Disposition}
use Rattle.amqp_frames.specs.Lent.{disposition_of}
use Rattle.amqp_frames.proofs.Measuring.{measures_lent}
use Rattle.amqp_frames.proofs.lent.measure_disposition.Goals as goal

pub returns : goal.returns
returns c channel =
    measures_lent c.measure_list.result (Disposition (disposition_of c.args.role c.args.first c.args.last c.args.settled c.args.state.now)) channel c.args.max _ (sym c.if-not-is_fair_state.false ∙ c.is_fair_state.ensures) c.disposition_fields.ensures (c.measure_list.ensures 0x15 channel _ (omega arith) (omega arith) refl)
