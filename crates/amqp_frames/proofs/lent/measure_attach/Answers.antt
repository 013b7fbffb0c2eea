use Rattle.std.proofs.Common.{refl, sym, ◌∙◌, arith}
use Rattle.amqp_performatives.specs.declared.performative.Performative.TheVariants.{Attach}
use Rattle.amqp_frames.specs.Lent.{attach_of}
use Rattle.amqp_frames.proofs.Measuring.{measures_lent}
use Rattle.amqp_frames.proofs.lent.measure_attach.Goals as goal

pub returns : goal.returns
returns c channel =
    measures_lent c.measure_list.result (Attach (attach_of c.args.parts.now)) channel c.args.max _ (sym c.if-not-is_fair_attach.false ∙ c.is_fair_attach.ensures) c.attach_fields.ensures (c.measure_list.ensures 0x12 channel _ (omega arith) (omega arith) refl)
