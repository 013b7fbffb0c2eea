use Rattle.std.proofs.Common.{Some}
use Rattle.amqp_performatives.specs.declared.performative.Performative.TheVariants.{Attach}
use Rattle.amqp_rules.specs.Attach.{own_attach}
use Rattle.amqp_steps.specs.Attaching.{wanted_of}
use Rattle.amqp_steps.proofs.attach.attach_refusal.Goals as goal

pub returns : goal.returns
returns c =
    c.measured_refusal.ensures c.args.max (Some (Attach (own_attach (wanted_of c.args.wanted.now) c.args.handle)))
    (rw (c.as_str.ensures, c.count_told.ensures, c.size_told.ensures, c.told_in.ensures) at (c.measure_attach.ensures 0))
