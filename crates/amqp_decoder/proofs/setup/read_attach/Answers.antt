use Rattle.std.proofs.Common.{subst, sym}
use Rattle.amqp_performatives.specs.Part.{Fields}
use Rattle.amqp_decoder.specs.Reading.{AreFields}
use Rattle.amqp_decoder.specs.ReadSetup.{attach_in}
use Rattle.amqp_performatives.specs.declared.performative.Performative.TheVariants.{Attach}
use Rattle.amqp_decoder.proofs.ByDescriptor.{none_attach}
use Rattle.amqp_decoder.proofs.setup.read_attach.Goals as goal

pub returns-in-Ok : goal.returns-in-Ok
returns-in-Ok c = λ d is. (rw c.in-Ok.ensures.fair c.in-Some.ensures.0, is, subst (λ (fs : Fields). AreFields c.args.fields.depth c.args.fields.left fs c.args.fields.octets.now) (sym c.in-Ok.ensures.part) c.in-Some.ensures.1)

pub returns-in-Err : goal.returns-in-Err
returns-in-Err c = λ d is. (Attach (attach_in c.in-Some.borrowed), (c.in-Some.ensures.0, is, c.in-Some.ensures.1))

pub returns-in-None : goal.returns-in-None
returns-in-None c = λ d is. none_attach d c.args.fields is c.in-None.ensures
