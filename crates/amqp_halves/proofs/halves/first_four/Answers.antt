use Rattle.std.proofs.Common.{arith, ◌∙◌}
use Rattle.amqp_halves.proofs.Texts.{first_are, written}
use Rattle.amqp_halves.proofs.halves.first_four.Goals as goal

pub returns-clause-octets : goal.returns-clause-octets
returns-clause-octets c =
    written _ _ _ _ _ _ _ c.copy_from_slice.ensures.after c.copy_from_slice-2.ensures.after (omega arith) (omega arith)
    ∙ first_are 4 c.args.octets.front.now c.args.octets.back.now _ _ c.min-of_front.ensures c.min-of_back.ensures
