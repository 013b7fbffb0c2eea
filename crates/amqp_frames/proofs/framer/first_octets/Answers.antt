use Rattle.std.proofs.Common.{arith, ◌∙◌}
use Rattle.amqp_frames.proofs.Feeding.{first_are, written}
use Rattle.amqp_frames.proofs.framer.first_octets.Goals as goal

pub returns-clause-octets : goal.returns-clause-octets
returns-clause-octets c =
    written _ _ _ _ _ _ _ c.copy_from_slice.ensures.after c.copy_from_slice-2.ensures.after (omega arith) (omega arith)
    ∙ first_are 8 c.args.kept.now c.args.piece.now _ _ c.min-from_kept.ensures c.min-from_piece.ensures
