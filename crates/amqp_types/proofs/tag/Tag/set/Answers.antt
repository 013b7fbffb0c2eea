use Rattle.std.proofs.Common.{length, ap, arith}
use Rattle.amqp_types.proofs.Pads.{padded_is}
use Rattle.amqp_types.proofs.tag.Tag.set.Goals as goal

pub invariant_of-self : goal.invariant_of-self
invariant_of-self c = padded_is c.copy_from_slice.new.self (length c.args.octets.now) (ap length c.copy_from_slice.ensures.after) (omega (arith, c.requires))
