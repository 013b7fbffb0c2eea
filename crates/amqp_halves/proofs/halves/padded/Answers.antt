use Rattle.std.proofs.Common.{arith, length-append}
use Rattle.amqp_halves.proofs.Texts.{padded_is}
use Rattle.amqp_halves.proofs.halves.padded.Goals as goal

pub returns : goal.returns
returns c = padded_is _ _ _ _ c.args.text.front.now c.args.text.back.now c.copy_from_slice.ensures.after c.copy_from_slice-2.ensures.after (omega arith) (omega (arith, c.requires.count, c.requires.most, length-append c.args.text.front.now c.args.text.back.now))
