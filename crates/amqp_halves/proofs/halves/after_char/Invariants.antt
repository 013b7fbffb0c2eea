use Rattle.amqp_halves.proofs.Texts.{NoTexts}
use Rattle.amqp_halves.proofs.halves.after_char.Given as goal

abbrev pub invariant-loop-less : goal.invariant-loop-less
invariant-loop-less l = NoTexts l.head l.less
