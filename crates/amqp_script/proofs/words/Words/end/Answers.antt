use Rattle.std.proofs.Common.{refl}
use Rattle.amqp_script.proofs.Cuts.{words-some}
use Rattle.amqp_script.proofs.words.Words.end.Goals as goal

pub returns-in-Some : goal.returns-in-Some
returns-in-Some c = (refl, rw c.in-Some.is (words-some c.in-Some.field-0.now))
