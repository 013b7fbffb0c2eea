use Rattle.std.proofs.Common.{arith}
use Rattle.std.proofs.lemmas.List.{length-reverse}
use Rattle.amqp_laws.proofs.CreditLaw.{never_without_credit}
use Rattle.amqp_laws.proofs.IdLaw.{sends_serials}
use Rattle.amqp_laws.proofs.Twice.{never_twice}
use Rattle.amqp_laws.proofs.Kept.{kept}
use Rattle.amqp_laws.specs.Past.{past}
use Rattle.amqp_laws.proofs.Sound.{at-apart, at-first, at-is-sound, at-unfinished, goes_on_by_steps}
use Rattle.amqp_rules.proofs.Free.{free-handle_is-lowest}
use Rattle.amqp_laws.proofs.Since.{incoming-since}
use Rattle.amqp_laws.proofs.LeftOver.{are_left}
use Rattle.amqp_laws.proofs.Promises.{promise-grows}
use Rattle.amqp_laws.proofs.WrittenLaw.{replies_are_written}
use Rattle.amqp_laws.proofs.laws.laws.Goals as goal

pub returns-clause-starts : goal.returns-clause-starts
returns-clause-starts t = λ c. at-first c

pub returns-clause-goes_on : goal.returns-clause-goes_on
returns-clause-goes_on t = λ c journal limit h. goes_on_by_steps c journal (let few = limit.few in omega (arith, few)) h

pub returns-clause-sound : goal.returns-clause-sound
returns-clause-sound t = λ c journal limit h. at-is-sound c (past journal) h.replayed (let few = limit.few in let short = h.short in omega (arith, few, short))

pub returns-clause-handle : goal.returns-clause-handle
returns-clause-handle t = λ links. free-handle_is-lowest links

pub returns-clause-window : goal.returns-clause-window
returns-clause-window t = λ c journal h. incoming-since c (past journal) h.replayed

pub returns-clause-credit : goal.returns-clause-credit
returns-clause-credit t = λ c journal h. never_without_credit c journal h.replayed

pub returns-clause-serials : goal.returns-clause-serials
returns-clause-serials t = λ c journal h. sends_serials c journal h.replayed

pub returns-clause-twice : goal.returns-clause-twice
returns-clause-twice t = λ c journal limit h. never_twice c journal h.replayed (let few = h.short in let same = length-reverse journal in omega (arith, few, same, limit))

pub returns-clause-kept : goal.returns-clause-kept
returns-clause-kept t = λ c journal limit h. kept c (past journal) h.replayed (let few = h.short in omega (arith, few, limit))

pub returns-clause-left : goal.returns-clause-left
returns-clause-left t = λ c journal limit h. are_left c journal h.replayed (let few = h.short in let same = length-reverse journal in omega (arith, few, same, limit))

pub returns-clause-unfinished : goal.returns-clause-unfinished
returns-clause-unfinished t = λ c journal limit h. at-unfinished c (past journal) h.replayed (let few = limit.few in let short = h.short in omega (arith, few, short))

pub returns-clause-waiting : goal.returns-clause-waiting
returns-clause-waiting t = λ c journal limit h. at-apart c (past journal) h.replayed (let few = limit.few in let short = h.short in omega (arith, few, short))

pub returns-clause-written : goal.returns-clause-written
returns-clause-written t =
    λ c journal limit h small. replies_are_written c journal limit h.replayed (let few = limit.few in let short = h.short in omega (arith, few, short)) small

pub returns-clause-promise : goal.returns-clause-promise
returns-clause-promise t = promise-grows
