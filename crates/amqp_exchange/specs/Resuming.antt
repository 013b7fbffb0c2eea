-- What becomes of a message in doubt once a link is attached again (part 2, 2.6.13).
use Rattle.amqp_exchange.specs.declared.send_again.Resumption.{Resumption}
use Rattle.amqp_exchange.specs.declared.send_again.Resumption.TheVariants.{End, SendAgain, Await}
use Rattle.amqp_waiting.specs.declared.item.Verdict.{Verdict}
use Rattle.amqp_waiting.specs.declared.item.Verdict.TheVariants as V

-- what the peer has whole is never sent again, and what it has not is
abbrev pub after_verdict : Verdict → Resumption
after_verdict V.Outcome = End
after_verdict V.Absent = SendAgain
after_verdict V.Partial = SendAgain
after_verdict V.Held = Await
after_verdict V.Unclear = Await
