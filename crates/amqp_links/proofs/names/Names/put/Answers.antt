use Rattle.std.proofs.Common.{Result, Ok, Err, OnErr, arith}
use Rattle.std.proofs.lemmas.Grind.{text_groups}
use Rattle.amqp_links.proofs.names.Names.put.Goals as goal

on-err : {A E : Type 0} (r : Result A E) (P : Type 0) → P → OnErr r P
on-err (Ok x) P h = tt
on-err (Err e) P h = h

pub returns-in_err-push-clause-err : goal.returns-in_err-push-clause-err
returns-in_err-push-clause-err c = on-err c.from_residual.result _ (λ q. grind (arith, text_groups))

pub returns-in-Some-clause-ok : goal.returns-in-Some-clause-ok
returns-in-Some-clause-ok c = λ q. grind (arith, text_groups)

pub returns-clause-ok : goal.returns-clause-ok
returns-clause-ok c = λ q. grind (arith, text_groups)
