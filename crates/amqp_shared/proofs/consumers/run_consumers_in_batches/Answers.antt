use Rattle.std.proofs.Common.{◌≡◌, ◌<◌, length, slice_index_or, vec_len, sym, ap, subst, ◌∙◌, arith, rules}
use Rattle.amqp_shared.specs.Batching.{FinishesBatches}
use Rattle.amqp_shared.specs.Consuming.{MakesSteps}
use Rattle.amqp_shared.specs.Passes.{Tally}
use Rattle.amqp_shared.proofs.Found.{found, mapped, as-many, if_ok-map}
use Rattle.amqp_shared.proofs.Steps.{finishes-steps}
use Rattle.amqp_shared.proofs.consumers.run_consumers_in_batches.Goals as goal

pub returns-in-Ok-clause-len : goal.returns-in-Ok-clause-len
returns-in-Ok-clause-len g c =
    let jobs = c.in-Ok.jobs in
    let many = as-many (λ j. j.pass) jobs.items c.args.passes.items c.in-Ok.ensures.passes in
    let size : length c.args.passes.items ≡ vec_len c.args.passes = search rules in
    let sized : length jobs.items ≡ vec_len jobs = search rules in
    if_ok-map _ _ c.run_jobs.result (λ v h. h ∙ sym sized ∙ many ∙ size) c.run_jobs.ensures.len

pub returns-in-Ok-clause-each : goal.returns-in-Ok-clause-each
returns-in-Ok-clause-each g c =
    let jobs = c.in-Ok.jobs in
    let is = c.in-Ok.ensures in
    let many = as-many (λ j. j.pass) jobs.items c.args.passes.items is.passes in
    let size : length c.args.passes.items ≡ vec_len c.args.passes = search rules in
    let sized : length jobs.items ≡ vec_len jobs = search rules in
    if_ok-map _ _ c.run_jobs.result (λ v h i p w d low.
    let short : i < length jobs.items = omega (arith, many, size, low) in
    let given : i < length c.args.passes.items = omega (arith, size, low) in
    let one = (found (λ j. j.pass) jobs.items i short).0 in
    let pass = sym (mapped (λ j. j.pass) jobs.items i short p one) ∙ ap (λ xs. slice_index_or xs i p) is.passes in
    let work = sym (mapped (λ j. j.work) jobs.items i short w one) ∙ ap (λ xs. slice_index_or xs i w) is.works in
    let terms =
    sym (mapped (λ j. j.terms) jobs.items i short c.args.terms one) ∙ ap (λ xs. slice_index_or xs i c.args.terms) is.terms
    ∙ mapped (λ (x : Tally). c.args.terms) c.args.passes.items i given c.args.terms p in
    let more =
    sym (mapped (λ j. j.batch.more) jobs.items i short c.args.more one) ∙ ap (λ xs. slice_index_or xs i c.args.more) is.more
    ∙ mapped (λ (x : Tally). c.args.more) c.args.passes.items i given c.args.more p in
    let done = slice_index_or v.items i d in
    subst (λ (P : Type 0). P)
    (λ k. FinishesBatches g.W.Work.consumes (terms k) (more k) (record { pass = pass k; work = work k }) done.count done.left done.stopped (record { pass = done.pass; work = done.work }))
    (h i one d (omega (arith, many, size, sized, low)))) c.run_jobs.ensures.each

pub returns-in-Ok-clause-steps : goal.returns-in-Ok-clause-steps
returns-in-Ok-clause-steps g c =
    let jobs = c.in-Ok.jobs in
    let is = c.in-Ok.ensures in
    let many = as-many (λ j. j.pass) jobs.items c.args.passes.items is.passes in
    let size : length c.args.passes.items ≡ vec_len c.args.passes = search rules in
    let sized : length jobs.items ≡ vec_len jobs = search rules in
    if_ok-map _ _ c.run_jobs.result (λ v h i p d low.
    let short : i < length jobs.items = omega (arith, many, size, low) in
    let one = (found (λ j. j.pass) jobs.items i short).0 in
    let pass = sym (mapped (λ j. j.pass) jobs.items i short p one) ∙ ap (λ xs. slice_index_or xs i p) is.passes in
    let done = slice_index_or v.items i d in
    subst (λ (t : Tally). MakesSteps t.made done.count done.pass.made) pass (finishes-steps g.W.Work.consumes _ _ _ done.count done.left done.stopped _ (h i one d (omega (arith, many, size, sized, low))))) c.run_jobs.ensures.each
