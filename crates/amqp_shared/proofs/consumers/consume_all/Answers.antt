use Rattle.std.proofs.Common.{suc, inl, inr, Ok, length, refl, sym, ap, subst, ◌∙◌, ◌+◌, ◌-◌, arith}
use Rattle.std.proofs.lemmas.List.{length-map}
use Rattle.amqp_shared.specs.Consuming.{Goer}
use Rattle.amqp_shared.specs.Batching.{TakesBatch, Batched, ConsumesAll}
use Rattle.amqp_shared.specs.declared.batches.Judged.{Judged}
use Rattle.amqp_shared.proofs.Rounds.{takes-more, batches-more}
use Rattle.amqp_shared.proofs.consumers.consume_all.Goals as goal

pub loop-init : goal.loop-init
loop-init g c = ((0, (refl, refl)), refl)

pub returns-in-Err : goal.returns-in-Err
returns-in-Err g c =
    inl (record {
      rounds = c.loop.invariant.0.0;
      between = record { pass = c.loop.pass; work = c.loop.work };
      batches = c.loop.invariant.0.1;
      takes = c.in-Err.ensures.takes;
      rests = refl;
    })

-- each delivery that was taken made a step
pub overflow_add-count : goal.overflow_add-count
overflow_add-count g c =
    let job = c.args.job in
    let was = c.loop.invariant in
    let first : Goer _ = record { pass = job.pass; work = job.work } in
    let now : Goer _ = record { pass = c.loop.pass; work = c.loop.work } in
    let items = c.take_batch.new.batch.items in
    let before = batches-more g.W.Work.consumes job.terms job.batch.more was.0.0 c.loop.count first now was.0.1 in
    let taken = takes-more job.terms.link items (c.loop.batch.more + 1 - length items) c.loop.pass c.take_batch.new.pass c.in_default.ensures.takes.2 in
    let range = c.in_default.ensures.range in
    let many = c.len.ensures in
    omega (arith, before, taken, range, many)

pub returns-in-Err-settle_batch : goal.returns-in-Err-settle_batch
returns-in-Err-settle_batch g c =
    let job = c.args.job in
    let was = c.loop.invariant in
    let js = c.judge_all.new.self.judged in
    let all = c.judge_all.ensures.all in
    inr (record {
      rounds = was.0.0;
      before = c.loop.count;
      size = c.len.result;
      counted = refl;
      between = record { pass = c.loop.pass; work = c.loop.work };
      batches = was.0.1;
      last = record {
        batch = js;
        counted = c.len.ensures ∙ sym (ap length all) ∙ length-map js (λ (j : Judged). j.item);
        between = c.take_batch.new.pass;
        takes = subst (λ ts. TakesBatch job.terms.link job.batch.more c.loop.pass ts (Ok tt) c.take_batch.new.pass) (sym all)
            (subst (λ more. TakesBatch job.terms.link more c.loop.pass c.take_batch.new.batch.items (Ok tt) c.take_batch.new.pass) was.1 c.in_default.ensures.takes);
        consumed = subst (λ work. ConsumesAll g.W.Work.consumes c.loop.work js work) (sym c.told.ensures) c.judge_all.ensures.consumed;
        settles = c.in-Err-settle_batch.ensures.pass;
      };
    })

pub loop-preserved : goal.loop-preserved
loop-preserved g c =
    let job = c.args.job in
    let was = c.loop.invariant in
    let js = c.judge_all.new.self.judged in
    let all = c.judge_all.ensures.all in
    let before : Goer _ = record { pass = c.loop.pass; work = c.loop.work } in
    let after : Goer _ = record { pass = c.settle_batch.new.pass; work = c.judge_all.new.work } in
    let last : Batched g.W.Work.consumes job.terms job.batch.more before c.len.result (Ok tt) after =
    record {
      batch = js;
      counted = c.len.ensures ∙ sym (ap length all) ∙ length-map js (λ (j : Judged). j.item);
      between = c.take_batch.new.pass;
      takes = subst (λ ts. TakesBatch job.terms.link job.batch.more c.loop.pass ts (Ok tt) c.take_batch.new.pass) (sym all)
          (subst (λ more. TakesBatch job.terms.link more c.loop.pass c.take_batch.new.batch.items (Ok tt) c.take_batch.new.pass) was.1 c.in_default.ensures.takes);
      consumed = c.judge_all.ensures.consumed;
      settles = c.in_default-settle_batch.ensures.pass;
    }
    in (
      (suc was.0.0, (before, c.loop.count, c.len.result, refl, was.0.1, subst (λ work. Batched g.W.Work.consumes job.terms job.batch.more before c.len.result (Ok tt) (record { pass = c.settle_batch.new.pass; work = work })) (sym c.told-in-loop.ensures) last)),
      c.in_default-settle_batch.ensures.room ∙ c.judge_all.ensures.more ∙ c.in_default.ensures.room ∙ was.1,
    )
