use Rattle.std.proofs.Common.{◌++◌, [], ◌∷◌, map, sym, ap, subst, ◌∙◌, append-nil}
use Rattle.amqp_shared.specs.declared.batches.Judged.{Judged}
use Rattle.amqp_shared.specs.Batching.{InHand, ConsumesAll}
use Rattle.amqp_shared.proofs.Found.{together, mapped-behind}
use Rattle.amqp_shared.proofs.batches.Batch.judge_all.Goals as goal

pub loop-preserved : goal.loop-preserved
loop-preserved g c =
    let (j, items, judged, more, consumed) = c.in-Some.ensures.some in
    let was = c.loop.invariant in
    let before = c.loop.self.judged in
    let new = c.judge.new.self in (
      ap (λ js. map (λ (j : Judged). j.item) js ++ new.items) judged ∙ mapped-behind (λ (j : Judged). j.item) before j new.items
          ∙ ap (λ ts. map (λ (j : Judged). j.item) before ++ ts) (sym items) ∙ was.0,
      more ∙ was.1,
      λ js after h. subst (λ all. ConsumesAll g.W.Work.consumes c.args.work.now (all ++ js) after) (sym judged)
          (subst (λ all. ConsumesAll g.W.Work.consumes c.args.work.now all after) (sym (together before (j ∷ []) js)) (was.2 (j ∷ js) after (c.judge.new.work, consumed, h))),
    )

pub returns : goal.returns
returns g c =
    let none = c.in_default.ensures.none in
    let was = c.loop.invariant in
    let before = c.loop.self.judged in
    let same = ap (λ (b : InHand). b.judged) none.1 in
    record {
      consumed = subst (λ js. ConsumesAll g.W.Work.consumes c.args.work.now js c.judge.new.work) (sym same)
          (subst (λ js. ConsumesAll g.W.Work.consumes c.args.work.now js c.judge.new.work) (append-nil before) (was.2 [] c.judge.new.work none.2));
      all = ap (λ js. map (λ (j : Judged). j.item) js) same ∙ sym (append-nil (map (λ (j : Judged). j.item) before)) ∙ ap (λ ts. map (λ (j : Judged). j.item) before ++ ts) (sym none.0) ∙ was.0;
      more = ap (λ (b : InHand). b.more) none.1 ∙ was.1;
    }
