use Rattle.std.proofs.Common.{◌∙◌, sym, nat_eq, arith}
use Rattle.std.specs.Cmp.Lexicographic.{pointwise}
use Rattle.std.specs.List.{concat}
use Rattle.amqp_deliveries.proofs.SameOctets.{same_front, other_front, is_other, is_same}
use Rattle.amqp_deliveries.proofs.chain.are_same.Goals as goal

pub returns-then-ne : goal.returns-then-ne
returns-then-ne c =
    let a = c.in-Some-Some.ours in
    let b = c.in-Some-Some.theirs in
    let e = other_front c.min-count.result a.front.now (concat a.rest.now) b.front.now (concat b.rest.now) (omega (arith, c.min-count.ensures)) (omega (arith, c.min-count.ensures)) (is_other _ c.ne.result c.ne.ensures c.if-ne.true) in
    sym (sym c.loop-ours.invariant ∙ (λ i. pointwise nat_eq (sym c.in-Some-Some.ensures.same i) (sym c.in-Some-Some.ensures'.same i)) ∙ e)

pub loop-ours-preserved : goal.loop-ours-preserved
loop-ours-preserved c =
    let a = c.in-Some-Some.ours in
    let b = c.in-Some-Some.theirs in
    let e = same_front c.min-count.result a.front.now (concat a.rest.now) b.front.now (concat b.rest.now) (omega (arith, c.min-count.ensures)) (omega (arith, c.min-count.ensures)) (is_same _ c.ne.result c.ne.ensures c.if-ne.false) in
    (λ i. pointwise nat_eq (c.after-left.ensures i) (c.after-right.ensures i)) ∙ e ∙ (λ i. pointwise nat_eq (c.in-Some-Some.ensures.same i) (c.in-Some-Some.ensures'.same i)) ∙ c.loop-ours.invariant
