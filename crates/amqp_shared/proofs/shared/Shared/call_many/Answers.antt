use Rattle.std.proofs.Common.{inl, inr, ◌+◌, ◌++◌, [], ◌∷◌, length, drop, None, Some, refl, sym, ap, subst, ◌∙◌, append-nil, arith}
use Rattle.std.proofs.lemmas.List.{at_drop_more, drop_all}
use Rattle.amqp_shared.specs.Many.{CallsAll, Tells, Notes}
use Rattle.amqp_shared.proofs.Found.{together}
use Rattle.amqp_shared.proofs.shared.Shared.call_many.Goals as goal

pub push_reserved-requires : goal.push_reserved-requires
push_reserved-requires g c =
    let op = c.op-item.result in
    let at = c.loop-op.op-index in
    let is = at_drop_more length c.args.ops.now at op c.loop-op-test.true in
    let was = c.loop-op.invariant.0 in
    omega (arith, is, was)

pub loop-op-preserved : goal.loop-op-preserved
loop-op-preserved g c =
    let was = c.loop-op.invariant in
    let op = c.op-item.result in
    let ops = c.args.ops.now in
    let at = c.loop-op.op-index in
    let is = at_drop_more (λ os. os) ops at op c.loop-op-test.true ∙ ap (λ o. o ∷ drop (at + 1) ops) (sym c.op-item.is) in
    let sized = ap length is in
    let room = was.0 in
    let pushed = c.push_reserved.ensures in
    let longer = pushed.len in
    let kept = pushed.capacity in
    let done = c.in-Ok.done in
    let before = c.loop-op.answers.items in
    let old = c.loop-op.guard in
    let new = c.call.new.guard in (
      omega (arith, sized, room, longer, kept),
      λ more refused after h. subst (λ answers. CallsAll Tells c.args.guard.now ops (answers ++ more) refused after) (sym pushed.items)
          (subst (λ answers. CallsAll Tells c.args.guard.now ops answers refused after) (sym (together before (done ∷ []) more)) (was.1 (done ∷ more) refused after
          (subst (λ os. CallsAll Tells old os (done ∷ more) refused after) (sym is) (inr (done, more, refl, new, (c.in-Ok.ensures.step, c.in-Ok.ensures.told, c.in-Ok.ensures.receipt), h))))),
      λ more refused after h. subst (λ answers. CallsAll Notes c.args.pass.now ops (answers ++ more) refused after) (sym pushed.items)
          (subst (λ answers. CallsAll Notes c.args.pass.now ops answers refused after) (sym (together before (done ∷ []) more)) (was.2 (done ∷ more) refused after
          (subst (λ os. CallsAll Notes c.loop-op.pass os (done ∷ more) refused after) (sym is) (inr (done, more, refl, c.call.new.pass, c.in-Ok.ensures.pass, h))))),
    )

pub returns-in-Err : goal.returns-in-Err
returns-in-Err g c =
    let was = c.loop-op.invariant in
    let op = c.op-item.result in
    let ops = c.args.ops.now in
    let at = c.loop-op.op-index in
    let is = at_drop_more (λ os. os) ops at op c.loop-op-test.true ∙ ap (λ o. o ∷ drop (at + 1) ops) (sym c.op-item.is) in
    let refused = Some c.in-Err.refusal in
    let before = c.loop-op.answers.items in
    let new = c.call.new.guard in
    record {
      calls = subst (λ answers. CallsAll Tells c.args.guard.now ops answers refused new) (append-nil before) (was.1 [] refused new
          (subst (λ os. CallsAll Tells (c.loop-op.guard) os [] refused new) (sym is) (inl (refl, c.in-Err.refusal, refl, (c.in-Err.ensures.refusal, c.in-Err.ensures.err)))));
      pass = subst (λ answers. CallsAll Notes c.args.pass.now ops answers refused c.call.new.pass) (append-nil before) (was.2 [] refused c.call.new.pass
          (subst (λ os. CallsAll Notes c.loop-op.pass os [] refused c.call.new.pass) (sym is) (inl (refl, c.in-Err.refusal, refl, c.in-Err.ensures.pass))));
      err = tt;
    }

pub returns : goal.returns
returns g c =
    let was = c.loop-op.invariant in
    let ops = c.args.ops.now in
    let none = drop_all c.loop-op.op-index ops c.loop-op-test.false in
    let before = c.loop-op.answers.items in
    let new = c.loop-op.guard in
    record {
      calls = subst (λ answers. CallsAll Tells c.args.guard.now ops answers None new) (append-nil before) (was.1 [] None new
          (subst (λ os. CallsAll Tells new os [] None new) (sym none) (refl, refl, refl)));
      pass = subst (λ answers. CallsAll Notes c.args.pass.now ops answers None c.loop-op.pass) (append-nil before) (was.2 [] None c.loop-op.pass
          (subst (λ os. CallsAll Notes c.loop-op.pass os [] None c.loop-op.pass) (sym none) (refl, refl, refl)));
      err = tt;
    }
