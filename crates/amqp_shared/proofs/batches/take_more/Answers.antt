use Rattle.std.proofs.Common.{◌≡◌, ◌+◌, ◌-◌, ◌++◌, [], ◌∷◌, suc, List, length, refl, sym, ap, subst, ◌∙◌, append-nil, length-append, arith}
use Rattle.amqp_rules.specs.declared.reply.Taken.{Taken}
use Rattle.amqp_shared.specs.Passes.{Tally}
use Rattle.amqp_shared.specs.Batching.{InHand, TakesMore}
use Rattle.amqp_shared.proofs.Found.{together}
use Rattle.amqp_shared.proofs.batches.take_more.Goals as goal

pub loop-guard-preserved : goal.loop-guard-preserved
loop-guard-preserved g c =
    let (none, few, taken, is, rest) = c.loop-guard.invariant in
    let item = c.in-Some.item in
    let some = c.in-Some.ensures.some in
    let put = c.put.ensures in
    let room = c.has_room.ensures.room c.loop-guard-test.true in
    let more = ap (λ (b : InHand). b.more) is in
    let longer = ap (λ (b : InHand). length b.items) put ∙ length-append c.loop-guard.batch.items (item ∷ []) in (
      ap (λ (b : InHand). b.judged) put ∙ none,
      omega (arith, room, more, longer),
      taken ++ item ∷ [],
      put ∙ ap (λ (b : InHand). record b { items = b.items ++ item ∷ [] }) is ∙ ap (λ (ts : List Taken). record c.args.batch.now { items = ts }) (together c.args.batch.now.items taken (item ∷ [])),
      λ ts room after h. subst (λ xs. TakesMore c.args.link xs room c.args.pass.now after) (sym (together taken (item ∷ []) ts))
          (rest (item ∷ ts) room after (some.0, some.1, subst (λ (p : Tally). TakesMore c.args.link ts room p after) some.2 h)),
    )

pub returns-in-None : goal.returns-in-None
returns-in-None g c =
    let (none, few, taken, is, rest) = c.loop-guard.invariant in
    let most = c.args.batch.now.more in
    let many = length c.loop-guard.batch.items in
    let room = c.has_room.ensures.room c.loop-guard-test.true in
    let more = ap (λ (b : InHand). b.more) is in
    let one : most + 1 - many ≡ suc (most - many) = omega (arith, room, more) in
    record {
      few = few;
      more = (
        taken,
        is,
        subst (λ n. TakesMore c.args.link taken n c.args.pass.now c.take_one.new.pass) (sym one)
            (subst (λ ts. TakesMore c.args.link ts (suc (most - many)) c.args.pass.now c.take_one.new.pass) (append-nil taken) (rest [] (suc (most - many)) c.take_one.new.pass (c.in-None.ensures.none (most - many)))),
      );
    }

pub returns : goal.returns
returns g c =
    let (none, few, taken, is, rest) = c.loop-guard.invariant in
    let most = c.args.batch.now.more in
    let many = length c.loop-guard.batch.items in
    let full = c.has_room.ensures.full c.loop-guard-test.false in
    let no_judged = ap length none in
    let more = ap (λ (b : InHand). b.more) is in
    let full_now : most + 1 - many ≡ 0 = omega (arith, full, more, no_judged) in
    record {
      few = few;
      more = (
        taken,
        is,
        subst (λ n. TakesMore c.args.link taken n c.args.pass.now c.loop-guard.pass) (sym full_now)
            (subst (λ ts. TakesMore c.args.link ts 0 c.args.pass.now c.loop-guard.pass) (append-nil taken) (rest [] 0 c.loop-guard.pass refl)),
      );
    }
