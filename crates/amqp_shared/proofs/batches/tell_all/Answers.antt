use Rattle.std.proofs.Common.{Ok, Err, refl, sym, ap, subst, ◌∙◌}
use Rattle.amqp_shared.specs.Consuming.{Tells, Asks}
use Rattle.amqp_shared.specs.Batching.{InHand, TellsAll, Closes}
use Rattle.amqp_shared.proofs.batches.tell_all.Goals as goal

pub loop-one-preserved : goal.loop-one-preserved
loop-one-preserved g c =
    let was = c.loop-one.invariant in
    let is = c.in-Some.ensures.some in
    let judged = ap (λ (b : InHand). b.judged) is in
    let now = (c.loop-one.guard).conn in (
      sym (ap (λ (b : InHand). b.more) is) ∙ was.0,
      λ result after h. was.1 result after
          (subst (λ js. TellsAll Tells js c.loop-one.begun now result after) (sym judged) (Ok c.in-Ok.begun, c.go_to.new.guard.conn, c.in-Ok.ensures.tells, h)),
      λ result after h. was.2 result after
          (subst (λ js. TellsAll Asks js c.loop-one.begun c.loop-one.pass result after) (sym judged) (Ok c.in-Ok.begun, c.go_to.new.pass, c.in-Ok.ensures.asks, h)),
    )

pub returns-in-Err : goal.returns-in-Err
returns-in-Err g c =
    let was = c.loop-one.invariant in
    let is = c.in-Some.ensures.some in
    let judged = ap (λ (b : InHand). b.judged) is in
    let now = (c.loop-one.guard).conn in
    let after = c.go_to.new.guard.conn in
    let stopped = Err c.in-Err.refusal in
    record {
      tells = was.1 stopped after (subst (λ js. TellsAll Tells js c.loop-one.begun now stopped after) (sym judged) (Err c.in-Err.refusal, after, c.in-Err.ensures.tells, (refl, refl)));
      asks = was.2 stopped c.go_to.new.pass
          (subst (λ js. TellsAll Asks js c.loop-one.begun c.loop-one.pass stopped c.go_to.new.pass) (sym judged) (Err c.in-Err.refusal, c.go_to.new.pass, c.in-Err.ensures.asks, (refl, refl)));
      room = sym (ap (λ (b : InHand). b.more) is) ∙ was.0;
    }

pub returns-in-None : goal.returns-in-None
returns-in-None g c =
    let was = c.loop-one.invariant in
    let none = c.in_default.ensures.none in
    let now = (c.loop-one.guard).conn in
    record {
      tells = was.1 (Ok tt) now (subst (λ js. TellsAll Tells js c.loop-one.begun now (Ok tt) now) (sym none.0) (subst (λ o. Closes Tells o now (Ok tt) now) (sym c.in-None.is) (refl, refl)));
      asks = was.2 (Ok tt) c.loop-one.pass
          (subst (λ js. TellsAll Asks js c.loop-one.begun c.loop-one.pass (Ok tt) c.loop-one.pass) (sym none.0) (subst (λ o. Closes Asks o c.loop-one.pass (Ok tt) c.loop-one.pass) (sym c.in-None.is) (refl, refl)));
      room = ap (λ (b : InHand). b.more) none.1 ∙ was.0;
    }

pub returns-in-Some-begun : goal.returns-in-Some-begun
returns-in-Some-begun g c =
    let was = c.loop-one.invariant in
    let none = c.in_default.ensures.none in
    let now = (c.loop-one.guard).conn in
    let after = c.tell_span.new.guard.conn in
    let told = c.tell_span.result in
    record {
      tells = was.1 told after
          (subst (λ js. TellsAll Tells js c.loop-one.begun now told after) (sym none.0) (subst (λ o. Closes Tells o now told after) (sym c.in-Some-begun.is) c.tell_span.ensures.tells));
      asks = was.2 told c.tell_span.new.pass
          (subst (λ js. TellsAll Asks js c.loop-one.begun c.loop-one.pass told c.tell_span.new.pass) (sym none.0)
          (subst (λ o. Closes Asks o c.loop-one.pass told c.tell_span.new.pass) (sym c.in-Some-begun.is) c.tell_span.ensures.asks));
      room = ap (λ (b : InHand). b.more) none.1 ∙ was.0;
    }
