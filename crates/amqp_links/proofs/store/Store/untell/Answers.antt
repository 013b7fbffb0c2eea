use Rattle.std.proofs.Common.{refl}
use Rattle.amqp_links.specs.Fate.{without_last_told}
use Rattle.amqp_links.proofs.Indexing.{alike-after}
use Rattle.amqp_links.proofs.Tellings.{left-next, left-none, nothing}
use Rattle.amqp_links.proofs.store.Store.untell.Goals as goal

pub loop-number-init : goal.loop-number-init
loop-number-init c = (record { list = refl; made = refl }, λ ts ls a b. (ts, a, b))

pub loop-number-preserved : goal.loop-number-preserved
loop-number-preserved c = (
  rw c.untell_one.ensures.changed (alike-after c.args.self.now c.loop-number.self c.in-Some.number without_last_told (λ l. refl) c.loop-number.invariant.0),
  λ ts ls a b. rw c.untell_one.ensures.changed
      (left-next ls c.loop-number.self c.pop.new.self.items c.in-Some.number c.untell_one.ensures.numbered (rw c.in-Some.ensures.items at (c.loop-number.invariant.1 ts ls a b))),
)

pub returns-clause-alike : goal.returns-clause-alike
returns-clause-alike c = c.loop-number.invariant.0

pub returns-clause-back : goal.returns-clause-back
returns-clause-back c ts ls a b =
    left-none ls c.loop-number.self c.loop-number.links.items (nothing c.loop-number.links.items (rw (← c.loop-number.links.ok.0) c.in_default.ensures.cases.0)) (c.loop-number.invariant.1 ts ls a b)
