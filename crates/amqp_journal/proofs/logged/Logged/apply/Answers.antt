use Rattle.std.proofs.Common.{◌++◌, rules, subst, inl, ◌<◌, ◌≤◌, length}
use Rattle.amqp_journal.specs.Log.{Log}
use Rattle.amqp_journal.specs.Kept.{IsKept}
use Rattle.amqp_laws.specs.Past.{past}
use Rattle.amqp_laws.specs.At.{at}
use Rattle.amqp_journal.proofs.Due.{own-answers, own-next, own-appends, own-refused, own-full}
use Rattle.amqp_journal.proofs.Keeping.{kept-step, steps-are, logged-parts, own-leaves}
use Rattle.amqp_journal.proofs.Counting.{counted-same}
use Rattle.amqp_journal.proofs.logged.Logged.apply.Goals as goal

pub returns-then-steps-self-clause-refusal : goal.returns-then-steps-self-clause-refusal
returns-then-steps-self-clause-refusal c =
    let s = steps-are _ c.self.inside.endpoint c.self.inside.waiting.items c.self.invariant.0 in inl (own-full c.args.self.now c.args.op.now (subst (λ (l : Log). l.config.journal_limit ≤ length l.journal) c.self.view_is (search (rules, s))))

pub invariant_of-self-in-Ok-own : goal.invariant_of-self-in-Ok-own
invariant_of-self-in-Ok-own c =
    let s = steps-are _ c.self.inside.endpoint c.self.inside.waiting.items c.self.invariant.0 in
    let w = at c.self.inside.config (past (c.self.inside.gone.items ++ c.self.inside.journal.items)) in (
      kept-step
          c.self.inside.config
          c.self.inside.gone.items
          c.self.inside.journal.items
          c.push_reserved.new.self.items
          c.self.inside.put.items
          c.self.inside.popped
          c.self.inside.left.items
          c.room_for_own.new.left.items
          c.self.inside.endpoint
          c.own.new.self
          c.self.inside.waiting.items
          c.queue.new.waiting.items
          c.in-Ok.own
          c.in-Ok-own.done.reply
          c.in-Ok-own.done.octets
          (c.laws.ensures.goes_on c.self.inside.config)
          c.self.invariant.0
          (search (rules, s))
          (own-answers c.self.inside.endpoint w c.args.op.now c.in-Ok.own c.in-Ok-own.done.reply c.self.invariant.0.is_at c.in-Ok.ensures.step c.in-Ok-own.ensures.done.due)
          (own-next c.self.inside.endpoint w c.own.new.self c.args.op.now c.in-Ok.own c.self.invariant.0.is_at c.in-Ok.ensures.step c.in-Ok-own.ensures.done.leaves)
          c.in-Ok-own.ensures.done.octets
          (search rules)
          (search rules),
      c.queue.ensures.counted (counted-same c.self.inside.octets c.self.inside.waiting.items c.room_for_own.new.waiting.items (search rules) c.self.invariant.1),
    )

pub returns-in-Ok-own-clause-step : goal.returns-in-Ok-own-clause-step
returns-in-Ok-own-clause-step c =
    let s = steps-are _ c.self.inside.endpoint c.self.inside.waiting.items c.self.invariant.0 in
    let k = subst (λ (l : Log). IsKept l c.self.inside.endpoint c.self.inside.waiting.items) c.self.view_is c.self.invariant.0 in
    own-appends c.args.self.now _ c.self.inside.endpoint c.own.new.self c.self.inside.waiting.items c.args.op.now c.in-Ok.own c.in-Ok-own.done k (subst (λ (l : Log). length l.journal < l.config.journal_limit) c.self.view_is (search (rules, s))) c.in-Ok-own.ensures.done c.in-Ok.ensures.step (logged-parts c.args.self.now c.self.inside.config c.self.inside.gone.items c.self.inside.journal.items c.push_reserved.new.self.items c.self.inside.put.items c.self.inside.popped c.self.inside.left.items c.room_for_own.new.left.items c.in-Ok.own c.in-Ok-own.done.reply c.self.view_is (search rules) (own-leaves c.self.inside.config (c.self.inside.gone.items ++ c.self.inside.journal.items) c.self.inside.endpoint c.args.op.now c.in-Ok.own c.self.inside.left.items c.room_for_own.new.left.items c.self.invariant.0.is_at c.in-Ok.ensures.step c.in-Ok.ensures.left))

pub returns-in-Err-own-clause-refusal : goal.returns-in-Err-own-clause-refusal
returns-in-Err-own-clause-refusal c =
    let s = steps-are _ c.self.inside.endpoint c.self.inside.waiting.items c.self.invariant.0 in
    let k = subst (λ (l : Log). IsKept l c.self.inside.endpoint c.self.inside.waiting.items) c.self.view_is c.self.invariant.0 in
    own-refused c.args.self.now c.self.inside.endpoint c.self.inside.waiting.items c.args.op.now c.in-Err-own.refusal k (subst (λ (l : Log). length l.journal < l.config.journal_limit) c.self.view_is (search (rules, s))) c.in-Err-own.ensures.done

pub returns-in-Err-clause-refusal : goal.returns-in-Err-clause-refusal
returns-in-Err-clause-refusal c =
    let s = steps-are _ c.self.inside.endpoint c.self.inside.waiting.items c.self.invariant.0 in
    let k = subst (λ (l : Log). IsKept l c.self.inside.endpoint c.self.inside.waiting.items) c.self.view_is c.self.invariant.0 in
    own-refused c.args.self.now c.self.inside.endpoint c.self.inside.waiting.items c.args.op.now c.own_refused.result k (subst (λ (l : Log). length l.journal < l.config.journal_limit) c.self.view_is (search (rules, s))) c.own_refused.ensures
