use Rattle.std.proofs.Common.{◌++◌, rules, subst, sym, inl, refl, ◌<◌, ◌≤◌, length}
use Rattle.amqp_journal.specs.Log.{Log}
use Rattle.amqp_journal.specs.Kept.{IsKept}
use Rattle.amqp_journal.specs.Log.{IsRefusal, heard_due}
use Rattle.amqp_rules.specs.Refusing.{no_memory}
use Rattle.amqp_rules.specs.declared.violation.Violation.{Violation}
use Rattle.amqp_laws.specs.declared.entry.Step.TheVariants.{Heard}
use Rattle.amqp_laws.specs.Past.{past}
use Rattle.amqp_laws.specs.At.{at}
use Rattle.amqp_journal.proofs.Due.{heard-answers, heard-next, heard-appends, heard-refused, heard-full}
use Rattle.amqp_journal.proofs.Keeping.{kept-step, steps-are, logged-parts, heard-leaves}
use Rattle.amqp_journal.proofs.Counting.{counted-same}
use Rattle.amqp_journal.proofs.logged.Logged.hear.Goals as goal

pub returns-then-steps-self-clause-violation : goal.returns-then-steps-self-clause-violation
returns-then-steps-self-clause-violation c =
    let s = steps-are _ c.self.inside.endpoint c.self.inside.waiting.items c.self.invariant.0 in
    let P : Violation → Type 0 = λ (v : Violation). IsRefusal no_memory (heard_due c.args.self.now c.args.frame) v in
    subst P (sym c.unlinked.ensures) (inl (heard-full c.args.self.now c.args.frame (subst (λ (l : Log). l.config.journal_limit ≤ length l.journal) c.self.view_is (search (rules, s)))))

pub invariant_of-self-in-Ok-heard : goal.invariant_of-self-in-Ok-heard
invariant_of-self-in-Ok-heard c =
    let s = steps-are _ c.self.inside.endpoint c.self.inside.waiting.items c.self.invariant.0 in
    let w = at c.self.inside.config (past (c.self.inside.gone.items ++ c.self.inside.journal.items)) in (
      kept-step
          c.self.inside.config
          c.self.inside.gone.items
          c.self.inside.journal.items
          c.push_reserved.new.self.items
          c.self.inside.put.items
          c.self.inside.popped
          c.self.inside.left.items
          c.room_to_hear.new.left.items
          c.self.inside.endpoint
          c.heard.new.self
          c.self.inside.waiting.items
          c.queue.new.waiting.items
          (Heard c.args.frame)
          c.in-Ok-heard.done.reply
          c.in-Ok-heard.done.octets
          (c.laws.ensures.goes_on c.self.inside.config)
          c.self.invariant.0
          (search (rules, s))
          (heard-answers c.self.inside.endpoint w c.args.frame (Heard c.args.frame) c.in-Ok-heard.done.reply c.self.invariant.0.is_at refl (rw c.get-2.ensures at c.in-Ok-heard.ensures.done.due))
          (heard-next c.self.inside.endpoint w c.heard.new.self c.args.frame (Heard c.args.frame) c.self.invariant.0.is_at refl (rw c.get-2.ensures at c.in-Ok-heard.ensures.done.leaves))
          c.in-Ok-heard.ensures.done.octets
          (search rules)
          (search rules),
      c.queue.ensures.counted (counted-same c.self.inside.octets c.self.inside.waiting.items c.room_to_hear.new.waiting.items (search rules) c.self.invariant.1),
    )

pub returns-in-Ok-heard-clause-step : goal.returns-in-Ok-heard-clause-step
returns-in-Ok-heard-clause-step c =
    let s = steps-are _ c.self.inside.endpoint c.self.inside.waiting.items c.self.invariant.0 in
    let k = subst (λ (l : Log). IsKept l c.self.inside.endpoint c.self.inside.waiting.items) c.self.view_is c.self.invariant.0 in
    heard-appends c.args.self.now _ c.self.inside.endpoint c.heard.new.self c.self.inside.waiting.items c.args.frame (Heard c.args.frame) c.in-Ok-heard.done k (subst (λ (l : Log). length l.journal < l.config.journal_limit) c.self.view_is (search (rules, s))) (rw c.get-2.ensures at c.in-Ok-heard.ensures.done) refl (logged-parts c.args.self.now c.self.inside.config c.self.inside.gone.items c.self.inside.journal.items c.push_reserved.new.self.items c.self.inside.put.items c.self.inside.popped c.self.inside.left.items c.room_to_hear.new.left.items (Heard c.args.frame) c.in-Ok-heard.done.reply c.self.view_is (search rules) (heard-leaves c.self.inside.config (c.self.inside.gone.items ++ c.self.inside.journal.items) c.self.inside.endpoint c.args.frame (Heard c.args.frame) c.self.inside.left.items c.room_to_hear.new.left.items c.self.invariant.0.is_at refl (rw c.get.ensures at c.in-Ok.ensures.left)))

pub returns-in-Err-heard-clause-violation : goal.returns-in-Err-heard-clause-violation
returns-in-Err-heard-clause-violation c =
    let s = steps-are _ c.self.inside.endpoint c.self.inside.waiting.items c.self.invariant.0 in
    let k = subst (λ (l : Log). IsKept l c.self.inside.endpoint c.self.inside.waiting.items) c.self.view_is c.self.invariant.0 in
    heard-refused c.args.self.now c.self.inside.endpoint c.self.inside.waiting.items c.args.frame c.in-Err-heard.violation k (subst (λ (l : Log). length l.journal < l.config.journal_limit) c.self.view_is (search (rules, s))) (rw c.get-2.ensures at c.in-Err-heard.ensures.done)

pub returns-in-Err-clause-violation : goal.returns-in-Err-clause-violation
returns-in-Err-clause-violation c =
    let s = steps-are _ c.self.inside.endpoint c.self.inside.waiting.items c.self.invariant.0 in
    let k = subst (λ (l : Log). IsKept l c.self.inside.endpoint c.self.inside.waiting.items) c.self.view_is c.self.invariant.0 in
    heard-refused c.args.self.now c.self.inside.endpoint c.self.inside.waiting.items c.args.frame c.heard_refused-violation.result k (subst (λ (l : Log). length l.journal < l.config.journal_limit) c.self.view_is (search (rules, s))) (rw c.get-in-Err.ensures at c.heard_refused-violation.ensures)
