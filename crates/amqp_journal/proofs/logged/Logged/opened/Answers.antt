use Rattle.std.proofs.Common.{◌++◌, inl, None, ◌∙◌, ap, refl, sym, rules, append-nil, ◌<◌, ◌≤◌, length, subst}
use Rattle.amqp_rules.specs.Opened.{no_reply, next_opened}
use Rattle.amqp_laws.specs.declared.entry.Step.TheVariants.{Opened}
use Rattle.amqp_journal.specs.Log.{Log}
use Rattle.amqp_journal.proofs.Due.{opened-full, opened-wanting}
use Rattle.amqp_journal.proofs.Keeping.{kept-step, steps-are, logged-parts, opened-leaves}
use Rattle.amqp_journal.proofs.logged.Logged.opened.Goals as goal

pub invariant_of-self-2 : goal.invariant_of-self-2
invariant_of-self-2 c =
    let s = steps-are _ c.self.inside.endpoint c.self.inside.waiting.items c.self.invariant.0 in (
      kept-step
          c.self.inside.config
          c.self.inside.gone.items
          c.self.inside.journal.items
          c.push_reserved.new.self.items
          c.self.inside.put.items
          c.self.inside.popped
          c.self.inside.left.items
          c.self.inside.left.items
          c.self.inside.endpoint
          c.opened.new.self
          c.self.inside.waiting.items
          c.self.inside.waiting.items
          (Opened c.args.max)
          no_reply
          None
          (c.laws.ensures.goes_on c.self.inside.config)
          c.self.invariant.0
          (search (rules, s))
          refl
          (c.opened.ensures ∙ ap (λ v. next_opened v c.args.max) c.self.invariant.0.is_at)
          refl
          (search rules)
          (sym (append-nil c.self.inside.waiting.items)),
      c.self.invariant.1,
    )

pub returns-then-steps-self-clause-refusal : goal.returns-then-steps-self-clause-refusal
returns-then-steps-self-clause-refusal c =
    let s = steps-are _ c.self.inside.endpoint c.self.inside.waiting.items c.self.invariant.0 in inl (opened-full c.args.self.now (subst (λ (l : Log). l.config.journal_limit ≤ length l.journal) c.self.view_is (search (rules, s))))

pub returns-in_default-clause-refusal : goal.returns-in_default-clause-refusal
returns-in_default-clause-refusal c =
    let s = steps-are _ c.self.inside.endpoint c.self.inside.waiting.items c.self.invariant.0 in
    opened-wanting c.args.self.now (subst (λ (l : Log). length l.journal < l.config.journal_limit) c.self.view_is (search (rules, s)))

pub returns-clause-step : goal.returns-clause-step
returns-clause-step c =
    logged-parts
    c.args.self.now
    c.self.inside.config
    c.self.inside.gone.items
    c.self.inside.journal.items
    c.push_reserved.new.self.items
    c.self.inside.put.items
    c.self.inside.popped
    c.self.inside.left.items
    c.self.inside.left.items
    (Opened c.args.max)
    no_reply
    c.self.view_is
    (search rules)
    (opened-leaves c.self.inside.config (c.self.inside.gone.items ++ c.self.inside.journal.items) c.args.max c.self.inside.left.items)
