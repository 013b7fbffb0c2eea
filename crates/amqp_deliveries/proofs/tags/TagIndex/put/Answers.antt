use Rattle.std.proofs.Common.{sym, ap, refl, ◌∙◌, true, length}
use Rattle.amqp_deliveries.specs.Brief.{is_brief, padded}
use Rattle.amqp_deliveries.specs.Tags.{has_key}
use Rattle.amqp_deliveries.proofs.Index.{brief_moved, other_moved, tag_added}
use Rattle.amqp_deliveries.proofs.tags.TagIndex.put.Goals as goal

pub returns-in_ok-insert-in-Some-clause-ok : goal.returns-in_ok-insert-in-Some-clause-ok
returns-in_ok-insert-in-Some-clause-ok c = λ items index link tag.
    let k = c.in-Some.ensures in
    brief_moved c.args.self.now (record { brief = c.insert.new.self; keys = c.args.self.now.keys }) c.in-Some.key c.args.entry.now true (k.0 ∙ c.link.ensures) (k.1 ∙ ap length c.tag.ensures) (k.2 ∙ ap padded c.tag.ensures) (ap is_brief (sym c.tag.ensures) ∙ k.3) c.in_ok-insert-in-Some.ensures.updates.0 refl link tag
    ∙ tag_added items c.args.entry.now link tag (has_key c.args.self.now link tag) (index link tag)

pub returns-in_ok-insert-in-None-clause-ok : goal.returns-in_ok-insert-in-None-clause-ok
returns-in_ok-insert-in-None-clause-ok c = λ items index link tag.
    other_moved c.args.self.now (record { brief = c.args.self.now.brief; keys = c.insert-in-None.new.self }) c.key_of.result c.args.entry.now true c.key_of.ensures.0 c.key_of.ensures.1 (ap is_brief (sym c.tag.ensures) ∙ c.in-None.ensures) c.in_ok-insert-in-None.ensures.updates.0 refl link tag
    ∙ tag_added items c.args.entry.now link tag (has_key c.args.self.now link tag) (index link tag)
