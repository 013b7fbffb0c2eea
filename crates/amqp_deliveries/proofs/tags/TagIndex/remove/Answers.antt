use Rattle.std.proofs.Common.{sym, ap, refl, ◌∙◌, false, length}
use Rattle.amqp_deliveries.specs.Brief.{is_brief, padded}
use Rattle.amqp_deliveries.specs.Tags.{has_key}
use Rattle.amqp_deliveries.proofs.Index.{brief_moved, other_moved, tag_removed}
use Rattle.amqp_deliveries.proofs.tags.TagIndex.remove.Goals as goal

pub returns-in-Some : goal.returns-in-Some
returns-in-Some c = λ before after alone index link tag.
    let k = c.in-Some.ensures in
    brief_moved c.args.self.now (record { brief = c.remove.new.self; keys = c.args.self.now.keys }) c.in-Some.key c.args.entry.now false (k.0 ∙ c.link.ensures) (k.1 ∙ ap length c.tag.ensures) (k.2 ∙ ap padded c.tag.ensures) (ap is_brief (sym c.tag.ensures) ∙ k.3) c.remove.ensures.updates.0 refl link tag
    ∙ tag_removed before c.args.entry.now after link tag (has_key c.args.self.now link tag) alone (index link tag)

pub returns-in-None : goal.returns-in-None
returns-in-None c = λ before after alone index link tag.
    other_moved c.args.self.now (record { brief = c.args.self.now.brief; keys = c.remove-in-None.new.self }) c.key_of.result c.args.entry.now false c.key_of.ensures.0 c.key_of.ensures.1 (ap is_brief (sym c.tag.ensures) ∙ c.in-None.ensures) c.remove-in-None.ensures.updates.0 refl link tag
    ∙ tag_removed before c.args.entry.now after link tag (has_key c.args.self.now link tag) alone (index link tag)
