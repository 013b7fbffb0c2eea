use Rattle.std.proofs.Common.{◌≡◌, ◌∙◌, sym, subst}
use Rattle.amqp_events.specs.Event as event
use Rattle.amqp_deliveries.specs.Change.{TablesView, tables_after}
use Rattle.amqp_deliveries.specs.declared.change.Change.TheVariants as change
use Rattle.amqp_deliveries.proofs.Spoken.{leave_ends}
use Rattle.amqp_deliveries.proofs.Both.{both, both_changed}
use Rattle.amqp_deliveries.proofs.tables.Tables.leave.Goals as goal

pub returns : goal.returns
returns c =
    let P : TablesView → Type 0 = λ t. both c.end_link.new.self c.end_link-2.new.self ≡ tables_after (change.Leaves c.args.link) t in
    subst P c.self.view_is
    (both_changed (event.Leaves c.args.link) c.self.inside.sent c.self.inside.received c.end_link.new.self c.end_link-2.new.self
    (c.end_link.ensures ∙ sym (leave_ends c.args.link c.self.inside.sent)) (c.end_link-2.ensures ∙ sym (leave_ends c.args.link c.self.inside.received)))
