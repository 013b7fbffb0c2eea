use Rattle.std.proofs.Common.{◌≡◌, ◌==◌, ◌∙◌, Bool, List, subst, sym}
use Rattle.std.proofs.lemmas.Result.{IfOk-weaker}
use Rattle.amqp_events.specs.Event.{Item}
use Rattle.amqp_deliveries.specs.Change.{Names, ended_in}
use Rattle.amqp_deliveries.specs.declared.change.Change.TheVariants as change
use Rattle.amqp_deliveries.proofs.Ended.{later_ended, later_quiet}
use Rattle.amqp_deliveries.proofs.tables.Tables.ended_later.Goals as goal

pub returns-then-over : goal.returns-then-over
returns-then-over c =
    IfOk-weaker c.named_one.result _ _
    (λ v names state.
    let N : List Item → Type 0 = λ items. Names c.args.role (λ i. i.id == c.args.id) items v.items in
    let P : Bool → Type 0 = λ b. v.items ≡ ended_in (change.Continues c.args.role c.args.id state b) c.args.self.now in
    subst P (sym c.if-over.true) (later_ended c.args.role c.args.id state c.args.self.now v.items (subst N c.of.ensures names)))
    c.named_one.ensures

pub returns-else-over : goal.returns-else-over
returns-else-over c = λ state.
    let P : Bool → Type 0 = λ b. c.new.result.items ≡ ended_in (change.Continues c.args.role c.args.id state b) c.args.self.now in
    subst P (sym c.if-over.false) (c.new.ensures.items ∙ later_quiet c.args.role c.args.id state c.args.self.now)
