use Rattle.std.proofs.Common.{◌∙◌, ap, subst, sym}
use Rattle.std.proofs.lemmas.Result.{IfOk-weaker}
use Rattle.amqp_events.specs.Table.{in_range}
use Rattle.amqp_deliveries.specs.Held.{items_of}
use Rattle.amqp_deliveries.specs.Change.{Names}
use Rattle.amqp_deliveries.proofs.Ended.{said_ended, heard_ended, said_quiet, heard_quiet}
use Rattle.amqp_deliveries.proofs.tables.Tables.ended_by.Goals as goal

pub returns-then-said : goal.returns-then-said
returns-then-said c =
    let settled = ap (λ d. d.settled) (sym c.said.view_is) ∙ c.if-said.true in
    record {
      said = IfOk-weaker c.named_in.result _ _
          (λ v names. said_ended c.args.role c.args.said.now c.args.self.now v.items settled
          (subst (λ items. Names c.args.role (in_range c.args.said.now.first c.args.said.now.last) items v.items) c.of.ensures
          (subst (λ d. Names c.args.role (in_range d.first d.last) (items_of c.of.result.now) v.items) c.said.view_is names)))
          c.named_in.ensures;
      heard = IfOk-weaker c.named_in.result _ _
          (λ v names. heard_ended c.args.role c.args.said.now c.args.self.now v.items settled
          (subst (λ items. Names c.args.role (in_range c.args.said.now.first c.args.said.now.last) items v.items) c.of.ensures
          (subst (λ d. Names c.args.role (in_range d.first d.last) (items_of c.of.result.now) v.items) c.said.view_is names)))
          c.named_in.ensures;
    }

pub returns-else-said : goal.returns-else-said
returns-else-said c =
    let settled = ap (λ d. d.settled) (sym c.said.view_is) ∙ c.if-said.false in
    record {
      said = c.new.ensures.items ∙ said_quiet c.args.role c.args.said.now c.args.self.now settled;
      heard = c.new.ensures.items ∙ heard_quiet c.args.role c.args.said.now c.args.self.now settled;
    }
