use Rattle.std.proofs.Common.{◌∙◌, ap, sym}
use Rattle.std.proofs.lemmas.Result.{IfOk-weaker}
use Rattle.amqp_deliveries.specs.declared.change.Change.{Change}
use Rattle.amqp_deliveries.specs.Change.{ended_in}
use Rattle.amqp_deliveries.proofs.tables.Tables.ids_ended.Goals as goal

pub returns-in-Continues : goal.returns-in-Continues
returns-in-Continues c =
    IfOk-weaker c.ended_later.result _ _ (λ v h. h c.in-Continues.field-2 ∙ ap (λ (x : Change). ended_in x c.args.self.now) (sym c.in-Continues.is)) c.ended_later.ensures

pub returns-in-Says : goal.returns-in-Says
returns-in-Says c = IfOk-weaker c.ended_by.result _ _ (λ v h. h ∙ ap (λ (x : Change). ended_in x c.args.self.now) (sym c.in-Says.is)) c.ended_by.ensures.said

pub returns-in-Hears : goal.returns-in-Hears
returns-in-Hears c =
    IfOk-weaker c.ended_by-in-Hears.result _ _ (λ v h. h ∙ ap (λ (x : Change). ended_in x c.args.self.now) (sym c.in-Hears.is)) c.ended_by-in-Hears.ensures.heard
