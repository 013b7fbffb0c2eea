use Rattle.std.proofs.Common.{Ok, sym, ap, ◌∙◌, length}
use Rattle.amqp_journal.specs.Log.{Log}
use Rattle.amqp_journal.specs.declared.receipt.Receipt.{Receipt}
use Rattle.amqp_conn.specs.Connection.{Connection}
use Rattle.amqp_shared.proofs.Growth.{operation_grows, pushed-stands}
use Rattle.amqp_shared.proofs.Due.{fits, is-receipt}
use Rattle.amqp_shared.proofs.locked.Locked.apply.Goals as goal

pub push_units-requires : goal.push_units-requires
push_units-requires g c =
    let v = c.self.invariant in
    record { pushed = v.pushed_is ∙ sym (pushed-stands c.self.inside.conn.core c.apply.new.self.core 1 (operation_grows c.self.inside.conn.core c.apply.new.self.core c.args.op.now (Ok c.in-Ok.given) c.recall.ensures.within c.in-Ok.ensures.does) v.no_more_moved) }

pub returns-in-Ok-clause-fits : goal.returns-in-Ok-clause-fits
returns-in-Ok-clause-fits g c = fits c.args.op.now c.self.inside.conn.core c.apply.new.self.core c.in-Ok.given c.in-Ok.ensures.does

pub returns-in-Ok-clause-receipt : goal.returns-in-Ok-clause-receipt
returns-in-Ok-clause-receipt g c =
    let r = c.receipt_of.ensures in
    let same = ap (λ (x : Connection). x.core.log.journal) c.push_units.ensures.moves.rest in
    let kept = ap (λ (x : Connection). x.core.log.forgotten) c.push_units.ensures.moves.rest in
    let place = ap (λ (x : Receipt). x.place) r ∙ c.steps-place.ensures ∙ ap (λ (l : Log). length l.journal) c.logged.ensures in
    is-receipt c.self.inside.conn.core c.apply.new.self.core c.args.op.now c.in-Ok.given c.push_units.new.conn.core.log c.receipt_of.result c.in-Ok.ensures.does same kept c.recall.ensures.stored place (ap (λ (x : Receipt). x.link) r) (ap (λ (x : Receipt). x.id) r)
