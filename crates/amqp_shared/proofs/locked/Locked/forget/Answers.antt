use Rattle.std.proofs.Common.{◌≡◌, sym, ap, subst, ◌∙◌}
use Rattle.rtrb.specs.Ring.{sent, known_free}
use Rattle.amqp_conn.specs.Connection.{Connection}
use Rattle.amqp_shared.specs.Ring.{pushes_to}
use Rattle.amqp_shared.specs.Retaining.{forgetting_by, may_forget}
use Rattle.amqp_shared.specs.Session.{IsHeld}
use Rattle.amqp_shared.specs.Waking.{Held}
use Rattle.amqp_shared.specs.declared.retention.Retention.{Retention}
use Rattle.amqp_shared.proofs.Retained.{forgetting-held}
use Rattle.amqp_shared.proofs.locked.Locked.forget.Goals as goal

pub invariant_of-self : goal.invariant_of-self
invariant_of-self g c =
    let i = c.self.inside in
    subst
    (λ (k : Connection). IsHeld k i.book.total (sent i.producer) (known_free i.producer) i.limit (pushes_to i.producer) g.N.Name.ring g.N.Ledger.parts i.retention g.N.Name.retention)
    (sym c.forget_by.ensures.forgets)
    (forgetting-held i.retention g.N.Name.retention i.conn i.book.total (sent i.producer) (known_free i.producer) i.limit (pushes_to i.producer) g.N.Name.ring g.N.Ledger.parts c.self.invariant)

pub returns-clause-forgets : goal.returns-clause-forgets
returns-clause-forgets g c =
    let i = c.self.inside in
    ap (λ (k : Connection). record { conn = k; waiters = i.waiters }) (c.forget_by.ensures.forgets ∙ ap (λ (r : Retention). forgetting_by r i.conn) c.self.invariant.retention_is)
    ∙ ap (λ (h : Held). record h { conn = forgetting_by g.N.Name.retention h.conn }) c.self.view_is

pub returns-clause-forgot : goal.returns-clause-forgot
returns-clause-forgot g c = c.forget_by.ensures.forgot ∙ ap may_forget c.self.invariant.retention_is
