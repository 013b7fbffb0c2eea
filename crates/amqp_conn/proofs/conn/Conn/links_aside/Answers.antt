use Rattle.std.proofs.Common.{◌≡◌, ap, ◌∙◌, subst, IfOk}
use Rattle.amqp_journal.specs.Log.{Log}
use Rattle.amqp_laws.specs.At.{at}
use Rattle.amqp_laws.specs.Past.{past}
use Rattle.amqp_rules.specs.View.{View}
use Rattle.amqp_links.specs.Rejoining.{all_aside}
use Rattle.amqp_conn.proofs.conn.Conn.links_aside.Goals as goal

pub returns : goal.returns
returns c =
    subst (λ (v : View). IfOk c.links_aside.result (λ w. w.items ≡ all_aside v c.args.role)) (c.endpoint.ensures ∙ ap (λ (l : Log). at l.config (past l.journal)) c.logged.ensures)
    c.links_aside.ensures
