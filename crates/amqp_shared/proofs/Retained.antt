-- A session that forgets as its retention allows goes on as before.
use Rattle.std.proofs.Common.{◌≡◌, ℕ, List, Option}
use Rattle.amqp_journal.specs.declared.unit.Unit as frame
use Rattle.amqp_conn.specs.Connection.{Connection}
use Rattle.amqp_shared.specs.Ring.{Ring}
use Rattle.amqp_shared.specs.Retaining.{forgetting_by}
use Rattle.amqp_shared.specs.Session.{IsHeld}
use Rattle.amqp_shared.specs.declared.retention.Retention.{Retention}
use Rattle.amqp_shared.specs.declared.retention.Retention.TheVariants.{All, UntilForgotten}

pub forgetting-held : (retention due : Retention) (c : Connection) (total : ℕ) (pushed : List frame.Unit) (free limit : ℕ) (ring own : Option Ring) (parts : ℕ)
    → IsHeld c total pushed free limit ring own parts retention due → IsHeld (forgetting_by retention c) total pushed free limit ring own parts retention due
forgetting-held All due c total pushed free limit ring own parts h = h
forgetting-held UntilForgotten due c total pushed free limit ring own parts h =
    record {
      counted = h.counted;
      pushed_is = h.pushed_is;
      no_more_moved = h.no_more_moved;
      full = h.full;
      ring_is = h.ring_is;
      all_parts = h.all_parts;
      limited = h.limited;
      retention_is = h.retention_is;
      retained = λ all. absurd (let is = h.retention_is in let kept = all in cc);
    }
