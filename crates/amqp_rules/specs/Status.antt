-- The windows, a link and what waits on it, as they are shown.
use Rattle.std.specs.Prelude.{ℕ, ◌||◌, Bool, cond, Option, None, Some, option_map, find, is_some, length, List, [], slice_get}
use Rattle.amqp_performatives.specs.declared.bodies.Role.{Role}
use Rattle.amqp_performatives.specs.declared.bodies.Role.TheVariants.{Sender, Receiver}
use Rattle.amqp_flow.specs.Windows.{next_outgoing}
use Rattle.amqp_flow.specs.Credit.{CreditView, delivery_count}
use Rattle.amqp_flow.specs.Receiver.{has_open_drain}
use Rattle.amqp_waiting.specs.declared.item.Verdict.{Verdict}
use Rattle.amqp_waiting.specs.Waiting.{WaitingItem}
use Rattle.amqp_rules.specs.declared.status.WindowView.{WindowView}
use Rattle.amqp_rules.specs.declared.status.LinkStatus.{LinkStatus}
use Rattle.amqp_rules.specs.declared.status.LinkPhase.{LinkPhase}
use Rattle.amqp_rules.specs.declared.status.LinkPhase.TheVariants.{Asked, Offered, Attached, Leaving}
use Rattle.amqp_rules.specs.View.{View, LinkView, next_delivery, has_number}

abbrev pub windows_of : View → WindowView
windows_of v =
    record {
      next_in = v.windows.next_incoming;
      incoming = v.windows.incoming;
      next_out = next_outgoing v.windows;
      remote_in = v.windows.remote_incoming;
      remote_out = v.windows.remote_outgoing;
      next_delivery = next_delivery v;
    }

abbrev pub phase_of : LinkView → LinkPhase
phase_of l = cond l.left Leaving (cond (is_some l.ours) (cond (is_some l.theirs) Attached Asked) Offered)

-- a sender is wished to drain; a receiver's drain is open
abbrev pub drain_of : Role → CreditView → Bool
drain_of Sender c = c.drain
drain_of Receiver c = has_open_drain c

abbrev pub link_status : LinkView → LinkStatus
link_status l =
    record {
      role = l.role;
      phase = phase_of l;
      count = delivery_count l.credit;
      credit = l.credit.credit;
      drain = drain_of l.role l.credit;
      mid = is_some l.sending || is_some l.receiving;
      ready = length l.ready;
    }

abbrev pub status_of : View → ℕ → Option LinkStatus
status_of v link = option_map link_status (find (has_number link) v.links)

abbrev pub waiting_of : Option LinkView → List WaitingItem
waiting_of None = []
waiting_of (Some l) = l.waiting

-- the tag of the delivery that waits at this place on the link with this number, and what becomes of it; none past the end, or where there is no such link
abbrev pub waiting_shown : View → ℕ → ℕ → Option (List ℕ × Verdict)
waiting_shown v link place = option_map (λ w. (w.tag, w.verdict)) (slice_get (waiting_of (find (has_number link) v.links)) place)
