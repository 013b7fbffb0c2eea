-- The windows of a session (OASIS AMQP 1.0, part 2, 2.5.6): how many transfers each end still takes.
use Rattle.std.specs.Prelude.{ℕ, ◌+◌, ◌-◌, nat_lt, Bool, Option, None, Some, option_map, unwrap_or}
use Rattle.amqp_flow.specs.declared.flow.SessionFlow.{SessionFlow}
use Rattle.amqp_flow.specs.Serial.{wire, distance, numbered}

pub record WindowsView : Type 0 where
  -- the id of our first transfer
  pub first : ℕ
  -- the incoming window that each begin and flow of ours tells
  pub window : ℕ
  -- how many transfers we sent
  pub sent : ℕ
  -- the id of the peer's next transfer, once its begin was heard
  pub next_incoming : Option ℕ
  -- how many transfers we still take
  pub incoming : ℕ
  -- how many transfers the peer still takes
  pub remote_incoming : ℕ
  -- how many transfers the peer is ready to send
  pub remote_outgoing : ℕ

-- next-outgoing-id: the id of our next transfer
abbrev pub next_outgoing : WindowsView → ℕ
next_outgoing w = wire (w.first + w.sent)

-- before anything was sent or heard
abbrev pub unused_windows : ℕ → ℕ → WindowsView
unused_windows first window =
    record { first = first; window = window; sent = 0; next_incoming = None; incoming = window; remote_incoming = 0; remote_outgoing = 0 }

-- a transfer is sent
abbrev pub windows_sent : WindowsView → WindowsView
windows_sent w = record w { sent = w.sent + 1; remote_incoming = w.remote_incoming - 1 }

-- a transfer is heard
abbrev pub windows_received : WindowsView → WindowsView
windows_received w =
    record w {
      next_incoming = option_map (λ n. wire (n + 1)) w.next_incoming;
      incoming = w.incoming - 1;
      remote_outgoing = w.remote_outgoing - 1;
    }

-- a begin or a flow of ours tells our window anew
abbrev pub windows_renewed : WindowsView → WindowsView
windows_renewed w = record w { incoming = w.window }

-- the peer's windows are known anew
abbrev pub windows_told : ℕ → ℕ → ℕ → WindowsView → WindowsView
windows_told next_outgoing_id remote_incoming remote_outgoing w =
    record w { next_incoming = Some (wire next_outgoing_id); remote_incoming = remote_incoming; remote_outgoing = remote_outgoing }

-- a begin of the peer tells its windows, the incoming one counted from our first transfer
abbrev pub windows_begun : ℕ → ℕ → ℕ → WindowsView → WindowsView
windows_begun next_outgoing_id incoming_window outgoing_window w =
    windows_told next_outgoing_id (incoming_window - w.sent) outgoing_window w

-- how far our next transfer is past the one that the peer awaits; our first stands for an absent one
abbrev pub session_lag : SessionFlow → WindowsView → ℕ
session_lag f w = distance (unwrap_or f.next_incoming_id w.first) (next_outgoing w)

-- the peer awaits a transfer past our next one
abbrev pub session_is_ahead : SessionFlow → WindowsView → Bool
session_is_ahead f w = nat_lt w.sent (session_lag f w)

-- a flow of the peer tells its windows, the incoming one counted from the transfer that it awaits
abbrev pub windows_heard : SessionFlow → WindowsView → WindowsView
windows_heard f w = windows_told f.next_outgoing_id (f.incoming_window - session_lag f w) f.outgoing_window w

-- which transfer of ours the peer awaited, counted from 0, when n were sent; the first one where it names none
abbrev pub awaited : ℕ → ℕ → Option ℕ → ℕ
awaited first n None = 0
awaited first n (Some id) = numbered first id n

-- how many transfers of ours the peer takes in all, by a flow that was heard when n were sent
abbrev pub known : ℕ → ℕ → SessionFlow → ℕ
known first n f = awaited first n f.next_incoming_id + f.incoming_window
