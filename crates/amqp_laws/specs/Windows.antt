-- The windows of a session (part 2, 2.5.6), over its whole past.
use Rattle.std.specs.Prelude.{ℕ, ◌+◌, ◌-◌, Option, None, Some, List, length, cond}
use Rattle.amqp_flow.specs.Serial.{wire}
use Rattle.amqp_flow.specs.Windows.{WindowsView, awaited}
use Rattle.amqp_flow.specs.declared.flow.SessionFlow.{SessionFlow}
use Rattle.amqp_rules.specs.declared.config.Config.{Config}
use Rattle.amqp_laws.specs.declared.entry.Entry.{Entry}
use Rattle.amqp_laws.specs.Past.{total, total_since, last_said, some_entry}
use Rattle.amqp_laws.specs.Said.{begins, sends_windows, transfers_heard, transfers_sent, windows_heard}
use Rattle.std.specs.Prelude.{is_some}

-- how many transfers were sent
abbrev pub sent_transfers : List Entry → ℕ
sent_transfers past = total (λ e. length (transfers_sent e)) past

-- how many transfers were heard
abbrev pub heard_transfers : List Entry → ℕ
heard_transfers past = total transfers_heard past

-- the last begin or flow that was heard, with the entries before it
abbrev pub last_told : List Entry → Option (SessionFlow × List Entry)
last_told past = last_said windows_heard past

-- how many transfers were heard since then
abbrev pub heard_since_told : List Entry → ℕ
heard_since_told past = total_since (λ e. is_some (windows_heard e)) transfers_heard past

-- the id that the peer told for its next transfer, and one more for each heard since
abbrev pub next_incoming : Option (SessionFlow × List Entry) → ℕ → Option ℕ
next_incoming None heard = None
next_incoming (Some said) heard = Some (wire (said.0.next_outgoing_id + heard))

-- our last begin or flow, with the entries before it
abbrev pub last_telling : List Entry → Option (Unit {0} × List Entry)
last_telling past = last_said (λ e. cond (sends_windows e) (Some tt) None) past

-- how many transfers we promised by it to take in all: those heard by then, and our window
abbrev pub promise_by : ℕ → Option (Unit {0} × List Entry) → ℕ
promise_by window None = window
promise_by window (Some said) = heard_transfers said.1 + window

abbrev pub promise : Config → List Entry → ℕ
promise c past = promise_by c.window (last_telling past)

-- which transfer of ours the peer awaited by then, counted from 0: the first one before our begin, and where it names none
abbrev pub awaited_by : ℕ → SessionFlow → List Entry → ℕ
awaited_by first f before = cond (some_entry begins before) (awaited first (sent_transfers before) f.next_incoming_id) 0

-- how many transfers the peer takes in all, as it told
abbrev pub known_by : ℕ → Option (SessionFlow × List Entry) → ℕ
known_by first None = 0
known_by first (Some said) = awaited_by first said.0 said.1 + said.0.incoming_window

abbrev pub known : Config → List Entry → ℕ
known c past = known_by c.first_id (last_told past)

-- what the peer is ready to send: what it told, less those heard since
abbrev pub remote_outgoing : Option (SessionFlow × List Entry) → ℕ → ℕ
remote_outgoing None heard = 0
remote_outgoing (Some said) heard = said.0.outgoing_window - heard

abbrev pub windows_at : Config → List Entry → WindowsView
windows_at c past =
    record {
      first = c.first_id;
      window = c.window;
      sent = sent_transfers past;
      next_incoming = next_incoming (last_told past) (heard_since_told past);
      incoming = promise c past - heard_transfers past;
      remote_incoming = known c past - sent_transfers past;
      remote_outgoing = remote_outgoing (last_told past) (heard_since_told past);
    }
