-- Flows that are sent (part 2, 2.7.4). Each tells the session's numbers and renews our window.
use Rattle.std.specs.Prelude.{◌+◌, Bool, true, false, Option, Some, None, List}
use Rattle.amqp_performatives.specs.declared.bodies.FlowBody.{FlowBody}
use Rattle.amqp_performatives.specs.declared.bodies.Role.{Role}
use Rattle.amqp_performatives.specs.declared.bodies.Role.TheVariants.{Sender, Receiver}
use Rattle.amqp_flow.specs.Windows.{WindowsView, next_outgoing, windows_renewed}
use Rattle.amqp_flow.specs.Credit.{delivery_count}
use Rattle.amqp_flow.specs.Receiver.{has_open_drain}
use Rattle.amqp_rules.specs.View.{View, LinkView, handle_of}

-- a flag that is said where it is true, and left off else
abbrev pub flag : Bool → Option Bool
flag true = Some true
flag false = None

-- of the session alone
abbrev pub session_flow : WindowsView → FlowBody
session_flow w =
    record {
      next_incoming_id = w.next_incoming;
      incoming_window = w.window;
      next_outgoing_id = next_outgoing w;
      outgoing_window = 2147483647;
      handle = None;
      delivery_count = None;
      link_credit = None;
      available = None;
      drain = None;
      echo = None;
      properties = None;
    }

-- of a link too: its count and its credit
abbrev pub link_flow : WindowsView → LinkView → FlowBody
link_flow w l =
    record (session_flow w) {
      handle = Some (handle_of l.ours);
      delivery_count = Some (delivery_count l.credit);
      link_credit = Some l.credit.credit;
    }

-- of a link on which we send: what is available too
abbrev pub sender_flow : WindowsView → LinkView → Option Bool → FlowBody
sender_flow w l drain = record (link_flow w l) { available = Some l.available; drain = drain }

-- of a link as it stands: with drain where the peer wishes to drain, or where our drain is open
abbrev pub standing_flow : WindowsView → LinkView → Role → FlowBody
standing_flow w l Sender = sender_flow w l (flag l.credit.drain)
standing_flow w l Receiver = record (link_flow w l) { drain = flag (has_open_drain l.credit) }

-- a flow is sent, and the links are these
abbrev pub flow_sent : View → List LinkView → View
flow_sent v links = record v { steps = v.steps + 1; windows = windows_renewed v.windows; links = links }
