-- A flow that is heard (part 2, 2.5.6, 2.6.7 and 2.7.4).
use Rattle.std.specs.Prelude.{ℕ, ◌+◌, ◌&&◌, not, Bool, true, false, cond, Option, Some, None, Result, List, [], ◌∷◌, find, is_none, is_some, option_map, unwrap_or}
use Rattle.amqp_performatives.specs.declared.bodies.FlowBody.{FlowBody}
use Rattle.amqp_performatives.specs.declared.bodies.Role.{Role}
use Rattle.amqp_performatives.specs.declared.bodies.Role.TheVariants.{Sender, Receiver}
use Rattle.amqp_performatives.specs.declared.performative.Performative.TheVariants.{Flow}
use Rattle.amqp_flow.specs.declared.flow.SessionFlow.{SessionFlow}
use Rattle.amqp_flow.specs.declared.flow.LinkFlow.{LinkFlow}
use Rattle.amqp_flow.specs.Windows.{WindowsView, session_is_ahead, windows_begun, windows_heard, windows_renewed}
use Rattle.amqp_flow.specs.Credit.{CreditView}
use Rattle.amqp_flow.specs.Sender.{link_is_ahead, sender_heard, sender_heard_early}
use Rattle.amqp_flow.specs.Receiver.{count_is_ahead, receiver_heard}
use Rattle.amqp_rules.specs.declared.reply.Reply.{Reply}
use Rattle.amqp_rules.specs.declared.reply.Given.TheVariants.{Nothing}
use Rattle.amqp_rules.specs.declared.violation.Violation.{Violation}
use Rattle.amqp_rules.specs.declared.violation.ViolationKind.TheVariants.{OutOfSession, BadHandle, CountAhead}
use Rattle.amqp_rules.specs.View.{View, LinkView, takes_frames, is_attached, has_peer_handle, change_first}
use Rattle.amqp_rules.specs.Refusing.{first_refusal, answered, unlinked}
use Rattle.amqp_rules.specs.Opened.{no_reply}
use Rattle.amqp_rules.specs.Sending.{reply_of}
use Rattle.amqp_rules.specs.Telling.{session_flow, standing_flow}

-- what it says of the session
abbrev pub session_part : FlowBody → SessionFlow
session_part b =
    record {
      next_incoming_id = b.next_incoming_id;
      incoming_window = b.incoming_window;
      next_outgoing_id = b.next_outgoing_id;
      outgoing_window = b.outgoing_window;
    }

-- what it says of a link; an absent drain is false
abbrev pub link_part : FlowBody → LinkFlow
link_part b = record { delivery_count = b.delivery_count; link_credit = b.link_credit; drain = unwrap_or b.drain false }

-- it asks for a flow in return; an absent echo is false
abbrev pub asks_echo : FlowBody → Bool
asks_echo b = unwrap_or b.echo false

-- the link that it names
abbrev pub named_link : List LinkView → Option ℕ → Option LinkView
named_link links None = None
named_link links (Some h) = find (has_peer_handle h) links

-- a handle is given that no link has
abbrev pub names_no_link : FlowBody → List LinkView → Bool
names_no_link b links = is_some b.handle && is_none (named_link links b.handle)

-- the peer counts further than we have: before our begin there is no count of ours
abbrev pub is_ahead_of_session : View → FlowBody → Bool
is_ahead_of_session v b = v.session.begin_sent && session_is_ahead (session_part b) v.windows

-- the peer counts further than we have, or gives up more than its credit
abbrev pub count_ahead : Role → FlowBody → CreditView → Bool
count_ahead Sender b c = link_is_ahead (link_part b) c
count_ahead Receiver b c = count_is_ahead b.delivery_count c

-- counts are compared on an attached link alone
abbrev pub is_ahead_of_link : FlowBody → Option LinkView → Bool
is_ahead_of_link b None = false
is_ahead_of_link b (Some l) = is_attached l && count_ahead l.role b l.credit

-- the violations, in the order of their numbers
abbrev pub flow_violations : View → FlowBody → List (Bool × Violation)
flow_violations v b =
    (not (takes_frames v.session), unlinked OutOfSession)
    ∷ (names_no_link b v.links, unlinked BadHandle)
    ∷ (is_ahead_of_session v b, unlinked CountAhead)
    ∷ (is_ahead_of_link b (named_link v.links b.handle), unlinked CountAhead)
    ∷ []

-- the windows that it tells: before our begin the peer counts from our first transfer
abbrev pub windows_by : View → FlowBody → WindowsView
windows_by v b =
    cond
    v.session.begin_sent
    (windows_heard (session_part b) v.windows)
    (windows_begun b.next_outgoing_id b.incoming_window b.outgoing_window v.windows)

-- a flow is sent in return where it is asked for and we have begun
abbrev pub echoes : View → FlowBody → Bool
echoes v b = asks_echo b && v.session.begin_sent

-- the windows after it: the flow in return renews ours
abbrev pub flow_windows : View → FlowBody → WindowsView
flow_windows v b = cond (echoes v b) (windows_renewed (windows_by v b)) (windows_by v b)

-- the credit of a link, whose attach of ours was sent or not
abbrev pub credit_heard : Role → Bool → FlowBody → CreditView → CreditView
credit_heard Sender true b c = sender_heard (link_part b) c
credit_heard Sender false b c = sender_heard_early (link_part b) c
credit_heard Receiver true b c = receiver_heard (link_part b) c
credit_heard Receiver false b c = c

-- a link with what it says
abbrev pub flowed : FlowBody → LinkView → LinkView
flowed b l = record l { credit = credit_heard l.role (is_some l.ours) b l.credit }

-- the link that it names, after it; a link that we are leaving stays as it is
abbrev pub flow_link : FlowBody → LinkView → LinkView
flow_link b l = cond l.left l (flowed b l)

abbrev pub flow_links : FlowBody → Option ℕ → List LinkView → List LinkView
flow_links b None links = links
flow_links b (Some h) links = change_first (has_peer_handle h) (flow_link b) links

-- the flow in return: of the link that was named, where it is attached, or else of the session
abbrev pub echo_body : WindowsView → Option LinkView → FlowBody
echo_body w None = session_flow w
echo_body w (Some l) = cond (is_attached l) (standing_flow w l l.role) (session_flow w)

-- from the windows and the link as they are after the flow
abbrev pub flow_reply : Bool → WindowsView → Option LinkView → Reply
flow_reply echo w link = cond echo (reply_of (Some (Flow (echo_body w link))) [] Nothing) no_reply

abbrev pub flow_answer : View → FlowBody → Result Reply Violation
flow_answer v b =
    answered
    (first_refusal (flow_violations v b))
    (flow_reply (echoes v b) (flow_windows v b) (option_map (flow_link b) (named_link v.links b.handle)))

abbrev pub next_flow : View → FlowBody → View
next_flow v b = record v { steps = v.steps + 1; windows = flow_windows v b; links = flow_links b b.handle v.links }
