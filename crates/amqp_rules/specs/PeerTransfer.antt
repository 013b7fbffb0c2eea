-- A transfer that is heard (part 2, 2.6.12, 2.6.14 and 2.7.5).
use Rattle.std.specs.Prelude.{ℕ, ◌+◌, ◌==◌, ◌&&◌, ◌||◌, not, Bool, false, cond, Option, Some, None, Result, List, [], ◌∷◌, ◌++◌, find, is_none, is_some, unwrap_or, length}
use Rattle.std.specs.List.{list_any}
use Rattle.amqp_performatives.specs.declared.bodies.TransferBody.{TransferBody}
use Rattle.amqp_performatives.specs.declared.performative.Performative.TheVariants.{Transfer}
use Rattle.amqp_flow.specs.Windows.{windows_received}
use Rattle.amqp_flow.specs.Credit.{CreditView, delivery_begun}
use Rattle.amqp_events.specs.Event.{Nothing as No_event}
use Rattle.amqp_events.specs.Numbers.{id_used, one_past}
use Rattle.amqp_events.specs.Unsettled.{next_held}
use Rattle.amqp_events.specs.Joined.{Transferred, Delivery, next_delivery, next_unfinished, completed, is_given}
use Rattle.amqp_rules.specs.declared.reply.Reply.{Reply}
use Rattle.amqp_rules.specs.declared.reply.Given.{Given}
use Rattle.amqp_rules.specs.declared.reply.Given.TheVariants.{Nothing, Ready}
use Rattle.amqp_rules.specs.declared.violation.Violation.{Violation}
use Rattle.amqp_rules.specs.declared.violation.ViolationKind.TheVariants.{OutOfSession, BadHandle, Window, MissingField, IdOrder, TagHeld, Mode, Credit, TooLong}
use Rattle.amqp_rules.specs.View.{View, LinkView, takes_frames, is_sender, has_peer_handle, snd_mode, rcv_mode, max_of, is_too_long, change_first}
use Rattle.amqp_events.specs.Tags.{is_tagged}
use Rattle.amqp_waiting.specs.Waiting.{WaitingItem, waits, without}
use Rattle.amqp_rules.specs.Deliveries.{transferred, received_by_body, ended_by}
use Rattle.amqp_rules.specs.Refusing.{first_refusal, answered, if_there, unless, unlinked, of_link}

-- we receive on the link, and our attach was sent
abbrev pub receives : LinkView → Bool
receives l = is_some l.ours && not (is_sender l.role)

-- it lacks its id or its tag
abbrev pub is_nameless : TransferBody → Bool
is_nameless b = is_none b.delivery_id || is_none b.delivery_tag

-- the id is given and is not this one
abbrev pub is_other : Option ℕ → ℕ → Bool
is_other None id = false
is_other (Some given) id = not (given == id)

-- the id is not the one that is expected; the first is free
abbrev pub is_unexpected : Option ℕ → TransferBody → Bool
is_unexpected None b = false
is_unexpected (Some id) b = is_other b.delivery_id id

-- a delivery that we received on the link and that is unsettled has the tag, or one that waits on it and is not brought in by this
abbrev pub tag_is_taken : View → LinkView → TransferBody → Bool
tag_is_taken v l b =
    list_any (is_tagged l.number (unwrap_or b.delivery_tag [])) v.received
    || not (unwrap_or b.resume false) && waits (unwrap_or b.delivery_tag []) l.waiting

-- what a first transfer violates by its names, and a later one
abbrev pub name_violations : View → TransferBody → LinkView → Option Delivery → List (Bool × Violation)
name_violations v b l None =
    (is_nameless b, unlinked MissingField)
    ∷ (is_unexpected v.expected b, unlinked IdOrder)
    ∷ (tag_is_taken v l b, unlinked TagHeld)
    ∷ []
name_violations v b l (Some d) = (is_other b.delivery_id d.id, unlinked IdOrder) ∷ []

-- the delivery ends unsettled where all are to be settled (mode 1), or is settled where none is to be (mode 0)
abbrev pub breaks_snd_mode : ℕ → Transferred → Delivery → Bool
breaks_snd_mode mode t d = not t.aborted && (not t.more && (not d.settled && mode == 1) || d.settled && mode == 0)

-- it asks that the receiver settle second where that settles first
abbrev pub breaks_rcv_mode : ℕ → TransferBody → Bool
breaks_rcv_mode mode b = unwrap_or b.rcv_settle_mode 0 == 1 && mode == 0

abbrev pub breaks_mode : LinkView → TransferBody → Bool
breaks_mode l b =
    breaks_snd_mode (snd_mode l) (transferred (rcv_mode l) b []) (next_delivery (transferred (rcv_mode l) b []) l.receiving) || breaks_rcv_mode (rcv_mode l) b

-- the payloads together are longer than we take; an aborted transfer adds none
abbrev pub breaks_size : LinkView → Transferred → Bool
breaks_size l t = not t.aborted && is_too_long (max_of l.ours) (length (next_delivery t l.receiving).payload)

abbrev pub delivery_violations : View → TransferBody → List ℕ → LinkView → List (Bool × Violation)
delivery_violations v b payload l =
    name_violations v b l l.receiving ++
    (breaks_mode l b, unlinked Mode)
    ∷ (is_none l.receiving && l.credit.credit == 0, of_link l.number Credit)
    ∷ (breaks_size l (transferred (rcv_mode l) b payload), of_link l.number TooLong)
    ∷ []

-- on a link that we are leaving it is passed over
abbrev pub transfer_violations : View → TransferBody → List ℕ → LinkView → List (Bool × Violation)
transfer_violations v b payload l =
    (not (receives l), unlinked BadHandle)
    ∷ (v.windows.incoming == 0, unlinked Window)
    ∷ cond l.left [] (delivery_violations v b payload l)

-- a delivery that is complete can be taken, unless it was brought in
abbrev pub given_by : ℕ → Delivery → Given
given_by k d = cond (is_given d) (Ready k d.id) Nothing

abbrev pub transfer_given : TransferBody → LinkView → Given
transfer_given b l = cond l.left Nothing (given_by l.number (next_delivery (transferred (rcv_mode l) b []) l.receiving))

abbrev pub transfer_reply : View → TransferBody → LinkView → Reply
transfer_reply v b l = record { sent = []; ended = ended_by No_event (received_by_body v (Some (Transfer b))) v; given = transfer_given b l }

abbrev pub transfer_answer : View → TransferBody → List ℕ → Result Reply Violation
transfer_answer v b payload =
    unless
    (not (takes_frames v.session))
    (unlinked OutOfSession)
    (if_there (find (has_peer_handle b.handle) v.links) (unlinked BadHandle) (λ l. answered (first_refusal (transfer_violations v b payload l)) (transfer_reply v b l)))

-- a first transfer uses a credit
abbrev pub credit_used : Option Delivery → CreditView → CreditView
credit_used None c = delivery_begun c
credit_used (Some d) c = c

-- a delivery that is brought in by a first transfer waits no longer
abbrev pub waiting_after : Transferred → Option Delivery → List WaitingItem → List WaitingItem
waiting_after t None ws = cond t.resumed (without t.tag ws) ws
waiting_after t (Some d) ws = ws

-- the transfer goes to the unfinished delivery or begins one; a complete one can be taken
abbrev pub transfer_taken : Transferred → LinkView → LinkView
transfer_taken t l =
    record l {
      credit = credit_used l.receiving l.credit;
      receiving = next_unfinished t l.receiving;
      ready = l.ready ++ completed (next_delivery t l.receiving);
      waiting = waiting_after t l.receiving l.waiting;
    }

abbrev pub received_on : TransferBody → List ℕ → LinkView → LinkView
received_on b payload l = transfer_taken (transferred (rcv_mode l) b payload) l

-- the link of the transfer, after it; a link that we are leaving stays as it is
abbrev pub heard_on : TransferBody → List ℕ → LinkView → LinkView
heard_on b payload l = cond l.left l (received_on b payload l)

abbrev pub next_transfer : View → TransferBody → List ℕ → View
next_transfer v b payload =
    record v {
      steps = v.steps + 1;
      windows = windows_received v.windows;
      expected = one_past (id_used (received_by_body v (Some (Transfer b))) v.expected) v.expected;
      links = change_first (has_peer_handle b.handle) (heard_on b payload) v.links;
      received = next_held (received_by_body v (Some (Transfer b))) v.received;
    }
