-- A detach that is heard (part 2, 2.6.4, 2.6.6 and 2.7.7): the link is gone, for good or put aside.
use Rattle.std.specs.Prelude.{◌+◌, not, false, cond, None, Result, [], find, unwrap_or}
use Rattle.amqp_performatives.specs.declared.bodies.DetachBody.{DetachBody}
use Rattle.amqp_rules.specs.declared.reply.Reply.{Reply}
use Rattle.amqp_rules.specs.declared.reply.Given.{Given}
use Rattle.amqp_rules.specs.declared.reply.Given.TheVariants.{Gone, Parted}
use Rattle.amqp_rules.specs.declared.violation.Violation.{Violation}
use Rattle.amqp_rules.specs.declared.violation.ViolationKind.TheVariants.{OutOfSession, BadHandle}
use Rattle.amqp_rules.specs.View.{View, LinkView, takes_frames, is_attached, has_peer_handle, handle_of, remove_first}
use Rattle.amqp_rules.specs.Refusing.{if_there, unless, unlinked}
use Rattle.amqp_rules.specs.Sending.{reply_ending}
use Rattle.amqp_events.specs.Event.{Leaves}
use Rattle.amqp_events.specs.Unsettled.{next_held}
use Rattle.amqp_events.specs.Told.{next_sent_held}
use Rattle.amqp_rules.specs.Deliveries.{ended_by, left_by_peer}
use Rattle.amqp_rules.specs.Detach.{detach_body}
use Rattle.amqp_rules.specs.Suspend.{put_aside}
use Rattle.std.specs.Prelude.{Ok}

-- an attached link that the peer does not close is put aside: a closed that is absent is false
abbrev pub parting : View → DetachBody → LinkView → Given
parting v b l = cond (unwrap_or b.closed false) (Gone l.number) (Parted l.number (put_aside v l))

-- an attached link is answered by a detach that is closed or not as the peer's is
abbrev pub detach_reply : View → DetachBody → LinkView → Reply
detach_reply v b l =
    cond
    (is_attached l)
    (reply_ending (detach_body (handle_of l.ours) b.closed None) [] (ended_by (Leaves l.number) (Leaves l.number) v) (parting v b l))
    (record { sent = []; ended = ended_by (Leaves l.number) (Leaves l.number) v; given = Gone l.number })

abbrev pub detach_heard_answer : View → DetachBody → Result Reply Violation
detach_heard_answer v b =
    unless
    (not (takes_frames v.session))
    (unlinked OutOfSession)
    (if_there (find (has_peer_handle b.handle) v.links) (unlinked BadHandle) (λ l. Ok (detach_reply v b l)))

abbrev pub next_detach_heard : View → DetachBody → View
next_detach_heard v b =
    record v {
      steps = v.steps + 1;
      links = remove_first (has_peer_handle b.handle) v.links;
      sent = next_sent_held (left_by_peer (find (has_peer_handle b.handle) v.links)) v.sent;
      received = next_held (left_by_peer (find (has_peer_handle b.handle) v.links)) v.received;
    }
