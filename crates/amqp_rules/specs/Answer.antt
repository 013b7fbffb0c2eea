-- What the endpoint answers to a step, and what it is afterwards: one line for each kind of step.
use Rattle.std.specs.Prelude.{ℕ, ◌+◌, ◌&&◌, not, Bool, true, false, cond, Option, Some, Result, Ok, Err, List, []}
use Rattle.amqp_frames.specs.declared.frame.Frame.{Frame}
use Rattle.amqp_performatives.specs.declared.performative.Performative.{Performative}
use Rattle.amqp_performatives.specs.declared.performative.Performative.TheVariants as heard
use Rattle.amqp_rules.specs.declared.op.Op.{Op}
use Rattle.amqp_rules.specs.declared.op.Op.TheVariants.{Begin, Attach, Start, Carry, Abort, Dispose, Learn, Grant, Offer, Drained, Refresh, Take, Detach, Suspend, Rejoin, Resume, End, Beat}
use Rattle.amqp_rules.specs.declared.reply.Reply.{Reply}
use Rattle.amqp_rules.specs.declared.refusal.Refusal.{Refusal}
use Rattle.amqp_rules.specs.declared.violation.Violation.{Violation}
use Rattle.amqp_rules.specs.declared.violation.ViolationKind.TheVariants.{OutOfSession}
use Rattle.amqp_rules.specs.View.{View, is_ending}
use Rattle.amqp_rules.specs.Opened.{no_reply}
use Rattle.amqp_rules.specs.Begin.{begin_answer, next_begin}
use Rattle.amqp_rules.specs.Attach.{attach_answer, next_attach}
use Rattle.amqp_rules.specs.Start.{start_answer, next_start}
use Rattle.amqp_rules.specs.Carry.{carry_answer, next_carry}
use Rattle.amqp_rules.specs.Abort.{abort_answer, next_abort}
use Rattle.amqp_rules.specs.Dispose.{dispose_answer, next_dispose}
use Rattle.amqp_rules.specs.Learn.{learn_answer, next_learn}
use Rattle.amqp_rules.specs.PeerDisposition.{disposition_answer, next_disposition}
use Rattle.amqp_rules.specs.Grant.{grant_answer, next_grant}
use Rattle.amqp_rules.specs.Offer.{offer_answer, next_offer}
use Rattle.amqp_rules.specs.Drained.{drained_answer, next_drained}
use Rattle.amqp_rules.specs.Refresh.{refresh_answer, next_refresh}
use Rattle.amqp_rules.specs.Take.{take_answer, next_take}
use Rattle.amqp_rules.specs.Detach.{detach_answer, next_detach}
use Rattle.amqp_rules.specs.Suspend.{suspend_answer, next_suspend}
use Rattle.amqp_rules.specs.Rejoin.{rejoin_answer, next_rejoin}
use Rattle.amqp_rules.specs.Resume.{resume_answer, next_resume}
use Rattle.amqp_rules.specs.End.{end_answer, next_end}
use Rattle.amqp_rules.specs.Beat.{beat_answer, next_beat}
use Rattle.amqp_rules.specs.PeerBegin.{begin_heard_answer, next_begin_heard}
use Rattle.amqp_rules.specs.PeerAttach.{attach_heard_answer, next_attach_heard}
use Rattle.amqp_rules.specs.Flow.{flow_answer, next_flow}
use Rattle.amqp_rules.specs.PeerTransfer.{transfer_answer, next_transfer}
use Rattle.amqp_rules.specs.PeerDetach.{detach_heard_answer, next_detach_heard}
use Rattle.amqp_rules.specs.PeerEnd.{end_heard_answer, next_end_heard}
use Rattle.amqp_rules.specs.Refusing.{unlinked}

abbrev pub own_answer : View → Op → Result Reply Refusal
own_answer v Begin = begin_answer v
own_answer v (Attach name role snd rcv source target count max_message) =
    attach_answer v (record { name = name; role = role; snd = snd; rcv = rcv; source = source; target = target; count = count; max_message = max_message; items = [] })
own_answer v (Start link tag format settled payload more) = start_answer v link tag format settled payload more
own_answer v (Carry link payload more) = carry_answer v link payload more
own_answer v (Abort link) = abort_answer v link
own_answer v (Dispose role first last settled state) = dispose_answer v role (record { first = first; last = last; settled = settled; state = state })
own_answer v (Learn link) = learn_answer v link
own_answer v (Grant link credit drain echo) = grant_answer v link credit drain echo
own_answer v (Offer link available) = offer_answer v link available
own_answer v (Drained link) = drained_answer v link
own_answer v (Refresh echo) = refresh_answer v echo
own_answer v (Take link) = take_answer v link
own_answer v (Detach link error) = detach_answer v link error
own_answer v (Suspend link) = suspend_answer v link
own_answer v (Rejoin r) = rejoin_answer v r
own_answer v (Resume link tag settled) = resume_answer v link tag settled
own_answer v (End error) = end_answer v error
own_answer v Beat = beat_answer v

abbrev pub next_own : View → Op → View
next_own v Begin = next_begin v
next_own v (Attach name role snd rcv source target count max_message) =
    next_attach v (record { name = name; role = role; snd = snd; rcv = rcv; source = source; target = target; count = count; max_message = max_message; items = [] })
next_own v (Start link tag format settled payload more) = next_start v link tag format settled payload more
next_own v (Carry link payload more) = next_carry v link payload more
next_own v (Abort link) = next_abort v link
next_own v (Dispose role first last settled state) = next_dispose v role (record { first = first; last = last; settled = settled; state = state })
next_own v (Learn link) = next_learn v link
next_own v (Grant link credit drain echo) = next_grant v link credit drain
next_own v (Offer link available) = next_offer v link available
next_own v (Drained link) = next_drained v link
next_own v (Refresh echo) = next_refresh v
next_own v (Take link) = next_take v link
next_own v (Detach link error) = next_detach v link
next_own v (Suspend link) = next_suspend v link
next_own v (Rejoin r) = next_rejoin v r
next_own v (Resume link tag settled) = next_resume v link tag settled
next_own v (End error) = next_end v
next_own v Beat = next_beat v

abbrev pub body_answer : View → Option Performative → List ℕ → Result Reply Violation
body_answer v (Some (heard.Begin b)) payload = begin_heard_answer v
body_answer v (Some (heard.Attach b)) payload = attach_heard_answer v b
body_answer v (Some (heard.Flow b)) payload = flow_answer v b
body_answer v (Some (heard.Transfer b)) payload = transfer_answer v b payload
body_answer v (Some (heard.Disposition b)) payload = disposition_answer v b
body_answer v (Some (heard.Detach b)) payload = detach_heard_answer v b
body_answer v (Some (heard.End b)) payload = end_heard_answer v
body_answer v _ payload = Err (unlinked OutOfSession)

abbrev pub next_body : View → Option Performative → List ℕ → View
next_body v (Some (heard.Begin b)) payload = next_begin_heard v b
next_body v (Some (heard.Attach b)) payload = next_attach_heard v b
next_body v (Some (heard.Flow b)) payload = next_flow v b
next_body v (Some (heard.Transfer b)) payload = next_transfer v b payload
next_body v (Some (heard.Disposition b)) payload = next_disposition v b
next_body v (Some (heard.Detach b)) payload = next_detach_heard v b
next_body v (Some (heard.End b)) payload = next_end_heard v
next_body v _ payload = v

abbrev pub is_end : Option Performative → Bool
is_end (Some (heard.End b)) = true
is_end _ = false

-- once our end was sent, each frame but the peer's end is dropped (part 2, 2.5.5)
abbrev pub is_dropped : View → Option Performative → Bool
is_dropped v body = is_ending v.session && not (is_end body)

abbrev pub heard_answer : View → Frame → Result Reply Violation
heard_answer v f = cond (is_dropped v f.body) (Ok no_reply) (body_answer v f.body f.payload)

abbrev pub next_heard : View → Frame → View
next_heard v f = cond (is_dropped v f.body) (record v { steps = v.steps + 1 }) (next_body v f.body f.payload)
