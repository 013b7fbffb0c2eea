-- An attach that is heard (part 2, 2.6.3 and 2.7.3): it answers ours, or offers a link.
use Rattle.std.specs.Prelude.{ℕ, ◌&&◌, not, Bool, Option, Some, None, Result, List, [], ◌∷◌, find, is_some, is_none}
use Rattle.amqp_performatives.specs.declared.bodies.AttachBody.{AttachBody}
use Rattle.amqp_rules.specs.declared.reply.Reply.{Reply}
use Rattle.amqp_rules.specs.declared.reply.Given.{Given}
use Rattle.amqp_rules.specs.declared.reply.Given.TheVariants.{Offered, Attached}
use Rattle.amqp_rules.specs.declared.violation.Violation.{Violation}
use Rattle.amqp_rules.specs.declared.violation.ViolationKind.TheVariants.{OutOfSession, HandleTaken, NameTaken, MissingField}
use Rattle.amqp_rules.specs.View.{View, LinkView, takes_frames, has_peer_handle, is_theirs, is_asked_as, is_sender, opposite}
use Rattle.amqp_rules.specs.Refusing.{first_refusal, answered, unlinked}
use Rattle.amqp_rules.specs.Attach.{attached_by_peer, join_link}

-- a sender tells its first delivery-count
abbrev pub lacks_count : AttachBody → Bool
lacks_count b = is_sender b.role && is_none b.initial_delivery_count

abbrev pub attach_violations : View → AttachBody → List (Bool × Violation)
attach_violations v b =
    (not (takes_frames v.session), unlinked OutOfSession)
    ∷ (is_some (find (has_peer_handle b.handle) v.links), unlinked HandleTaken)
    ∷ (is_some (find (is_theirs (opposite b.role) b.name) v.links), unlinked NameTaken)
    ∷ (lacks_count b, unlinked MissingField)
    ∷ []

-- the link that is met, or else the next to be made
abbrev pub met_or_made : ℕ → Option LinkView → Given
met_or_made made None = Offered made
met_or_made made (Some l) = Attached l.number

abbrev pub attach_heard_reply : View → AttachBody → Reply
attach_heard_reply v b =
    record { sent = []; ended = []; given = met_or_made v.made (find (is_asked_as (opposite b.role) b.name) v.links) }

abbrev pub attach_heard_answer : View → AttachBody → Result Reply Violation
attach_heard_answer v b = answered (first_refusal (attach_violations v b)) (attach_heard_reply v b)

abbrev pub next_attach_heard : View → AttachBody → View
next_attach_heard v b = join_link (is_asked_as (opposite b.role) b.name) (opposite b.role) b.name (attached_by_peer b) v
