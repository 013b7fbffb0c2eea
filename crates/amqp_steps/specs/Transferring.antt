-- Parts of what a heard transfer meets and leaves, as the private calls of the endpoint compute them.
use Rattle.std.specs.Prelude.{ℕ, ◌==◌, ◌&&◌, ◌||◌, not, Bool, false, is_none, unwrap_or, List, [], ◌∷◌}
use Rattle.std.specs.Prelude.{cond}
use Rattle.amqp_performatives.specs.declared.bodies.TransferBody.{TransferBody}
use Rattle.amqp_rules.specs.declared.reply.Given.{Given}
use Rattle.amqp_rules.specs.declared.reply.Given.TheVariants.{Nothing, Ready}
use Rattle.amqp_rules.specs.declared.violation.Violation.{Violation}
use Rattle.amqp_rules.specs.declared.violation.ViolationKind.TheVariants.{MissingField, IdOrder, TagHeld, Mode, Credit, TooLong}
use Rattle.amqp_rules.specs.View.{View, LinkView, rcv_mode}
use Rattle.amqp_rules.specs.Deliveries.{transferred}
use Rattle.amqp_rules.specs.PeerTransfer.{breaks_mode, breaks_size, is_nameless, is_other, is_unexpected, tag_is_taken}
use Rattle.amqp_rules.specs.Refusing.{unlinked, of_link}

abbrev pub later_rows : TransferBody → ℕ → List (Bool × Violation)
later_rows b id = (is_other b.delivery_id id, unlinked IdOrder) ∷ []

abbrev pub first_rows : View → TransferBody → LinkView → List (Bool × Violation)
first_rows v b l = (is_nameless b, unlinked MissingField) ∷ (is_unexpected v.expected b, unlinked IdOrder) ∷ (tag_is_taken v l b, unlinked TagHeld) ∷ []

abbrev pub delivery_rows : TransferBody → List ℕ → LinkView → List (Bool × Violation)
delivery_rows b payload l =
    (breaks_mode l b, unlinked Mode)
    ∷ (is_none l.receiving && l.credit.credit == 0, of_link l.number Credit)
    ∷ (breaks_size l (transferred (rcv_mode l) b payload), of_link l.number TooLong)
    ∷ []

abbrev pub breaks_snd : ℕ → Bool → Bool → Bool → Bool
breaks_snd mode settled more aborted = not aborted && (not more && (not settled && mode == 1) || settled && mode == 0)

-- a delivery that is complete can be taken, unless it was brought in
abbrev pub given_heard : ℕ → ℕ → Bool → TransferBody → Given
given_heard link id resumed b = cond ((unwrap_or b.aborted false || unwrap_or b.more false) || resumed) Nothing (Ready link id)
