-- Resume: a delivery that waits on a link is sent anew, by one transfer without payload (part 2, 2.6.13 and 2.7.5).
use Rattle.std.specs.Prelude.{ℕ, ◌+◌, ◌==◌, ◌&&◌, not, Bool, true, false, cond, Option, Some, None, Result, Ok, Err, List, [], ◌∷◌, find, is_some}
use Rattle.amqp_performatives.specs.declared.bodies.Role.TheVariants.{Sender}
use Rattle.amqp_performatives.specs.declared.state.DeliveryState.{DeliveryState}
use Rattle.amqp_performatives.specs.declared.performative.Performative.{Performative}
use Rattle.amqp_performatives.specs.declared.performative.Performative.TheVariants.{Transfer}
use Rattle.amqp_flow.specs.Windows.{windows_sent}
use Rattle.amqp_flow.specs.Credit.{delivery_begun}
use Rattle.amqp_events.specs.Told.{next_sent_held}
use Rattle.amqp_waiting.specs.Waiting.{WaitingItem, waits_as, without}
use Rattle.amqp_waiting.specs.declared.item.Verdict.{Verdict}
use Rattle.amqp_waiting.specs.declared.item.Verdict.TheVariants.{Unclear, Absent, Partial, Held, Outcome}
use Rattle.amqp_rules.specs.declared.op.Op.TheVariants as own
use Rattle.amqp_rules.specs.declared.reply.Reply.{Reply}
use Rattle.amqp_rules.specs.declared.reply.Given.{Given}
use Rattle.amqp_rules.specs.declared.reply.Given.TheVariants as given
use Rattle.amqp_rules.specs.declared.refusal.Refusal.{Refusal}
use Rattle.amqp_rules.specs.declared.refusal.Refusal.TheVariants.{InDelivery, NotWaiting, Unclear as Not_clear, SettleMode, NoCredit, NoWindow}
use Rattle.amqp_rules.specs.View.{View, LinkView, next_delivery, has_number, handle_of, snd_mode, change_first}
use Rattle.amqp_rules.specs.Start.{mode_forbids}
use Rattle.amqp_rules.specs.Deliveries.{sent_by_own, is_sent_anew, is_partial}
use Rattle.amqp_rules.specs.OnLink.{on_link, attached_as}
use Rattle.amqp_rules.specs.Refusing.{first_refusal, if_there, unless}
use Rattle.amqp_rules.specs.Sending.{sends}
use Rattle.amqp_rules.specs.Telling.{flag}

-- # The transfer

-- the outcome that the peer told
abbrev pub outcome_of : WaitingItem → Option DeliveryState
outcome_of w = elim w.verdict [ Unclear ↦ None | Absent ↦ None | Partial ↦ None | Held ↦ None | Outcome ↦ w.theirs ]

-- what the peer has in part is aborted; else the transfer settles where that is asked for, and tells the peer's outcome
abbrev pub resume_body : ℕ → ℕ → Bool → WaitingItem → Option Performative
resume_body handle id settled w =
    Some (Transfer (record {
      handle = handle;
      delivery_id = Some id;
      delivery_tag = Some w.tag;
      message_format = None;
      settled = flag (settled && not (is_partial w));
      more = None;
      rcv_settle_mode = None;
      state = outcome_of w;
      resume = Some true;
      aborted = flag (is_partial w);
      batchable = None;
    }))

-- # The answer

-- nothing is known of it yet
abbrev pub is_unclear : WaitingItem → Bool
is_unclear w = elim w.verdict [ Unclear ↦ true | Absent ↦ false | Partial ↦ false | Held ↦ false | Outcome ↦ false ]

-- what is refused before the delivery is looked for
abbrev pub early_refusals : LinkView → List (Bool × Refusal)
early_refusals l = attached_as Sender l ((is_some l.sending, InDelivery) ∷ [])

-- and of one that is sent anew: an aborted transfer is of no settle mode
abbrev pub resume_refusals : View → LinkView → Bool → WaitingItem → List (Bool × Refusal)
resume_refusals v l settled w =
    (not (is_partial w) && mode_forbids (snd_mode l) settled, SettleMode)
    ∷ (l.credit.credit == 0, NoCredit)
    ∷ (v.windows.remote_incoming == 0, NoWindow)
    ∷ []

abbrev pub resumed_to : Verdict → Option ℕ → Option DeliveryState → Given
resumed_to verdict id state = given.Resumed (record { verdict = verdict; id = id; state = state })

-- what the peer does not know is done with: nothing is sent
abbrev pub absent_reply : Reply
absent_reply = record { sent = []; ended = []; given = resumed_to Absent None None }

abbrev pub resume_sends : View → LinkView → Bool → WaitingItem → Result Reply Refusal
resume_sends v l settled w =
    sends v.max_frame (resume_refusals v l settled w) (resume_body (handle_of l.ours) (next_delivery v) settled w) []
    (resumed_to w.verdict (Some (next_delivery v)) (outcome_of w))

abbrev pub resume_item : View → LinkView → Bool → WaitingItem → Result Reply Refusal
resume_item v l settled w = unless (is_unclear w) Not_clear (cond (is_sent_anew w) (resume_sends v l settled w) (Ok absent_reply))

-- the refusal, or else what is said
abbrev pub unless_refused : Option Refusal → Result Reply Refusal → Result Reply Refusal
unless_refused None said = said
unless_refused (Some e) said = Err e

abbrev pub resume_answer : View → ℕ → List ℕ → Bool → Result Reply Refusal
resume_answer v link tag settled =
    on_link v link (λ l. unless_refused (first_refusal (early_refusals l)) (if_there (find (waits_as tag) l.waiting) NotWaiting (resume_item v l settled)))

-- # The change

-- it waits no longer
abbrev pub resumed_from : List ℕ → LinkView → LinkView
resumed_from tag l = record l { waiting = without tag l.waiting }

-- one that is sent anew uses one of the link's credit
abbrev pub begin_resumed : List ℕ → LinkView → LinkView
begin_resumed tag l = record (resumed_from tag l) { credit = delivery_begun l.credit }

abbrev pub item_sends : Option WaitingItem → Bool
item_sends None = false
item_sends (Some w) = is_sent_anew w

-- a delivery with the tag waits on the link, and is sent anew
abbrev pub resume_begins : List ℕ → Option LinkView → Bool
resume_begins tag None = false
resume_begins tag (Some l) = item_sends (find (waits_as tag) l.waiting)

-- one that is sent anew begins as by a Start
abbrev pub next_resume : View → ℕ → List ℕ → Bool → View
next_resume v link tag settled =
    cond
    (resume_begins tag (find (has_number link) v.links))
    (record v {
      steps = v.steps + 1;
      windows = windows_sent v.windows;
      deliveries = v.deliveries + 1;
      links = change_first (has_number link) (begin_resumed tag) v.links;
      sent = next_sent_held (sent_by_own v (own.Resume link tag settled)) v.sent;
    })
    (record v { steps = v.steps + 1; links = change_first (has_number link) (resumed_from tag) v.links })
