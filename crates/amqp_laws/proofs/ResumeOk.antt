-- What an accepted Resume is.
use Rattle.std.proofs.Common.{◌≡◌, ℕ, ◌+◌, ◌-◌, ◌&&◌, ◌||◌, ◌==◌, Bool, true, false, not, cond, Option, Some, None, Result, Ok, Err, is_some, option_map, List, [], ◌∷◌, map, find, refl, sym, ap, ◌∙◌, subst, arith}
use Rattle.amqp_flow.specs.Serial.{wire}
use Rattle.amqp_performatives.specs.declared.state.DeliveryState.{DeliveryState}
use Rattle.amqp_performatives.specs.declared.bodies.TransferBody.{TransferBody}
use Rattle.amqp_performatives.specs.declared.bodies.Role.{Role}
use Rattle.amqp_performatives.specs.declared.bodies.Role.TheVariants.{Sender, Receiver}
use Rattle.amqp_performatives.specs.declared.performative.Performative.{Performative}
use Rattle.amqp_performatives.specs.declared.performative.Performative.TheVariants.{Transfer}
use Rattle.amqp_flow.specs.Windows.{windows_sent}
use Rattle.amqp_rules.specs.declared.op.Op.TheVariants.{Resume}
use Rattle.amqp_rules.specs.declared.reply.Reply.{Reply}
use Rattle.amqp_rules.specs.declared.reply.Given.{Given}
use Rattle.amqp_rules.specs.declared.refusal.Refusal.{Refusal}
use Rattle.amqp_rules.specs.declared.refusal.Refusal.TheVariants.{NotWaiting, Unclear as Not_clear}
use Rattle.amqp_rules.specs.declared.config.Config.{Config}
use Rattle.amqp_rules.specs.View.{View, LinkView, handle_of, has_number, is_attached, next_delivery, rcv_mode, same_role, change_first}
use Rattle.amqp_rules.specs.Sending.{reply_of, sends}
use Rattle.amqp_rules.specs.Refusing.{first_refusal, if_there}
use Rattle.amqp_rules.specs.Telling.{flag}
use Rattle.amqp_rules.specs.Deliveries.{sent_by_own, transferred, resumed_on, resumed_as, is_sent_anew, is_partial}
use Rattle.amqp_rules.specs.Resume.{unless_refused, resume_answer, resume_sends, early_refusals, resume_refusals, resume_item, resume_body, resumed_to, resumed_from, begin_resumed, outcome_of, is_unclear, absent_reply, resume_begins, item_sends, next_resume}
use Rattle.amqp_rules.proofs.Accepted.{IsSent, sends-ok, on-link-ok, there_Ok, no_refusal, not-false}
use Rattle.amqp_rules.proofs.Listed.{by-bool, length-changed}
use Rattle.amqp_waiting.specs.Waiting.{WaitingItem, waits_as, unclear}
use Rattle.amqp_events.specs.Event.{Begins, Event, Nothing as No_event}
use Rattle.amqp_events.specs.Joined.{unfinished}
use Rattle.amqp_events.specs.Laws.{AreLearnt}
use Rattle.amqp_events.specs.Told.{next_sent_held}
use Rattle.amqp_laws.specs.declared.entry.Entry.{Entry}
use Rattle.amqp_laws.specs.declared.entry.Step.TheVariants.{Own}
use Rattle.amqp_laws.specs.Past.{some_entry}
use Rattle.amqp_laws.specs.Said.{detaches}
use Rattle.amqp_laws.specs.Attaches.{our_attach, peer_attach}
use Rattle.amqp_laws.specs.Brought.{as_met, items_brought, tags_named}
use Rattle.amqp_laws.specs.Sending.{limit, passed}
use Rattle.amqp_laws.specs.Windows.{known, sent_transfers}
use Rattle.amqp_laws.specs.Transfers.{mode_by, sent_on, sending}

abbrev pub resume_entry : ℕ → List ℕ → Bool → Reply → Entry
resume_entry link tag settled reply = record { step = Own (Resume link tag settled); reply = reply }

-- the transfer by which a delivery is sent anew
abbrev pub anew : ℕ → ℕ → List ℕ → Bool → Option DeliveryState → Bool → TransferBody
anew handle id tag settled state partial =
    record {
      handle = handle;
      delivery_id = Some id;
      delivery_tag = Some tag;
      message_format = None;
      settled = flag settled;
      more = None;
      rcv_settle_mode = None;
      state = state;
      resume = Some true;
      aborted = flag partial;
      batchable = None;
    }

abbrev pub anew_reply : ℕ → ℕ → List ℕ → Bool → Option DeliveryState → Bool → Given → Reply
anew_reply handle id tag settled state partial given = reply_of (Some (Transfer (anew handle id tag settled state partial))) [] given

-- # What is accepted

pub anew-ok : (v : View) (l : LinkView) (settled : Bool) (w : WaitingItem) (reply : Reply) → resume_item v l settled w ≡ Ok reply → is_sent_anew w ≡ true
    → IsSent v.max_frame (resume_refusals v l settled w) (resume_body (handle_of l.ours) (next_delivery v) settled w) [] (resumed_to w.verdict (Some (next_delivery v)) (outcome_of w)) reply
anew-ok v l settled w reply h anew = by (is_unclear w) (is_sent_anew w) h anew
  where
    by : (unclear sent : Bool)
        → cond unclear (Err Not_clear) (cond sent (resume_sends v l settled w) (Ok absent_reply)) ≡ Ok reply
        → sent ≡ true
        → IsSent v.max_frame (resume_refusals v l settled w) (resume_body (handle_of l.ours) (next_delivery v) settled w) [] (resumed_to w.verdict (Some (next_delivery v)) (outcome_of w)) reply
    by true sent k s = absurd (cc)
    by false false k s = absurd (cc)
    by false true k s = sends-ok v.max_frame (resume_refusals v l settled w) (resume_body (handle_of l.ours) (next_delivery v) settled w) [] (resumed_to w.verdict (Some (next_delivery v)) (outcome_of w)) reply k

pub absent-ok : (v : View) (l : LinkView) (settled : Bool) (w : WaitingItem) (reply : Reply) → resume_item v l settled w ≡ Ok reply → is_sent_anew w ≡ false → absent_reply ≡ reply
absent-ok v l settled w reply h none = by (is_unclear w) (is_sent_anew w) h none
  where
    by : (unclear sent : Bool)
        → cond unclear (Err Not_clear) (cond sent (resume_sends v l settled w) (Ok absent_reply)) ≡ Ok reply
        → sent ≡ false → absent_reply ≡ reply
    by true sent k s = absurd (cc)
    by false true k s = absurd (cc)
    by false false k s = cc
