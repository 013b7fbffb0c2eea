-- The plans of a delivery that is resumed, by what is known of it.
use Rattle.std.specs.Prelude.{ℕ, ◌≡◌, ◌<◌, ◌==◌, ◌&&◌, ◌||◌, ◌∷◌, not, Bool, true, false, cond, Option, Some, None, List, []}
use Rattle.amqp_events.specs.Event.{Item}
use Rattle.amqp_deliveries.specs.declared.change.Change.{Change}
use Rattle.amqp_deliveries.specs.declared.change.Change.TheVariants.{Stay}
use Rattle.amqp_links.specs.declared.fate.Fate.TheVariants as fate
use Rattle.amqp_rules.specs.Deliveries.{is_partial, is_sent_anew}
use Rattle.amqp_rules.specs.Resume.{outcome_of, resume_body, resumed_to}
use Rattle.amqp_rules.specs.Sending.{frame_refused, sent_of}
use Rattle.amqp_rules.specs.View.{LinkView, View, next_delivery, snd_mode}
use Rattle.amqp_waiting.specs.Kept.{standing_of}
use Rattle.amqp_waiting.specs.Waiting.{WaitingItem}
use Rattle.amqp_waiting.specs.declared.item.Verdict.{Verdict}
use Rattle.amqp_waiting.specs.declared.item.Verdict.TheVariants.{Unclear, Absent, Partial, Held, Outcome}
use Rattle.amqp_performatives.specs.declared.state.DeliveryState.{DeliveryState}
use Rattle.amqp_rules.specs.declared.refusal.Refusal.{Refusal}
use Rattle.amqp_rules.specs.declared.refusal.Refusal.TheVariants.{SettleMode, NoCredit, NoWindow}
use Rattle.amqp_rules.specs.Start.{mode_forbids}
use Rattle.amqp_steps.specs.declared.resume.Resuming.{Resuming}
use Rattle.amqp_steps.specs.declared.plan.Plan.{Plan}
use Rattle.amqp_steps.specs.Doing.{session_in}
use Rattle.amqp_steps.specs.Plan.{quiet_plan}
use Rattle.amqp_steps.specs.Starting.{change_begun, started}

-- by what becomes of it: the peer has it in part, it is sent anew, nothing is known of it
abbrev pub in_part : Verdict → Bool
in_part v = elim v [ Unclear ↦ false | Absent ↦ false | Partial ↦ true | Held ↦ false | Outcome ↦ false ]

abbrev pub sent_anew : Verdict → Bool
sent_anew v = elim v [ Unclear ↦ false | Absent ↦ false | Partial ↦ true | Held ↦ true | Outcome ↦ true ]

abbrev pub not_clear : Verdict → Bool
not_clear v = elim v [ Unclear ↦ true | Absent ↦ false | Partial ↦ false | Held ↦ false | Outcome ↦ false ]

-- the outcome that the peer told
abbrev pub outcome_told : Verdict → Option DeliveryState → Option DeliveryState
outcome_told v theirs = elim v [ Unclear ↦ None | Absent ↦ None | Partial ↦ None | Held ↦ None | Outcome ↦ theirs ]

-- what is refused of one that is sent anew
abbrev pub late_rows : View → LinkView → Bool → Bool → List (Bool × Refusal)
late_rows v l settled partial =
    (not partial && mode_forbids (snd_mode l) settled, SettleMode)
    ∷ (l.credit.credit == 0, NoCredit)
    ∷ (v.windows.remote_incoming == 0, NoWindow)
    ∷ []

-- the delivery with this tag, as it waits
abbrev pub item_at : List ℕ → Resuming → WaitingItem
item_at tag r = standing_of tag r.standing.now

-- as it is held then
abbrev pub item_resumed : ℕ → ℕ → Bool → WaitingItem → Item
item_resumed id link second w = record { id = id; link = link; tag = w.tag; second = second; local = w.state; remote = w.theirs }

-- one more, unless it is sent settled or aborted
abbrev pub change_resumed : ℕ → ℕ → Bool → Bool → WaitingItem → Change
change_resumed id link settled second w = change_begun (settled || is_partial w) (item_resumed id link second w)

-- there is room for the transfer, and the peer takes it
pub record MaySend (v : View) (tag : List ℕ) (settled : Bool) (r : Resuming) : Type 0 where
  pub window : 0 < v.windows.remote_incoming
  pub written : frame_refused v.max_frame (resume_body r.on.handle (next_delivery v) settled (item_at tag r)) [] ≡ None

-- the plan of one that is sent anew, and of one that the peer does not know
abbrev pub sending_plan_of : View → ℕ → List ℕ → Bool → Resuming → Plan
sending_plan_of v link tag settled r =
    record {
      session = started (session_in v);
      fate = fate.Resumed r.on.key link r.on.marks tag;
      change = change_resumed (next_delivery v) link settled r.second (item_at tag r);
      sent = Some (sent_of (resume_body r.on.handle (next_delivery v) settled (item_at tag r)) []);
      given = resumed_to r.standing.now.verdict (Some (next_delivery v)) (outcome_of (item_at tag r));
    }

abbrev pub absent_plan : View → ℕ → List ℕ → Resuming → Plan
absent_plan v link tag r = quiet_plan (session_in v) (fate.Resumed r.on.key link r.on.marks tag) Stay (resumed_to Absent None None)

abbrev pub resume_plan : View → ℕ → List ℕ → Bool → Resuming → Plan
resume_plan v link tag settled r = cond (is_sent_anew (item_at tag r)) (sending_plan_of v link tag settled r) (absent_plan v link tag r)
