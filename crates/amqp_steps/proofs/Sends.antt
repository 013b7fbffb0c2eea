-- From what a check promises to the draft of a step that sends a frame, and from that to its refusal and its plan.
use Rattle.std.proofs.Common.{◌≡◌, ℕ, not, Bool, true, false, None, [], ◌∷◌, refl, ap, ◌∙◌, ◌+◌, inl, inr, Option, Some, Result, Ok, Err, List, IsOk, subst, sym}
use Rattle.amqp_performatives.specs.declared.bodies.FlowBody.{FlowBody}
use Rattle.amqp_performatives.specs.declared.bodies.Role.{Role}
use Rattle.amqp_performatives.specs.declared.bodies.Role.TheVariants.{Sender, Receiver}
use Rattle.amqp_flow.specs.Windows.{WindowsView}
use Rattle.amqp_links.specs.declared.marks.Marks.{Marks}
use Rattle.amqp_links.specs.Credits.{role_of}
use Rattle.amqp_links.specs.Marks.{with_marks}
use Rattle.amqp_rules.specs.declared.refusal.Refusal.{Refusal}
use Rattle.amqp_rules.specs.declared.refusal.Refusal.TheVariants.{NotAttached, WrongRole, NoMemory}
use Rattle.amqp_rules.specs.View.{LinkView, is_attached, same_role, View, has_number, handle_of, change_first}
use Rattle.amqp_rules.specs.Offer.{offered}
use Rattle.amqp_rules.specs.OnLink.{attached_as, on_link}
use Rattle.amqp_rules.specs.Refusing.{first_refusal, answered}
use Rattle.amqp_rules.specs.Telling.{flag, sender_flow, standing_flow, flow_sent}
use Rattle.std.specs.Option.{option_or}
use Rattle.std.specs.Result.{result_err}
use Rattle.amqp_performatives.specs.declared.performative.Performative.{Performative}
use Rattle.amqp_performatives.specs.declared.performative.Performative.TheVariants.{Flow}
use Rattle.amqp_links.specs.declared.fate.Fate.TheVariants.{Marked}
use Rattle.amqp_links.specs.Fate.{changed}
use Rattle.amqp_deliveries.specs.declared.change.Change.{Change}
use Rattle.amqp_deliveries.specs.declared.change.Change.TheVariants.{Stay}
use Rattle.amqp_deliveries.specs.Change.{ended_in, tables_after}
use Rattle.amqp_rules.specs.declared.reply.Given.{Given}
use Rattle.amqp_rules.specs.declared.reply.Given.TheVariants.{Nothing}
use Rattle.amqp_rules.specs.declared.reply.Reply.{Reply}
use Rattle.amqp_rules.specs.Sending.{frame_refused, reply_ending, sends}
use Rattle.amqp_steps.specs.declared.onlink.OnLink.{OnLink}
use Rattle.amqp_steps.specs.declared.plan.Session.{Session}
use Rattle.amqp_steps.specs.declared.plan.Plan.{Plan}
use Rattle.amqp_steps.specs.Drafting.{Drafts, IsDraft, flow_draft}
use Rattle.amqp_steps.specs.Stores.{StoresView, told_after}
use Rattle.amqp_steps.specs.Plan.{IsAlone, IsCounted, IsKept, IsShort, Plans, links_in, plan_reply, sending_plan, tables_in, view_of}
use Rattle.amqp_steps.specs.Taking.{IsTaken}
use Rattle.amqp_steps.specs.Written.{Writes}
use Rattle.amqp_steps.proofs.Plans.{change-alike, counted-still, taken-short}

-- # The flow that tells how many messages are available

-- an operation of a link on which we send
pub sends-on : (r : Role) (a : Bool) (x y : Refusal) → first_refusal ((a, x) ∷ (not (same_role Sender r), y) ∷ []) ≡ None → r ≡ Sender
sends-on Sender a x y h = refl
sends-on Receiver true x y h = absurd (cc)
sends-on Receiver false x y h = absurd (cc)

pub offer-said : (w : WindowsView) (m : Marks) (l : LinkView) (available : ℕ) (b : FlowBody) → b ≡ standing_flow w (with_marks m l) (role_of m.credit) → with_marks m l ≡ offered available l
    → first_refusal (attached_as Sender l []) ≡ None → b ≡ sender_flow w (offered available l) (flag l.credit.drain)
offer-said w m l available b e marks free =
    let r : role_of m.credit ≡ l.role = ap (λ x. x.role) marks in
    let q : l.role ≡ Sender = sends-on l.role (not (is_attached l)) NotAttached WrongRole free in
    let s : role_of m.credit ≡ Sender = rw r q in
    by (with_marks m l) (role_of m.credit) e marks s
  where
    by : (x : LinkView) (r : Role) → b ≡ standing_flow w x r → x ≡ offered available l → r ≡ Sender → b ≡ sender_flow w (offered available l) (flag l.credit.drain)
    by x r e p s = rw (e, s, p) refl

-- # What is due to a draft

err-of : {A E : Type 0} (x : Option E) (reply : A) → x ≡ result_err (answered x reply)
err-of None reply = refl
err-of (Some e) reply = refl

-- where none is due, no row of the table holds, and the frame is sent
pub none-due : {A E : Type 0} (x y : Option E) (reply : A) → result_err (answered (option_or x y) reply) ≡ None → (x ≡ None) × (y ≡ None)
none-due None y reply h = (refl, err-of y reply ∙ h)
none-due (Some e) y reply h = absurd (cc)

pub draft-refused : (v : View) (answer : Result Reply Refusal) (after : View) (body : Option Performative) (payload : List ℕ) (p : Plan) → IsDraft v answer after body payload p
    → frame_refused v.max_frame body payload ≡ result_err answer
draft-refused v answer after body payload p d = rw d.due (err-of (frame_refused v.max_frame body payload) (plan_reply p v))

pub draft-plans : (v : View) (answer : Result Reply Refusal) (after : View) (body : Option Performative) (payload : List ℕ) (p : Plan) (r : Result Plan Refusal)
    → IsDraft v answer after body payload p → Writes v.max_frame body payload p r → Plans NoMemory v answer after r
draft-plans v answer after body payload p (Ok q) d w =
    rw w.1 record { due = d.due ∙ ap (λ x. answered x (plan_reply p v)) w.0; leaves = d.leaves; sound = d.sound }
draft-plans v answer after body payload p (Err e) d (inl q) = inl (d.due ∙ ap (λ x. answered x (plan_reply p v)) q)
draft-plans v answer after body payload p (Err e) d (inr q) =
    inr (subst (λ (a : Result Reply Refusal). IsOk a) (sym (d.due ∙ ap (λ x. answered x (plan_reply p v)) q.0)) refl, q.1)

-- # An operation of a link that is taken

pub draft-on : (v : View) (link : ℕ) (rows : LinkView → List (Bool × Refusal)) (change : LinkView → LinkView) (o : OnLink) (session : Session) (c : Change)
    (body : LinkView → Option Performative) (said : Option Performative) (payload : List ℕ) (given : Given) (t : IsTaken v link rows change o)
    → said ≡ body t.on → IsCounted v c session → IsShort (v.steps + 1) o.marks.sending → IsAlone (Marked o.key link o.marks) c
    → IsDraft v
    (on_link v link (λ l. answered (option_or (first_refusal (rows l)) (frame_refused v.max_frame (body l) payload)) (reply_ending (body l) payload (ended_in c (tables_in v)) given)))
    (view_of (v.steps + 1) session (record { links = told_after c v.sent (changed link change (links_in v)); tables = tables_after c (tables_in v) }))
    said payload (sending_plan session (Marked o.key link o.marks) c said payload given)
draft-on v link rows change o session c body said payload given t says counted short alone =
    record {
      due = rw (t.mapped, t.found, t.free, says) refl;
      leaves = rw (change-alike (has_number link) change (with_marks o.marks) v.links t.on t.found (rw t.marks refl)) refl;
      sound = record { fit = tt; short = short; counted = counted; alone = alone };
    }

-- the same where a flow is sent that tells the link as it will be
pub draft-telling : (steps : ℕ) (s : Session) (st : StoresView) (link : ℕ) (rows : LinkView → List (Bool × Refusal)) (change : LinkView → LinkView) (o : OnLink)
    (flow : LinkView → FlowBody) (told : FlowBody) → IsKept steps s st → IsTaken (view_of steps s st) link rows change o → ((l : LinkView) → (change l).sending ≡ l.sending)
    → ((l : LinkView) → o.handle ≡ handle_of l.ours → with_marks o.marks l ≡ change l → first_refusal (rows l) ≡ None → told ≡ flow (change l))
    → Drafts (view_of steps s st)
    (on_link (view_of steps s st) link (λ l. sends s.max_frame (rows l) (Some (Flow (flow (change l)))) [] Nothing))
    (flow_sent (view_of steps s st) (change_first (has_number link) change st.links.list)) [] (Ok (flow_draft s (Marked o.key link o.marks) told))
draft-telling steps s st link rows change o flow told k t keeps tells =
    draft-on (view_of steps s st) link rows change o (flow_draft s (Marked o.key link o.marks) told).session Stay (λ l. Some (Flow (flow (change l)))) (Some (Flow told)) [] Nothing t
    (ap (λ (b : FlowBody). Some (Flow b)) (tells t.on t.handle t.marks t.free))
    (counted-still steps s _ st Stay tt k refl refl refl refl)
    (taken-short steps s st link rows change o k t keeps) tt
