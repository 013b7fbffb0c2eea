-- The unsettled deliveries and the expected id, as formulas over the whole past and as single changes: for every kind of step.
use Rattle.amqp_rules.proofs.Listed.{by-bool}
use Rattle.amqp_waiting.specs.Waiting.{WaitingItem, waits_as}
use Rattle.amqp_rules.specs.Resume.{resume_begins, item_sends, next_resume}
use Rattle.std.proofs.Common.{◌≡◌, ℕ, Bool, true, false, cond, Option, None, Some, List, ◌∷◌, find, is_some, refl, sym, ◌∙◌}
use Rattle.amqp_performatives.specs.declared.bodies.DispositionBody.{DispositionBody}
use Rattle.amqp_performatives.specs.declared.bodies.Role.{Role}
use Rattle.amqp_performatives.specs.declared.bodies.Role.TheVariants.{Sender, Receiver}
use Rattle.amqp_performatives.specs.declared.performative.Performative.{Performative}
use Rattle.amqp_performatives.specs.declared.performative.Performative.TheVariants as heard
use Rattle.amqp_frames.specs.declared.frame.Frame.{Frame}
use Rattle.amqp_rules.specs.declared.op.Op.{Op}
use Rattle.amqp_rules.specs.declared.op.Op.TheVariants.{Begin, Attach, Start, Carry, Abort, Dispose, Learn, Grant, Offer, Drained, Refresh, Take, Detach, Suspend, Rejoin, Resume, End, Beat}
use Rattle.amqp_rules.specs.declared.config.Config.{Config}
use Rattle.amqp_rules.specs.View.{View, LinkView, SendingView, has_number, has_peer_handle, is_offered_as, is_asked_as, opposite, next_delivery}
use Rattle.amqp_rules.specs.Deliveries.{sent_by_own, sent_by_body, received_by_own, received_by_body, continued_on, sending_on, said_of, heard_of, left_by_peer, resumed_on, resumed_as}
use Rattle.amqp_rules.specs.Answer.{next_own, next_body, next_heard, is_dropped}
use Rattle.amqp_events.specs.Event.{Disposition, Event, Continues, Learns, Takes}
use Rattle.amqp_events.specs.Event.{Nothing as No_event}
use Rattle.amqp_events.specs.Numbers.{id_used, one_past}
use Rattle.amqp_events.specs.Unsettled.{next_held, held}
use Rattle.amqp_events.specs.Told.{next_sent_held, sent_held}
use Rattle.amqp_events.proofs.UnsettledLaw.{held-step}
use Rattle.amqp_events.proofs.ToldLaw.{sent-step}
use Rattle.amqp_events.proofs.Gone.{held-left, sent-left, nothing-left, learns-left, takes-left, continued-left, held-over, sent-over}
use Rattle.amqp_laws.specs.declared.entry.Entry.{Entry}
use Rattle.amqp_laws.specs.declared.entry.Step.{Step}
use Rattle.amqp_laws.specs.declared.entry.Step.TheVariants.{Opened, Own, Heard}
use Rattle.amqp_laws.specs.At.{base, seen, sent_by, received_by, sent_events, received_events}
use Rattle.amqp_laws.specs.Lawful.{next}
use Rattle.amqp_laws.proofs.Events.{sent-same, received-same}
use Rattle.amqp_rules.specs.declared.reply.Reply.{Reply}

-- the tables of the view w are those of v, changed as these events say
pub record Tables (v : View) (sent received : Event) (w : View) : Type 0 where
  pub sends : w.sent ≡ next_sent_held sent v.sent
  pub receives : w.received ≡ next_held received v.received
  pub expects : w.expected ≡ one_past (id_used received v.expected) v.expected

-- nothing is done to deliveries
stays : (v w : View) → w.sent ≡ v.sent → w.received ≡ v.received → w.expected ≡ v.expected → Tables v No_event No_event w
stays v w s r e =
    record { sends = s ∙ sym (sent-left No_event v.sent nothing-left); receives = r ∙ sym (held-left No_event v.received nothing-left); expects = e }

joins : (v : View) (b : Bool) (x y : View) → Tables v No_event No_event x → Tables v No_event No_event y → Tables v No_event No_event (cond b x y)
joins v true x y h k = h
joins v false x y h k = k

carries : (v : View) (d : Option SendingView) → v.sent ≡ next_sent_held (continued_on false d) v.sent
carries v None = sym (sent-left No_event v.sent nothing-left)
carries v (Some d) = sym (sent-left (Continues d.id None false) v.sent (continued-left d.id))

said-none : (role : Role) (d : Disposition) (next : Option ℕ) → next ≡ one_past (id_used (said_of Receiver role d) next) next
said-none Sender d next = refl
said-none Receiver d next = refl

pub heard-none : (b : DispositionBody) (role : Role) (next : Option ℕ) → next ≡ one_past (id_used (heard_of Receiver b role) next) next
heard-none b Sender next = refl
heard-none b Receiver next = refl

left-none : (o : Option LinkView) (next : Option ℕ) → next ≡ one_past (id_used (left_by_peer o) next) next
left-none None next = refl
left-none (Some l) next = refl

-- nothing begins where no transfer is sent
no-begin : (id k : ℕ) (settled : Bool) (l : LinkView) (o : Option WaitingItem) → item_sends o ≡ false → resumed_as id k settled l o ≡ No_event
no-begin id k settled l None h = refl
no-begin id k settled l (Some w) h = rw h refl

no-resumed : (id k : ℕ) (tag : List ℕ) (settled : Bool) (o : Option LinkView) → resume_begins tag o ≡ false → resumed_on id k tag settled o ≡ No_event
no-resumed id k tag settled None h = refl
no-resumed id k tag settled (Some l) h = no-begin id k settled l (find (waits_as tag) l.waiting) h

resumed-tables : (v : View) (link : ℕ) (tag : List ℕ) (settled : Bool) (o : Option LinkView) → find (has_number link) v.links ≡ o
    → Tables v (sent_by_own v (Resume link tag settled)) No_event (next_resume v link tag settled)
resumed-tables v link tag settled o is =
    by-bool (resume_begins tag (find (has_number link) v.links))
    (λ (anew : resume_begins tag (find (has_number link) v.links) ≡ true). rw anew record { sends = refl; receives = sym (held-left No_event v.received nothing-left); expects = refl })
    (λ (none : resume_begins tag (find (has_number link) v.links) ≡ false). rw (none, no-resumed (next_delivery v) link tag settled (find (has_number link) v.links) none) (stays v _ refl refl refl))

own-tables : (v : View) (op : Op) → Tables v (sent_by_own v op) (received_by_own v op) (next_own v op)
own-tables v (Attach name role snd rcv source target count max_message) =
    joins v (is_some (find (is_offered_as role name) v.links)) _ _ (stays v _ refl refl refl) (stays v _ refl refl refl)
own-tables v (Start link tag format settled payload more) =
    record { sends = refl; receives = sym (held-left No_event v.received nothing-left); expects = refl }
own-tables v (Carry link payload more) =
    record { sends = carries v (sending_on (find (has_number link) v.links)); receives = sym (held-left No_event v.received nothing-left); expects = refl }
own-tables v (Abort link) = record { sends = refl; receives = sym (held-left No_event v.received nothing-left); expects = refl }
own-tables v (Dispose role first last settled state) =
    record { sends = refl; receives = refl; expects = said-none role (record { first = first; last = last; settled = settled; state = state }) v.expected }
own-tables v (Learn link) =
    record { sends = sym (sent-left (Learns link) v.sent (learns-left link)); receives = sym (held-left No_event v.received nothing-left); expects = refl }
own-tables v (Take link) =
    record { sends = sym (sent-left No_event v.sent nothing-left); receives = sym (held-left (Takes link) v.received (takes-left link)); expects = refl }
own-tables v (Detach link error) = record { sends = refl; receives = refl; expects = refl }
own-tables v (Suspend link) = record { sends = refl; receives = refl; expects = refl }
own-tables v (Rejoin r) =
    joins v (is_some (find (is_offered_as r.role r.name) v.links)) _ _ (stays v _ refl refl refl) (stays v _ refl refl refl)
own-tables v (Resume link tag settled) = resumed-tables v link tag settled (find (has_number link) v.links) refl
own-tables v (End error) = record { sends = sym (sent-over v.sent); receives = sym (held-over v.received); expects = refl }
own-tables v Begin = stays v _ refl refl refl
own-tables v (Grant link credit drain echo) = stays v _ refl refl refl
own-tables v (Offer link available) = stays v _ refl refl refl
own-tables v (Drained link) = stays v _ refl refl refl
own-tables v (Refresh echo) = stays v _ refl refl refl
own-tables v Beat = stays v _ refl refl refl

body-tables : (v : View) (body : Option Performative) (payload : List ℕ) → Tables v (sent_by_body v body) (received_by_body v body) (next_body v body payload)
body-tables v (Some (heard.Attach b)) payload =
    joins v (is_some (find (is_asked_as (opposite b.role) b.name) v.links)) _ _ (stays v _ refl refl refl) (stays v _ refl refl refl)
body-tables v (Some (heard.Transfer b)) payload = record { sends = sym (sent-left No_event v.sent nothing-left); receives = refl; expects = refl }
body-tables v (Some (heard.Disposition b)) payload = record { sends = refl; receives = refl; expects = heard-none b b.role v.expected }
body-tables v (Some (heard.Detach b)) payload = record { sends = refl; receives = refl; expects = left-none (find (has_peer_handle b.handle) v.links) v.expected }
body-tables v (Some (heard.End b)) payload = record { sends = sym (sent-over v.sent); receives = sym (held-over v.received); expects = refl }
body-tables v (Some (heard.Begin b)) payload = stays v _ refl refl refl
body-tables v (Some (heard.Flow b)) payload = stays v _ refl refl refl
body-tables v _ payload = stays v _ refl refl refl

heard-tables : (v : View) (f : Frame) → is_dropped v f.body ≡ false → Tables v (sent_by_body v f.body) (received_by_body v f.body) (next_heard v f)
heard-tables v f taken = rw taken (body-tables v f.body f.payload)

-- the step is no frame that is dropped
abbrev pub IsKept : View → Step → Type 0
IsKept v (Heard f) = is_dropped v f.body ≡ false
IsKept v _ = Unit {0}

-- one step of the view does to the tables what the step's events say
step-tables : (v : View) (step : Step) → IsKept v step
    → Tables v (sent_by v step) (received_by v step) (next v step)
step-tables v (Opened told) h = stays v _ refl refl refl
step-tables v (Own op) h = own-tables v op
step-tables v (Heard f) h = heard-tables v f h

-- and so does one entry more
past-tables : (c : Config) (n m : ℕ) (past : List Entry) (e : Entry)
    → Tables (seen c n past) (sent_by (seen c n past) e.step) (received_by (seen c n past) e.step) (seen c m (e ∷ past))
past-tables c n m past e =
    rw (sent-same c n past e.step, received-same c n past e.step)
    record {
      sends = sent-step (sent_by (base c 0 past) e.step) (sent_events c past);
      receives = held-step (received_by (base c 0 past) e.step) (received_events c past);
      expects = refl;
    }

-- the tables after one entry more are those of the next view
pub record SameTables (v w : View) : Type 0 where
  pub sends : v.sent ≡ w.sent
  pub receives : v.received ≡ w.received
  pub expects : v.expected ≡ w.expected

pub table-law : (c : Config) (n m : ℕ) (past : List Entry) (e : Entry)
    → IsKept (seen c n past) e.step
    → SameTables (seen c m (e ∷ past)) (next (seen c n past) e.step)
table-law c n m past e h =
    let t = step-tables (seen c n past) e.step h in
    let p = past-tables c n m past e in
    record { sends = p.sends ∙ sym t.sends; receives = p.receives ∙ sym t.receives; expects = p.expects ∙ sym t.expects }

-- the same of a frame that is taken
pub taken-tables : (c : Config) (n m : ℕ) (past : List Entry) (channel : ℕ) (body : Option Performative) (payload : List ℕ) (reply : Reply)
    → SameTables (seen c m (record { step = Heard (record { channel = channel; body = body; payload = payload }); reply = reply } ∷ past)) (next_body (seen c n past) body payload)
taken-tables c n m past channel body payload reply =
    let t = body-tables (seen c n past) body payload in
    let p = past-tables c n m past (record { step = Heard (record { channel = channel; body = body; payload = payload }); reply = reply }) in
    record { sends = p.sends ∙ sym t.sends; receives = p.receives ∙ sym t.receives; expects = p.expects ∙ sym t.expects }

-- nothing is done to deliveries
pub quiet-sent : (events : List Event) → sent_held (No_event ∷ events) ≡ sent_held events
quiet-sent events = sent-step No_event events ∙ sent-left No_event (sent_held events) nothing-left

pub quiet-held : (events : List Event) → held (No_event ∷ events) ≡ held events
quiet-held events = held-step No_event events ∙ held-left No_event (held events) nothing-left
