-- The deliveries that we receive have the ids that are expected, and free tags, along every lawful journal.
use Rattle.std.proofs.Common.{◌≡◌, ℕ, ◌&&◌, ◌||◌, eqb, Bool, true, false, not, cond, Option, None, Some, Ok, is_none, unwrap_or, List, [], ◌∷◌, ◌++◌, length, option_map, find, refl, sym, ◌∙◌, subst, is_some}
use Rattle.std.specs.List.{list_any}
use Rattle.std.proofs.lemmas.Bool.{eqb-true, or_parts}
use Rattle.amqp_performatives.specs.declared.bodies.TransferBody.{TransferBody}
use Rattle.amqp_performatives.specs.declared.bodies.DispositionBody.{DispositionBody}
use Rattle.amqp_performatives.specs.declared.bodies.Role.{Role}
use Rattle.amqp_performatives.specs.declared.bodies.Role.TheVariants.{Sender, Receiver}
use Rattle.amqp_performatives.specs.declared.state.DeliveryState.{DeliveryState}
use Rattle.amqp_performatives.specs.declared.performative.Performative.{Performative}
use Rattle.amqp_performatives.specs.declared.performative.Performative.TheVariants as heard
use Rattle.amqp_frames.specs.declared.frame.Frame.{Frame}
use Rattle.amqp_rules.specs.declared.op.Op.{Op}
use Rattle.amqp_rules.specs.declared.op.Op.TheVariants.{Dispose}
use Rattle.amqp_rules.specs.declared.reply.Reply.{Reply}
use Rattle.amqp_rules.specs.declared.violation.Violation.{Violation}
use Rattle.amqp_rules.specs.declared.violation.ViolationKind.TheVariants.{OutOfSession, BadHandle}
use Rattle.amqp_rules.specs.declared.config.Config.{Config}
use Rattle.amqp_rules.specs.View.{View, LinkView, takes_frames, has_peer_handle, rcv_mode}
use Rattle.amqp_rules.specs.Deliveries.{transferred, said_of, heard_of, left_by_peer, transfer_on, belongs_to, begins_unsettled, brought_by, state_brought}
use Rattle.amqp_events.specs.Tags.{is_tagged}
use Rattle.amqp_rules.specs.Refusing.{first_refusal, answered, if_there, unlinked}
use Rattle.amqp_rules.specs.PeerTransfer.{transfer_answer, transfer_violations, transfer_reply, delivery_violations, name_violations, is_unexpected, is_other}
use Rattle.amqp_rules.specs.Answer.{body_answer, heard_answer, is_dropped, is_end}
use Rattle.amqp_rules.proofs.Accepted.{unless_Ok, there_Ok, answered_Ok, no_refusal, NoneHolds, not-false}
use Rattle.amqp_events.specs.Event.{Disposition, Event, Begins, PassesOver}
use Rattle.amqp_events.specs.Joined.{Delivery, Transferred}
use Rattle.amqp_events.specs.Numbers.{expected, Follows, IsNext, AreHeardInOrder}
use Rattle.amqp_events.specs.Unsettled.{held}
use Rattle.amqp_events.specs.Tags.{IsFree, AreFree}
use Rattle.amqp_laws.specs.declared.entry.Entry.{Entry}
use Rattle.amqp_laws.specs.declared.entry.Step.{Step}
use Rattle.amqp_laws.specs.declared.entry.Step.TheVariants.{Opened, Own, Heard}
use Rattle.amqp_laws.specs.Past.{some_entry}
use Rattle.amqp_laws.specs.Said.{ends, hears_end, hears_no_end}
use Rattle.amqp_laws.specs.Live.{live}
use Rattle.amqp_laws.specs.Session.{links_at}
use Rattle.amqp_laws.specs.At.{base, seen, with_told, sent_events, received_events, received_by}
use Rattle.amqp_laws.specs.Lawful.{Answers, IsReplayed}
use Rattle.amqp_laws.proofs.Events.{called-told}

-- # One event

pub record IsTaken (e : Event) (before : List Event) : Type 0 where
  pub next : IsNext e before
  pub free : IsFree e before

taken-said : (role : Role) (d : Disposition) (before : List Event) → IsTaken (said_of Receiver role d) before
taken-said Sender d before = record { next = tt; free = tt }
taken-said Receiver d before = record { next = tt; free = tt }

taken-heard : (b : DispositionBody) (role : Role) (before : List Event) → IsTaken (heard_of Receiver b role) before
taken-heard b Sender before = record { next = tt; free = tt }
taken-heard b Receiver before = record { next = tt; free = tt }

taken-left : (o : Option LinkView) (before : List Event) → IsTaken (left_by_peer o) before
taken-left None before = record { next = tt; free = tt }
taken-left (Some l) before = record { next = tt; free = tt }

-- an id that is no other than the expected one is it
follows-given : (given : Option ℕ) (next : ℕ) → is_none given ≡ false → is_other given next ≡ false → unwrap_or given 0 ≡ next
follows-given None next h k = absurd (cc)
follows-given (Some id) next h k = eqb-true id next (not-false (eqb id next) k)

follows-next : (b : TransferBody) (next : Option ℕ) → is_none b.delivery_id ≡ false → is_unexpected next b ≡ false → Follows (unwrap_or b.delivery_id 0) next
follows-next b None h k = tt
follows-next b (Some next) h k = follows-given b.delivery_id next h k

free-begin : (id k : ℕ) (tag : List ℕ) (second unsettled : Bool) (ours state : Option DeliveryState) (events : List Event)
    → list_any (is_tagged k tag) (held events) ≡ false
    → IsFree (Begins (record { id = id; link = k; tag = tag; second = second; local = ours; remote = state }) unsettled) events
free-begin id k tag second false ours state events h = tt
free-begin id k tag second true ours state events h = h

neither-of : (a b : Bool) → (a || b) ≡ false → (a ≡ false) × (b ≡ false)
neither-of true b h = absurd (cc)
neither-of false b h = (refl, h)

by-delivery : (v : View) (b : TransferBody) (l : LinkView) (rest : List (Bool × Violation)) (t : Transferred) (d : Option Delivery) (events : List Event)
    → t.id ≡ unwrap_or b.delivery_id 0 → t.tag ≡ unwrap_or b.delivery_tag []
    → v.expected ≡ expected events → v.received ≡ held events
    → NoneHolds (name_violations v b l d ++ rest) → IsTaken (belongs_to l.number l.waiting t b.state d) events
by-delivery v b l rest t (Some d) events id tag next all h = record { next = tt; free = tt }
by-delivery v b l rest t None events id tag next all h =
    let named = or_parts (is_none b.delivery_id) (is_none b.delivery_tag) h.0 in
    let P : Option ℕ → Type 0 = λ o. Follows (unwrap_or b.delivery_id 0) o in
    let follows = subst P next (follows-next b v.expected named.0 h.1.0) in
    let untagged : list_any (is_tagged l.number t.tag) (held events) ≡ false = rw (tag, ← all) (neither-of _ _ h.1.1.0).0 in
    record {
      next = rw id follows;
      free = free-begin t.id l.number t.tag t.second (begins_unsettled t (brought_by t l.waiting)) (state_brought (brought_by t l.waiting)) b.state events untagged;
    }

by-left : (v : View) (b : TransferBody) (payload : List ℕ) (l : LinkView) (left : Bool) (events : List Event)
    → v.expected ≡ expected events → v.received ≡ held events
    → NoneHolds (cond left [] (delivery_violations v b payload l))
    → IsTaken (cond left (PassesOver b.delivery_id) (belongs_to l.number l.waiting (transferred (rcv_mode l) b []) b.state l.receiving)) events
by-left v b payload l true events next all h = record { next = tt; free = tt }
by-left v b payload l false events next all h = by-delivery v b l _ (transferred (rcv_mode l) b []) l.receiving events refl refl next all h

-- # All events

pub record HeardSo (c : Config) (past : List Entry) : Type 0 where
  pub order : AreHeardInOrder (received_events c past)
  pub free : AreFree (received_events c past)

goes-on : (c : Config) (past : List Entry) (e : Entry) → IsTaken (received_by (base c 0 past) e.step) (received_events c past) → HeardSo c past → HeardSo c (e ∷ past)
goes-on c past e t s = record { order = (s.order, t.next); free = (s.free, t.free) }

by-found : (c : Config) (n : ℕ) (past : List Entry) (b : TransferBody) (payload : List ℕ) (o : Option LinkView) (on : LinkView)
    → option_map (with_told (sent_events c past)) o ≡ Some on
    → NoneHolds (transfer_violations (seen c n past) b payload on)
    → IsTaken (transfer_on b o) (received_events c past)
by-found c n past b payload None on found h = absurd (cc)
by-found c n past b payload (Some l) on found h =
    let same : with_told (sent_events c past) l ≡ on = cc in
    let h' = subst (λ (x : LinkView). NoneHolds (transfer_violations (seen c n past) b payload x)) (sym same) h in
    by-left (seen c n past) b payload (with_told (sent_events c past) l) l.left (received_events c past) refl refl h'.1.1

heard-transfer : (c : Config) (n : ℕ) (past : List Entry) (channel : ℕ) (b : TransferBody) (payload : List ℕ) (reply : Reply)
    → transfer_answer (seen c n past) b payload ≡ Ok reply → HeardSo c past
    → HeardSo c (record { step = Heard (record { channel = channel; body = Some (heard.Transfer b); payload = payload }); reply = reply } ∷ past)
heard-transfer c n past channel b payload reply h s =
    let v = seen c n past in
    let u = unless_Ok (not (takes_frames v.session)) (unlinked OutOfSession) (if_there (find (has_peer_handle b.handle) v.links) (unlinked BadHandle) (λ l. answered (first_refusal (transfer_violations v b payload l)) (transfer_reply v b l))) reply h in
    let t = there_Ok (find (has_peer_handle b.handle) v.links) (unlinked BadHandle) (λ l. answered (first_refusal (transfer_violations v b payload l)) (transfer_reply v b l)) reply u.1 in
    let a = answered_Ok (first_refusal (transfer_violations v b payload t.on)) (transfer_reply v b t.on) reply t.said in
    let there = sym (called-told (sent_events c past) b.handle (links_at past)) ∙ t.found in
    goes-on c past (record { step = Heard (record { channel = channel; body = Some (heard.Transfer b); payload = payload }); reply = reply })
    (by-found c n past b payload (find (has_peer_handle b.handle) (links_at past)) t.on there (no_refusal (transfer_violations v b payload t.on) a.none)) s

heard-body : (c : Config) (n : ℕ) (past : List Entry) (channel : ℕ) (body : Option Performative) (payload : List ℕ) (reply : Reply)
    → body_answer (seen c n past) body payload ≡ Ok reply → HeardSo c past
    → HeardSo c (record { step = Heard (record { channel = channel; body = body; payload = payload }); reply = reply } ∷ past)
heard-body c n past channel (Some (heard.Transfer b)) payload reply h s = heard-transfer c n past channel b payload reply h s
heard-body c n past channel (Some (heard.Disposition b)) payload reply h s =
    goes-on c past (record { step = Heard (record { channel = channel; body = Some (heard.Disposition b); payload = payload }); reply = reply }) (taken-heard b b.role (received_events c past)) s
heard-body c n past channel (Some (heard.Detach b)) payload reply h s =
    goes-on c past (record { step = Heard (record { channel = channel; body = Some (heard.Detach b); payload = payload }); reply = reply }) (taken-left (find (has_peer_handle b.handle) (links_at past)) (received_events c past)) s
heard-body c n past channel body payload reply h s = record { order = (s.order, tt); free = (s.free, tt) }

heard-own : (c : Config) (past : List Entry) (op : Op) (reply : Reply) → HeardSo c past → HeardSo c (record { step = Own op; reply = reply } ∷ past)
heard-own c past (Dispose role first last settled state) reply s =
    goes-on c past (record { step = Own (Dispose role first last settled state); reply = reply }) (taken-said role (record { first = first; last = last; settled = settled; state = state }) (received_events c past)) s
heard-own c past op reply s = record { order = (s.order, tt); free = (s.free, tt) }

-- a frame that is kept in the live journal was not dropped
pub kept-taken : (sent over end : Bool) → sent && cond end false true ≡ false → (sent && not over) && not end ≡ false
kept-taken false over end h = refl
kept-taken true over true h = not-last (not over)
  where
    not-last : (b : Bool) → b && false ≡ false
    not-last true = refl
    not-last false = refl
kept-taken true over false h = absurd (cc)

heard-frame : (c : Config) (n : ℕ) (past : List Entry) (f : Frame) (reply : Reply)
    → heard_answer (seen c n past) f ≡ Ok reply → some_entry ends past && hears_no_end (Heard f) ≡ false → HeardSo c past
    → HeardSo c (record { step = Heard f; reply = reply } ∷ past)
heard-frame c n past f reply h kept s =
    let taken : is_dropped (seen c n past) f.body ≡ false = kept-taken (some_entry ends past) (some_entry hears_end past) (is_end f.body) kept in
    let answer : body_answer (seen c n past) f.body f.payload ≡ Ok reply = rw taken at h in
    heard-body c n past f.channel f.body f.payload reply answer s

pub heard-one : (c : Config) (n : ℕ) (past : List Entry) (step : Step) (reply : Reply)
    → Answers (seen c n past) step reply → some_entry ends past && hears_no_end step ≡ false → HeardSo c past
    → HeardSo c (record { step = step; reply = reply } ∷ past)
heard-one c n past (Opened told) reply h kept s = record { order = (s.order, tt); free = (s.free, tt) }
heard-one c n past (Own op) reply h kept s = heard-own c past op reply s
heard-one c n past (Heard f) reply h kept s = heard-frame c n past f reply h kept s

pub heard-so : (c : Config) (past : List Entry) → IsReplayed c past → HeardSo c (live past)
heard-so c [] h = record { order = tt; free = tt }
heard-so c (e ∷ before) h = by_live (some_entry ends (live before) && hears_no_end e.step) refl (heard-so c before h.0)
  where
    by_live : (b : Bool) → some_entry ends (live before) && hears_no_end e.step ≡ b → HeardSo c (live before) → HeardSo c (cond b (live before) (e ∷ live before))
    by_live true kept s = s
    by_live false kept s = heard-one c (length before) (live before) e.step e.reply h.1 kept s
