-- A transfer that is heard, as formulas over the whole past and as single changes.
use Rattle.std.proofs.Common.{◌≡◌, ◌≤◌, ℕ, ◌+◌, ◌-◌, Bool, true, false, not, Option, Some, None, Ok, List, [], ◌∷◌, length, arith, refl, find, is_some, subst, ◌&&◌, sym, cond, Result}
use Rattle.amqp_flow.specs.Serial.{wire}
use Rattle.amqp_flow.specs.declared.flow.SessionFlow.{SessionFlow}
use Rattle.amqp_flow.specs.Windows.{windows_received}
use Rattle.amqp_performatives.specs.declared.bodies.TransferBody.{TransferBody}
use Rattle.amqp_performatives.specs.declared.bodies.Role.{Role}
use Rattle.amqp_performatives.specs.declared.bodies.Role.TheVariants.{Sender, Receiver}
use Rattle.amqp_performatives.specs.declared.performative.Performative.TheVariants.{Transfer}
use Rattle.amqp_rules.specs.declared.reply.Reply.{Reply}
use Rattle.amqp_rules.specs.declared.reply.Given.{Given}
use Rattle.amqp_rules.specs.declared.violation.Violation.{Violation}
use Rattle.amqp_rules.specs.declared.violation.ViolationKind.TheVariants.{OutOfSession, BadHandle}
use Rattle.amqp_rules.specs.declared.config.Config.{Config}
use Rattle.amqp_rules.specs.View.{LinkView, is_sender, has_peer_handle, takes_frames}
use Rattle.amqp_rules.specs.Refusing.{first_refusal, answered, if_there, unlinked}
use Rattle.amqp_rules.specs.PeerTransfer.{next_transfer, received_on, receives, transfer_answer, transfer_given, transfer_reply, transfer_violations}
use Rattle.amqp_rules.specs.PeerTransfer.{heard_on as transfer_heard_on}
use Rattle.amqp_laws.specs.declared.entry.Entry.{Entry}
use Rattle.amqp_laws.specs.declared.entry.Step.TheVariants.{Heard}
use Rattle.amqp_laws.specs.Transfers.{heard_on, taken}
use Rattle.amqp_laws.specs.Past.{some_entry}
use Rattle.amqp_laws.specs.Said.{detaches}
use Rattle.amqp_events.specs.Joined.{complete}
use Rattle.amqp_events.specs.Event.{Event}
use Rattle.amqp_events.specs.Event.{Nothing as No_event}
use Rattle.amqp_events.specs.Laws.{AreLearnt}
use Rattle.amqp_laws.specs.Windows.{heard_since_told, heard_transfers, last_told, promise, windows_at}
use Rattle.amqp_laws.specs.Links.{LinkPast, link_at, link_pasts, put_not_left, is_there_with}
use Rattle.amqp_laws.specs.At.{seen, sent_events, with_told}
use Rattle.amqp_rules.proofs.Accepted.{answered_Ok, no_refusal, unless_Ok, there_Ok, not-false}
use Rattle.amqp_laws.proofs.FlowCredit.{left-sum}
use Rattle.amqp_rules.specs.Sound.{Every}
use Rattle.amqp_rules.proofs.Listed.{length-changed}
use Rattle.amqp_laws.proofs.Joining.{unless-left-so}
use Rattle.amqp_laws.proofs.Beside.{told-changed-of}
use Rattle.amqp_laws.proofs.TableLaw.{taken-tables}
use Rattle.amqp_laws.proofs.TransferLink.{transfer-changed}

-- nothing is sent
abbrev pub silent : List (Role × ℕ) → Given → Reply
silent ended given = record { sent = []; ended = ended; given = given }

abbrev pub transfer_entry : ℕ → TransferBody → List ℕ → List (Role × ℕ) → Given → Entry
transfer_entry channel b payload ended given =
    record { step = Heard (record { channel = channel; body = Some (Transfer b); payload = payload }); reply = silent ended given }

-- no more were taken than received
pub record TakesFew (l : LinkPast) : Type 0 where
  pub few : taken l.past ≤ length (complete (heard_on l.past))

received-changed : (channel : ℕ) (b : TransferBody) (payload : List ℕ) (ended : List (Role × ℕ)) (given : Given) (number : ℕ) (role : Role) (name : List ℕ) (past : List Entry)
    → is_sender role ≡ false
    → some_entry detaches past ≡ false
    → taken past ≤ length (complete (heard_on past))
    → link_at (record { number = number; role = role; name = name; past = transfer_entry channel b payload ended given ∷ past })
    ≡ received_on b payload (link_at (record { number = number; role = role; name = name; past = past }))
received-changed channel b payload ended given number Sender name past h stays few = absurd (cc)
received-changed channel b payload ended given number Receiver name past h stays few = transfer-changed channel b payload ended given number name past stays few

next-more : (m h : ℕ) → wire (m + (h + 1)) ≡ wire (wire (m + h) + 1)
next-more m h = omega arith

none-left : 0 ≡ 0 - 1
none-left = omega arith

windows-at-transfer : (c : Config) (past : List Entry) (channel : ℕ) (b : TransferBody) (payload : List ℕ) (ended : List (Role × ℕ)) (given : Given) (told : Option (SessionFlow × List Entry))
    → last_told past ≡ told
    → windows_at c (transfer_entry channel b payload ended given ∷ past) ≡ windows_received (windows_at c past)
windows-at-transfer c past channel b payload ended given None e =
    rw (e, left-sum (promise c past) (heard_transfers past) 1) refl
windows-at-transfer c past channel b payload ended given (Some said) e =
    rw (
      e,
      left-sum (promise c past) (heard_transfers past) 1,
      left-sum said.0.outgoing_window (heard_since_told past) 1,
      next-more said.0.next_outgoing_id (heard_since_told past),
    )
    refl

no-sender : (ours sender : Bool) → ours && not sender ≡ true → sender ≡ false
no-sender true true h = absurd (cc)
no-sender true false h = refl
no-sender false sender h = absurd (cc)

heard-told : (events : List Event) (b : TransferBody) (payload : List ℕ) (l : LinkView) → with_told events (transfer_heard_on b payload l) ≡ transfer_heard_on b payload (with_told events l)
heard-told events b payload l = by l.left
  where
    by : (left : Bool) → with_told events (cond left l (received_on b payload l)) ≡ cond left (with_told events l) (received_on b payload (with_told events l))
    by true = refl
    by false = refl

found-role : (events : List Event) (l on : LinkView) → with_told events l ≡ on → is_sender on.role ≡ false → is_sender l.role ≡ false
found-role events l on whole h = subst (λ (x : LinkView). is_sender x.role ≡ false) (sym whole) h

transfer-at : (c : Config) (n : ℕ) (past : List Entry) (channel : ℕ) (b : TransferBody) (payload : List ℕ) (ended : List (Role × ℕ)) (given : Given) (on : LinkView)
    → AreLearnt (sent_events c past)
    → Every TakesFew (link_pasts past)
    → find (has_peer_handle b.handle) (seen c n past).links ≡ Some on
    → is_sender on.role ≡ false
    → seen c (n + 1) (transfer_entry channel b payload ended given ∷ past) ≡ next_transfer (seen c n past) b payload
transfer-at c n past channel b payload ended given on learnt few found role =
    let e = transfer_entry channel b payload ended given in
    let events = sent_events c past in
    let links = told-changed-of TakesFew c past No_event (has_peer_handle b.handle) (put_not_left e) (transfer_heard_on b payload) on learnt tt (λ l. refl) (heard-told events b payload) few found
    (λ l takes there whole.
    unless-left-so e (received_on b payload) l there there
    (λ stays. received-changed channel b payload ended given l.number l.role l.name l.past (found-role events (link_at l) on whole role) stays takes.few)) in
    let tables = taken-tables c n (n + 1) past channel (Some (Transfer b)) payload (silent ended given) in
    rw (links, length-changed (is_there_with (has_peer_handle b.handle)) (put_not_left e) (link_pasts past), windows-at-transfer c past channel b payload ended given (last_told past) refl, tables.sends, tables.receives, tables.expects) refl

pub transfer-law : (c : Config) (n : ℕ) (past : List Entry) (channel : ℕ) (b : TransferBody) (payload : List ℕ) (reply : Reply)
    → AreLearnt (sent_events c past)
    → Every TakesFew (link_pasts past)
    → transfer_answer (seen c n past) b payload ≡ Ok reply
    → seen c (n + 1) (record { step = Heard (record { channel = channel; body = Some (Transfer b); payload = payload }); reply = reply } ∷ past) ≡ next_transfer (seen c n past) b payload
transfer-law c n past channel b payload reply learnt few h =
    let v = seen c n past in
    let say : LinkView → Result Reply Violation = λ l. answered (first_refusal (transfer_violations v b payload l)) (transfer_reply v b l) in
    let u = unless_Ok (not (takes_frames v.session)) (unlinked OutOfSession) (if_there (find (has_peer_handle b.handle) v.links) (unlinked BadHandle) say) reply h in
    let t = there_Ok (find (has_peer_handle b.handle) v.links) (unlinked BadHandle) say reply u.1 in
    let a = answered_Ok (first_refusal (transfer_violations v b payload t.on)) (transfer_reply v b t.on) reply t.said in
    let k = no_refusal (transfer_violations v b payload t.on) a.none in
    let role = no-sender (is_some t.on.ours) (is_sender t.on.role) (not-false (receives t.on) k.0) in
    rw (← a.replies) (transfer-at c n past channel b payload _ (transfer_given b t.on) t.on learnt few t.found role)
