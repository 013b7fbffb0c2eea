-- The deliveries of a link, over its own past and as single changes.
use Rattle.std.specs.List.{cons_option}
use Rattle.std.proofs.Common.{◌≡◌, ℕ, ◌≤◌, ◌++◌, Bool, true, false, cond, Option, None, Some, option_map, List, [], ◌∷◌, length, drop, refl, length-append, subst, sym}
use Rattle.amqp_performatives.specs.declared.bodies.TransferBody.{TransferBody}
use Rattle.amqp_performatives.specs.declared.performative.Performative.TheVariants as heard
use Rattle.amqp_performatives.specs.declared.bodies.Role.{Role}
use Rattle.amqp_rules.specs.declared.op.Op.TheVariants.{Start, Carry, Abort, Take}
use Rattle.amqp_rules.specs.declared.reply.Reply.{Reply}
use Rattle.amqp_rules.specs.declared.reply.Given.{Given}
use Rattle.amqp_rules.specs.Deliveries.{transferred}
use Rattle.amqp_rules.specs.Sending.{reply_of, reply_ending}
use Rattle.amqp_rules.specs.Start.{start_body, sending_after}
use Rattle.amqp_rules.specs.Carry.{later_body, carried}
use Rattle.amqp_rules.specs.Telling.{flag}
use Rattle.amqp_events.specs.Joined.{Delivery, unfinished, next_unfinished, next_delivery, complete, completed, Transferred, goes_on}
use Rattle.amqp_events.proofs.JoinedLaw.{unfinished-step, ready-step, take-step}
use Rattle.amqp_laws.specs.declared.entry.Entry.{Entry}
use Rattle.amqp_laws.specs.declared.entry.Step.TheVariants.{Own, Heard}
use Rattle.amqp_laws.specs.Past.{some_entry}
use Rattle.amqp_laws.specs.Said.{detaches, transfer_sent}
use Rattle.amqp_laws.specs.Attaches.{our_attach, peer_attach}
use Rattle.amqp_laws.specs.Transfers.{sent_on, heard_on, mode_by, sending, receiving, ready_on, size_of, taken}

-- # Deliveries that we send

pub start-sending : (link : ℕ) (tag : List ℕ) (format : ℕ) (settled : Bool) (payload : List ℕ) (more : Bool) (handle id : ℕ) (given : Given) (past : List Entry)
    → some_entry detaches past ≡ false → unfinished (sent_on past) ≡ None
    → sending (record { step = Own (Start link tag format settled payload more); reply = reply_of (start_body handle id tag format settled more) payload given } ∷ past)
    ≡ sending_after more id (length payload)
start-sending link tag format settled payload true handle id given past stays none =
    rw (stays, unfinished-step (transferred (mode_by (peer_attach past)) (record { handle = handle; delivery_id = Some id; delivery_tag = Some tag; message_format = Some format; settled = flag settled; more = Some true; rcv_settle_mode = None; state = None; resume = None; aborted = None; batchable = None }) payload) (sent_on past), none) refl
start-sending link tag format settled payload false handle id given past stays none =
    rw (stays, unfinished-step (transferred (mode_by (peer_attach past)) (record { handle = handle; delivery_id = Some id; delivery_tag = Some tag; message_format = Some format; settled = flag settled; more = None; rcv_settle_mode = None; state = None; resume = None; aborted = None; batchable = None }) payload) (sent_on past), none) refl

abbrev later : ℕ → Option Bool → Option Bool → TransferBody
later handle more aborted =
    record { handle = handle; delivery_id = None; delivery_tag = None; message_format = None; settled = None; more = more; rcv_settle_mode = None; state = None; resume = None; aborted = aborted; batchable = None }

-- none that we send is brought in
abbrev Plain : Option Delivery → Type 0
Plain None = Unit {0}
Plain (Some d) = d.resumed ≡ false

plain-delivery : (t : Transferred) (o : Option Delivery) → t.resumed ≡ false → Plain o → (next_delivery t o).resumed ≡ false
plain-delivery t None h p = h
plain-delivery t (Some d) h p = p

plain-step : (t : Transferred) (o : Option Delivery) → t.resumed ≡ false → Plain o → Plain (next_unfinished t o)
plain-step t o h p = by (goes_on (next_delivery t o))
  where
    by : (b : Bool) → Plain (cond b (Some (next_delivery t o)) None)
    by true = plain-delivery t o h p
    by false = tt

plain-more : (mode : ℕ) (past : List Transferred) (o : Option (TransferBody × List ℕ)) → Plain (unfinished past)
    → Plain (unfinished (cons_option (option_map (λ t. record (transferred mode t.0 t.1) { resumed = false }) o) past))
plain-more mode past None h = h
plain-more mode past (Some t) h =
    let x : Transferred = record (transferred mode t.0 t.1) { resumed = false } in
    subst Plain (sym (unfinished-step x past)) (plain-step x (unfinished past) refl h)

plain-sent : (past : List Entry) → Plain (unfinished (sent_on past))
plain-sent [] = tt
plain-sent (e ∷ past) = plain-more (mode_by (peer_attach past)) (sent_on past) (transfer_sent e) (plain-sent past)

plain-so : (o : Option Delivery) (d : Delivery) → o ≡ Some d → Plain o → d.resumed ≡ false
plain-so None d e h = absurd (cc)
plain-so (Some x) d e h = let same : x ≡ d = cc in subst (λ (y : Delivery). y.resumed ≡ false) same h

pub carry-sending : (link : ℕ) (payload : List ℕ) (more : Bool) (handle : ℕ) (given : Given) (past : List Entry) (d : Delivery)
    → some_entry detaches past ≡ false → unfinished (sent_on past) ≡ Some d
    → sending (record { step = Own (Carry link payload more); reply = reply_of (later_body handle (flag more) None) payload given } ∷ past)
    ≡ carried (length payload) more (sending past)
carry-sending link payload true handle given past d stays some =
    rw (stays, unfinished-step (transferred (mode_by (peer_attach past)) (later handle (Some true) None) payload) (sent_on past), some, plain-so (unfinished (sent_on past)) d some (plain-sent past), length-append d.payload payload) refl
carry-sending link payload false handle given past d stays some =
    rw (stays, unfinished-step (transferred (mode_by (peer_attach past)) (later handle None None) payload) (sent_on past), some) refl

pub abort-sending : (link handle : ℕ) (ended : List (Role × ℕ)) (given : Given) (past : List Entry) (d : Delivery)
    → unfinished (sent_on past) ≡ Some d
    → sending (record { step = Own (Abort link); reply = reply_ending (later_body handle None (Some true)) [] ended given } ∷ past) ≡ None
abort-sending link handle ended given past d some =
    rw (unfinished-step (transferred (mode_by (peer_attach past)) (later handle None (Some true)) []) (sent_on past), some) (either (some_entry detaches past))
  where
    either : (b : Bool) → cond b None (option_map size_of None) ≡ None
    either true = refl
    either false = refl

-- # Deliveries that we receive

abbrev transfer_entry : ℕ → TransferBody → List ℕ → Reply → Entry
transfer_entry channel b payload reply = record { step = Heard (record { channel = channel; body = Some (heard.Transfer b); payload = payload }); reply = reply }

pub transfer-receiving : (channel : ℕ) (b : TransferBody) (payload : List ℕ) (reply : Reply) (past : List Entry) → some_entry detaches past ≡ false
    → receiving (transfer_entry channel b payload reply ∷ past) ≡ next_unfinished (transferred (mode_by (our_attach past)) b payload) (receiving past)
transfer-receiving channel b payload reply past stays =
    rw (stays, unfinished-step (transferred (mode_by (our_attach past)) b payload) (heard_on past)) refl

pub transfer-ready : (channel : ℕ) (b : TransferBody) (payload : List ℕ) (reply : Reply) (past : List Entry) → some_entry detaches past ≡ false
    → taken past ≤ length (complete (heard_on past))
    → ready_on (transfer_entry channel b payload reply ∷ past)
    ≡ ready_on past ++ completed (next_delivery (transferred (mode_by (our_attach past)) b payload) (receiving past))
transfer-ready channel b payload reply past stays few =
    rw (stays, ready-step (taken past) (transferred (mode_by (our_attach past)) b payload) (heard_on past) few) refl

pub take-ready : (link : ℕ) (reply : Reply) (past : List Entry) → ready_on (record { step = Own (Take link); reply = reply } ∷ past) ≡ drop 1 (ready_on past)
take-ready link reply past = take-step (taken past) (heard_on past)
