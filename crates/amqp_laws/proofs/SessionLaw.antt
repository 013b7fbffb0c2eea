-- What concerns the session alone: the open, begin, end, refresh and beat, as formulas over the whole past and as single changes.
use Rattle.std.proofs.Common.{◌≡◌, ℕ, ◌+◌, ◌||◌, not, Bool, true, false, cond, Option, Some, None, Ok, List, [], ◌∷◌, refl}
use Rattle.amqp_performatives.specs.declared.error.AmqpError.{AmqpError}
use Rattle.amqp_performatives.specs.declared.bodies.BeginBody.{BeginBody}
use Rattle.amqp_performatives.specs.declared.bodies.EndBody.{EndBody}
use Rattle.amqp_performatives.specs.declared.performative.Performative.TheVariants as heard
use Rattle.amqp_rules.specs.declared.op.Op.TheVariants.{Begin, Refresh, End, Beat}
use Rattle.amqp_rules.specs.declared.reply.Reply.{Reply}
use Rattle.amqp_rules.specs.declared.reply.Given.TheVariants.{Nothing}
use Rattle.amqp_rules.specs.declared.refusal.Refusal.TheVariants.{NotMapped}
use Rattle.amqp_rules.specs.declared.violation.ViolationKind.TheVariants.{OutOfSession}
use Rattle.amqp_rules.specs.declared.config.Config.{Config}
use Rattle.amqp_rules.specs.View.{is_mapped}
use Rattle.amqp_rules.specs.Refusing.{first_refusal, unlinked}
use Rattle.amqp_rules.specs.Sending.{reply_of, reply_ending}
use Rattle.amqp_rules.specs.Opened.{next_opened, no_reply}
use Rattle.amqp_rules.specs.Begin.{begin_answer, begin_body, begin_refusals, next_begin}
use Rattle.amqp_rules.specs.Refresh.{next_refresh, refresh_answer, refresh_body}
use Rattle.amqp_rules.specs.End.{end_answer, end_body, next_end}
use Rattle.amqp_rules.specs.Beat.{beat_answer, next_beat}
use Rattle.amqp_rules.specs.PeerBegin.{begin_heard_answer, begin_violations, next_begin_heard}
use Rattle.amqp_rules.specs.PeerEnd.{end_heard_answer, end_reply, next_end_heard}
use Rattle.amqp_laws.specs.declared.entry.Entry.{Entry}
use Rattle.amqp_laws.specs.declared.entry.Step.TheVariants.{Opened, Own, Heard}
use Rattle.amqp_laws.specs.Past.{some_entry}
use Rattle.amqp_laws.specs.Said.{begins, ends}
use Rattle.amqp_laws.specs.Windows.{heard_transfers, sent_transfers}
use Rattle.amqp_laws.specs.At.{seen, sent_events}
use Rattle.amqp_rules.proofs.Accepted.{answered_Ok, sends-ok, sends-ending-ok, unless_Ok}
use Rattle.amqp_events.specs.Event.{Over}
use Rattle.amqp_performatives.specs.declared.bodies.Role.{Role}
use Rattle.amqp_rules.specs.Deliveries.{ended_by}
use Rattle.amqp_laws.proofs.Beside.{told-mute}
use Rattle.amqp_laws.specs.Session.{links_at}
use Rattle.amqp_laws.proofs.TableLaw.{table-law, taken-tables}
use Rattle.amqp_events.specs.Laws.{AreLearnt}
use Rattle.amqp_events.specs.Event.{Nothing as No_event}
use Rattle.amqp_laws.proofs.Counting.{left-none}
use Rattle.amqp_laws.proofs.Found.{and-none, none-awaited, some-left}

pub opened-law : (c : Config) (n : ℕ) (past : List Entry) (told : ℕ) (reply : Reply)
    → AreLearnt (sent_events c past)
    → no_reply ≡ reply
    → seen c (n + 1) (record { step = Opened told; reply = reply } ∷ past) ≡ next_opened (seen c n past) told
opened-law c n past told reply learnt h =
    let e : Entry = record { step = Opened told; reply = no_reply } in
    let quiet = told-mute No_event (sent_events c past) (links_at past) learnt tt in
    let tables = table-law c n (n + 1) past e tt in
    rw (← h, quiet, tables.sends, tables.receives, tables.expects) refl

pub begin-law : (c : Config) (n : ℕ) (past : List Entry) (reply : Reply)
    → AreLearnt (sent_events c past)
    → begin_answer (seen c n past) ≡ Ok reply
    → seen c (n + 1) (record { step = Own Begin; reply = reply } ∷ past) ≡ next_begin (seen c n past)
begin-law c n past reply learnt h =
    let v = seen c n past in
    let s = sends-ok v.max_frame (begin_refusals v) (begin_body v) [] Nothing reply h in
    let told = told-mute No_event (sent_events c past) (links_at past) learnt tt in
    let tables = table-law c n (n + 1) past (record { step = Own Begin; reply = reply_of (begin_body v) [] Nothing }) tt in
    rw (← s.replies, told, tables.sends, tables.receives, tables.expects, some-left (heard_transfers past) c.window) refl

pub refresh-law : (c : Config) (n : ℕ) (past : List Entry) (echo : Bool) (reply : Reply)
    → AreLearnt (sent_events c past)
    → refresh_answer (seen c n past) echo ≡ Ok reply
    → seen c (n + 1) (record { step = Own (Refresh echo); reply = reply } ∷ past) ≡ next_refresh (seen c n past)
refresh-law c n past echo reply learnt h =
    let v = seen c n past in
    let s = sends-ok v.max_frame ((not (is_mapped v.session), NotMapped) ∷ []) (refresh_body v.windows echo) [] Nothing reply h in
    let told = told-mute No_event (sent_events c past) (links_at past) learnt tt in
    let tables = table-law c n (n + 1) past (record { step = Own (Refresh echo); reply = reply_of (refresh_body v.windows echo) [] Nothing }) tt in
    rw (← s.replies, told, tables.sends, tables.receives, tables.expects, some-left (heard_transfers past) c.window) refl

pub end-law : (c : Config) (n : ℕ) (past : List Entry) (error : Option AmqpError) (reply : Reply)
    → AreLearnt (sent_events c past)
    → end_answer (seen c n past) error ≡ Ok reply
    → seen c (n + 1) (record { step = Own (End error); reply = reply } ∷ past) ≡ next_end (seen c n past)
end-law c n past error reply learnt h =
    let v = seen c n past in
    let s = sends-ending-ok v.max_frame ((not (is_mapped v.session), NotMapped) ∷ []) (end_body error) (ended_by Over Over v) Nothing reply h in
    let tables = table-law c n (n + 1) past (record { step = Own (End error); reply = reply_ending (end_body error) [] (ended_by Over Over v) Nothing }) tt in
    rw (← s.replies, tables.sends, tables.receives, tables.expects) refl

pub beat-law : (c : Config) (n : ℕ) (past : List Entry) (reply : Reply)
    → AreLearnt (sent_events c past)
    → beat_answer (seen c n past) ≡ Ok reply
    → seen c (n + 1) (record { step = Own Beat; reply = reply } ∷ past) ≡ next_beat (seen c n past)
beat-law c n past reply learnt h =
    let s = sends-ok (seen c n past).max_frame [] None [] Nothing reply h in
    let told = told-mute No_event (sent_events c past) (links_at past) learnt tt in
    let tables = table-law c n (n + 1) past (record { step = Own Beat; reply = reply_of None [] Nothing }) tt in
    rw (← s.replies, told, tables.sends, tables.receives, tables.expects) refl

either-none : (b : Bool) → cond {A = ℕ} b 0 0 ≡ 0
either-none true = refl
either-none false = refl

pub begin-heard-law : (c : Config) (n : ℕ) (past : List Entry) (channel : ℕ) (b : BeginBody) (payload : List ℕ) (reply : Reply)
    → AreLearnt (sent_events c past)
    → begin_heard_answer (seen c n past) ≡ Ok reply
    → seen c (n + 1) (record { step = Heard (record { channel = channel; body = Some (heard.Begin b); payload = payload }); reply = reply } ∷ past) ≡ next_begin_heard (seen c n past) b
begin-heard-law c n past channel b payload reply learnt h =
    let a = answered_Ok (first_refusal (begin_violations (seen c n past))) no_reply reply h in
    let told = told-mute No_event (sent_events c past) (links_at past) learnt tt in
    let tables = taken-tables c n (n + 1) past channel (Some (heard.Begin b)) payload no_reply in
    rw (← a.replies, told, tables.sends, tables.receives, tables.expects, either-none (some_entry begins past), none-awaited b.incoming_window (sent_transfers past), left-none b.outgoing_window, and-none b.next_outgoing_id) refl

or-true : (b : Bool) → b || true ≡ true
or-true true = refl
or-true false = refl

end-heard-at : (c : Config) (n : ℕ) (past : List Entry) (channel : ℕ) (b : EndBody) (payload : List ℕ) (mapped : Bool) (ended : List (Role × ℕ))
    → seen c (n + 1) (record { step = Heard (record { channel = channel; body = Some (heard.End b); payload = payload }); reply = cond mapped (reply_ending (end_body None) [] ended Nothing) (record { sent = []; ended = ended; given = Nothing }) } ∷ past)
    ≡ next_end_heard (seen c n past)
end-heard-at c n past channel b payload true ended =
    let tables = taken-tables c n (n + 1) past channel (Some (heard.End b)) payload (reply_ending (end_body None) [] ended Nothing) in
    rw (tables.sends, tables.receives, tables.expects, or-true (some_entry ends past)) refl
end-heard-at c n past channel b payload false ended =
    let tables = taken-tables c n (n + 1) past channel (Some (heard.End b)) payload (record { sent = []; ended = ended; given = Nothing }) in
    rw (tables.sends, tables.receives, tables.expects, or-true (some_entry ends past)) refl

pub end-heard-law : (c : Config) (n : ℕ) (past : List Entry) (channel : ℕ) (b : EndBody) (payload : List ℕ) (reply : Reply)
    → end_heard_answer (seen c n past) ≡ Ok reply
    → seen c (n + 1) (record { step = Heard (record { channel = channel; body = Some (heard.End b); payload = payload }); reply = reply } ∷ past) ≡ next_end_heard (seen c n past)
end-heard-law c n past channel b payload reply h =
    let v = seen c n past in
    let u = unless_Ok _ (unlinked OutOfSession) (Ok (end_reply v)) reply h in
    let replies : end_reply v ≡ reply = cc u.1 in
    rw (← replies) (end-heard-at c n past channel b payload (is_mapped v.session) (ended_by Over Over v))
